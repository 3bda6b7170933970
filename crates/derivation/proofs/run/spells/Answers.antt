-- `derivation::run::spells` meets its contract.
-- Assumes nothing.
use mathlib.Core.Path.{◌≡◌, refl, sym, ap, subst, ◌∙◌}
use Rattle.std.specs.Prelude.{Err}
use mathlib.Core.Bool.{false}
use mathlib.Core.List.{[]}
use Prim.Native.Nat.{ℕ, ◌+◌, ◌*◌, ◌<◌}
use native.Mathlib.Omega.{arith}
use lib.ListN.{length, get_or, set, replicate}
use Rattle.model.specs.GrammarFile.{grammar_of}
use Rattle.ranking.specs.Numbered.{made_at}
use Rattle.ranks.specs.Table.{daughters_in}
use Rattle.steps.specs.declared.Standing.{Standing}
use Rattle.steps.specs.declared.Halt.{Halt}
use Rattle.steps.specs.declared.Halt.TheVariants.{Refused, Long}
use Rattle.steps.specs.Steps.{Says}
use Rattle.recognizer.proofs.Checked.{start_small}
use Rattle.recognizer.proofs.Running.{from_small, next_steps}
use Rattle.derivation.specs.TreeRun.{NamesGiven, Spelled}
use Rattle.derivation.proofs.Spelling.{first_looping}
use Rattle.derivation.proofs.RunCode.{Looping, loop_ended, loop_empty, number_small, node_inside, loop_halted, loop_long, cells_room, sisters_inside, loop_next}
use Rattle.derivation.proofs.run.spells.Goals as goal

pub first_queue-w-requires : goal.first_queue-w-requires
first_queue-w-requires c =
    omega (arith, c.start.ensures, start_small c.args.file.now [] [] c.requires.0)

pub loop-k-init : goal.loop-k-init
loop-k-init c =
    let a = c.args in
    let p = c.requires in (
      ap (λ (x : Standing). x.steps) c.first_standing-at.ensures,
      first_looping a.file.now a.sentence.now a.list.now p.0 p.1 p.2 c.start.ensures c.first_queue-w.ensures c.first_standing-at.ensures c.compile-t.result (c.compile-t.ensures p.0) a.ends.now (replicate 388 0) a.trace.now c.told-ends p.3 (refl {a = 388}) (refl {a = 0}) c.told-trace,
    )

pub returns-then-at-from : goal.returns-then-at-from
returns-then-at-from c = loop_empty c.loop-k.invariant.1 (omega (arith, c.loop-k-test.true, c.loop-k.invariant.0)) c.if-at-from.true

pub front_node-i-requires : goal.front_node-i-requires
front_node-i-requires c =
    let l = c.loop-k.invariant.1 in
    (from_small c.args.list.now l.runs, number_small l (omega (arith, c.loop-k-test.true, c.loop-k.invariant.0)) c.if-at-from.false)

pub offset_bounds-list-i : goal.offset_bounds-list-i
offset_bounds-list-i c =
    omega (arith, node_inside c.loop-k.invariant.1 (omega (arith, c.loop-k-test.true, c.loop-k.invariant.0)) c.if-at-from.false c.front_node-i.result c.front_node-i.ensures)

pub bounds-list-i : goal.bounds-list-i
bounds-list-i c =
    node_inside c.loop-k.invariant.1 (omega (arith, c.loop-k-test.true, c.loop-k.invariant.0)) c.if-at-from.false c.front_node-i.result c.front_node-i.ensures

pub returns-in_default : goal.returns-in_default
returns-in_default c =
    let a = c.args in
    let l = c.loop-k in
    let i = c.front_node-i in
    elim c.in_default.field-0 as (λ (h : Halt). Says (grammar_of a.file.now) c.compile-t.result a.sentence.now l.w c.step.new.w l.at (get_or a.list.now i.result 0) (Err h) → Spelled (grammar_of a.file.now) a.sentence.now a.list.now l.trace false) [
      | Refused n ↦ λ s. loop_halted l.invariant.1 (omega (arith, c.loop-k-test.true, l.invariant.0)) c.if-at-from.false i.result i.ensures n s
      | Long ↦ λ s. loop_long l.invariant.1 (omega (arith, c.loop-k-test.true, l.invariant.0)) c.if-at-from.false i.result i.ensures s
    ] c.in_default.ensures.says

pub daughters-d-requires : goal.daughters-d-requires
daughters-d-requires c =
    let here : c.loop-k.at.steps < length c.args.list.now = omega (arith, c.loop-k-test.true, c.loop-k.invariant.0) in
    let room = cells_room c.loop-k.invariant.1 here c.if-at-from.false c.front_node-i.result c.front_node-i.ensures c.in-Ok.ensures.says in
    omega (arith, c.place_of.ensures)

pub name_daughters-requires : goal.name_daughters-requires
name_daughters-requires c =
    let a = c.args in
    let l = c.loop-k.invariant.1 in
    let here : c.loop-k.at.steps < length a.list.now = omega (arith, c.loop-k-test.true, c.loop-k.invariant.0) in
    let i = c.front_node-i.result in
    let inside = node_inside l here c.if-at-from.false i c.front_node-i.ensures in
    let d : c.daughters-d.result ≡ daughters_in c.compile-t.result (8 * get_or a.list.now i 0) = c.daughters-d.ensures.0 ∙ ap (daughters_in c.compile-t.result) c.place_of.ensures in (
      omega (arith, c.first_daughter.ensures, c.daughters-d.ensures.1, c.loop-k-test.true, c.requires.1),
      omega (arith, inside, c.requires.1),
      λ j h. sisters_inside l here c.if-at-from.false i c.front_node-i.ensures c.in-Ok.ensures.says j (omega (arith, d)),
    )

pub loop-k-preserved : goal.loop-k-preserved
loop-k-preserved c =
    let a = c.args in
    let l = c.loop-k.invariant.1 in
    let same = c.loop-k.invariant.0 in
    let here : c.loop-k.at.steps < length a.list.now = omega (arith, c.loop-k-test.true, same) in
    let i = c.front_node-i.result in
    let r = get_or a.list.now i 0 in
    let leads = c.in-Ok.ensures.says in
    let d : c.daughters-d.result ≡ daughters_in c.compile-t.result (8 * r) = c.daughters-d.ensures.0 ∙ ap (daughters_in c.compile-t.result) c.place_of.ensures in
    let given = subst (λ (m : ℕ). NamesGiven a.ends.now i m c.daughters-d.result c.loop-k.names c.name_daughters.new.names) (c.first_daughter.ensures ∙ ap made_at (sym same)) c.name_daughters.ensures in (
      next_steps (length a.list.now) l.runs here r leads ∙ ap (λ (m : ℕ). m + 1) same,
      subst (λ (m : ℕ). Looping (grammar_of a.file.now) c.compile-t.result a.sentence.now a.list.now a.ends.now c.step.new.w c.name_daughters.new.names (set c.loop-k.trace m r) c.in-Ok.next) same
          (loop_next l here c.if-at-from.false i c.front_node-i.ensures leads c.daughters-d.result d c.name_daughters.new.names given),
    )

pub returns : goal.returns
returns c = loop_ended c.loop-k.invariant.1 (omega (arith, c.loop-k-test.false, c.loop-k.invariant.0))

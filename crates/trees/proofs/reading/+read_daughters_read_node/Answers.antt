-- `trees::reading::read_daughters` and `trees::reading::read_node` meet their contracts.
-- Assumes nothing.
use Rattle.std.proofs.Common.{◌≡◌, ◌≢◌, refl, sym, ap, subst, ◌∙◌, List, [], ◌∷◌, ℕ, ◌+◌, ◌<◌, drop, get_or, arith, Result, Ok}
use Rattle.std.proofs.Math.Option.{none}
use Rattle.std.proofs.lemmas.Bool.Decides.{nat_tests}
use Rattle.model.specs.declared.Refusal.{Refusal}
use Rattle.model.specs.Grammar.{Grammar}
use Rattle.model.specs.GrammarFile.{record_of, field, rules_of, grammar_refusal, grammar_of}
use Rattle.model.proofs.Verdicts.{handed_on}
use Rattle.trees.specs.Reader.{below, Reading}
use Rattle.trees.proofs.Standing.{found_rule, found_end}
use Rattle.trees.proofs.Nodes.{node_missing, unknown_rule, other_category, node_read, node_refused, no_more, one_more, reading_none, reading_more, reading_stop}
use Rattle.trees.proofs.reading.+read_daughters_read_node.Goals as goal

-- one more daughter is to be read, of category c
more : (file : List ℕ) → grammar_refusal file ≡ none → (r j c : ℕ) → r < rules_of file → j < field (record_of file r) 1 → c ≡ field (record_of file r) (2 + j)
    → drop j (below (grammar_of file) r) ≡ c ∷ drop (j + 1) (below (grammar_of file) r)
more file accepted r j c known h e = one_more file [] accepted r j known h ∙ ap (λ (x : ℕ). x ∷ drop (j + 1) (below (grammar_of file) r)) (sym e)

-- the daughters of the node at place k are read, by the rule number that is found there and from the place after it
daughters_read : (g : Grammar) (list : List ℕ) (k r next : ℕ) (before after : List ℕ) (answer : Result ℕ Refusal) → r ≡ get_or list k 0 → next ≡ k + 1
    → Reading g list (below g r) next before after answer → Reading g list (below g (get_or list k 0)) (k + 1) before after answer
daughters_read g list k r next before after answer e f h =
    subst (λ (x : ℕ). Reading g list (below g x) (k + 1) before after answer) e (subst (λ (m : ℕ). Reading g list (below g r) m before after answer) f h)

pub read_daughters-returns-in_err-at : goal.read_daughters-returns-in_err-at
read_daughters-returns-in_err-at t c =
    let a = c.args in
    let l = c.loop-j in
    let g = grammar_of a.file.now in
    let d = c.daughter.result.0 in
    let e = more a.file.now c.requires.0.0 a.r.0 l.j d c.requires.1 (omega (arith, c.daughter_count.ensures, c.from-j-end.ensures, c.loop-j-test.true)) c.daughter.ensures in
    let stop = reading_stop g l.at.list.now d (drop (l.j + 1) (below g a.r.0)) l.at.place l.ends c.read_node.new.ends c.in_err-at.ensures in
    rw (handed_on c.from_residual.result c.from_residual.ensures.1) (l.invariant.3 _ _ (rw e stop))

pub read_daughters-loop-j-preserved : goal.read_daughters-loop-j-preserved
read_daughters-loop-j-preserved t c =
    let a = c.args in
    let l = c.loop-j in
    let g = grammar_of a.file.now in
    let d = c.daughter.result.0 in
    let e = more a.file.now c.requires.0.0 a.r.0 l.j d c.requires.1 (omega (arith, c.daughter_count.ensures, c.from-j-end.ensures, c.loop-j-test.true)) c.daughter.ensures in
    let first : Reading g l.at.list.now (d ∷ []) l.at.place l.ends c.read_node.new.ends (Ok c.in_ok-at.field-0) = c.in_ok-at.ensures in (
      l.invariant.0,
      omega (arith, l.invariant.1, first.says.forward),
      (l.invariant.2.0, l.invariant.2.1, first.says.within, first.long),
      λ after answer h. l.invariant.3 after answer
          (rw e (reading_more g l.at.list.now d (drop (l.j + 1) (below g a.r.0)) l.at.place l.ends c.read_node.new.ends c.in_ok-at.field-0 first after answer h)),
    )

pub read_daughters-returns : goal.read_daughters-returns
read_daughters-returns t c =
    let a = c.args in
    let l = c.loop-j in
    let g = grammar_of a.file.now in
    let e = no_more a.file.now [] c.requires.0.0 a.r.0 l.j c.requires.1 (omega (arith, c.daughter_count.ensures, c.from-j-end.ensures, c.loop-j-test.false)) in
    l.invariant.3 _ _ (rw e (reading_none g l.at.list.now l.at.place l.ends l.invariant.2.3 l.invariant.2.2))

pub read_node-returns-in_default : goal.read_node-returns-in_default
read_node-returns-in_default t c =
    let a = c.args in
    let p = c.requires in
    let e = found_end a.at.list.now a.at.place (a.at.place + 1) (sym c.here.ensures ∙ c.in_default.is) in
    record { long = p.3; kept = λ i l. refl; says = node_missing (grammar_of a.file.now) a.at.list.now a.at.place a.a.0 e p.2 }

pub read_node-returns-then-rules-r : goal.read_node-returns-then-rules-r
read_node-returns-then-rules-r t c =
    let a = c.args in
    let p = c.requires in
    let n = found_rule a.at.list.now a.at.place (a.at.place + 1) (c.in-Some.r, c.in-Some.next) (sym c.here.ensures ∙ c.in-Some.is) in
    record { long = p.3; kept = λ i l. refl; says = unknown_rule a.file.now a.at.list.now p.0 a.at.place a.a.0 n.0 (omega (arith, c.rules.ensures, c.if-rules-r.true, n.1)) }

pub read_node-returns-then-ne : goal.read_node-returns-then-ne
read_node-returns-then-ne t c =
    let a = c.args in
    let p = c.requires in
    let n = found_rule a.at.list.now a.at.place (a.at.place + 1) (c.in-Some.r, c.in-Some.next) (sym c.here.ensures ∙ c.in-Some.is) in
    let other : c.category_of.result.0 ≢ a.a.0 = grind (arith, nat_tests) in
    record {
      long = p.3;
      kept = λ i l. refl;
      says = other_category a.file.now a.at.list.now p.0 a.at.place a.a.0 n.0 (omega (arith, c.rules.ensures, c.if-rules-r.false, n.1)) (λ e. other (c.category_of.ensures ∙ ap (λ (x : ℕ). field (record_of a.file.now x) 0) n.1 ∙ e));
    }

pub read_node-returns-in_err-after : goal.read_node-returns-in_err-after
read_node-returns-in_err-after t c =
    let a = c.args in
    let p = c.requires in
    let d = c.read_daughters in
    let n = found_rule a.at.list.now a.at.place (a.at.place + 1) (c.in-Some.r, c.in-Some.next) (sym c.here.ensures ∙ c.in-Some.is) in
    let known : get_or a.at.list.now a.at.place 0 < rules_of a.file.now = omega (arith, c.rules.ensures, c.if-rules-r.false, n.1) in
    let same : field (record_of a.file.now (get_or a.at.list.now a.at.place 0)) 0 ≡ a.a.0
    = ap (λ (x : ℕ). field (record_of a.file.now x) 0) (sym n.1) ∙ sym c.category_of.ensures ∙ grind (arith, nat_tests) in
    let read = daughters_read (grammar_of a.file.now) a.at.list.now a.at.place c.in-Some.r.0 c.in-Some.next a.ends.now d.new.ends _ n.1 n.2 c.in_err-after.ensures in
    rw (handed_on c.from_residual.result c.from_residual.ensures.1) (node_refused a.file.now a.at.list.now p.0 a.at.place a.a.0 n.0 known same a.ends.now d.new.ends read)

pub read_node-returns : goal.read_node-returns
read_node-returns t c =
    let a = c.args in
    let p = c.requires in
    let d = c.read_daughters in
    let n = found_rule a.at.list.now a.at.place (a.at.place + 1) (c.in-Some.r, c.in-Some.next) (sym c.here.ensures ∙ c.in-Some.is) in
    let known : get_or a.at.list.now a.at.place 0 < rules_of a.file.now = omega (arith, c.rules.ensures, c.if-rules-r.false, n.1) in
    let same : field (record_of a.file.now (get_or a.at.list.now a.at.place 0)) 0 ≡ a.a.0
    = ap (λ (x : ℕ). field (record_of a.file.now x) 0) (sym n.1) ∙ sym c.category_of.ensures ∙ grind (arith, nat_tests) in
    let read = daughters_read (grammar_of a.file.now) a.at.list.now a.at.place c.in-Some.r.0 c.in-Some.next a.ends.now d.new.ends _ n.1 n.2 c.in_ok-after.ensures in
    node_read a.file.now a.at.list.now p.0 a.at.place a.a.0 n.0 known same a.ends.now d.new.ends c.in_ok-after.after read (omega (arith, n.0, p.1))

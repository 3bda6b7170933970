-- `survey::survey` meets its contract.
-- Assumes nothing.
use mathlib.Core.Path.{ap₂}
use borrow.Rule.Slice.PartMut.{Post-is}
use mathlib.Core.List.{List, ◌++◌}
use Prim.Native.Nat.{ℕ, ◌≤◌}
use native.Mathlib.Omega.{arith}
use lib.ListN.{length, length-take}
use Rattle.model.proofs.Verdicts.{handed_on, tests_pass, tests_met, room_long}
use Rattle.model.specs.GrammarFile.{grammar_refusal, categories_of}
use Rattle.model.specs.Calls.{room_refusal}
use Rattle.model.proofs.FromFile.{categories_in}
use Rattle.survey.proofs.Outcome.{refused_grammar, refused_room, surveyed_out}
use Rattle.survey.proofs.survey.Goals as goal

pub returns-in_err-grammar_refusal : goal.returns-in_err-grammar_refusal
returns-in_err-grammar_refusal c =
    let k = c.grammar_refusal in
    let a = c.args in
    rw (handed_on c.from_residual.result c.from_residual.ensures.1) (refused_grammar a.file.now a.out.now _ (tests_met (grammar_refusal a.file.now) k.result k.ensures c.in_err-grammar_refusal.was))

pub returns-in_err-room_refusal : goal.returns-in_err-room_refusal
returns-in_err-room_refusal c =
    let k = c.room_refusal in
    let g = c.grammar_refusal in
    let a = c.args in
    let accepted = tests_pass (grammar_refusal a.file.now) g.result g.ensures c.in_ok-grammar_refusal.was in
    rw (handed_on c.from_residual-in_err-room_refusal.result c.from_residual-in_err-room_refusal.ensures.1) (refused_room a.file.now a.out.now accepted _ (tests_met (room_refusal a.out.now) k.result k.ensures c.in_err-room_refusal.was))

pub slice_bounds-write_figures-end : goal.slice_bounds-write_figures-end
slice_bounds-write_figures-end c =
    let k = c.room_refusal in
    let g = c.grammar_refusal in
    let a = c.args in
    let accepted = tests_pass (grammar_refusal a.file.now) g.result g.ensures c.in_ok-grammar_refusal.was in
    let room = tests_pass (room_refusal a.out.now) k.result k.ensures c.in_ok-room_refusal.was in
    omega (arith, c.categories-n.ensures, categories_in a.file.now accepted, room_long a.out.now room)

pub write_figures-requires : goal.write_figures-requires
write_figures-requires c =
    let k = c.room_refusal in
    let g = c.grammar_refusal in
    let a = c.args in
    let accepted = tests_pass (grammar_refusal a.file.now) g.result g.ensures c.in_ok-grammar_refusal.was in
    let room = tests_pass (room_refusal a.out.now) k.result k.ensures c.in_ok-room_refusal.was in
    let n : categories_of a.file.now ≤ length a.out.now = omega (arith, categories_in a.file.now accepted, room_long a.out.now room) in
    (accepted, simp length-take (omega (arith, c.categories-n.ensures, n)))

pub returns : goal.returns
returns c =
    let n = c.categories-n in
    let k = c.room_refusal in
    let g = c.grammar_refusal in
    let a = c.args in
    let accepted = tests_pass (grammar_refusal a.file.now) g.result g.ensures c.in_ok-grammar_refusal.was in
    let room = tests_pass (room_refusal a.out.now) k.result k.ensures c.in_ok-room_refusal.was in
    rw (c.from-2.ensures, c.from.ensures)
    (surveyed_out a.file.now a.out.now accepted room n.result _ n.ensures (ap₂ (λ (x y : List ℕ). x ++ y) c.write_figures.ensures (Post-is 0 n.result a.out.now (omega arith))))

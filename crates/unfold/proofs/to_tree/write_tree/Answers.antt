-- `unfold::to_tree::write_tree` meets its contract.
-- Assumes nothing.
use mathlib.Core.Path.{refl, ap, ◌∙◌}
use mathlib.Core.List.{◌++◌}
use Prim.Native.Nat.{ℕ, ◌+◌}
use native.Mathlib.Omega.{arith}
use lib.ListN.{drop, length-set}
use Rattle.model.specs.Base.{numbers_from}
use Rattle.unfold.specs.Unfold.{daughter_count}
use Rattle.unfold.proofs.UnfoldLoop.{begins, prediction_small, step_small, write_small, push_room, stands_next, finished}
use Rattle.unfold.proofs.to_tree.write_tree.Goals as goal

pub loop-top-init : goal.loop-top-init
loop-top-init c =
    let a = c.args in
    (omega arith, omega arith, refl {a = 96}, refl, λ tree h few. begins (daughter_count a.file.now) a.trace.now a.steps.now tree 95 _ a.out.now h refl)

pub bounds-steps-p : goal.bounds-steps-p
bounds-steps-p c =
    let l = c.loop-top in
    let a = c.args in
    let g = c.requires.0 in
    prediction_small (daughter_count a.file.now) a.trace.now a.steps.now (l.invariant.4 g.tree g.grows g.few) g.few l.invariant.2 (omega (arith, c.requires.1, l.invariant.3)) l.invariant.1 (omega arith) c.from-p.ensures

pub bounds-out-w : goal.bounds-out-w
bounds-out-w c =
    let l = c.loop-top in
    let a = c.args in
    let g = c.requires.0 in
    let h = write_small (daughter_count a.file.now) a.trace.now a.steps.now (l.invariant.4 g.tree g.grows g.few) g.few l.invariant.2 (omega (arith, c.requires.1, l.invariant.3)) l.invariant.1 (omega arith) c.from-p.ensures in
    omega (arith, c.requires.1, l.invariant.3)

pub first_daughter-requires : goal.first_daughter-requires
first_daughter-requires c =
    let l = c.loop-top in
    let a = c.args in
    let g = c.requires.0 in
    step_small (daughter_count a.file.now) a.trace.now a.steps.now (l.invariant.4 g.tree g.grows g.few) g.few l.invariant.2 (omega (arith, c.requires.1, l.invariant.3)) l.invariant.1 (omega arith) c.from-p.ensures c.from-k.ensures

pub overflow_cast-first_daughter : goal.overflow_cast-first_daughter
overflow_cast-first_daughter c =
    let l = c.loop-top in
    let a = c.args in
    let g = c.requires.0 in
    let small = step_small (daughter_count a.file.now) a.trace.now a.steps.now (l.invariant.4 g.tree g.grows g.few) g.few l.invariant.2 (omega (arith, c.requires.1, l.invariant.3)) l.invariant.1 (omega arith) c.from-p.ensures c.from-k.ensures in
    omega (arith, c.first_daughter.ensures)

pub push-top-requires : goal.push-top-requires
push-top-requires c =
    let l = c.loop-top in
    let a = c.args in
    let g = c.requires.0 in
    let n = daughter_count a.file.now in
    let stands = l.invariant.4 g.tree g.grows g.few in
    let small = step_small n a.trace.now a.steps.now stands g.few l.invariant.2 (omega (arith, c.requires.1, l.invariant.3)) l.invariant.1 (omega arith) c.from-p.ensures c.from-k.ensures in
    let room = push_room n a.trace.now a.steps.now stands g.few l.invariant.2 (omega (arith, c.requires.1, l.invariant.3)) l.invariant.1 (omega arith) c.from-p.ensures c.from-k.ensures c.number_at-r.ensures c.daughter_count.ensures in
    (omega arith, room, omega (arith, small, c.first_daughter.ensures, c.daughter_count.type_inv))

pub loop-top-smaller : goal.loop-top-smaller
loop-top-smaller c =
    let l = c.loop-top in
    let a = c.args in
    let g = c.requires.0 in
    let h = write_small (daughter_count a.file.now) a.trace.now a.steps.now (l.invariant.4 g.tree g.grows g.few) g.few l.invariant.2 (omega (arith, c.requires.1, l.invariant.3)) l.invariant.1 (omega arith) c.from-p.ensures in
    omega arith

pub loop-top-preserved : goal.loop-top-preserved
loop-top-preserved c =
    let l = c.loop-top in
    let a = c.args in
    let g = c.requires.0 in
    let n = daughter_count a.file.now in
    let h = write_small n a.trace.now a.steps.now (l.invariant.4 g.tree g.grows g.few) g.few l.invariant.2 (omega (arith, c.requires.1, l.invariant.3)) l.invariant.1 (omega arith) c.from-p.ensures in
    let k = c.push-top.ensures in
    let stack = k.stack ∙ ap (λ (f : ℕ). numbers_from f c.daughter_count.result ++ drop (l.top + 1) l.st) c.first_daughter.ensures in (
      omega (arith, k.place),
      omega arith,
      k.kept ∙ l.invariant.2,
      simp length-set l.invariant.3,
      λ tree grows few. stands_next n a.trace.now a.steps.now (l.invariant.4 tree grows few) few l.invariant.2 (omega (arith, c.requires.1, l.invariant.3)) l.invariant.1 (omega arith) c.from-p.ensures c.from-k.ensures c.number_at-r.ensures c.daughter_count.ensures _ c.push-top.result stack,
    )

pub returns : goal.returns
returns c =
    let l = c.loop-top in
    let a = c.args in
    λ tree grows few.
    finished (daughter_count a.file.now) a.trace.now a.steps.now tree l.w l.top l.st l.out a.out.now l.invariant.2 (omega arith) (omega (arith, c.requires.1, l.invariant.1, l.invariant.3)) (l.invariant.4 tree grows few)

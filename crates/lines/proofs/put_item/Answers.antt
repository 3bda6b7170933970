-- `lines::put_item` meets its contract.
-- Assumes nothing.
use mathlib.Core.Path.{ap}
use mathlib.Core.List.{[], ◌∷◌, ◌++◌}
use Prim.Native.Nat.{ℕ}
use native.Mathlib.Omega.{arith}
use lib.ListN.{length-append}
use Rattle.model.specs.Program.{decimal}
use Rattle.lines.specs.Text.{ending}
use Rattle.lines.proofs.Placed.{put_long, put_one, put_join, put_same}
use Rattle.lines.proofs.put_item.Goals as goal

pub put_number-p-requires : goal.put_number-p-requires
put_number-p-requires c =
    let a = c.args in
    omega (arith, c.requires, length-append (decimal a.n) (ending a.last ∷ []))

pub bounds-out-p : goal.bounds-out-p
bounds-out-p c =
    let a = c.args in
    let w = c.put_number-p.ensures in
    omega (arith, c.requires, length-append (decimal a.n) (ending a.last ∷ []), w.place, put_long w)

pub overflow_add-result : goal.overflow_add-result
overflow_add-result c =
    let a = c.args in
    let w = c.put_number-p.ensures in
    omega (arith, c.requires, length-append (decimal a.n) (ending a.last ∷ []), w.place)

pub returns : goal.returns
returns c =
    let a = c.args in
    let p = c.put_number-p in
    put_same (put_join p.ensures (put_one _ p.result c.ending_of.result (omega (arith, c.requires, length-append (decimal a.n) (ending a.last ∷ []), p.ensures.place, put_long p.ensures)))) (ap (λ (x : ℕ). decimal a.n ++ (x ∷ [])) c.ending_of.ensures)

-- `forms::merge_row` meets its contract.
-- Assumes nothing.
use Rattle.std.proofs.Common.{rules}
use mathlib.Core.Path.{ap₂, ◌∙◌}
use Prim.Native.Nat.{ℕ}
use Rattle.forms.specs.Rows.{merge_byte}
use Rattle.forms.proofs.Made.{filled_from}
use Rattle.forms.proofs.merges.merge_row.Goals as goal

pub returns : goal.returns
returns c =
    let a = c.args in
    let i = c.movers-i in
    let j = c.movers-j in
    let f = filled_from (merge_byte a.a.now a.b.now i.result j.result a.from) c.from_fn.ensures.items (λ i y q k. search rules) in
    (f.0, λ p l. f.1 p l ∙ ap₂ (λ (u v : ℕ). merge_byte a.a.now a.b.now u v a.from p) i.ensures.0 j.ensures.0)

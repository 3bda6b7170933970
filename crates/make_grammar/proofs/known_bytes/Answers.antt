-- `make_grammar::known_bytes` meets its contract.
-- Assumes nothing.
use native.Mathlib.Omega.{arith}
use mathlib.Core.List.{List, [], ◌∷◌}
use Prim.Native.Nat.{ℕ, ◌≤◌}
use lib.Dec.{T}
use lib.ListN.{length}
use Rattle.model.specs.Writer.{all_bytes}
use Rattle.model.proofs.ByteLists.{all_bytes_lem}
use Rattle.make_grammar.proofs.known_bytes.Goals as goal

none_left : (l : List ℕ) → length l ≤ 0 → T (all_bytes l)
none_left [] h = tt
none_left (x ∷ l) h = let z : ⊥ = omega arith in absurd z

pub returns-then-bytes-gt0 : goal.returns-then-bytes-gt0
returns-then-bytes-gt0 c = all_bytes_lem c.args.bytes.now (λ k. omega (arith, c.type_inv.bytes k))

pub returns-else-bytes-gt0 : goal.returns-else-bytes-gt0
returns-else-bytes-gt0 c = none_left c.args.bytes.now c.if-bytes-gt0.false

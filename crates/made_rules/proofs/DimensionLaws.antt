-- The dimensions of the made grammar's categories.
-- Assumes nothing.
use Rattle.std.specs.Prelude.{if◌then◌else◌}
use mathlib.Core.Path.{◌≡◌, refl, sym, ap, ◌∙◌}
use mathlib.Core.List.{List, [], ◌∷◌, map}
use Prim.Native.Nat.{ℕ, zero, suc, ◌+◌, ◌-◌, ◌%◌, ◌<◌}
use native.Mathlib.Omega.{arith}
use native.Mathlib.Decide.{dec_lt}
use lib.Dec.{ltb}
use lib.ListN.{length, get_or, length-map, get_or-eq_default}
use lib.Seq.{ext_get_or}
use borrow.Author.Tests.{lt-ltb, le-ltb, ne_eqb}
use Rattle.model.specs.Writer.{padded}
use Rattle.model.proofs.ByteLists.{padded_length, padded_at}
use Rattle.minimalist.specs.Schemes.{Form, form_dimension}
use Rattle.forms.proofs.RowLaws.{count_at}
use Rattle.derivable.specs.Tables.{row_at, form_at, Holds}
use Rattle.made_rules.specs.Listed.{dimension_byte, Dimensions}

dimension_at : (forms : List Form) (i : ℕ) → i < length forms → get_or (map form_dimension forms) i 0 ≡ form_dimension (form_at forms i)
dimension_at [] i h = let z : ⊥ = omega arith in absurd z
dimension_at (a ∷ forms) zero h = refl
dimension_at (a ∷ forms) (suc i) h = dimension_at forms i (omega arith)

module _ (table : List (List ℕ)) (forms : List Form) (t : Holds table (length table) forms) where
  abbrev n : ℕ
  n = length table

  moving_at : (i : ℕ) → i < n → get_or (row_at table i) 7 0 ≡ length (form_at forms i).moving
  moving_at i h = ap (λ (l : List ℕ). get_or l 7 0) (t.0.rows i (omega (arith, t.1))) ∙ count_at (form_at forms i)

  byte_at : (q : ℕ) → dimension_byte table q ≡ get_or (1 ∷ map form_dimension forms) q 0
  byte_at zero = refl
  byte_at (suc i) = rw (ne_eqb (suc i) 0 (λ z. omega arith)) (go (dec_lt n (suc i)))
    where
      go : Dec (n < suc i) → (if ltb n (suc i) then 0 else (get_or (row_at table (suc i - 1)) 7 0 + 1) % 256) ≡ get_or (map form_dimension forms) i 0
      go (yes h) = rw (lt-ltb n (suc i) h) (sym (get_or-eq_default (map form_dimension forms) 0 {n = i} (omega (arith, t.1, length-map forms form_dimension))))
      go (no h) =
          let w = (t.0.small i (omega (arith, t.1))).moving_few in
          let e : suc i - 1 ≡ i = omega arith in
          rw (le-ltb n (suc i) (omega arith))
          (ap (λ (x : ℕ). (get_or (row_at table x) 7 0 + 1) % 256) e
          ∙ (let z : (get_or (row_at table i) 7 0 + 1) % 256 ≡ suc (length (form_at forms i).moving) = omega (arith, moving_at i (omega arith)) in z)
          ∙ sym (dimension_at forms i (omega (arith, t.1))))

pub dimensions_are : (table : List (List ℕ)) (dims : List ℕ) → length dims ≡ 64 → ((q : ℕ) → q < 64 → get_or dims q 0 ≡ dimension_byte table q) → Dimensions table dims
dimensions_are table dims long e forms t =
    ext_get_or 0 dims (padded 64 (1 ∷ map form_dimension forms)) (long ∙ sym (padded_length 64 (1 ∷ map form_dimension forms)))
    (λ q h. e q (omega arith) ∙ byte_at table forms t q ∙ sym (padded_at 64 (1 ∷ map form_dimension forms) q (omega arith)))

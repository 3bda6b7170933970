-- The place of a form by its row, and of a form that stands once.
-- Assumes nothing.
use Rattle.std.specs.Prelude.{if◌then◌else◌, Option, Some, None, unwrap_or}
use mathlib.Core.Path.{◌≡◌, sym, ap}
use mathlib.Core.Bool.{Bool, true, false}
use mathlib.Core.List.{List, [], ◌∷◌}
use Prim.Native.Nat.{ℕ, zero, suc, ◌+◌, ◌<◌, ◌≤◌}
use native.Mathlib.Omega.{arith}
use lib.ListN.{length}
use Rattle.model.specs.Base.{same_list}
use Rattle.model.proofs.Tests.{passes, fails}
use Rattle.model.proofs.Lists.{mem_get_d}
use Rattle.minimalist.specs.Once.{Once}
use Rattle.minimalist.specs.Schemes.{Form}
use Rattle.minimalist.specs.Closure.{same_form}
use Rattle.minimalist.specs.Numbering.{place_of}
use Rattle.minimalist.proofs.Forms.{same_form_lem, form_same}
use Rattle.forms.specs.Rows.{row_of, Small}
use Rattle.derivable.specs.Tables.{row_at, first_same, form_at, Holds}
use Rattle.derivable.proofs.TableLaws.{Found, place_is}

pub first_below : (rows : ℕ → List ℕ) (row : List ℕ) (from count : ℕ) → first_same rows row from count ≤ from + count
first_below rows row from zero = omega arith
first_below rows row from (suc count) = go (same_list (rows from) row) (first_below rows row (suc from) count)
  where
    go : (t : Bool) → first_same rows row (suc from) count ≤ suc from + count → (if t then from else first_same rows row (suc from) count) ≤ from + suc count
    go true ih = omega arith
    go false ih = omega arith

-- the number of the category whose form has the row
pub number_is : {table : List (List ℕ)} {row : List ℕ} {n c : ℕ} (forms : List Form) → Holds table n forms → (a : Form) → Small a → row ≡ row_of a → c ≡ first_same (row_at table) row 0 n + 1
    → c ≡ suc (place_of forms a)
number_is {table} {row} {n} {c} forms t a small e w = omega (arith, place_is table a small forms n row (sym t.1) t.0 e)

pub place_once : (forms : List Form) → Once forms → (i : ℕ) → i < length forms → place_of forms (form_at forms i) ≡ i
place_once [] once i h = let z : ⊥ = omega arith in absurd z
place_once (b ∷ bs) once zero h = rw (passes (same_form b b) (form_same b))
place_once (b ∷ bs) once (suc i) h =
    rw (fails (same_form b (form_at bs i)) (λ s. once.0 (rw (sym (same_form_lem b (form_at bs i) s)) at (mem_get_d bs (record { lexical = false; head = []; moving = [] }) i (omega arith)))))
    (ap suc (place_once bs once.1 i (omega arith)))

-- the number of a row that a search answered, or the one after the last
pub number_or : (rows : List (List ℕ)) (row : List ℕ) (r : Option ℕ) → Found rows row r → unwrap_or r (length rows) ≡ first_same (row_at rows) row 0 (length rows)
number_or rows row None h = omega (arith, h, first_below (row_at rows) row 0 (length rows))
number_or rows row (Some i) h = h.1

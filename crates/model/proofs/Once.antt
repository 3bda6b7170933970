-- No variable stands twice among the daughters' variables, nor in a right rule's components.
-- Assumes nothing.
use mathlib.Core.Path.{◌≡◌, refl, sym, ap, subst, ◌∙◌}
use mathlib.Core.Logic.{◌⊎◌, inl, inr}
use mathlib.Core.Bool.{false}
use mathlib.Core.List.Memᴰ
use mathlib.Core.List.{List, [], ◌∷◌, ◌++◌, map, Memᴰ}
use native.Mathlib.Omega.{arith}
use lib.ListN.{length, length-append, length-map}
use Prim.Native.Nat.{ℕ, zero, suc, ◌+◌, ◌<◌, ◌≤◌}
use Rattle.model.specs.Grammar.{Grammar, Variable, variable, dimension, Rule, is_lexical}
use Rattle.model.specs.WellFormed.{Perm, daughter_variables, named, RightRule, same, more, swap, chain}
use Rattle.model.specs.Base.{numbers_from, total}
use Rattle.model.proofs.Perm.{perm_mem, perm_sym}
use Rattle.model.proofs.Lists.{map_out, length_numbers}

-- no variable stands twice
abbrev pub Clash : Variable → Variable → Type 0
Clash v w = (v.daughter ≡ w.daughter) × (v.component ≡ w.component)

abbrev pub Once : List Variable → Type 0
Once [] = Unit {0}
Once (v ∷ vs) = ((w : Variable) → Memᴰ w vs → Clash v w → ⊥) × Once vs

-- no variable twice, in whatever order
pub once_perm : {l m : List Variable} → Perm l m → Once l → Once m
once_perm (same e) o = subst Once e o
once_perm (more x p) o = (λ w i c. o.0 w (perm_mem (perm_sym p) i) c, once_perm p o.1)
once_perm (swap {l = l} x y) o =
    (λ w i c. go w c (Memᴰ.cases_cons i), (λ w i c. o.0 w (Memᴰ.tail i) c, o.1.1))
  where
    go : (w : Variable) → Clash y w → (w ≡ x) ⊎ Memᴰ w l → ⊥
    go w c (inl e) = o.0 y (Memᴰ.head refl) (ap (λ (v : Variable). v.daughter) (sym e) ∙ sym c.0, ap (λ (v : Variable). v.component) (sym e) ∙ sym c.1)
    go w c (inr i) = o.1.0 w i c
once_perm (chain p q) o = once_perm q (once_perm p o)

pub once_by : {l m : List Variable} → Perm l m → Once m → Once l
once_by p o = once_perm (perm_sym p) o

pub numbers_low : {r : ℕ} (from count : ℕ) → Memᴰ r (numbers_from from count) → (from ≤ r) × (r < from + count)
numbers_low from zero m = elim m [ ]
numbers_low {r} from (suc count) m = go (Memᴰ.cases_cons m) (λ h. numbers_low (suc from) count h)
  where
    go : (r ≡ from) ⊎ Memᴰ r (numbers_from (suc from) count) → (Memᴰ r (numbers_from (suc from) count) → (suc from ≤ r) × (r < suc from + count)) → (from ≤ r) × (r < from + suc count)
    go (inl e) ih = omega arith
    go (inr h) ih = omega (arith, ih h)

module _ (g : Grammar) where
  -- where the variables of the daughters lie
  pub vars_in : (j : ℕ) (ds : List ℕ) (v : Variable) → Memᴰ v (daughter_variables g j ds) → j ≤ v.daughter
  vars_in j [] v m = elim m [ ]
  vars_in j (d ∷ ds) v m = go (Memᴰ.append_cases (map (variable j) (numbers_from 0 (dimension g d))) m) (λ n. vars_in (suc j) ds v n)
    where
      go : Memᴰ v (map (variable j) (numbers_from 0 (dimension g d))) ⊎ Memᴰ v (daughter_variables g (suc j) ds) → (Memᴰ v (daughter_variables g (suc j) ds) → suc j ≤ v.daughter) → j ≤ v.daughter
      go (inl n) ih = let (c, i, e) = map_out (variable j) (numbers_from 0 (dimension g d)) n in omega (arith, ap (λ (w : Variable). w.daughter) e)
      go (inr n) ih = omega (arith, ih n)

  row_once : (j from count : ℕ) (rest : List Variable) → Once rest → ((v : Variable) → Memᴰ v rest → suc j ≤ v.daughter) → Once (map (variable j) (numbers_from from count) ++ rest)
  row_once j from zero rest o h = o
  row_once j from (suc count) rest o h =
      (λ w m c. go w c (Memᴰ.append_cases (map (variable j) (numbers_from (suc from) count)) m), row_once j (suc from) count rest o h)
    where
      go : (w : Variable) → Clash (variable j from) w → Memᴰ w (map (variable j) (numbers_from (suc from) count)) ⊎ Memᴰ w rest → ⊥
      go w c (inl m) =
          let (k, i, e) = map_out (variable j) (numbers_from (suc from) count) m in
          omega (arith, numbers_low (suc from) count i, c.1, ap (λ (v : Variable). v.component) e)
      go w c (inr m) = omega (arith, h w m, c.0)

  pub vars_once : (j : ℕ) (ds : List ℕ) → Once (daughter_variables g j ds)
  vars_once j [] = tt
  vars_once j (d ∷ ds) = row_once j 0 (dimension g d) (daughter_variables g (suc j) ds) (vars_once (suc j) ds) (λ v m. vars_in (suc j) ds v m)

  pub vars_length : (j : ℕ) (ds : List ℕ) → length (daughter_variables g j ds) ≡ total (map (dimension g) ds)
  vars_length j [] = refl
  vars_length j (d ∷ ds) =
      length-append (map (variable j) (numbers_from 0 (dimension g d))) (daughter_variables g (suc j) ds)
      ∙ cc (length-map (numbers_from 0 (dimension g d)) (variable j), length_numbers 0 (dimension g d), vars_length (suc j) ds)

  -- a right rule's components name no variable twice
  pub rule_once : (rule : Rule) → RightRule g rule → is_lexical rule ≡ false → Once (named rule.components)
  rule_once rule right l = once_by (right.complete l) (vars_once 0 rule.daughters)

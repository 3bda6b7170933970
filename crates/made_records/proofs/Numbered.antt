-- A merge and a move whose scheme is given by its number: their components, and the rule that `add_rule` adds the record of.
-- Assumes nothing.
use Rattle.std.specs.Prelude.{◌≡◌, refl, Bool, true, false, [], ◌∷◌, ◌++◌, ℕ, suc, ◌-◌, eqb, if◌then◌else◌}
use mathlib.Core.Path.{ap}
use Rattle.model.specs.Grammar.{variable, nonlexical}
use Rattle.minimalist.specs.Schemes.{singles, joined_variables}
use Rattle.forms.specs.declared.merges.MergeScheme.TheVariants.{First, Second, Third}
use Rattle.forms.specs.declared.moves.MoveScheme.TheVariants.{Fourth, Fifth}
use Rattle.forms.specs.Rows.{merge_numbered, move_numbered}
use Rattle.model.specs.declared.Category.{Category}
use Rattle.made_records.specs.declared.MadeRule.TheVariants.{Merge, Move}
use Rattle.made_records.specs.Records.{as_rule, merge_components, move_components}

pub merge_by_number : (s i j : ℕ) → merge_components (merge_numbered s) i j
    ≡ (if eqb s 3 then (variable 0 0 ∷ []) ∷ (singles 0 1 i ++ singles 1 0 (suc j)) else joined_variables (eqb s 1) ∷ (singles 0 1 i ++ singles 1 1 j))
merge_by_number s i j = go (eqb s 3) (eqb s 1)
  where
    go : (a b : Bool) → merge_components (if a then Third else (if b then First else Second)) i j
        ≡ (if a then (variable 0 0 ∷ []) ∷ (singles 0 1 i ++ singles 1 0 (suc j)) else joined_variables b ∷ (singles 0 1 i ++ singles 1 1 j))
    go true b = refl
    go false true = refl
    go false false = refl

pub move_by_number : (s n t : ℕ) → move_components (move_numbered s) n t
    ≡ (if eqb s 4 then (variable 0 t ∷ variable 0 0 ∷ []) ∷ (singles 0 1 (t - 1) ++ singles 0 (suc t) (n - t)) else (variable 0 0 ∷ []) ∷ singles 0 1 n)
move_by_number s n t = go (eqb s 4)
  where
    go : (a : Bool) → move_components (if a then Fourth else Fifth) n t
        ≡ (if a then (variable 0 t ∷ variable 0 0 ∷ []) ∷ (singles 0 1 (t - 1) ++ singles 0 (suc t) (n - t)) else (variable 0 0 ∷ []) ∷ singles 0 1 n)
    go true = refl
    go false = refl

pub merge_rule_by_number : (c x y : Category) (s i j : ℕ) → as_rule (Merge c x y (merge_numbered s) i j)
    ≡ nonlexical c.0 (x.0 ∷ y.0 ∷ [])
    (if eqb s 3 then (variable 0 0 ∷ []) ∷ (singles 0 1 i ++ singles 1 0 (suc j)) else joined_variables (eqb s 1) ∷ (singles 0 1 i ++ singles 1 1 j))
merge_rule_by_number c x y s i j = ap (nonlexical c.0 (x.0 ∷ y.0 ∷ [])) (merge_by_number s i j)

pub move_rule_by_number : (c x : Category) (s n t : ℕ) → as_rule (Move c x (move_numbered s) n t)
    ≡ nonlexical c.0 (x.0 ∷ [])
    (if eqb s 4 then (variable 0 t ∷ variable 0 0 ∷ []) ∷ (singles 0 1 (t - 1) ++ singles 0 (suc t) (n - t)) else (variable 0 0 ∷ []) ∷ singles 0 1 n)
move_rule_by_number c x s n t = ap (nonlexical c.0 (x.0 ∷ [])) (move_by_number s n t)

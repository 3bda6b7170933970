-- A list in which nothing stands twice.
-- Assumes nothing.
use mathlib.Core.List.{List, [], ◌∷◌, Memᴰ}

module _ {A : Type 0} where
  abbrev pub Once : List A → Type 0
  Once [] = Unit {0}
  Once (x ∷ l) = (Memᴰ x l → ⊥) × Once l

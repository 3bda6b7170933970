-- The slots of a queue: each index with the string that stands there, in the order of the indices. The strings joined are what is still to be read.
-- Assumes nothing.
use mathlib.Core.Path.{◌≡◌, refl, sym, ap, subst, ◌∙◌}
use mathlib.Core.Logic.{◌⊎◌, inl, inr}
use mathlib.Core.List.Memᴰ
use mathlib.Core.List.{List, [], ◌∷◌, ◌++◌, map, tail, append_assoc, Memᴰ}
use Prim.Native.Nat.{ℕ}
use lib.Dec.{T}
use Rattle.model.specs.Base.{each}
use Rattle.model.specs.Step.{Index}
use Rattle.model.specs.WellFormed.{Perm, chain}
use Rattle.model.proofs.Lists.{each_out, map_out, map_in}
use Rattle.model.proofs.Digits.{left, left_append, left_tail}
use Rattle.model.proofs.Perm.{perm_mem, perm_map, perm_each, lift}

-- an index and the string of words that stands there
pub record Slot : Type 0 where
  pub index : Index
  pub string : List ℕ

-- the strings, joined
abbrev pub spelled : List Slot → List ℕ
spelled l = each (λ s. s.string) l

-- each stands left of each that follows
abbrev pub Rising : List Slot → Type 0
Rising [] = Unit {0}
Rising (x ∷ l) = ((y : Slot) → Memᴰ y l → T (left x.index y.index)) × Rising l

pub rising_append : (a b : List Slot) → Rising a → Rising b → ((x y : Slot) → Memᴰ x a → Memᴰ y b → T (left x.index y.index)) → Rising (a ++ b)
rising_append [] b r s h = s
rising_append (x ∷ a) b r s h =
    (λ y m. go y (Memᴰ.append_cases a m), rising_append a b r.1 s (λ u v i j. h u v (Memᴰ.tail i) j))
  where
    go : (y : Slot) → Memᴰ y a ⊎ Memᴰ y b → T (left x.index y.index)
    go y (inl m) = r.0 y m
    go y (inr m) = h x y (Memᴰ.head refl) m

pub spelled_append : (a b : List Slot) → spelled (a ++ b) ≡ spelled a ++ spelled b
spelled_append [] b = refl
spelled_append (x ∷ a) b = ap (λ (l : List ℕ). x.string ++ l) (spelled_append a b) ∙ sym (append_assoc x.string (spelled a) (spelled b))

-- a slot, and the slots that are to take its place
pub record Change : Type 0 where
  pub slot : Slot
  pub block : List Slot

-- the block is in order, begins at the slot's index, and spells what the slot does
pub record Fine (c : Change) : Type 0 where
  pub rises : Rising c.block
  pub extends : (y : Slot) → Memᴰ y c.block → (e : Index) × (y.index ≡ c.slot.index ++ e)
  pub spells : spelled c.block ≡ c.slot.string

abbrev pub olds : List Change → List Slot
olds l = map (λ c. c.slot) l

abbrev pub news : List Change → List Slot
news l = each (λ c. c.block) l

abbrev pub AllFine : List Change → Type 0
AllFine l = (c : Change) → Memᴰ c l → Fine c

pub news_rise : (l : List Change) → AllFine l → Rising (olds l) → Rising (news l)
news_rise [] f r = tt
news_rise (c ∷ l) f r =
    rising_append c.block (news l) (f c (Memᴰ.head refl)).rises (news_rise l (λ d m. f d (Memᴰ.tail m)) r.1)
    (λ x y i j.
    let (d, m, n) = each_out (λ c. c.block) l j in
    let (e, p) = (f c (Memᴰ.head refl)).extends x i in
    let (e', p') = (f d (Memᴰ.tail m)).extends y n in
    rw (p, p') (left_append c.slot.index d.slot.index e e' (r.0 d.slot (map_in (λ c. c.slot) m))))

pub news_spell : (l : List Change) → AllFine l → spelled (news l) ≡ spelled (olds l)
news_spell [] f = refl
news_spell (c ∷ l) f =
    spelled_append c.block (news l)
    ∙ cc ((f c (Memᴰ.head refl)).spells, news_spell l (λ d m. f d (Memᴰ.tail m)))

-- a list of slots in order with the same elements as `slots`
pub record Row (slots : List Slot) (words : List ℕ) : Type 0 where
  pub row : List Slot
  pub perm : Perm row slots
  pub rises : Rising row
  pub spells : spelled row ≡ words

-- changes that are fine leave what is spelled
pub change_row : (l : List Change) (words : List ℕ) → AllFine l → Row (olds l) words → Row (news l) words
change_row l words f r =
    let d = lift (λ c. c.slot) l r.perm in
    let g : AllFine d.list = λ c m. f c (perm_mem d.perm m) in
    record {
      row = news d.list;
      perm = perm_each (λ c. c.block) d.perm;
      rises = news_rise d.list g (subst Rising d.maps r.rises);
      spells = news_spell d.list g ∙ ap spelled (sym d.maps) ∙ r.spells;
    }

pub row_perm : {a b : List Slot} {words : List ℕ} → Perm a b → Row a words → Row b words
row_perm p r = record { row = r.row; perm = chain r.perm p; rises = r.rises; spells = r.spells }

-- one digit off every index
abbrev pub cut : Slot → Slot
cut s = record { index = tail s.index; string = s.string }

abbrev pub Begins : ℕ → List Slot → Type 0
Begins d l = (s : Slot) → Memᴰ s l → s.index ≡ d ∷ tail s.index

cut_rise : (d : ℕ) (l : List Slot) → Begins d l → Rising l → Rising (map cut l)
cut_rise d [] h r = tt
cut_rise d (x ∷ l) h r = (
  λ y m.
      let (z, i, e) = map_out cut l m in
      rw e (left_tail d (tail x.index) (tail z.index) (rw (h x (Memᴰ.head refl), h z (Memᴰ.tail i)) at (r.0 z i))),
  cut_rise d l (λ s m. h s (Memᴰ.tail m)) r.1,
)

cut_spell : (l : List Slot) → spelled (map cut l) ≡ spelled l
cut_spell [] = refl
cut_spell (x ∷ l) = ap (λ (w : List ℕ). x.string ++ w) (cut_spell l)

pub cut_row : (d : ℕ) (l : List Slot) (words : List ℕ) → Begins d l → Row l words → Row (map cut l) words
cut_row d l words h r =
    record {
      row = map cut r.row;
      perm = perm_map cut r.perm;
      rises = cut_rise d r.row (λ s m. h s (perm_mem r.perm m)) r.rises;
      spells = cut_spell r.row ∙ r.spells;
    }

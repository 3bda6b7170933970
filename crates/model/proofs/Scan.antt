-- A lexical front prediction has the first slot of the row.
-- Assumes nothing.
use mathlib.Core.Path.{◌≡◌, refl, sym, ap, subst, ◌∙◌}
use mathlib.Core.Logic.{◌⊎◌, inl, inr}
use mathlib.Core.Bool.{Bool, true, false}
use mathlib.Core.List.Memᴰ
use mathlib.Core.List.{List, [], ◌∷◌, ◌++◌, map, Memᴰ}
use Prim.Native.Nat.{ℕ}
use native.Mathlib.Omega.{arith}
use lib.Dec.{T}
use Rattle.model.specs.Base.{each}
use Rattle.model.specs.WellFormed.{Perm, same, chain}
use Rattle.model.proofs.Lists.{map_out, map_in}
use Rattle.model.proofs.Digits.{left, left_before}
use Rattle.model.proofs.Order.{before_irrefl}
use Rattle.model.proofs.Perm.{perm_mem, perm_each, perm_sym, lift}
use Rattle.model.proofs.Slots.{Slot, spelled, Rising, Row}

-- a slot, and whether it is the one to go
record Flagged : Type 0 where
  slot : Slot
  goes : Bool

abbrev keep_by : Bool → Slot → List Slot
keep_by true s = []
keep_by false s = s ∷ []

abbrev kept : Flagged → List Slot
kept f = keep_by f.goes f.slot

abbrev stays : Slot → Flagged
stays s = record { slot = s; goes = false }

abbrev index_of : Flagged → Slot
index_of f = f.slot

stays_slots : (l : List Slot) → map index_of (map stays l) ≡ l
stays_slots [] = refl
stays_slots (x ∷ l) = ap (λ (m : List Slot). x ∷ m) (stays_slots l)

stays_kept : (l : List Slot) → each kept (map stays l) ≡ l
stays_kept [] = refl
stays_kept (x ∷ l) = ap (λ (m : List Slot). x ∷ m) (stays_kept l)

all_kept : (l : List Flagged) → ((f : Flagged) → Memᴰ f l → f.goes ≡ false) → each kept l ≡ map index_of l
all_kept [] h = refl
all_kept (f ∷ l) h = rw (h f (Memᴰ.head refl)) (ap (λ (m : List Slot). f.slot ∷ m) (all_kept l (λ e m. h e (Memᴰ.tail m))))

module _ (first : Slot) (others : List Slot) (least : (s : Slot) → Memᴰ s others → T (left s.index first.index) → ⊥) where
  abbrev going : Flagged
  going = record { slot = first; goes = true }

  abbrev all : List Flagged
  all = going ∷ map stays others

  -- which of them it is
  which : (f : Flagged) → Memᴰ f all → ((f.slot ≡ first) × (f.goes ≡ true)) ⊎ (Memᴰ f.slot others × (f.goes ≡ false))
  which f m = go (Memᴰ.cases_cons m)
    where
      go : (f ≡ going) ⊎ Memᴰ f (map stays others) → ((f.slot ≡ first) × (f.goes ≡ true)) ⊎ (Memᴰ f.slot others × (f.goes ≡ false))
      go (inl e) = inl (ap (λ (x : Flagged). x.slot) e, ap (λ (x : Flagged). x.goes) e)
      go (inr n) = let (s, i, e) = map_out stays others n in inr (rw e i, ap (λ (x : Flagged). x.goes) e)

  -- the row without its first slot
  pub record Scanned (words : List ℕ) : Type 0 where
    pub rest : List ℕ
    pub split : words ≡ first.string ++ rest
    pub row : Row others rest

  from : (words : List ℕ) (l : List Flagged) → Perm l all → Rising (map index_of l) → spelled (map index_of l) ≡ words → Scanned words
  from words [] p r e = let m : Memᴰ going [] = perm_mem (perm_sym p) (Memᴰ.head refl) in elim m [ ]
  from words (f ∷ l) p r e = go (which f (perm_mem p (Memᴰ.head refl)))
    where
      late : (h : Flagged) → Memᴰ h l → T (left f.slot.index h.slot.index)
      late h m = r.0 h.slot (map_in index_of m)

      go : ((f.slot ≡ first) × (f.goes ≡ true)) ⊎ (Memᴰ f.slot others × (f.goes ≡ false)) → Scanned words
      go (inr (i, k)) = absurd (behind (Memᴰ.cases_cons (perm_mem (perm_sym p) (Memᴰ.head refl))))
        where
          behind : (going ≡ f) ⊎ Memᴰ going l → ⊥
          behind (inl q) = let z : ◌≡◌ {A = ℕ} 0 1 = cc (ap (λ (x : Flagged). x.goes) q, k) in omega arith
          behind (inr m) = least f.slot i (late going m)
      go (inl (q, k)) =
          record {
            rest = spelled (map index_of l);
            split = sym e ∙ ap (λ (s : Slot). s.string ++ spelled (map index_of l)) q;
            row = record { row = map index_of l; perm = rest_perm; rises = r.1; spells = refl };
          }
        where
          no_other : (h : Flagged) → Memᴰ h l → f.slot.index ≡ h.slot.index → ⊥
          no_other h m d = before_irrefl h.slot.index (left_before h.slot.index h.slot.index (rw d at (late h m)))

          stay_by : (h : Flagged) → Memᴰ h l → ((h.slot ≡ first) × (h.goes ≡ true)) ⊎ (Memᴰ h.slot others × (h.goes ≡ false)) → h.goes ≡ false
          stay_by h m (inl (a, b)) = absurd (no_other h m (ap (λ (s : Slot). s.index) (q ∙ sym a)))
          stay_by h m (inr (a, b)) = b

          left_over : each kept l ≡ map index_of l
          left_over = all_kept l (λ h m. stay_by h m (which h (perm_mem p (Memᴰ.tail m))))

          gone : each kept l ≡ each kept (f ∷ l)
          gone = rw k

          rest_perm : Perm (map index_of l) others
          rest_perm = chain (same (sym left_over)) (chain (same gone) (chain (perm_each kept p) (same (stays_kept others))))

  pub scan_row : (words : List ℕ) → Row (first ∷ others) words → Scanned words
  scan_row words r =
      let d = lift index_of all (chain r.perm (same (ap (λ (l : List Slot). first ∷ l) (sym (stays_slots others))))) in
      from words d.list d.perm (subst Rising d.maps r.rises) (ap spelled (sym d.maps) ∙ r.spells)

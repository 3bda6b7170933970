-- The rows of an entry's form and of the wanted category's, byte by byte; and what is left out, by the first bytes of the moving chains.
-- Assumes nothing.
use Rattle.std.specs.Prelude.{if◌then◌else◌}
use mathlib.Core.Path.{◌≡◌, refl, sym, ap, ap₂, ◌∙◌}
use mathlib.Core.Bool.{Bool, true, false, ◌||◌, not}
use mathlib.Core.List.{List, [], ◌∷◌, map}
use Prim.Native.Nat.{ℕ, zero, suc, ◌+◌, ◌-◌, ◌*◌, ◌/◌, ◌%◌, ◌<◌, ◌≤◌}
use native.Mathlib.Omega.{arith}
use native.Mathlib.Decide.{dec_lt, ℕ_discrete}
use lib.Dec.{eqb}
use lib.ListN.{length, get_or, length-map, get_or-eq_default, get_or-map}
use lib.Seq.{ext_get_or}
use borrow.Author.Tests.{lt-ltb, le-ltb, eq-eqb, ne_eqb}
use Rattle.minimalist.proofs.Entries.{features_at}
use Rattle.model.specs.Base.{numbers_from}
use Rattle.model.specs.GrammarFile.{fields}
use Rattle.model.proofs.Lists.{length_numbers}
use Rattle.minimalist.specs.Lexicon.{is_licensee, before_zero, entry_of}
use Rattle.minimalist.specs.Schemes.{Form, lexical_form, no_features, any_same_first, wrong_moving, left_out}
use Rattle.minimalist.specs.Made.{start_form}
use Rattle.forms.specs.Rows.{flag, row_byte, head_byte, row_of, NonZero, Small, entry_byte, start_byte, firsts_in, any_same, wrong_firsts, FilledBy}
use Rattle.lexicon.proofs.FeatureKinds.{bounds}
use Rattle.lexicon.proofs.EntryWalks.{six_long}
use Rattle.forms.proofs.RowLaws.{listed_at, row_by, cell_is, head_at, count_at, chain_at}

-- the bytes before the first 0
pub before_few : (l : List ℕ) → length (before_zero l) ≤ length l
before_few [] = omega arith
before_few (b ∷ bs) = go (eqb b 0) (before_few bs)
  where
    go : (t : Bool) → length (before_zero bs) ≤ length bs → length (if t then [] else b ∷ before_zero bs) ≤ suc (length bs)
    go true h = omega arith
    go false h = omega arith

pub before_set : (l : List ℕ) → NonZero (before_zero l)
before_set [] i h e = let z : ⊥ = omega arith in z
before_set (b ∷ bs) i h e = go (eqb b 0) refl i h e (λ j k. before_set bs j k)
  where
    go : (t : Bool) → eqb b 0 ≡ t → (i : ℕ) → i < length (if t then [] else b ∷ before_zero bs) → get_or (if t then [] else b ∷ before_zero bs) i 0 ≡ 0 → NonZero (before_zero bs) → ⊥
    go true w i h e ih = let z : ⊥ = omega arith in z
    go false w zero h e ih = let n : ◌≡◌ {A = Bool} true false = sym (eq-eqb b 0 e) ∙ w in let z : ◌≡◌ {A = ℕ} 0 1 = cc in omega arith
    go false w (suc i) h e ih = ih i (omega arith) e

-- a row with nothing that moves
module _ (a : Form) (none_moves : a.moving ≡ []) where
  late : (p : ℕ) → 8 ≤ p → row_byte a p ≡ 0
  late p h =
      let x : p ≡ 8 * suc (p / 8 - 1) + p % 8 = omega arith in
      cell_is a p (suc (p / 8 - 1)) (p % 8) x (omega arith) ∙ ap (λ (l : List (List ℕ)). get_or (get_or l (p / 8 - 1) []) (p % 8) 0) none_moves

  early : (p : ℕ) → p < 8 → row_byte a p ≡ head_byte a p
  early p h = cell_is a p 0 p (omega arith) h

  still_head : (p : ℕ) → p < 6 → row_byte a p ≡ get_or a.head p 0
  still_head p h = early p (omega arith) ∙ rw (lt-ltb p 6 h)

  still_flag : (p : ℕ) → p ≡ 6 → row_byte a p ≡ flag a.lexical
  still_flag p h = early p (omega arith) ∙ rw (le-ltb p 6 (omega arith), eq-eqb p 6 h)

  still_rest : (p : ℕ) → 6 < p → row_byte a p ≡ 0
  still_rest p h = go (dec_lt p 8)
    where
      go : Dec (p < 8) → row_byte a p ≡ 0
      go (yes l) = early p l ∙ rw (le-ltb p 6 (omega arith), ne_eqb p 6 (λ q. omega arith)) (ap length none_moves)
      go (no l) = late p (omega arith)

module _ (e : List ℕ) where
  abbrev six : List ℕ
  six = fields e 2 6

  abbrev n : ℕ
  n = length (before_zero six)

  n_few : n ≤ 6
  n_few = omega (arith, before_few six, six_long e)

  pub entry_row : (p : ℕ) → entry_byte six n p ≡ row_byte (lexical_form (entry_of e)) p
  entry_row p = go (dec_lt p 6) (dec_lt p n) (ℕ_discrete p 6)
    where
      go : Dec (p < 6) → Dec (p < n) → Dec (p ≡ 6) → entry_byte six n p ≡ row_byte (lexical_form (entry_of e)) p
      go (yes h) (yes k) s = rw (lt-ltb p n k) (sym (still_head (lexical_form (entry_of e)) refl p h ∙ features_at six p k))
      go (yes h) (no k) s = rw (le-ltb p n (omega arith), ne_eqb p 6 (λ q. omega arith)) (sym (still_head (lexical_form (entry_of e)) refl p h ∙ get_or-eq_default (before_zero six) 0 {n = p} (omega arith)))
      go (no h) k (yes s) = rw (le-ltb p n (omega (arith, n_few)), eq-eqb p 6 s) (sym (still_flag (lexical_form (entry_of e)) refl p s))
      go (no h) k (no s) = rw (le-ltb p n (omega (arith, n_few)), ne_eqb p 6 s) (sym (still_rest (lexical_form (entry_of e)) refl p (omega arith)))

module _ (start : ℕ) (x : Bool) where
  one_byte : (p : ℕ) → 0 < p → get_or (start ∷ []) p 0 ≡ 0
  one_byte p h = get_or-eq_default (start ∷ []) 0 {n = p} (omega arith)

  pub start_row : (p : ℕ) → start_byte start x p ≡ row_byte (start_form start x) p
  start_row p = go (dec_lt p 6) (ℕ_discrete p 0) (ℕ_discrete p 6)
    where
      go : Dec (p < 6) → Dec (p ≡ 0) → Dec (p ≡ 6) → start_byte start x p ≡ row_byte (start_form start x) p
      go h (yes z) s = rw (eq-eqb p 0 z) (sym (still_head (start_form start x) refl p (omega arith) ∙ ap (λ (k : ℕ). get_or (start ∷ []) k 0) z))
      go (yes h) (no z) s = rw (ne_eqb p 0 z, ne_eqb p 6 (λ q. omega arith)) (sym (still_head (start_form start x) refl p h ∙ one_byte p (omega arith)))
      go (no h) (no z) (yes s) = rw (ne_eqb p 0 z, eq-eqb p 6 s) (sym (still_flag (start_form start x) refl p s))
      go (no h) (no z) (no s) = rw (ne_eqb p 0 z, ne_eqb p 6 s) (sym (still_rest (start_form start x) refl p (omega arith)))

abbrev first : List ℕ → ℕ
first c = get_or c 0 0

same_firsts : (m : ℕ) (ms : List ℕ) (ds : List (List ℕ)) → (m ≡ 0 → ⊥) → any_same m (map first ds) ≡ any_same_first (m ∷ ms) ds
same_firsts m ms [] h = refl
same_firsts m ms ([] ∷ ds) h = rw (ne_eqb m 0 h) (same_firsts m ms ds h)
same_firsts m ms ((x ∷ xs) ∷ ds) h = ap (λ (t : Bool). eqb m x || t) (same_firsts m ms ds h)

wrong_firsts_lem : (cs : List (List ℕ)) → wrong_firsts (map first cs) ≡ wrong_moving cs
wrong_firsts_lem [] = refl
wrong_firsts_lem ([] ∷ cs) = refl
wrong_firsts_lem ((m ∷ ms) ∷ cs) = go (is_licensee m) refl (wrong_firsts_lem cs)
  where
    go : (t : Bool) → is_licensee m ≡ t → wrong_firsts (map first cs) ≡ wrong_moving cs → (not t || (any_same m (map first cs) || wrong_firsts (map first cs))) ≡ (not t || (any_same_first (m ∷ ms) cs || wrong_moving cs))
    go false w ih = refl
    go true w ih = ap₂ (λ (s t : Bool). s || t) (same_firsts m ms cs (λ z. omega (arith, (bounds 49 51 m w).0))) ih

module _ (a : Form) (small : Small a) where
  pub firsts_of : firsts_in (row_of a) 0 (length a.moving) ≡ map first a.moving
  firsts_of =
      ext_get_or 0 (firsts_in (row_of a) 0 (length a.moving)) (map first a.moving) (length-map (numbers_from 0 (length a.moving)) (λ j. get_or (row_of a) (8 * (j + 1)) 0) ∙ length_numbers 0 (length a.moving) ∙ sym (length-map a.moving first))
      (λ i h. at i (omega (arith, length-map (numbers_from 0 (length a.moving)) (λ j. get_or (row_of a) (8 * (j + 1)) 0), length_numbers 0 (length a.moving))))
    where
      at : (i : ℕ) → i < length a.moving → get_or (firsts_in (row_of a) 0 (length a.moving)) i 0 ≡ get_or (map first a.moving) i 0
      at i h =
          listed_at (λ j. get_or (row_of a) (8 * (j + 1)) 0) 0 (length a.moving) i h
          ∙ chain_at a (8 * (0 + i + 1)) i 0 (omega arith) (omega arith) (omega (arith, small.moving_few))
          ∙ sym (get_or-map first a.moving i [])

  no_head : get_or a.head 0 0 ≡ 0 → no_features a.head ≡ true
  no_head e = go a.head small.head_set e
    where
      go : (l : List ℕ) → NonZero l → get_or l 0 0 ≡ 0 → no_features l ≡ true
      go [] p e = refl
      go (x ∷ xs) p e = absurd (p 0 (omega arith) e)

  some_head : (get_or a.head 0 0 ≡ 0 → ⊥) → no_features a.head ≡ false
  some_head d = go a.head d
    where
      go : (l : List ℕ) → (get_or l 0 0 ≡ 0 → ⊥) → no_features l ≡ false
      go [] d = absurd (d refl)
      go (x ∷ xs) d = refl

  module _ (row : List ℕ) (r : row ≡ row_of a) where
    first_byte : get_or row 0 0 ≡ get_or a.head 0 0
    first_byte = ap (λ (l : List ℕ). get_or l 0 0) r ∙ head_at a 0 (omega arith)

    pub empty_left : get_or row 0 0 ≡ 0 → left_out a ≡ true
    empty_left e = rw (no_head (sym first_byte ∙ e))

    pub movers_left : (get_or row 0 0 ≡ 0 → ⊥) → wrong_firsts (firsts_in row 0 (get_or row 7 0)) ≡ left_out a
    movers_left d =
        ap (λ (l : List ℕ). wrong_firsts (firsts_in l 0 (get_or l 7 0))) r
        ∙ ap (λ (n : ℕ). wrong_firsts (firsts_in (row_of a) 0 n)) (count_at a)
        ∙ ap wrong_firsts firsts_of ∙ wrong_firsts_lem a.moving ∙ sym (rw (some_head (λ z. d (first_byte ∙ z))))

-- a filled row
pub filled_row : (a : Form) (f : ℕ → ℕ) → ((p : ℕ) → f p ≡ row_byte a p) → (l : List ℕ) → FilledBy f l → l ≡ row_of a
filled_row a f e l g = row_by a l g.0 (λ q m. g.1 q m ∙ e q)

pub entry_found : (e six : List ℕ) (n : ℕ) → six ≡ fields e 2 6 → n ≡ length (before_zero six) → (p : ℕ) → entry_byte six n p ≡ row_byte (lexical_form (entry_of e)) p
entry_found e six n s m p = ap₂ (λ (l : List ℕ) (k : ℕ). entry_byte l k p) s (m ∙ ap (λ (l : List ℕ). length (before_zero l)) s) ∙ entry_row e p

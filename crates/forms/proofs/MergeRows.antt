-- The row of a merge, byte by byte.
-- Assumes nothing.
use Rattle.std.specs.Prelude.{if◌then◌else◌, Option, Some, None}
use mathlib.Core.Path.{◌≡◌, refl, sym, ap, ap₂, ◌∙◌}
use mathlib.Core.Bool.{Bool, true, false}
use mathlib.Core.List.{List, [], ◌∷◌, ◌++◌}
use Prim.Native.Nat.{ℕ, zero, suc, ◌+◌, ◌-◌, ◌*◌, ◌/◌, ◌%◌, ◌<◌, ◌≤◌}
use native.Mathlib.Omega.{arith}
use native.Mathlib.Decide.{dec_lt, ℕ_discrete}
use lib.Dec.{ltb, leb}
use lib.ListN.{length, get_or, drop, length-append, length-drop, get_or-append, get_or-eq_default}
use lib.Seq.{get_or-append-add, get_or-drop}
use borrow.Author.Tests.{lt-ltb, le-ltb, le-leb, lt-leb, eq-eqb, ne_eqb}
use Rattle.minimalist.specs.Lexicon.{selects}
use Rattle.minimalist.specs.Schemes.{Form, merge_if, merge_scheme}
use Rattle.forms.specs.declared.merges.MergeScheme.{MergeScheme}
use Rattle.forms.specs.declared.merges.MergeScheme.TheVariants.{First, Second, Third}
use Rattle.forms.specs.declared.merges.Merged.{Merged}
use Rattle.forms.specs.Rows.{flag, head_byte, row_byte, row_of, Small, rest_byte, going_byte, late_byte, merge_byte, FilledBy, merge_number, MergeIs, SaysMerge}
use Rattle.forms.proofs.RowLaws.{row_by, cell_is, head_at, flag_at, count_at, chain_at, first_at}
use Rattle.lexicon.proofs.FeatureKinds.{no_category}
use Rattle.model.proofs.Tests.{not_both}

-- the chains of the second side as they go on: what is left of its head, and those that move
abbrev pub going : Form → List (List ℕ)
going b = drop 1 b.head ∷ b.moving

-- the category of a merge, where the second side goes on from chain `from` on
abbrev pub joined : Form → Form → ℕ → Form
joined a b from = record { lexical = false; head = drop 1 a.head; moving = a.moving ++ drop from (going b) }

module _ (a b : Form) (small-a : Small a) (small_b : Small b) (few : length a.moving + length b.moving ≤ 6) where
  abbrev i : ℕ
  i = length a.moving

  abbrev j : ℕ
  j = length b.moving

  tail_at : (c : Form) (x : ℕ) → get_or (drop 1 c.head) x 0 ≡ get_or c.head (x + 1) 0
  tail_at c x = let e : 1 + x ≡ x + 1 = omega arith in get_or-drop 1 c.head x 0 ∙ ap (λ (k : ℕ). get_or c.head k 0) e

  tail_none : (c : Form) → Small c → (x : ℕ) → 5 ≤ x → get_or (drop 1 c.head) x 0 ≡ 0
  tail_none c s x h = get_or-eq_default (drop 1 c.head) 0 {n = x} (omega (arith, length-drop 1 c.head, s.head_few))

  -- a byte of a chain that goes on
  going_byte_lem : (k x : ℕ) → k ≤ j → x < 8 → going_byte (row_of b) k x ≡ get_or (get_or (going b) k []) x 0
  going_byte_lem zero x h l = go (dec_lt x 5)
    where
      go : Dec (x < 5) → (if ltb x 5 then get_or (row_of b) (x + 1) 0 else 0) ≡ get_or (drop 1 b.head) x 0
      go (yes m) = rw (lt-ltb x 5 m) (head_at b (x + 1) (omega arith) ∙ sym (tail_at b x))
      go (no m) = rw (le-ltb x 5 (omega arith)) (sym (tail_none b small_b x (omega arith)))
  going_byte_lem (suc k) x h l = rw (lt-ltb 0 (suc k) (omega arith)) (chain_at b (8 * suc k + x) k x (omega arith) l (omega (arith, small_b.moving_few)))

  late_byte_lem : (k x : ℕ) → x < 8 → late_byte (row_of b) j k x ≡ get_or (get_or (going b) k []) x 0
  late_byte_lem k x l = go (dec_lt j k)
    where
      go : Dec (j < k) → late_byte (row_of b) j k x ≡ get_or (get_or (going b) k []) x 0
      go (yes m) = rw (lt-leb k j m) (ap (λ (c : List ℕ). get_or c x 0) (sym (get_or-eq_default (going b) [] {n = k} (omega arith))))
      go (no m) = rw (le-leb k j (omega arith)) (going_byte_lem k x (omega arith) l)

  module _ (from : ℕ) (one : from ≤ 1) where
    abbrev r : Form
    r = joined a b from

    many : length r.moving ≡ i + j + 1 - from
    many = length-append a.moving (drop from (going b)) ∙ (let e : i + length (drop from (going b)) ≡ i + j + 1 - from = omega (arith, length-drop from (going b)) in e)

    head_part : (p : ℕ) → p < 8 → rest_byte (row_of a) (i + j + 1 - from) p ≡ head_byte r p
    head_part p h = go (dec_lt p 5) (dec_lt p 6) (ℕ_discrete p 6)
      where
        go : Dec (p < 5) → Dec (p < 6) → Dec (p ≡ 6) → rest_byte (row_of a) (i + j + 1 - from) p ≡ head_byte r p
        go (yes m) k s = rw (lt-ltb p 5 m, lt-ltb p 6 (omega arith)) (head_at a (p + 1) (omega arith) ∙ sym (tail_at a p))
        go (no m) (yes k) s = rw (le-ltb p 5 (omega arith), lt-ltb p 6 k, ne_eqb p 7 (λ q. omega arith)) (sym (tail_none a small-a p (omega arith)))
        go (no m) (no k) (yes s) = rw (le-ltb p 5 (omega arith), le-ltb p 6 (omega arith), ne_eqb p 7 (λ q. omega arith), eq-eqb p 6 s)
        go (no m) (no k) (no s) = rw (le-ltb p 5 (omega arith), le-ltb p 6 (omega arith), eq-eqb p 7 (omega arith), ne_eqb p 6 s) (let e : (i + j + 1 - from) % 256 ≡ i + j + 1 - from = omega (arith, few) in e ∙ sym many)

    chain_part : (p : ℕ) → 8 ≤ p → p < 64 → (if leb (p / 8) i then get_or (row_of a) p 0 else late_byte (row_of b) j (p / 8 - i - 1 + from) (p % 8)) ≡ get_or (get_or r.moving (p / 8 - 1) []) (p % 8) 0
    chain_part p h l = go (dec_lt (p / 8 - 1) i)
      where
        go : Dec (p / 8 - 1 < i) → (if leb (p / 8) i then get_or (row_of a) p 0 else late_byte (row_of b) j (p / 8 - i - 1 + from) (p % 8)) ≡ get_or (get_or r.moving (p / 8 - 1) []) (p % 8) 0
        go (yes m) =
            rw (le-leb (p / 8) i (omega arith))
            (chain_at a p (p / 8 - 1) (p % 8) (omega arith) (omega arith) (omega (arith, few))
            ∙ ap (λ (c : List ℕ). get_or c (p % 8) 0) (sym (get_or-append a.moving (drop from (going b)) [] (p / 8 - 1) m)))
        go (no m) =
            let e : from + (p / 8 - 1 - i) ≡ p / 8 - i - 1 + from = omega arith in
            let f : i + (p / 8 - 1 - i) ≡ p / 8 - 1 = omega arith in
            rw (lt-leb (p / 8) i (omega arith))
            (late_byte_lem (p / 8 - i - 1 + from) (p % 8) (omega arith)
            ∙ ap (λ (c : List ℕ). get_or c (p % 8) 0)
            (ap (λ (k : ℕ). get_or (going b) k []) (sym e) ∙ sym (get_or-drop from (going b) (p / 8 - 1 - i) [])
            ∙ sym (get_or-append-add a.moving (drop from (going b)) (p / 8 - 1 - i) []) ∙ ap (λ (k : ℕ). get_or r.moving k []) f))

    pub merge_byte_lem : (p : ℕ) → p < 64 → merge_byte (row_of a) (row_of b) i j from p ≡ row_byte r p
    merge_byte_lem p l = go (dec_lt p 8)
      where
        go : Dec (p < 8) → merge_byte (row_of a) (row_of b) i j from p ≡ row_byte r p
        go (yes h) = rw (lt-ltb p 8 h) (head_part p h ∙ sym (cell_is r p 0 p (omega arith) h))
        go (no h) =
            let x : p ≡ 8 * suc (p / 8 - 1) + p % 8 = omega arith in
            rw (le-ltb p 8 (omega arith)) (chain_part p (omega arith) l ∙ sym (cell_is r p (suc (p / 8 - 1)) (p % 8) x (omega arith)))

    pub merge_row : (row : List ℕ) → FilledBy (merge_byte (row_of a) (row_of b) i j from) row → row ≡ row_of r
    merge_row row f = row_by r row f.0 (λ p l. f.1 p l ∙ merge_byte_lem p l)

-- what a merge answers
abbrev pub merged : MergeScheme → List ℕ → Option Merged
merged s row = Some (record { scheme = s; row = row })

-- what a merge of rows says of the forms
no_head : (s : ℕ) → selects s 0 ≡ false
no_head s = no_category s 0 refl

module _ (x y : List ℕ) (a b : Form) (small-a : Small a) (small_b : Small b) (few : length a.moving + length b.moving ≤ 6) (ra : x ≡ row_of a) (rb : y ≡ row_of b) where
  first_a : get_or x 0 0 ≡ get_or a.head 0 0
  first_a = first_at x a ra

  first_b : get_or y 0 0 ≡ get_or b.head 0 0
  first_b = first_at y b rb

  second_b : get_or y 1 0 ≡ get_or b.head 1 0
  second_b = ap (λ (l : List ℕ). get_or l 1 0) rb ∙ head_at b 1 (omega arith)

  meets : (s f : ℕ) (α β : List ℕ) → a.head ≡ s ∷ α → b.head ≡ f ∷ β → selects (get_or x 0 0) (get_or y 0 0) ≡ selects s f
  meets s f α β e g = ap₂ selects (first_a ∙ ap (λ (l : List ℕ). get_or l 0 0) e) (first_b ∙ ap (λ (l : List ℕ). get_or l 0 0) g)

  none_says : selects (get_or x 0 0) (get_or y 0 0) ≡ false → MergeIs a b (merge_scheme a b) None
  none_says w = go a.head refl b.head refl
    where
      go : (h : List ℕ) → a.head ≡ h → (k : List ℕ) → b.head ≡ k → MergeIs a b (merge_if a b h k) None
      go [] e k g = refl
      go (s ∷ α) e [] g = refl
      go (s ∷ α) e (f ∷ β) g = rw (sym (meets s f α β e g) ∙ w)

  filled_of : (from : ℕ) (after : List ℕ) → from ≤ 1 → FilledBy (merge_byte x y (get_or x 7 0) (get_or y 7 0) from) after → after ≡ row_of (joined a b from)
  filled_of from after o f =
      merge_row a b small-a small_b few from o after
      (f.0, λ p l. f.1 p l ∙ ap₂ (λ (u v : List ℕ). merge_byte u v (get_or u 7 0) (get_or v 7 0) from p) ra rb ∙ ap₂ (λ (u v : ℕ). merge_byte (row_of a) (row_of b) u v from p) (count_at a) (count_at b))

  moving_says : (after : List ℕ) → selects (get_or x 0 0) (get_or y 0 0) ≡ true → (get_or y 1 0 ≡ 0 → ⊥)
      → FilledBy (merge_byte x y (get_or x 7 0) (get_or y 7 0) 0) after → MergeIs a b (merge_scheme a b) (merged Third after)
  moving_says after w d f = go a.head refl b.head refl
    where
      row_is : after ≡ row_of (joined a b 0)
      row_is = filled_of 0 after (omega arith) f

      go : (h : List ℕ) → a.head ≡ h → (k : List ℕ) → b.head ≡ k → MergeIs a b (merge_if a b h k) (merged Third after)
      go [] e k g = not_both (sym w ∙ ap (λ (s : ℕ). selects s (get_or y 0 0)) (first_a ∙ ap (λ (l : List ℕ). get_or l 0 0) e))
      go (s ∷ α) e [] g = not_both (sym w ∙ ap (selects (get_or x 0 0)) (first_b ∙ ap (λ (l : List ℕ). get_or l 0 0) g) ∙ no_head (get_or x 0 0))
      go (s ∷ α) e (f₁ ∷ []) g = absurd (d (second_b ∙ ap (λ (l : List ℕ). get_or l 1 0) g))
      go (s ∷ α) e (f₁ ∷ f₂ ∷ β) g =
          rw (sym (meets s f₁ α (f₂ ∷ β) e g) ∙ w)
          (ap₂ merged (number a.lexical ∙ ap (λ (l : List ℕ). merge_number a.lexical (drop 1 l)) (sym g)) (row_is ∙ ap₂ (λ (h k : List ℕ). row_of (record { lexical = false; head = drop 1 h; moving = a.moving ++ (drop 1 k ∷ b.moving) })) e g))
        where
          number : (t : Bool) → Third ≡ merge_number t (f₂ ∷ β)
          number true = refl
          number false = refl

  landed_says : (r : MergeScheme) (after : List ℕ) → selects (get_or x 0 0) (get_or y 0 0) ≡ true → get_or y 1 0 ≡ 0
      → FilledBy (merge_byte x y (get_or x 7 0) (get_or y 7 0) 1) after → r ≡ merge_number a.lexical [] → MergeIs a b (merge_scheme a b) (merged r after)
  landed_says r after w d f num = go a.head refl b.head refl
    where
      row_is : after ≡ row_of (joined a b 1)
      row_is = filled_of 1 after (omega arith) f

      go : (h : List ℕ) → a.head ≡ h → (k : List ℕ) → b.head ≡ k → MergeIs a b (merge_if a b h k) (merged r after)
      go [] e k g = not_both (sym w ∙ ap (λ (s : ℕ). selects s (get_or y 0 0)) (first_a ∙ ap (λ (l : List ℕ). get_or l 0 0) e))
      go (s ∷ α) e [] g = not_both (sym w ∙ ap (selects (get_or x 0 0)) (first_b ∙ ap (λ (l : List ℕ). get_or l 0 0) g) ∙ no_head (get_or x 0 0))
      go (s ∷ α) e (f₁ ∷ []) g =
          rw (sym (meets s f₁ α [] e g) ∙ w)
          (ap₂ merged (num ∙ ap (λ (l : List ℕ). merge_number a.lexical (drop 1 l)) (sym g)) (row_is ∙ ap (λ (h : List ℕ). row_of (record { lexical = false; head = drop 1 h; moving = a.moving ++ b.moving })) e))
      go (s ∷ α) e (f₁ ∷ f₂ ∷ β) g = absurd (small_b.head_set 1 (omega (arith, ap length g)) (sym second_b ∙ d))

  lexical_one : get_or x 6 0 ≡ 1 → First ≡ merge_number a.lexical []
  lexical_one e = go a.lexical (sym (ap (λ (l : List ℕ). get_or l 6 0) ra ∙ flag_at a) ∙ e)
    where
      go : (t : Bool) → flag t ≡ 1 → First ≡ merge_number t []
      go true w = refl
      go false w = let z : ⊥ = omega arith in absurd z

  lexical_not : (get_or x 6 0 ≡ 1 → ⊥) → Second ≡ merge_number a.lexical []
  lexical_not d = go a.lexical (λ w. d (ap (λ (l : List ℕ). get_or l 6 0) ra ∙ flag_at a ∙ w))
    where
      go : (t : Bool) → (flag t ≡ 1 → ⊥) → Second ≡ merge_number t []
      go true w = absurd (w refl)
      go false w = refl

-- what the code answers
module _ (x y : List ℕ) where
  pub says_none : selects (get_or x 0 0) (get_or y 0 0) ≡ false → SaysMerge x y None
  says_none w a b sa sb few ra rb = none_says x y a b sa sb few ra rb w

  pub says_moving : (after : List ℕ) → selects (get_or x 0 0) (get_or y 0 0) ≡ true → (get_or y 1 0 ≡ 0 → ⊥)
      → FilledBy (merge_byte x y (get_or x 7 0) (get_or y 7 0) 0) after → SaysMerge x y (merged Third after)
  says_moving after w d f a b sa sb few ra rb = moving_says x y a b sa sb few ra rb after w d f

  pub says_after_entry : (after : List ℕ) → selects (get_or x 0 0) (get_or y 0 0) ≡ true → get_or y 1 0 ≡ 0
      → FilledBy (merge_byte x y (get_or x 7 0) (get_or y 7 0) 1) after → get_or x 6 0 ≡ 1 → SaysMerge x y (merged First after)
  says_after_entry after w d f k a b sa sb few ra rb = landed_says x y a b sa sb few ra rb First after w d f (lexical_one x y a b sa sb few ra rb k)

  pub says_before : (after : List ℕ) → selects (get_or x 0 0) (get_or y 0 0) ≡ true → get_or y 1 0 ≡ 0
      → FilledBy (merge_byte x y (get_or x 7 0) (get_or y 7 0) 1) after → (get_or x 6 0 ≡ 1 → ⊥) → SaysMerge x y (merged Second after)
  says_before after w d f k a b sa sb few ra rb = landed_says x y a b sa sb few ra rb Second after w d f (lexical_not x y a b sa sb few ra rb k)

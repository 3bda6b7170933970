-- Components whose variables are renumbered, as bytes and as sequences.
-- Assumes nothing.
use mathlib.Core.Path.{◌≡◌, refl, sym, ap, ap₂, ◌∙◌}
use mathlib.Core.List.{List, [], ◌∷◌, map, head-eq_of_cons-eq, tail-eq_of_cons-eq}
use Prim.Native.Nat.{ℕ, zero, suc, ◌+◌, ◌-◌, ◌/◌, ◌%◌, ◌<◌, ◌≤◌}
use native.Mathlib.Omega.{arith}
use native.Mathlib.Decide.{dec_lt}
use lib.ListN.{length, get_or, take, drop, length-map, length-take, length-drop}
use lib.Seq.{get_or-drop}
use Rattle.model.specs.Base.{total}
use Rattle.model.specs.Grammar.{Variable}
use Rattle.model.specs.GrammarFile.{renumbered, decoded, sequences}
use Rattle.doubles.specs.Doubles.{renumber}

-- the first m numbers of a list have the sum of its first n, where those between are 0
pub total_front : (l : List ℕ) (m n : ℕ) → m ≤ n → ((i : ℕ) → m ≤ i → i < n → get_or l i 0 ≡ 0) → total (take m l) ≡ total (take n l)
total_front l zero zero h z = refl
total_front [] zero (suc n) h z = refl
total_front (x ∷ l) zero (suc n) h z = omega (arith, z 0 (omega arith) (omega arith), total_front l zero n (omega arith) (λ i lo hi. z (suc i) (omega arith) (omega arith)))
total_front l (suc m) zero h z = let z : ⊥ = omega arith in absurd z
total_front [] (suc m) (suc n) h z = refl
total_front (x ∷ l) (suc m) (suc n) h z = ap (λ (k : ℕ). x + k) (total_front l m n (omega arith) (λ i lo hi. z (suc i) (omega arith) (omega arith)))

pub map_at : (f : ℕ → ℕ) (l : List ℕ) (i : ℕ) → i < length l → get_or (map f l) i 0 ≡ f (get_or l i 0)
map_at f [] i h = let z : ⊥ = omega arith in absurd z
map_at f (x ∷ l) zero h = refl
map_at f (x ∷ l) (suc i) h = map_at f l i (omega arith)

module _ (order : List ℕ) where
  -- variable by variable
  pub decoded_renumbered : (x y : ℕ) → x ≡ renumbered order y → decoded x ≡ renumber order (decoded y)
  decoded_renumbered x y e =
      let a : x / 4 ≡ get_or order (y / 4) 0 = omega arith in
      let b : x % 4 ≡ y % 4 = omega arith in
      λ i. record { daughter = a i; component = b i }

  pub renumbered_decoded : (x y : ℕ) → decoded x ≡ renumber order (decoded y) → x ≡ renumbered order y
  renumbered_decoded x y e =
      let a : x / 4 ≡ get_or order (y / 4) 0 = ap (λ (v : Variable). v.daughter) e in
      let b : x % 4 ≡ y % 4 = ap (λ (v : Variable). v.component) e in
      omega arith

  -- component by component
  front_renumbered : (n : ℕ) (va vb : List ℕ) → n ≤ length va → n ≤ length vb → ((k : ℕ) → k < n → get_or va k 0 ≡ renumbered order (get_or vb k 0))
      → map decoded (take n va) ≡ map (renumber order) (map decoded (take n vb))
  front_renumbered zero va vb la lb h = refl
  front_renumbered (suc n) [] vb la lb h = let z : ⊥ = omega arith in absurd z
  front_renumbered (suc n) (x ∷ va) [] la lb h = let z : ⊥ = omega arith in absurd z
  front_renumbered (suc n) (x ∷ va) (y ∷ vb) la lb h =
      ap₂ (λ (v : Variable) (vs : List Variable). v ∷ vs) (decoded_renumbered x y (h 0 (omega arith)))
      (front_renumbered n va vb (omega arith) (omega arith) (λ k b. h (suc k) (omega arith)))

  pub sequences_renumbered : (ls va vb : List ℕ) → total ls ≤ length va → total ls ≤ length vb → ((k : ℕ) → k < total ls → get_or va k 0 ≡ renumbered order (get_or vb k 0))
      → sequences ls va ≡ map (map (renumber order)) (sequences ls vb)
  sequences_renumbered [] va vb la lb h = refl
  sequences_renumbered (n ∷ ls) va vb la lb h =
      ap₂ (λ (vs : List Variable) (ss : List (List Variable)). vs ∷ ss) (front_renumbered n va vb (omega arith) (omega arith) (λ k b. h k (omega arith)))
      (sequences_renumbered ls (drop n va) (drop n vb) (omega (arith, length-drop n va)) (omega (arith, length-drop n vb))
      (λ k b. get_or-drop n va k 0 ∙ h (n + k) (omega arith) ∙ ap (renumbered order) (sym (get_or-drop n vb k 0))))

  -- and back
  pub record Renumbered (la lb va vb : List ℕ) : Type 0 where
    pub lengths : la ≡ lb
    pub variables : (k : ℕ) → k < total lb → get_or va k 0 ≡ renumbered order (get_or vb k 0)

  front_back : (n : ℕ) (va vb : List ℕ) → map decoded (take n va) ≡ map (renumber order) (map decoded (take n vb)) → (k : ℕ) → k < n → k < length va → k < length vb
      → get_or va k 0 ≡ renumbered order (get_or vb k 0)
  front_back (suc n) (x ∷ va) (y ∷ vb) e zero h a b = renumbered_decoded x y (head-eq_of_cons-eq e)
  front_back (suc n) (x ∷ va) (y ∷ vb) e (suc k) h a b = front_back n va vb (tail-eq_of_cons-eq e) k (omega arith) (omega arith) (omega arith)
  front_back zero va vb e k h a b = let z : ⊥ = omega arith in absurd z
  front_back (suc n) [] vb e k h a b = let z : ⊥ = omega arith in absurd z
  front_back (suc n) (x ∷ va) [] e k h a b = let z : ⊥ = omega arith in absurd z

  pub sequences_back : (la lb va vb : List ℕ) → length la ≡ length lb → total la ≤ length va → total lb ≤ length vb
      → sequences la va ≡ map (map (renumber order)) (sequences lb vb) → Renumbered la lb va vb
  sequences_back [] [] va vb l ta tb e = record { lengths = refl; variables = λ k h. let z : ⊥ = omega arith in absurd z }
  sequences_back [] (n ∷ lb) va vb l ta tb e = let z : ⊥ = omega arith in absurd z
  sequences_back (m ∷ la) [] va vb l ta tb e = let z : ⊥ = omega arith in absurd z
  sequences_back (m ∷ la) (n ∷ lb) va vb l ta tb e =
      let front = head-eq_of_cons-eq e in
      let sizes = ap length front in
      let s : m ≡ n = omega (arith, simp (length-map, length-take) at sizes) in
      let r = sequences_back la lb (drop m va) (drop n vb) (omega arith) (omega (arith, length-drop m va)) (omega (arith, length-drop n vb)) (tail-eq_of_cons-eq e) in
      record {
        lengths = ap₂ (λ (x : ℕ) (xs : List ℕ). x ∷ xs) s r.lengths;
        variables = λ k h. go m n (omega arith) (omega arith) s front r.variables k h (dec_lt k n);
      }
    where
      go : (m n : ℕ) → n ≤ length va → n ≤ length vb → m ≡ n → map decoded (take m va) ≡ map (renumber order) (map decoded (take n vb))
          → ((k : ℕ) → k < total lb → get_or (drop m va) k 0 ≡ renumbered order (get_or (drop n vb) k 0))
          → (k : ℕ) → k < n + total lb → Dec (k < n) → get_or va k 0 ≡ renumbered order (get_or vb k 0)
      go m n p q s f h k b (yes l) = front_back n va vb (ap (λ (x : ℕ). map decoded (take x va)) (sym s) ∙ f) k l (omega arith) (omega arith)
      go m n p q s f h k b (no l) =
          let i : m + (k - n) ≡ k = omega arith in
          let j : n + (k - n) ≡ k = omega arith in
          ap (λ (x : ℕ). get_or va x 0) (sym i) ∙ sym (get_or-drop m va (k - n) 0) ∙ h (k - n) (omega arith)
          ∙ ap (renumbered order) (get_or-drop n vb (k - n) 0 ∙ ap (λ (x : ℕ). get_or vb x 0) j)

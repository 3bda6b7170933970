-- The grammar made from a lexicon is all that document 01 says of a grammar: dimensions from 1 to 4, and every variable of every daughter once.
-- Assumes nothing.
use Rattle.std.specs.Prelude.{if◌then◌else◌}
use mathlib.Core.Path.{◌≡◌, refl, ap, ap₂, sym, subst, ◌∙◌}
use mathlib.Core.Bool.{Bool, true, false, ◌&&◌, ◌||◌, not}
use mathlib.Core.Option.{none, some}
use mathlib.Core.List.{List, [], ◌∷◌, ◌++◌, map, append-nil, append_assoc}
use Prim.Native.Nat.{ℕ, zero, suc, ◌+◌, ◌≤◌}
use native.Mathlib.Omega.{arith}
use native.Mathlib.Decide.{ℕ_discrete}
use lib.Dec.{T, eqb, eqb→eq}
use lib.ListN.{length, length-append, length-map}
use borrow.Author.Tests.{eq-eqb}
use Rattle.model.specs.Base.{numbers_from}
use Rattle.model.specs.Grammar.{Variable, variable}
use Rattle.model.specs.WellFormed.{Perm, same, more, swap, chain, named}
use Rattle.model.proofs.Tests.{or_l, or_r, not_both, none_some, not_off, within_low, some_one}
use Rattle.model.proofs.Lists.{each_append, length_numbers}
use Rattle.model.proofs.Perm.{perm_move, perm_sym}
use Rattle.minimalist.specs.Lexicon.{Entry, selects, is_licensor}
use Rattle.minimalist.specs.Derivations.{begins}
use Rattle.minimalist.specs.Schemes.{Form, Instance, form_dimension, singles, joined_variables, merge_by, merge_if, merge_scheme, how_many_begin, left_over, moving_after, landing_variable, staying_variable, landing_at, staying, move_by, move_if, move_scheme, no_features, begins_licensee, any_same_first, wrong_moving, Derivable, by_entry, by_merge, by_move}

-- components of one variable each
named_singles : (j c n : ℕ) → named (singles j c n) ≡ map (variable j) (numbers_from c n)
named_singles j c zero = refl
named_singles j c (suc n) = ap (λ (l : List Variable). variable j c ∷ l) (named_singles j (suc c) n)

singles_length : (j c n : ℕ) → length (singles j c n) ≡ n
singles_length j c n = length-map (numbers_from c n) (λ k. variable j k ∷ []) ∙ length_numbers c n

named_append : (a b : List (List Variable)) → named (a ++ b) ≡ named a ++ named b
named_append a b = each_append (λ c. c) a b

-- every variable of daughters of these dimensions
abbrev pub variables_of : ℕ → List ℕ → List Variable
variables_of j [] = []
variables_of j (n ∷ ns) = map (variable j) (numbers_from 0 n) ++ variables_of (suc j) ns

-- an instance is right: as many components as the dimension of its category, and every variable once
pub record RightInstance (ns : List ℕ) (s : Instance) : Type 0 where
  pub components_many : length s.components ≡ form_dimension s.result
  pub complete : Perm (named s.components) (variables_of 0 ns)

module _ (a b : Form) where
  abbrev i : ℕ
  i = length a.moving

  abbrev j : ℕ
  j = length b.moving

  abbrev A : List Variable
  A = map (variable 0) (numbers_from 1 i)

  abbrev B : List Variable
  B = map (variable 1) (numbers_from 1 j)

  rest_named : (c n : ℕ) → named (singles 0 1 i ++ singles 1 c n) ≡ A ++ map (variable 1) (numbers_from c n)
  rest_named c n = named_append (singles 0 1 i) (singles 1 c n) ∙ ap₂ (λ (x y : List Variable). x ++ y) (named_singles 0 1 i) (named_singles 1 c n)

  wanted : variables_of 0 (suc i ∷ suc j ∷ []) ≡ variable 0 0 ∷ (A ++ (variable 1 0 ∷ B))
  wanted = ap (λ (l : List Variable). variable 0 0 ∷ (A ++ l)) (append-nil (variable 1 0 ∷ B))

  joined_complete : (x : Bool) → Perm (named (joined_variables x ∷ (singles 0 1 i ++ singles 1 1 j))) (variable 0 0 ∷ (A ++ (variable 1 0 ∷ B)))
  joined_complete true = chain (same (ap (λ (l : List Variable). variable 0 0 ∷ variable 1 0 ∷ l) (rest_named 1 j))) (more (variable 0 0) (perm_move (variable 1 0) A B))
  joined_complete false =
      chain (same (ap (λ (l : List Variable). variable 1 0 ∷ variable 0 0 ∷ l) (rest_named 1 j)))
      (chain (swap (variable 1 0) (variable 0 0)) (more (variable 0 0) (perm_move (variable 1 0) A B)))

  merge_by_right : (α β : List ℕ) → RightInstance (form_dimension a ∷ form_dimension b ∷ []) (merge_by a b α β)
  merge_by_right α [] =
      record {
        components_many = omega (arith, length-append (singles 0 1 i) (singles 1 1 j), singles_length 0 1 i, singles_length 1 1 j, length-append a.moving b.moving);
        complete = chain (joined_complete a.lexical) (same (sym wanted));
      }
  merge_by_right α (f ∷ β) =
      record {
        components_many = omega (arith, length-append (singles 0 1 i) (singles 1 0 (suc j)), singles_length 0 1 i, singles_length 1 0 (suc j), length-append a.moving ((f ∷ β) ∷ b.moving));
        complete = same (ap (λ (l : List Variable). variable 0 0 ∷ l) (rest_named 0 (suc j)) ∙ sym wanted);
      }

  pub merge_right : (s : Instance) → merge_scheme a b ≡ some s → RightInstance (form_dimension a ∷ form_dimension b ∷ []) s
  merge_right s e = heads a.head b.head e
    where
      tested : (t : Bool) (α β : List ℕ) → (if t then some (merge_by a b α β) else none) ≡ some s → RightInstance (form_dimension a ∷ form_dimension b ∷ []) s
      tested true α β q = subst (RightInstance (form_dimension a ∷ form_dimension b ∷ [])) (some_one q) (merge_by_right α β)
      tested false α β q = none_some (sym q)

      heads : (fs gs : List ℕ) → merge_if a b fs gs ≡ some s → RightInstance (form_dimension a ∷ form_dimension b ∷ []) s
      heads [] gs q = none_some (sym q)
      heads (x ∷ α) [] q = none_some (sym q)
      heads (x ∷ α) (y ∷ β) q = tested (selects x y) α β q

-- move
stays_length : (m k : ℕ) (cs : List (List ℕ)) → length (staying m k cs) ≡ length (moving_after m cs)
stays_length m k [] = refl
stays_length m k (c ∷ cs) = go (begins m c) (stays_length m (suc k) cs)
  where
    first : (d : List ℕ) → length (staying_variable k d ++ singles 0 (suc k) (length cs)) ≡ length (left_over d ++ cs)
    first [] = singles_length 0 (suc k) (length cs)
    first (x ∷ []) = singles_length 0 (suc k) (length cs)
    first (x ∷ f ∷ β) = ap suc (singles_length 0 (suc k) (length cs))

    go : (t : Bool) → length (staying m (suc k) cs) ≡ length (moving_after m cs)
        → length (if t then staying_variable k c ++ singles 0 (suc k) (length cs) else (variable 0 k ∷ []) ∷ staying m (suc k) cs) ≡ length (if t then left_over c ++ cs else c ∷ moving_after m cs)
    go true ih = first c
    go false ih = ap suc ih

moves_complete : (m k : ℕ) (cs : List (List ℕ)) → Perm (landing_at m k cs ++ named (staying m k cs)) (map (variable 0) (numbers_from k (length cs)))
moves_complete m k [] = same refl
moves_complete m k (c ∷ cs) = go (begins m c) refl (moves_complete m (suc k) cs)
  where
    first : (d : List ℕ) → begins m d ≡ true
        → landing_variable k d ++ named (staying_variable k d ++ singles 0 (suc k) (length cs)) ≡ variable 0 k ∷ map (variable 0) (numbers_from (suc k) (length cs))
    first [] e = not_both (sym e)
    first (x ∷ []) e = ap (λ (l : List Variable). variable 0 k ∷ l) (named_singles 0 (suc k) (length cs))
    first (x ∷ f ∷ β) e = ap (λ (l : List Variable). variable 0 k ∷ l) (named_singles 0 (suc k) (length cs))

    go : (t : Bool) → begins m c ≡ t → Perm (landing_at m (suc k) cs ++ named (staying m (suc k) cs)) (map (variable 0) (numbers_from (suc k) (length cs)))
        → Perm ((if t then landing_variable k c else landing_at m (suc k) cs) ++ named (if t then staying_variable k c ++ singles 0 (suc k) (length cs) else (variable 0 k ∷ []) ∷ staying m (suc k) cs))
        (variable 0 k ∷ map (variable 0) (numbers_from (suc k) (length cs)))
    go true e ih = same (first c e)
    go false e ih = chain (perm_sym (perm_move (variable 0 k) (landing_at m (suc k) cs) (named (staying m (suc k) cs)))) (more (variable 0 k) ih)

pub move_right : (a : Form) (s : Instance) → move_scheme a ≡ some s → RightInstance (form_dimension a ∷ []) s
move_right a s e = heads a.head e
  where
    by : (m : ℕ) (α : List ℕ) → RightInstance (form_dimension a ∷ []) (move_by a m α)
    by m α =
        let L = landing_at m 1 a.moving in
        let S = named (staying m 1 a.moving) in
        let all = map (variable 0) (numbers_from 1 (length a.moving)) in
        record {
          components_many = ap suc (stays_length m 1 a.moving);
          complete =
              chain (same (append_assoc L (variable 0 0 ∷ []) S))
              (chain (perm_sym (perm_move (variable 0 0) L S)) (chain (more (variable 0 0) (moves_complete m 1 a.moving)) (same (sym (append-nil (variable 0 0 ∷ all))))));
        }

    tested : (t : Bool) (m : ℕ) (α : List ℕ) → (if t then some (move_by a m α) else none) ≡ some s → RightInstance (form_dimension a ∷ []) s
    tested true m α q = subst (RightInstance (form_dimension a ∷ [])) (some_one q) (by m α)
    tested false m α q = none_some (sym q)

    heads : (fs : List ℕ) → move_if a fs ≡ some s → RightInstance (form_dimension a ∷ []) s
    heads [] q = none_some (sym q)
    heads (p ∷ α) q = tested (is_licensor p && eqb (how_many_begin (p + 16) a.moving) 1) (p + 16) α q

-- at most three moving chains: they begin with different licensees from 49 to 51
at_most_one : (m : ℕ) (cs : List (List ℕ)) → wrong_moving cs ≡ false → how_many_begin m cs ≤ 1
at_most_one m [] w = omega arith
at_most_one m (c ∷ cs) w =
    go (begins m c) refl (at_most_one m cs (or_r (any_same_first c cs) (wrong_moving cs) rest)) (or_l (any_same_first c cs) (wrong_moving cs) rest)
  where
    rest : any_same_first c cs || wrong_moving cs ≡ false
    rest = or_r (not (begins_licensee c)) (any_same_first c cs || wrong_moving cs) w

    none_other : (x : ℕ) (xs : List ℕ) (ds : List (List ℕ)) → m ≡ x → any_same_first (x ∷ xs) ds ≡ false → how_many_begin m ds ≡ 0
    none_other x xs [] e h = refl
    none_other x xs (d ∷ ds) e h =
        let u : begins m d ≡ false = ap (λ (k : ℕ). begins k d) e ∙ or_l (begins x d) (any_same_first (x ∷ xs) ds) h in
        ap (λ (t : Bool). (if t then 1 else 0) + how_many_begin m ds) u ∙ omega (arith, none_other x xs ds e (or_r (begins x d) (any_same_first (x ∷ xs) ds) h))

    first : (c : List ℕ) → begins m c ≡ true → any_same_first c cs ≡ false → how_many_begin m cs ≡ 0
    first [] e h = not_both (sym e)
    first (x ∷ xs) e h = none_other x xs cs (eqb→eq m x (rw e tt)) h

    go : (t : Bool) → begins m c ≡ t → how_many_begin m cs ≤ 1 → any_same_first c cs ≡ false → (if t then 1 else 0) + how_many_begin m cs ≤ 1
    go true e ih h = omega (arith, first c e h)
    go false e ih h = omega arith

three : (cs : List (List ℕ)) → wrong_moving cs ≡ false → length cs ≤ how_many_begin 49 cs + how_many_begin 50 cs + how_many_begin 51 cs
three [] w = omega arith
three (c ∷ cs) w = go c (not_off (begins_licensee c) (or_l (not (begins_licensee c)) (any_same_first c cs || wrong_moving cs) w)) (three cs (or_r (any_same_first c cs) (wrong_moving cs) (or_r (not (begins_licensee c)) (any_same_first c cs || wrong_moving cs) w)))
  where
    go : (c : List ℕ) → T (begins_licensee c) → length cs ≤ how_many_begin 49 cs + how_many_begin 50 cs + how_many_begin 51 cs
        → suc (length cs) ≤ how_many_begin 49 (c ∷ cs) + how_many_begin 50 (c ∷ cs) + how_many_begin 51 (c ∷ cs)
    go [] t ih = absurd t
    go (m ∷ ms) t ih = cases (ℕ_discrete 49 m) (ℕ_discrete 50 m) (ℕ_discrete 51 m)
      where
        cases : Dec (49 ≡ m) → Dec (50 ≡ m) → Dec (51 ≡ m)
            → suc (length cs) ≤ ((if eqb 49 m then 1 else 0) + how_many_begin 49 cs) + ((if eqb 50 m then 1 else 0) + how_many_begin 50 cs) + ((if eqb 51 m then 1 else 0) + how_many_begin 51 cs)
        cases (yes e) f g = rw (eq-eqb 49 m e) (omega arith)
        cases (no d) (yes e) g = rw (eq-eqb 50 m e) (omega arith)
        cases (no d) (no f) (yes e) = rw (eq-eqb 51 m e) (omega arith)
        cases (no d) (no f) (no e) = let (lo, hi) = within_low 49 51 m t in let z : ⊥ = omega arith in absurd z

pub few_moving : (cs : List (List ℕ)) → wrong_moving cs ≡ false → length cs ≤ 3
few_moving cs w = omega (arith, three cs w, at_most_one 49 cs w, at_most_one 50 cs w, at_most_one 51 cs w)

-- so a derivable category has dimension 1 to 4
pub dimension_few : (lexicon : List Entry) (a : Form) → Derivable lexicon a → form_dimension a ≤ 4
dimension_few lexicon a (by_entry e m) = omega arith
dimension_few lexicon c (by_merge a b s p q e f) = omega (arith, few_moving s.result.moving (or_r (no_features s.result.head) (wrong_moving s.result.moving) f))
dimension_few lexicon c (by_move a s p e f) = omega (arith, few_moving s.result.moving (or_r (no_features s.result.head) (wrong_moving s.result.moving) f))

-- The rank of a variable: the rank at which its component begins, plus its position there.
-- Assumes nothing.
use Rattle.std.specs.Prelude.{if◌then◌else◌}
use mathlib.Core.Path.{◌≡◌, refl, sym, ap, ap₂, ◌∙◌}
use mathlib.Core.Bool.{Bool, true, false, ◌&&◌}
use mathlib.Core.List.{List, [], ◌∷◌, ◌++◌, map}
use Prim.Native.Nat.{ℕ, zero, suc, ◌+◌, ◌<◌, ◌≤◌}
use native.Mathlib.Omega.{arith}
use borrow.Author.Tests.{eq-eqb}
use lib.Dec.{eqb, eqb→eq}
use lib.ListN.{length, get_or, length-append, length-map, get_or-append}
use lib.Seq.{get_or-append-add}
use Rattle.model.specs.Base.{sum_below}
use Rattle.model.specs.Grammar.{Variable, variable}
use Rattle.model.specs.WellFormed.{named}
use Rattle.model.proofs.Lists.{map_append}
use Rattle.model.proofs.Sums.{sum_first}
use Rattle.ranking.specs.Ranks.{from_base, variable_ranks, rank_of}

abbrev pub Slot : Type 0
Slot = Variable × ℕ

-- past the end
abbrev pub no_slot : Slot
no_slot = (variable 0 0, 0)

abbrev pub variable_of : Slot → Variable
variable_of s = s.0

base_variables : (r : ℕ) (vs : List Variable) → map variable_of (from_base r vs) ≡ vs
base_variables r [] = refl
base_variables r (v ∷ vs) = ap (λ (l : List Variable). v ∷ l) (base_variables (suc r) vs)

base_length : (r : ℕ) (vs : List Variable) → length (from_base r vs) ≡ length vs
base_length r vs = sym (length-map (from_base r vs) variable_of) ∙ ap length (base_variables r vs)

base_rank : (r : ℕ) (vs : List Variable) (p : ℕ) → p < length vs → (get_or (from_base r vs) p no_slot).1 ≡ r + p
base_rank r [] p h = absurd (omega arith)
base_rank r (v ∷ vs) zero h = omega arith
base_rank r (v ∷ vs) (suc p) h = omega (arith, base_rank (suc r) vs p (omega arith))

-- the variables are those of the components, one after the other
pub ranks_named : (bs : List ℕ) (cs : List (List Variable)) → length cs ≤ length bs → map variable_of (variable_ranks bs cs) ≡ named cs
ranks_named [] [] h = refl
ranks_named [] (vs ∷ cs) h = absurd (omega arith)
ranks_named (b ∷ bs) [] h = refl
ranks_named (b ∷ bs) (vs ∷ cs) h =
    map_append variable_of (from_base b vs) (variable_ranks bs cs)
    ∙ ap₂ (λ (a c : List Variable). a ++ c) (base_variables b vs) (ranks_named bs cs (omega arith))

-- how many variables the first k components have
abbrev pub passed_by : List (List Variable) → ℕ → ℕ
passed_by cs k = sum_below (λ i. length (get_or cs i [])) k

pub named_length : (cs : List (List Variable)) (n : ℕ) → length cs ≤ n → length (named cs) ≡ passed_by cs n
named_length [] zero h = refl
named_length [] (suc n) h = omega (arith, named_length [] n (omega arith))
named_length (vs ∷ cs) zero h = absurd (omega arith)
named_length (vs ∷ cs) (suc n) h =
    omega (arith, length-append vs (named cs), named_length cs n (omega arith), sum_first (λ i. length (get_or (vs ∷ cs) i [])) n)

-- the variable at position p of component k
pub rank_there : (bs : List ℕ) (cs : List (List Variable)) (k p : ℕ) → k < length bs → p < length (get_or cs k [])
    → (get_or (variable_ranks bs cs) (passed_by cs k + p) no_slot).1 ≡ get_or bs k 0 + p
rank_there [] cs k p h l = absurd (omega arith)
rank_there (b ∷ bs) [] k p h l = absurd (omega arith)
rank_there (b ∷ bs) (vs ∷ cs) zero p h l =
    let z : 0 + p ≡ p = omega arith in
    ap (λ (i : ℕ). (get_or (from_base b vs ++ variable_ranks bs cs) i no_slot).1) z
    ∙ ap (λ (s : Slot). s.1) (get_or-append (from_base b vs) (variable_ranks bs cs) no_slot p (omega (arith, base_length b vs)))
    ∙ base_rank b vs p l
rank_there (b ∷ bs) (vs ∷ cs) (suc k) p h l =
    let z : passed_by (vs ∷ cs) (suc k) + p ≡ length (from_base b vs) + (passed_by cs k + p) = omega (arith, base_length b vs, sum_first (λ i. length (get_or (vs ∷ cs) i [])) k) in
    ap (λ (i : ℕ). (get_or (from_base b vs ++ variable_ranks bs cs) i no_slot).1) z
    ∙ ap (λ (s : Slot). s.1) (get_or-append-add (from_base b vs) (variable_ranks bs cs) (passed_by cs k + p) no_slot)
    ∙ rank_there bs cs k p (omega arith) l

-- the first variable that is component c of daughter j gives its rank
abbrev Is : ℕ → ℕ → Slot → Type 0
Is j c s = (s.0.daughter ≡ j) × (s.0.component ≡ c)

pub rank_first : (ss : List Slot) (j c v : ℕ) → v < length ss → Is j c (get_or ss v no_slot) → ((w : ℕ) → w < v → Is j c (get_or ss w no_slot) → ⊥)
    → rank_of ss j c ≡ (get_or ss v no_slot).1
rank_first [] j c v h e n = absurd (omega arith)
rank_first (s ∷ ss) j c zero h e n = rw (eq-eqb s.0.daughter j e.0, eq-eqb s.0.component c e.1)
rank_first (s ∷ ss) j c (suc v) h e n = go (eqb s.0.daughter j) refl (eqb s.0.component c) refl (rank_first ss j c v (omega arith) e (λ w l. n (suc w) (omega arith)))
  where
    go : (a : Bool) → eqb s.0.daughter j ≡ a → (b : Bool) → eqb s.0.component c ≡ b → rank_of ss j c ≡ (get_or ss v no_slot).1
        → (if a && b then s.1 else rank_of ss j c) ≡ (get_or ss v no_slot).1
    go true p true q ih = absurd (n 0 (omega arith) (eqb→eq s.0.daughter j (rw p tt), eqb→eq s.0.component c (rw q tt)))
    go true p false q ih = ih
    go false p b q ih = ih

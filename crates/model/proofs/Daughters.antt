-- The slots of the new predictions are those of the rule's variables.
-- Assumes nothing.
use Rattle.std.specs.Prelude.{if◌then◌else◌}
use mathlib.Core.Path.{◌≡◌, refl, sym, ap, ap₂, ◌∙◌}
use mathlib.Core.Bool.{Bool, true, false}
use mathlib.Core.Option.{Option, none, some}
use mathlib.Core.List.{List, [], ◌∷◌, ◌++◌, map, Memᴰ}
use Prim.Native.Nat.{ℕ, zero, suc, ◌+◌, ◌<◌}
use native.Mathlib.Omega.{arith}
use lib.Dec.{T, eqb, eqb→eq}
use lib.ListN.{length, get_or, length-map}
use Rattle.model.specs.Base.{each, numbers_from}
use Rattle.model.specs.Grammar.{Variable, Rule, Grammar, variable, rule_at, is_lexical, dimension}
use Rattle.model.specs.Step.{Index, Prediction, numbered, indexed, variable_indices, index_of, daughters_from, expand}
use Rattle.model.specs.Tree.{Tree, Forest, node, nil, cons, yield, yields, yield_by, string_of, word_string, has_root, has_roots, root_by}
use Rattle.model.specs.WellFormed.{Perm, same, chain, daughter_variables, named, RightRule, Right}
use Rattle.model.specs.Conversions.{child_at, subtree}
use Rattle.model.proofs.Perm.{perm_map}
use Rattle.model.proofs.Slots.{Slot}
use Rattle.model.proofs.Expand.{zipped, queue_slots, slot_of_var, vars, slot_found}
use Rattle.model.proofs.Once.{Once, rule_once}
use Rattle.model.proofs.Tests.{and_l, and_r}
use Rattle.model.proofs.Lists.{map_append}

-- the variables of the slots
vars_append : (a b : List (Variable × Index)) → vars (a ++ b) ≡ vars a ++ vars b
vars_append [] b = refl
vars_append (x ∷ a) b = ap (λ (l : List Variable). x.0 ∷ l) (vars_append a b)

vars_numbered : (i : Index) (p : ℕ) (vs : List Variable) → vars (numbered i p vs) ≡ vs
vars_numbered i p [] = refl
vars_numbered i p (v ∷ vs) = ap (λ (l : List Variable). v ∷ l) (vars_numbered i (suc p) vs)

vars_indexed : (i : Index) (vs : List Variable) → vars (indexed i vs) ≡ vs
vars_indexed i [] = refl
vars_indexed i (v ∷ []) = refl
vars_indexed i (v ∷ w ∷ vs) = vars_numbered i 0 (v ∷ w ∷ vs)

pub vars_slots : (is : List Index) (cs : List (List Variable)) → length is ≡ length cs → vars (variable_indices is cs) ≡ named cs
vars_slots [] [] e = refl
vars_slots [] (c ∷ cs) e = let z : ⊥ = omega arith in absurd z
vars_slots (i ∷ is) [] e = let z : ⊥ = omega arith in absurd z
vars_slots (i ∷ is) (c ∷ cs) e =
    vars_append (indexed i c) (variable_indices is cs) ∙ cc (vars_indexed i c, vars_slots is cs (omega arith))

-- the slot of a variable, by its index and its string
abbrev pub var_slot : List (Variable × Index) → List (List (List ℕ)) → Variable → Slot
var_slot ss ys v = record { index = index_of ss v.daughter v.component; string = string_of ys v }

same_slots : (ss : List (Variable × Index)) (ys : List (List (List ℕ))) (l : List (Variable × Index))
    → ((s : Variable × Index) → Memᴰ s l → index_of ss s.0.daughter s.0.component ≡ s.1)
    → map (slot_of_var ys) l ≡ map (var_slot ss ys) (vars l)
same_slots ss ys [] h = refl
same_slots ss ys (s ∷ l) h =
    let e : slot_of_var ys s ≡ var_slot ss ys s.0 = ap (λ (i : Index). record { index = i; string = string_of ys s.0 }) (sym (h s (Memᴰ.head refl))) in
    cc (e, same_slots ss ys l (λ t m. h t (Memᴰ.tail m)))

pub slots_vars : (ss : List (Variable × Index)) (ys : List (List (List ℕ))) → Once (vars ss) → map (slot_of_var ys) ss ≡ map (var_slot ss ys) (vars ss)
slots_vars ss ys o = same_slots ss ys ss (λ s m. slot_found ss o s m)

-- indices and strings that are given by a number
zip_numbers : (f : ℕ → Index) (s : ℕ → List ℕ) (a n : ℕ) (ys : List (List ℕ)) → length ys ≡ n → ((c : ℕ) → c < n → get_or ys c [] ≡ s (a + c))
    → zipped (map f (numbers_from a n)) ys ≡ map (λ c. record { index = f c; string = s c }) (numbers_from a n)
zip_numbers f s a zero ys e h = refl
zip_numbers f s a (suc n) [] e h = let z : ⊥ = omega arith in absurd z
zip_numbers f s a (suc n) (y ∷ ys) e h =
    let k : a + 0 ≡ a = omega arith in
    let e₀ : y ≡ s a = h 0 (omega arith) ∙ ap s k in
    let ih = zip_numbers f s (suc a) n ys (omega arith) (λ c l. let m : a + suc c ≡ suc a + c = omega arith in h (suc c) (omega arith) ∙ ap s m) in
    cc (e₀, ih)

module _ (g : Grammar) (right : Right g) where
  yield_by_lem : (o : Option Rule) (c : ℕ) (ys : List (List (List ℕ))) (roots : List ℕ → Bool) → ((rule : Rule) → o ≡ some rule → RightRule g rule)
      → T (root_by o c roots) → length (yield_by o ys) ≡ dimension g c
  yield_by_lem none c ys roots h t = absurd t
  yield_by_lem (some rule) c ys roots h t = go (is_lexical rule) refl (eqb→eq rule.category c (and_l (eqb rule.category c) (roots rule.daughters) t))
    where
      go : (b : Bool) → is_lexical rule ≡ b → rule.category ≡ c
          → length (if b then word_string rule.word ∷ [] else map (λ vs. each (string_of ys) vs) rule.components) ≡ dimension g c
      go true e f = sym ((h rule refl).word_alone e) ∙ ap (dimension g) f
      go false e f = length-map rule.components (λ vs. each (string_of ys) vs) ∙ (h rule refl).components e ∙ ap (dimension g) f

  -- a node has as many strings as its category has components
  pub yield_length : (t : Tree) (c : ℕ) → T (has_root g t c) → length (yield g t) ≡ dimension g c
  yield_length (node r ts) c h = yield_by_lem (rule_at g r) c (yields g ts) (λ categories. has_roots g ts categories) (λ rule e. right.rules r rule e) h

  map_vars : (φ : Variable → Slot) (j : ℕ) (l : List ℕ) → map φ (map (variable j) l) ≡ map (λ c. φ (variable j c)) l
  map_vars φ j [] = refl
  map_vars φ j (c ∷ l) = ap (λ (m : List Slot). φ (variable j c) ∷ m) (map_vars φ j l)

  -- the daughters from j on: `us` are the trees from there
  daughters_slots : (n : Tree) (ss : List (Variable × Index)) (ys : List (List (List ℕ))) (j : ℕ) (ds : List ℕ) (us : Forest)
      → T (has_roots g us ds)
      → ((k : ℕ) → k < length ds → subtree n (j + k) ≡ child_at us k)
      → ((k : ℕ) → k < length ds → get_or ys (j + k) [] ≡ get_or (yields g us) k [])
      → queue_slots g (daughters_from subtree g n ss j ds) ≡ map (var_slot ss ys) (daughter_variables g j ds)
  daughters_slots n ss ys j [] us h hc hy = refl
  daughters_slots n ss ys j (d ∷ ds) nil h hc hy = absurd h
  daughters_slots n ss ys j (d ∷ ds) (cons u us) h hc hy =
      let k₀ : j + 0 ≡ j = omega arith in
      let c₀ : subtree n j ≡ u = ap (subtree n) (sym k₀) ∙ hc 0 (omega arith) in
      let y₀ : get_or ys j [] ≡ yield g u = ap (λ (k : ℕ). get_or ys k []) (sym k₀) ∙ hy 0 (omega arith) in
      let len : length (yield g u) ≡ dimension g d = yield_length u d (and_l (has_root g u d) (has_roots g us ds) h) in
      let z : zipped (map (index_of ss j) (numbers_from 0 (dimension g d))) (yield g u)
      ≡ map (λ c. var_slot ss ys (variable j c)) (numbers_from 0 (dimension g d))
      = zip_numbers (index_of ss j) (λ c. string_of ys (variable j c)) 0 (dimension g d) (yield g u) len
      (λ c l. let m : c ≡ 0 + c = omega arith in ap₂ (λ (strings : List (List ℕ)) (k : ℕ). get_or strings k []) (sym y₀) m) in
      let ih = daughters_slots n ss ys (suc j) ds us (and_r (has_root g u d) (has_roots g us ds) h)
      (λ k l. let m : suc j + k ≡ j + suc k = omega arith in rw m (hc (suc k) (omega arith)))
      (λ k l. let m : suc j + k ≡ j + suc k = omega arith in rw m (hy (suc k) (omega arith))) in
      let e : zipped (map (index_of ss j) (numbers_from 0 (dimension g d))) (yield g (subtree n j)) ≡ map (var_slot ss ys) (map (variable j) (numbers_from 0 (dimension g d)))
      = rw c₀ (z ∙ sym (map_vars (var_slot ss ys) j (numbers_from 0 (dimension g d)))) in
      cc (e, ih) ∙ sym (map_append (var_slot ss ys) (map (variable j) (numbers_from 0 (dimension g d))) (daughter_variables g (suc j) ds))

  -- the slots of the variables are those of the new predictions
  pub expand_slots : (rule : Rule) (p : Prediction Tree) (r : ℕ) (ts : Forest) → p.node ≡ node r ts → T (has_roots g ts rule.daughters)
      → RightRule g rule → is_lexical rule ≡ false → length p.indices ≡ length rule.components
      → Perm (map (slot_of_var (yields g ts)) (variable_indices p.indices rule.components)) (queue_slots g (expand subtree g rule p))
  expand_slots rule p r ts e h rr l n =
      let ss = variable_indices p.indices rule.components in
      let ys = yields g ts in
      let v : vars ss ≡ named rule.components = vars_slots p.indices rule.components n in
      let o : Once (vars ss) = rw v (rule_once g rule rr l) in
      let d : queue_slots g (expand subtree g rule p) ≡ map (var_slot ss ys) (daughter_variables g 0 rule.daughters)
      = daughters_slots p.node ss ys 0 rule.daughters ts h
      (λ k b. let m : 0 + k ≡ k = omega arith in rw (m, e))
      (λ k b. let m : 0 + k ≡ k = omega arith in rw m) in
      chain (same (slots_vars ss ys o)) (chain (perm_map (var_slot ss ys) (chain (same v) (rr.complete l))) (same (sym d)))

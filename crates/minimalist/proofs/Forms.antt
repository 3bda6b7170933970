-- The forms computed for refusal 31: where at most 63 are found they are just the derivable ones, each once; else there are 64 different derivable ones.
-- Assumes nothing.
use Rattle.std.specs.Prelude.{if◌then◌else◌}
use mathlib.Core.Path.{◌≡◌, refl, ap, ap₂, sym, subst, ◌∙◌}
use mathlib.Core.Logic.{◌⊎◌, inl, inr, ⊎_elim}
use mathlib.Core.Bool.{Bool, true, false, ◌&&◌, ◌||◌}
use mathlib.Core.Option.{Option, none, some}
use mathlib.Core.List.Memᴰ
use mathlib.Core.List.{List, [], ◌∷◌, ◌++◌, map, Memᴰ}
use Prim.Native.Nat.{ℕ, zero, suc, ◌<◌, ◌≤◌}
use native.Mathlib.Omega.{arith}
use lib.Dec.{T, ltb}
use lib.ListN.{length, length-append}
use borrow.Author.Tests.{ltb-true, ltb-false}
use Rattle.model.specs.Base.{each, same_list}
use Rattle.model.specs.Demands.{◌⇔◌}
use Rattle.model.proofs.Tests.{and_l, and_r, and_both, none_some, same_list_lem, list_same, or_cases, or_left, or_right, some_one}
use Rattle.model.proofs.Lists.{mem_left, mem_right, each_in, each_out, map_in, map_out}
use Rattle.minimalist.specs.Once.{Once}
use Rattle.minimalist.specs.Lexicon.{Entry}
use Rattle.minimalist.specs.Schemes.{Form, Instance, merge_scheme, move_scheme, left_out, lexical_form, Derivable, by_entry, by_merge, by_move}
use Rattle.minimalist.specs.Closure.{same_lists, same_bool, same_form, is_among, add_form, add_forms, result_of, results_of, forms_after, forms_of}

-- forms compared
same_lists_lem : (a b : List (List ℕ)) → T (same_lists a b) → a ≡ b
same_lists_lem [] [] t = refl
same_lists_lem [] (y ∷ b) t = absurd t
same_lists_lem (x ∷ a) [] t = absurd t
same_lists_lem (x ∷ a) (y ∷ b) t = ap₂ (λ (z : List ℕ) (l : List (List ℕ)). z ∷ l) (same_list_lem x y (and_l (same_list x y) (same_lists a b) t)) (same_lists_lem a b (and_r (same_list x y) (same_lists a b) t))

lists_same : (a : List (List ℕ)) → T (same_lists a a)
lists_same [] = tt
lists_same (x ∷ a) = and_both (same_list x x) (same_lists a a) (list_same x) (lists_same a)

same_bool_lem : (a b : Bool) → T (same_bool a b) → a ≡ b
same_bool_lem true true t = refl
same_bool_lem true false t = absurd t
same_bool_lem false true t = absurd t
same_bool_lem false false t = refl

bool_same : (a : Bool) → T (same_bool a a)
bool_same true = tt
bool_same false = tt

-- && joins from the left
pub same_form_lem : (a b : Form) → T (same_form a b) → a ≡ b
same_form_lem a b t =
    let u = and_l (same_bool a.lexical b.lexical && same_list a.head b.head) (same_lists a.moving b.moving) t in
    let x = same_bool_lem a.lexical b.lexical (and_l (same_bool a.lexical b.lexical) (same_list a.head b.head) u) in
    let y = same_list_lem a.head b.head (and_r (same_bool a.lexical b.lexical) (same_list a.head b.head) u) in
    let z = same_lists_lem a.moving b.moving (and_r (same_bool a.lexical b.lexical && same_list a.head b.head) (same_lists a.moving b.moving) t) in
    λ i. record { lexical = x i; head = y i; moving = z i }

pub form_same : (a : Form) → T (same_form a a)
form_same a =
    and_both (same_bool a.lexical a.lexical && same_list a.head a.head) (same_lists a.moving a.moving)
    (and_both (same_bool a.lexical a.lexical) (same_list a.head a.head) (bool_same a.lexical) (list_same a.head)) (lists_same a.moving)

pub among_out : (l : List Form) (a : Form) → T (is_among l a) → Memᴰ a l
among_out [] a t = absurd t
among_out (b ∷ l) a t = ⊎_elim (λ u. Memᴰ.head (sym (same_form_lem b a u))) (λ u. Memᴰ.tail (among_out l a u)) (or_cases (same_form b a) (is_among l a) t)

pub among_in : (l : List Form) (a : Form) → Memᴰ a l → T (is_among l a)
among_in [] a x' = elim x' [ ]
among_in (b ∷ l) a (Memᴰ.head e) = or_left (same_form b a) (is_among l a) (subst (λ (z : Form). T (same_form z a)) e (form_same a))
among_in (b ∷ l) a (Memᴰ.tail m) = or_right (same_form b a) (is_among l a) (among_in l a m)

apart_more : (l : List Form) (a : Form) → Once l → (Memᴰ a l → ⊥) → Once (l ++ (a ∷ []))
apart_more [] a p n = ((λ m. elim m [ ]), tt)
apart_more (b ∷ l) a p n = (
  λ m. ⊎_elim (λ i. p.0 i) (λ i. n (Memᴰ.head (sym (Memᴰ.eq_of_singleton i)))) (Memᴰ.append_cases l m),
  apart_more l a p.1 (λ i. n (Memᴰ.tail i)),
)

-- one form more
pub record Added (F G : List Form) (a : Form) : Type 0 where
  pub stay : (x : Form) → Memᴰ x F → Memᴰ x G
  pub from : (x : Form) → Memᴰ x G → Memᴰ x F ⊎ (x ≡ a)
  pub apart : Once F → Once G
  pub there : length G ≤ 63 → Memᴰ a G
  pub change : (G ≡ F) ⊎ (length F < length G)
  pub most : length F ≤ 64 → length G ≤ 64

added : (F : List Form) (a : Form) → Added F (add_form F a) a
added F a = go (is_among F a) refl (ltb 63 (length F)) refl
  where
    go : (b : Bool) → is_among F a ≡ b → (c : Bool) → ltb 63 (length F) ≡ c → Added F (if b || c then F else F ++ (a ∷ [])) a
    go true e c f = record { stay = λ x m. m; from = λ x m. inl m; apart = λ p. p; there = λ l. among_out F a (rw e tt); change = inl refl; most = λ l. l }
    go false e true f =
        record { stay = λ x m. m; from = λ x m. inl m; apart = λ p. p; there = λ l. let z : ⊥ = omega (arith, ltb-true 63 (length F) f) in absurd z; change = inl refl; most = λ l. l }
    go false e false f =
        record {
          stay = λ x m. mem_left (a ∷ []) m;
          from = λ x m. ⊎_elim (λ i. inl i) (λ i. inr (Memᴰ.eq_of_singleton i)) (Memᴰ.append_cases F m);
          apart = λ p. apart_more F a p (λ m. subst T e (among_in F a m));
          there = λ l. mem_right F (Memᴰ.head refl);
          change = inr (omega (arith, length-append F (a ∷ [])));
          most = λ l. omega (arith, length-append F (a ∷ []), ltb-false 63 (length F) f);
        }

-- the forms of a list more
pub record AddedAll (F G l : List Form) : Type 0 where
  pub stay : (x : Form) → Memᴰ x F → Memᴰ x G
  pub from : (x : Form) → Memᴰ x G → Memᴰ x F ⊎ Memᴰ x l
  pub apart : Once F → Once G
  pub there : length G ≤ 63 → (x : Form) → Memᴰ x l → Memᴰ x G
  pub change : (G ≡ F) ⊎ (length F < length G)
  pub most : length F ≤ 64 → length G ≤ 64

longer : (F G : List Form) → (G ≡ F) ⊎ (length F < length G) → length F ≤ length G
longer F G (inl e) = omega (arith, ap length e)
longer F G (inr h) = omega arith

pub added_all : (F l : List Form) → AddedAll F (add_forms F l) l
added_all F [] = record { stay = λ x m. m; from = λ x m. inl m; apart = λ p. p; there = λ h x m. elim m [ ]; change = inl refl; most = λ h. h }
added_all F (a ∷ l) =
    let p = added F a in
    let q = added_all (add_form F a) l in
    record {
      stay = λ x m. q.stay x (p.stay x m);
      from = λ x m. ⊎_elim (λ i. ⊎_elim (λ j. inl j) (λ j. inr (Memᴰ.head j)) (p.from x i)) (λ i. inr (Memᴰ.tail i)) (q.from x m);
      apart = λ r. q.apart (p.apart r);
      there = λ h x m. ⊎_elim (λ e. q.stay x (subst (λ (z : Form). Memᴰ z (add_form F a)) (sym e) (p.there (omega (arith, longer (add_form F a) (add_forms (add_form F a) l) q.change))))) (λ i. q.there h x i) (Memᴰ.cases_cons m);
      change = both p.change q.change;
      most = λ h. q.most (p.most h);
    }
  where
    both : (add_form F a ≡ F) ⊎ (length F < length (add_form F a)) → (add_forms (add_form F a) l ≡ add_form F a) ⊎ (length (add_form F a) < length (add_forms (add_form F a) l))
        → (add_forms (add_form F a) l ≡ F) ⊎ (length F < length (add_forms (add_form F a) l))
    both (inl e) (inl f) = inl (f ∙ e)
    both (inl e) (inr f) = inr (omega (arith, ap length e))
    both (inr e) (inl f) = inr (omega (arith, ap length f))
    both (inr e) (inr f) = inr (omega arith)

-- results
result_out : (o : Option Instance) (x : Form) → Memᴰ x (result_of o) → (s : Instance) × (o ≡ some s) × (left_out s.result ≡ false) × (x ≡ s.result)
result_out none x m = elim m [ ]
result_out (some s) x m = go (left_out s.result) refl m
  where
    go : (b : Bool) → left_out s.result ≡ b → Memᴰ x (if b then [] else s.result ∷ []) → (t : Instance) × (some s ≡ some t) × (left_out t.result ≡ false) × (x ≡ t.result)
    go true e i = elim i [ ]
    go false e i = (s, refl, e, Memᴰ.eq_of_singleton i)

result_in : (o : Option Instance) (s : Instance) → o ≡ some s → left_out s.result ≡ false → Memᴰ s.result (result_of o)
result_in none s e f = none_some (sym e)
result_in (some t) s e f = go (left_out t.result) (ap (λ (z : Instance). left_out z.result) (some_one e) ∙ f)
  where
    go : (b : Bool) → b ≡ false → Memᴰ s.result (if b then [] else t.result ∷ [])
    go true g = let z : ◌≡◌ {A = ℕ} 0 1 = cc in absurd (omega arith)
    go false g = Memᴰ.head (ap (λ (z : Instance). z.result) (sym (some_one e)))

module _ (lexicon : List Entry) where
  abbrev All : List Form → Type 0
  All F = (x : Form) → Memᴰ x F → Derivable lexicon x

  results_derivable : (F : List Form) → All F → All (results_of F)
  results_derivable F h x m =
      let (a, i, j) = each_out (λ a. each (λ b. result_of (merge_scheme a b)) F ++ result_of (move_scheme a)) F m in
      ⊎_elim (λ k. let (b, p, q) = each_out (λ b. result_of (merge_scheme a b)) F k in
      let (s, e, f, y) = result_out (merge_scheme a b) x q in
      subst (Derivable lexicon) (sym y) (by_merge a b s (h a i) (h b p) e f))
      (λ k. let (s, e, f, y) = result_out (move_scheme a) x k in subst (Derivable lexicon) (sym y) (by_move a s (h a i) e f))
      (Memᴰ.append_cases (each (λ b. result_of (merge_scheme a b)) F) j)

  -- the forms after n rounds
  first_all : All (forms_after lexicon 0)
  first_all x m =
      ⊎_elim (λ i. elim i [ ]) (λ i. let (e, p, y) = map_out lexical_form lexicon i in subst (Derivable lexicon) (sym y) (by_entry e p))
      ((added_all [] (map lexical_form lexicon)).from x m)

  pub rounds_derivable : (n : ℕ) → All (forms_after lexicon n)
  rounds_derivable zero x m = first_all x m
  rounds_derivable (suc n) x m =
      ⊎_elim (λ i. rounds_derivable n x i) (λ i. results_derivable (forms_after lexicon n) (rounds_derivable n) x i)
      ((added_all (forms_after lexicon n) (results_of (forms_after lexicon n))).from x m)

  pub rounds_apart : (n : ℕ) → Once (forms_after lexicon n)
  rounds_apart zero = (added_all [] (map lexical_form lexicon)).apart tt
  rounds_apart (suc n) = (added_all (forms_after lexicon n) (results_of (forms_after lexicon n))).apart (rounds_apart n)

  pub rounds_most : (n : ℕ) → length (forms_after lexicon n) ≤ 64
  rounds_most zero = (added_all [] (map lexical_form lexicon)).most (omega arith)
  rounds_most (suc n) = (added_all (forms_after lexicon n) (results_of (forms_after lexicon n))).most (rounds_most n)

  -- a round that changes nothing is the last
  abbrev Still : ℕ → Type 0
  Still n = forms_after lexicon (suc n) ≡ forms_after lexicon n

  still_next : (n : ℕ) → Still n → Still (suc n)
  still_next n e = ap (λ (F : List Form). add_forms F (results_of F)) e

  progress : 1 ≤ length (forms_after lexicon 0) → (n : ℕ) → (n < length (forms_after lexicon n)) ⊎ Still n
  progress h zero = inl (omega arith)
  progress h (suc n) = go (progress h n) (added_all (forms_after lexicon n) (results_of (forms_after lexicon n))).change
    where
      go : (n < length (forms_after lexicon n)) ⊎ Still n → (forms_after lexicon (suc n) ≡ forms_after lexicon n) ⊎ (length (forms_after lexicon n) < length (forms_after lexicon (suc n)))
          → (suc n < length (forms_after lexicon (suc n))) ⊎ Still (suc n)
      go a (inl e) = inr (still_next n e)
      go (inl a) (inr f) = inl (omega arith)
      go (inr e) (inr f) = inr (still_next n e)

  first_some : (e : Entry) (l : List Entry) → lexicon ≡ e ∷ l → 1 ≤ length (forms_after lexicon 0)
  first_some e l q =
      let m = added_all [] (map lexical_form lexicon) in
      go (length (forms_after lexicon 0)) refl
    where
      some_length : (F : List Form) (x : Form) → Memᴰ x F → 1 ≤ length F
      some_length [] x i = elim i [ ]
      some_length (y ∷ F) x i = omega arith

      go : (k : ℕ) → length (forms_after lexicon 0) ≡ k → 1 ≤ length (forms_after lexicon 0)
      go zero f =
          some_length (forms_after lexicon 0) (lexical_form e)
          ((added_all [] (map lexical_form lexicon)).there (omega arith) (lexical_form e) (map_in lexical_form (subst (λ (z : List Entry). Memᴰ e z) (sym q) (Memᴰ.head refl))))
      go (suc k) f = omega arith

  stays : (n : ℕ) (x : Form) → Memᴰ x (forms_after lexicon 0) → Memᴰ x (forms_after lexicon n)
  stays zero x m = m
  stays (suc n) x m = (added_all (forms_after lexicon n) (results_of (forms_after lexicon n))).stay x (stays n x m)

  shorter : (n : ℕ) → length (forms_after lexicon 0) ≤ length (forms_after lexicon n)
  shorter zero = omega arith
  shorter (suc n) = omega (arith, shorter n, longer (forms_after lexicon n) (forms_after lexicon (suc n)) (added_all (forms_after lexicon n) (results_of (forms_after lexicon n))).change)

  -- after a round that changes nothing, with at most 63 forms, none is missing
  module _ (n : ℕ) (still : Still n) (few : length (forms_after lexicon n) ≤ 63) where
    closed : (x : Form) → Memᴰ x (results_of (forms_after lexicon n)) → Memᴰ x (forms_after lexicon n)
    closed x m =
        subst (λ (F : List Form). Memᴰ x F) still
        ((added_all (forms_after lexicon n) (results_of (forms_after lexicon n))).there (subst (λ (F : List Form). length F ≤ 63) (sym still) few) x m)

    all_found : (a : Form) → Derivable lexicon a → Memᴰ a (forms_after lexicon n)
    all_found a (by_entry e m) = stays n (lexical_form e) ((added_all [] (map lexical_form lexicon)).there (omega (arith, shorter n)) (lexical_form e) (map_in lexical_form m))
    all_found c (by_merge a b s p q e f) =
        closed s.result
        (each_in (λ a. each (λ b. result_of (merge_scheme a b)) (forms_after lexicon n) ++ result_of (move_scheme a)) (all_found a p)
        (mem_left (result_of (move_scheme a)) (each_in (λ b. result_of (merge_scheme a b)) (all_found b q) (result_in (merge_scheme a b) s e f))))
    all_found c (by_move a s p e f) =
        closed s.result
        (each_in (λ a. each (λ b. result_of (merge_scheme a b)) (forms_after lexicon n) ++ result_of (move_scheme a)) (all_found a p)
        (mem_right (each (λ b. result_of (merge_scheme a b)) (forms_after lexicon n)) (result_in (move_scheme a) s e f)))

  still_at : (n : ℕ) → 1 ≤ length (forms_after lexicon 0) → length (forms_after lexicon n) ≤ n → Still n
  still_at n h few = ⊎_elim (λ k. let z : ⊥ = omega arith in absurd z) (λ s. s) (progress h n)

  -- at most 63 forms: just the derivable ones, each once
  found_at : (n : ℕ) → n ≡ 63 → (e : Entry) (l : List Entry) → lexicon ≡ e ∷ l → length (forms_after lexicon n) ≤ n → (a : Form) → Memᴰ a (forms_after lexicon n) ⇔ Derivable lexicon a
  found_at n q e l entries few a = (rounds_derivable n a, all_found n (still_at n (first_some e l entries) few) (omega arith) a)

  pub forms_are : (e : Entry) (l : List Entry) → lexicon ≡ e ∷ l → length (forms_of lexicon) ≤ 63 → (a : Form) → Memᴰ a (forms_of lexicon) ⇔ Derivable lexicon a
  forms_are e l entries few a = found_at 63 refl e l entries few a

  -- else 64 different derivable forms
  pub record TooMany : Type 0 where
    pub forms : List Form
    pub many : length forms ≡ 64
    pub different : Once forms
    pub derivable : (a : Form) → Memᴰ a forms → Derivable lexicon a

  pub too_many : 63 < length (forms_of lexicon) → TooMany
  too_many h = many_at 63 h
    where
      many_at : (n : ℕ) → 63 < length (forms_after lexicon n) → TooMany
      many_at n h = record { forms = forms_after lexicon n; many = omega (arith, rounds_most n); different = rounds_apart n; derivable = rounds_derivable n }

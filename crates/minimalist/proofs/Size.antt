-- Refusal 31 meets just the lexicons whose grammar is no grammar of document 01 by its size, or that derive no start form.
-- Assumes nothing.
use Rattle.std.specs.Prelude.{if◌then◌else◌}
use mathlib.Core.Path.{◌≡◌, refl, ap, sym, subst}
use mathlib.Core.Logic.{◌⊎◌, inl, inr, ⊎_elim}
use mathlib.Core.Bool.{Bool, true, false, ◌||◌, not}
use mathlib.Core.List.Memᴰ
use mathlib.Core.List.{List, [], ◌∷◌, ◌++◌, map, Memᴰ}
use Prim.Native.Nat.{ℕ, zero, suc, ◌<◌, ◌≤◌}
use native.Mathlib.Omega.{arith}
use lib.Dec.{T, ltb, eqb, eqb→eq, ltb→lt}
use lib.ListN.{length, length-append, length-map}
use borrow.Author.Tests.{ltb-true, ltb-false}
use Rattle.model.specs.Grammar.{empty_word}
use Rattle.model.specs.WellFormed.{WellFormed}
use Rattle.model.specs.Demands.{◌⇔◌}
use Rattle.model.proofs.Tests.{or_l, or_r, or_cases, not_both, not_off}
use Rattle.model.proofs.Lists.{mem_left, mem_right, map_in, map_out, each_in}
use Rattle.minimalist.specs.Once.{Once}
use Rattle.minimalist.specs.Lexicon.{Entry}
use Rattle.minimalist.specs.Schemes.{Form, Derivable}
use Rattle.minimalist.specs.Made.{Name, new_start, form, NamedRule, start_form, start_rule, entry_rule, IsCategory, MadeFrom, MoreThan, TooLarge}
use Rattle.minimalist.specs.Closure.{forms_of, is_among, start_rules, scheme_rules, made_rules, too_large}
use Rattle.minimalist.specs.Numbering.{made_by, made_grammar}
use Rattle.minimalist.proofs.FromTrees.{not_start, form_one}
use Rattle.minimalist.proofs.Forms.{forms_are, rounds_apart, TooMany, too_many}
use Rattle.minimalist.proofs.Canonical.{once_map, listed_made, made_listed, rules_once, bool_in, start_in, starts_out, made_grammar_lem}
use Rattle.minimalist.proofs.WellMade.{well_made}

-- different things of a list are no more than the list
module _ {A : Type 0} where
  record Split (x : A) (m : List A) : Type 0 where
    pub front : List A
    pub back : List A
    pub is : m ≡ front ++ (x ∷ back)

  split : (x : A) (m : List A) → Memᴰ x m → Split x m
  split x [] x'' = elim x'' [ ]
  split x (y ∷ m) (Memᴰ.head e) = record { front = []; back = m; is = ap (λ (z : A). z ∷ m) (sym e) }
  split x (y ∷ m) (Memᴰ.tail i) = let s = split x m i in record { front = y ∷ s.front; back = s.back; is = ap (λ (l : List A). y ∷ l) s.is }

  pub no_more : (l m : List A) → Once l → ((x : A) → Memᴰ x l → Memᴰ x m) → length l ≤ length m
  no_more [] m p h = omega arith
  no_more (x ∷ l) m p h =
      let s = split x m (h x (Memᴰ.head refl)) in
      let k = no_more l (s.front ++ s.back) p.1 (λ y i. rest s y i (⊎_elim (λ j. inl j) (λ j. inr j) (Memᴰ.append_cases s.front (subst (λ (z : List A). Memᴰ y z) s.is (h y (Memᴰ.tail i)))))) in
      omega (arith, k, ap length s.is, length-append s.front (x ∷ s.back), length-append s.front s.back)
    where
      rest : (s : Split x m) (y : A) → Memᴰ y l → Memᴰ y s.front ⊎ Memᴰ y (x ∷ s.back) → Memᴰ y (s.front ++ s.back)
      rest s y i (inl j) = mem_left s.back j
      rest s y i (inr j) = ⊎_elim (λ e. absurd (p.0 (subst (λ (z : A). Memᴰ z l) e i))) (λ k. mem_right s.front k) (Memᴰ.cases_cons j)

-- where 31 does not meet the lexicon, there are at most 256 rules
pub rules_few : (lexicon : List Entry) (start : ℕ) (forms : List Form) → too_large lexicon start forms ≡ false → length (made_rules lexicon start forms) ≤ 256
rules_few lexicon start forms u =
    let many = ltb 256 (length (made_rules lexicon start forms)) in
    ltb-false 256 (length (made_rules lexicon start forms)) (or_r (ltb 63 (length forms)) many (or_l (ltb 63 (length forms) || many) (eqb (length (start_rules start forms)) 0) u))

module _ (lexicon : List Entry) (words start : ℕ) (e₀ : Entry) (l₀ : List Entry) (entries : lexicon ≡ e₀ ∷ l₀) (once : Once lexicon) where
  some_start : (forms : List Form) → ((a : Form) → Memᴰ a forms ⇔ Derivable lexicon a) → Once forms → (x : Bool) → Derivable lexicon (start_form start x) → (length (start_rules start forms) ≡ 0) → ⊥
  some_start forms are apart x d z =
      nonempty (start_rules start forms) (start_rule start x)
      (each_in (λ x. if is_among forms (start_form start x) then start_rule start x ∷ [] else []) (bool_in lexicon words start forms apart are x) (start_in lexicon words start forms apart are x d)) z
    where
      nonempty : (l : List NamedRule) (n : NamedRule) → Memᴰ n l → length l ≡ 0 → ⊥
      nonempty [] n m q = elim m [ ]
      nonempty (y ∷ l) n m q = omega arith

  -- 31: then there are too many categories or rules, or neither start form is derivable
  large_means : T (too_large lexicon start (forms_of lexicon)) → TooLarge lexicon start
  large_means t = at (forms_of lexicon) (rounds_apart lexicon 63) (ltb 63 (length (forms_of lexicon))) refl (forms_are lexicon e₀ l₀ entries) t
    where
      categories : TooMany lexicon → MoreThan 64 (IsCategory lexicon)
      categories t =
          record {
            things = new_start ∷ map form t.forms;
            different = ((λ m. let (a, i, q) = map_out form t.forms m in not_start q), once_map form (λ a b q. form_one q) t.forms t.different);
            are = λ x m. among x (Memᴰ.cases_cons m);
            many = omega (arith, length-map t.forms form, t.many);
          }
        where
          among : (x : Name) → (x ≡ new_start) ⊎ Memᴰ x (map form t.forms) → IsCategory lexicon x
          among x (inl q) = subst (IsCategory lexicon) (sym q) tt
          among x (inr m) = let (a, i, q) = map_out form t.forms m in subst (IsCategory lexicon) (sym q) (t.derivable a i)

      at : (forms : List Form) → Once forms → (b : Bool) → ltb 63 (length (forms_of lexicon)) ≡ b → (length (forms_of lexicon) ≤ 63 → (a : Form) → Memᴰ a forms ⇔ Derivable lexicon a)
          → T ((b || ltb 256 (length (made_rules lexicon start forms))) || eqb (length (start_rules start forms)) 0) → TooLarge lexicon start
      at forms apart true e are u = inl (categories (too_many lexicon (ltb-true 63 (length (forms_of lexicon)) e)))
      at forms apart false e are u =
          let h = are (ltb-false 63 (length (forms_of lexicon)) e) in
          ⊎_elim (λ v. inr (inl (record { things = made_rules lexicon start forms; different = rules_once lexicon words start forms apart h once; are = listed_made lexicon words start forms apart h; many = ltb→lt 256 (length (made_rules lexicon start forms)) v })))
          (λ v. inr (inr (λ x d. some_start forms h apart x d (eqb→eq (length (start_rules start forms)) 0 v))))
          (or_cases (ltb 256 (length (made_rules lexicon start forms))) (eqb (length (start_rules start forms)) 0) u)

  -- what is known where 31 does not meet the lexicon
  record Sized (forms : List Form) : Type 0 where
    pub few : length forms ≤ 63
    pub are : (a : Form) → Memᴰ a forms ⇔ Derivable lexicon a
    pub rules_some : 1 ≤ length (made_rules lexicon start forms)
    pub rules_few : length (made_rules lexicon start forms) ≤ 256
    pub x : Bool
    pub start_form_in : Derivable lexicon (start_form start x)

  sized : (forms : List Form) → forms_of lexicon ≡ forms → Once forms → too_large lexicon start forms ≡ false → Sized forms
  sized forms q apart u =
      let v = or_l (ltb 63 (length forms) || ltb 256 (length (made_rules lexicon start forms))) (eqb (length (start_rules start forms)) 0) u in
      let few : length forms ≤ 63 = ltb-false 63 (length forms) (or_l (ltb 63 (length forms)) (ltb 256 (length (made_rules lexicon start forms))) v) in
      let few₁ : length (forms_of lexicon) ≤ 63 = subst (λ (z : List Form). length z ≤ 63) (sym q) few in
      let are = subst (λ (z : List Form). (a : Form) → Memᴰ a z ⇔ Derivable lexicon a) q (forms_are lexicon e₀ l₀ entries few₁) in
      let some : 1 ≤ length (start_rules start forms) = nonzero (length (start_rules start forms)) (or_r (ltb 63 (length forms) || ltb 256 (length (made_rules lexicon start forms))) (eqb (length (start_rules start forms)) 0) u) in
      let s = first (start_rules start forms) some in
      let (x, p, d) = starts_out lexicon words start forms apart are s.0 s.1 in
      let many = length-append (start_rules start forms) (map entry_rule lexicon ++ scheme_rules forms) in
      record {
        few = few;
        are = are;
        rules_some = omega arith;
        rules_few = rules_few lexicon start forms u;
        x = x;
        start_form_in = d;
      }
    where
      nonzero : (n : ℕ) → eqb n 0 ≡ false → 1 ≤ n
      nonzero zero e = not_both e
      nonzero (suc n) e = omega arith

      first : (l : List NamedRule) → 1 ≤ length l → (n : NamedRule) × Memᴰ n l
      first [] h = let z : ⊥ = omega arith in absurd z
      first (n ∷ l) h = (n, Memᴰ.head refl)

  -- so the test meets every lexicon that is too large
  means_large : TooLarge lexicon start → too_large lexicon start (forms_of lexicon) ≡ false → ⊥
  means_large k t = at (forms_of lexicon) (rounds_apart lexicon 63) (sized (forms_of lexicon) refl (rounds_apart lexicon 63) t) k
    where
      named : (forms : List Form) → ((a : Form) → Memᴰ a forms ⇔ Derivable lexicon a) → (x : Name) → IsCategory lexicon x → Memᴰ x (new_start ∷ map form forms)
      named forms are new_start c = Memᴰ.head refl
      named forms are (form a) c = Memᴰ.tail (map_in form ((are a).1 c))

      at : (forms : List Form) → Once forms → Sized forms → TooLarge lexicon start → ⊥
      at forms apart z (inl m) =
          let h = no_more m.things (new_start ∷ map form forms) m.different (λ x i. named forms z.are x (m.are x i)) in
          omega (arith, h, m.many, z.few, length-map forms form)
      at forms apart z (inr (inl m)) =
          let h = no_more m.things (made_rules lexicon start forms) m.different (λ n i. made_listed lexicon words start forms apart z.are n (m.are n i)) in
          omega (arith, h, m.many, z.rules_few)
      at forms apart z (inr (inr none)) = none z.x z.start_form_in

  -- refusal 31 is what the paper says of it
  pub size_tested : T (too_large lexicon start (forms_of lexicon)) ⇔ TooLarge lexicon start
  size_tested = (large_means, λ k. not_off (too_large lexicon start (forms_of lexicon)) (decided (too_large lexicon start (forms_of lexicon)) (means_large k)))
    where
      decided : (b : Bool) → (b ≡ false → ⊥) → not b ≡ false
      decided true h = refl
      decided false h = absurd (h refl)

  -- where 31 does not meet it, the grammar in that one numbering is made from the lexicon and well-formed
  pub record Fits : Type 0 where
    pub made : MadeFrom lexicon words start (made_grammar lexicon words start)
    pub well : WellFormed (made_grammar lexicon words start)

  pub fits : too_large lexicon start (forms_of lexicon) ≡ false → (1 ≤ words) × (words ≤ 4096) → ((e : Entry) → Memᴰ e lexicon → (e.word < words) ⊎ (e.word ≡ empty_word)) → Fits
  fits t ws es = at (forms_of lexicon) refl (rounds_apart lexicon 63) t
    where
      at : (forms : List Form) → forms_of lexicon ≡ forms → Once forms → too_large lexicon start forms ≡ false → Fits
      at forms q apart u =
          let z = sized forms q apart u in
          record {
            made = made_grammar_lem lexicon words start e₀ l₀ entries once (subst (λ (l : List Form). length l ≤ 63) (sym q) z.few);
            well = subst (λ (l : List Form). WellFormed (made_by lexicon words start l)) (sym q) (well_made lexicon words start forms apart z.are ws es z.few z.rules_some z.rules_few);
          }

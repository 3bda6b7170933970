-- The grammar made from a lexicon, in that one numbering, is well-formed where 30 and 31 do not meet the lexicon.
-- Assumes nothing.
use Rattle.std.specs.Prelude.{if◌then◌else◌}
use mathlib.Core.Path.{◌≡◌, refl, ap, ap₂, sym, subst, ◌∙◌}
use mathlib.Core.Logic.{◌⊎◌, ⊎_elim}
use mathlib.Core.Bool.{Bool, true, false}
use mathlib.Core.Option.{some}
use mathlib.Core.List.Memᴰ
use mathlib.Core.List.{List, [], ◌∷◌, ◌++◌, map, Memᴰ}
use Prim.Native.Nat.{ℕ, zero, suc, ◌<◌, ◌≤◌}
use native.Mathlib.Omega.{arith}
use lib.Dec.{T}
use lib.ListN.{length, get_or, length-map}
use Rattle.model.specs.Base.{numbers_from}
use Rattle.model.specs.Grammar.{Rule, Grammar, variable, rule_at, dimension, empty_word}
use Rattle.model.specs.WellFormed.{same, chain, daughter_variables, RightRule, InRange, WellFormed}
use Rattle.model.specs.Demands.{◌⇔◌}
use Rattle.model.proofs.Tests.{not_both}
use Rattle.minimalist.specs.Once.{Once}
use Rattle.minimalist.specs.Lexicon.{Entry}
use Rattle.minimalist.specs.Schemes.{Form, form_dimension, lexical_form, Derivable, by_entry, by_merge, by_move}
use Rattle.minimalist.specs.Made.{Name, new_start, form, dimension_of, NamedRule, start_form, Made, of_start, of_entry, of_merge, of_move, IsCategory}
use Rattle.minimalist.specs.Closure.{same_form, made_rules}
use Rattle.minimalist.specs.Numbering.{place_of, number_of, numbered_rule, made_by}
use Rattle.minimalist.proofs.Forms.{same_form_lem, form_same}
use Rattle.minimalist.proofs.Canonical.{listed_made, elem_out, elem_map_out}
use Rattle.minimalist.proofs.Right.{variables_of, merge_right, move_right, dimension_few}

record Place (l : List Form) (a : Form) : Type 0 where
  pub below : place_of l a < length l
  pub is : get_or (map form_dimension l) (place_of l a) 0 ≡ form_dimension a

place : (l : List Form) (a : Form) → Memᴰ a l → Place l a
place [] a m = elim m [ ]
place (b ∷ l) a m = go (same_form b a) refl (λ i. place l a i)
  where
    at : (t : Bool) → same_form b a ≡ t → place_of (b ∷ l) a ≡ (if t then 0 else suc (place_of l a))
    at t e = ap (λ (z : Bool). if z then 0 else suc (place_of l a)) e

    go : (t : Bool) → same_form b a ≡ t → (Memᴰ a l → Place l a) → Place (b ∷ l) a
    go true e ih = record { below = omega (arith, at true e); is = ap (λ (k : ℕ). get_or (map form_dimension (b ∷ l)) k 0) (at true e) ∙ ap form_dimension (same_form_lem b a (rw e tt)) }
    go false e ih = ⊎_elim (λ q. let z : T false = subst T e (subst (λ (w : Form). T (same_form w a)) q (form_same a)) in absurd z) later (Memᴰ.cases_cons m)
      where
        later : Memᴰ a l → Place (b ∷ l) a
        later i = let p = ih i in record { below = omega (arith, at false e, p.below); is = ap (λ (k : ℕ). get_or (map form_dimension (b ∷ l)) k 0) (at false e) ∙ p.is }

module _ (lexicon : List Entry) (words start : ℕ) (forms : List Form) (apart : Once forms) (are : (a : Form) → Memᴰ a forms ⇔ Derivable lexicon a)
    (words_in : (1 ≤ words) × (words ≤ 4096)) (entry-words : (e : Entry) → Memᴰ e lexicon → (e.word < words) ⊎ (e.word ≡ empty_word))
    (few : length forms ≤ 63) (rules_some : 1 ≤ length (made_rules lexicon start forms)) (rules_few : length (made_rules lexicon start forms) ≤ 256) where
  abbrev g : Grammar
  g = made_by lexicon words start forms

  dims_many : length g.dimensions ≡ suc (length forms)
  dims_many = ap suc (length-map forms form_dimension)

  number_below : (x : Name) → IsCategory lexicon x → number_of forms x < length g.dimensions
  number_below new_start c = omega arith
  number_below (form a) c = omega (arith, (place forms a ((are a).1 c)).below, dims_many)

  dimension_is : (x : Name) → IsCategory lexicon x → dimension g (number_of forms x) ≡ dimension_of x
  dimension_is new_start c = refl
  dimension_is (form a) c = (place forms a ((are a).1 c)).is

  one_variable : (a : Form) → Derivable lexicon a → daughter_variables g 0 (number_of forms (form a) ∷ []) ≡ variables_of 0 (form_dimension a ∷ [])
  one_variable a d = ap (λ (n : ℕ). map (variable 0) (numbers_from 0 n) ++ []) (dimension_is (form a) d)

  two_variables : (a b : Form) → Derivable lexicon a → Derivable lexicon b
      → daughter_variables g 0 (number_of forms (form a) ∷ number_of forms (form b) ∷ []) ≡ variables_of 0 (form_dimension a ∷ form_dimension b ∷ [])
  two_variables a b d e =
      ap₂ (λ (n m : ℕ). map (variable 0) (numbers_from 0 n) ++ (map (variable 1) (numbers_from 0 m) ++ [])) (dimension_is (form a) d) (dimension_is (form b) e)

  lower : (x : Name) → IsCategory lexicon x → 1 ≤ dimension g (number_of forms x)
  lower new_start c = omega (arith, dimension_is new_start c)
  lower (form a) c = omega (arith, dimension_is (form a) c)

  one_mem : (P : ℕ → Type 0) (x : ℕ) → P x → (d : ℕ) → Memᴰ d (x ∷ []) → P d
  one_mem P x p d m = subst P (sym (Memᴰ.eq_of_singleton m)) p

  two_mem : (P : ℕ → Type 0) (x y : ℕ) → P x → P y → (d : ℕ) → Memᴰ d (x ∷ y ∷ []) → P d
  two_mem P x y p q d m = ⊎_elim (λ e. subst P (sym e) p) (λ i. one_mem P y q d i) (Memᴰ.cases_cons m)

  rule_right : (n : NamedRule) → Made lexicon start n → RightRule g (numbered_rule forms n)
  rule_right n (of_start x d) =
      record {
        word_alone = λ l. not_both (sym l);
        components = λ l. refl;
        complete = λ l. same (sym (one_variable (start_form start x) d));
        inhabited = one_mem (λ c. 1 ≤ dimension g c) (number_of forms (form (start_form start x))) (lower (form (start_form start x)) d);
      }
  rule_right n (of_entry e m) =
      record {
        word_alone = λ l. dimension_is (form (lexical_form e)) (by_entry e m);
        components = λ l. not_both l;
        complete = λ l. not_both l;
        inhabited = λ d i. elim i [ ];
      }
  rule_right n (of_merge a b s p q e f) =
      let r = merge_right a b s e in
      record {
        word_alone = λ l. not_both (sym l);
        components = λ l. r.components_many ∙ sym (dimension_is (form s.result) (by_merge a b s p q e f));
        complete = λ l. chain r.complete (same (sym (two_variables a b p q)));
        inhabited = two_mem (λ c. 1 ≤ dimension g c) (number_of forms (form a)) (number_of forms (form b)) (lower (form a) p) (lower (form b) q);
      }
  rule_right n (of_move a s p e f) =
      let r = move_right a s e in
      record {
        word_alone = λ l. not_both (sym l);
        components = λ l. r.components_many ∙ sym (dimension_is (form s.result) (by_move a s p e f));
        complete = λ l. chain r.complete (same (sym (one_variable a p)));
        inhabited = one_mem (λ c. 1 ≤ dimension g c) (number_of forms (form a)) (lower (form a) p);
      }

  rule_in_range : (n : NamedRule) → Made lexicon start n → InRange g (numbered_rule forms n)
  rule_in_range n (of_start x d) =
      record {
        category_is = number_below new_start tt;
        daughters_few = omega arith;
        daughters_are = one_mem (λ c. c < length g.dimensions) (number_of forms (form (start_form start x))) (number_below (form (start_form start x)) d);
        word_is = λ l. not_both (sym l);
      }
  rule_in_range n (of_entry e m) =
      record {
        category_is = number_below (form (lexical_form e)) (by_entry e m);
        daughters_few = omega arith;
        daughters_are = λ d i. elim i [ ];
        word_is = λ l. entry-words e m;
      }
  rule_in_range n (of_merge a b s p q e f) =
      record {
        category_is = number_below (form s.result) (by_merge a b s p q e f);
        daughters_few = omega arith;
        daughters_are = two_mem (λ c. c < length g.dimensions) (number_of forms (form a)) (number_of forms (form b)) (number_below (form a) p) (number_below (form b) q);
        word_is = λ l. not_both (sym l);
      }
  rule_in_range n (of_move a s p e f) =
      record {
        category_is = number_below (form s.result) (by_move a s p e f);
        daughters_few = omega arith;
        daughters_are = one_mem (λ c. c < length g.dimensions) (number_of forms (form a)) (number_below (form a) p);
        word_is = λ l. not_both (sym l);
      }

  dims_in : (l : List Form) → ((a : Form) → Memᴰ a l → form_dimension a ≤ 4) → (c : ℕ) → c < length (map form_dimension l) → (1 ≤ get_or (map form_dimension l) c 0) × (get_or (map form_dimension l) c 0 ≤ 4)
  dims_in [] h c k = let z : ⊥ = omega arith in absurd z
  dims_in (a ∷ l) h zero k = (omega arith, h a (Memᴰ.head refl))
  dims_in (a ∷ l) h (suc c) k = dims_in l (λ b m. h b (Memᴰ.tail m)) c (omega arith)

  all_dims : (c : ℕ) → c < length g.dimensions → (1 ≤ dimension g c) × (dimension g c ≤ 4)
  all_dims zero h = (omega arith, omega arith)
  all_dims (suc c) h = dims_in forms (λ a m. dimension_few lexicon a ((are a).0 m)) c (omega arith)

  -- a rule of the grammar is one of those listed
  of_listed : (P : Rule → Type 0) → ((n : NamedRule) → Made lexicon start n → P (numbered_rule forms n)) → (r : ℕ) (rule : Rule) → rule_at g r ≡ some rule → P rule
  of_listed P h r rule e =
      let (n, i, q) = elem_map_out (numbered_rule forms) (made_rules lexicon start forms) r rule e in
      subst P q (h n (listed_made lexicon words start forms apart are n (elem_out (made_rules lexicon start forms) r n i)))

  pub well_made : WellFormed g
  well_made =
      let many = length-map (made_rules lexicon start forms) (numbered_rule forms) in
      record {
        categories = (omega (arith, dims_many), omega (arith, dims_many));
        dimensions_are = all_dims;
        start_is = omega (arith, dims_many);
        words_are = words_in;
        rules_are = (omega arith, omega arith);
        ranges = of_listed (InRange g) rule_in_range;
        right = record { start_alone = refl; rules = of_listed (RightRule g) rule_right };
      }

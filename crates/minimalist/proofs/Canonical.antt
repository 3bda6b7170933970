-- The grammar in that one numbering is one made from the lexicon.
-- Assumes nothing.
use Rattle.std.specs.Prelude.{if◌then◌else◌}
use mathlib.Core.Path.{◌≡◌, refl, ap, sym, subst, ◌∙◌}
use mathlib.Core.Logic.{⊎_elim}
use mathlib.Core.Bool.{Bool, true, false}
use mathlib.Core.Option.{Option, none, some}
use mathlib.Core.List.Memᴰ
use mathlib.Core.List.{List, [], ◌∷◌, ◌++◌, map, Memᴰ}
use Prim.Native.Nat.{ℕ, zero, suc, ◌<◌, ◌≤◌}
use native.Mathlib.Omega.{arith}
use lib.Dec.{T}
use lib.ListN.{length, get_or, get_elem?, length-map}
use Rattle.model.specs.Base.{each}
use Rattle.model.specs.Grammar.{Rule}
use Rattle.model.specs.Demands.{◌⇔◌}
use Rattle.model.proofs.Tests.{passes, none_some, not_both, some_one}
use Rattle.model.proofs.Lists.{mem_left, mem_right, each_in, each_out, map_in, map_out}
use Rattle.minimalist.specs.Once.{Once}
use Rattle.minimalist.specs.Lexicon.{Entry}
use Rattle.minimalist.specs.Schemes.{Form, Instance, form_dimension, merge_scheme, move_scheme, left_out, lexical_form, Derivable, by_entry, by_merge, by_move}
use Rattle.minimalist.specs.Made.{Name, new_start, form, dimension_of, NamedRule, start_form, start_rule, entry_rule, merge_rule, move_rule, Made, of_start, of_entry, of_merge, of_move, IsCategory, name_of, named_rule, MadeFrom}
use Rattle.minimalist.specs.Closure.{same_form, is_among, forms_of, rule_if, start_rules, scheme_rules, made_rules}
use Rattle.minimalist.specs.Numbering.{place_of, number_of, numbered_rule, made_by, made_grammar}
use Rattle.minimalist.proofs.FromTrees.{not_start, form_one, cons_head, cons_tail, nil_cons, head_of}
use Rattle.minimalist.proofs.Forms.{same_form_lem, form_same, among_in, among_out, forms_are, rounds_apart}

-- no element twice
module _ {A : Type 0} where
  pub once_append : (a b : List A) → Once a → Once b → ((x : A) → Memᴰ x a → Memᴰ x b → ⊥) → Once (a ++ b)
  once_append [] b p q h = q
  once_append (x ∷ a) b p q h = (
    λ m. ⊎_elim (λ i. p.0 i) (λ i. h x (Memᴰ.head refl) i) (Memᴰ.append_cases a m),
    once_append a b p.1 q (λ y i j. h y (Memᴰ.tail i) j),
  )

  pub elem_in : (l : List A) (x : A) → Memᴰ x l → (k : ℕ) × (get_elem? l k ≡ some x)
  elem_in [] x x3 = elim x3 [ ]
  elem_in (y ∷ l) x (Memᴰ.head e) = (0, ap some (sym e))
  elem_in (y ∷ l) x (Memᴰ.tail m) = let (k, e) = elem_in l x m in (suc k, e)

  pub elem_out : (l : List A) (k : ℕ) (x : A) → get_elem? l k ≡ some x → Memᴰ x l
  elem_out [] k x e = let z : ◌≡◌ {A = ℕ} 0 1 = cc in absurd (omega arith)
  elem_out (y ∷ l) zero x e = Memᴰ.head (sym (some_one e))
  elem_out (y ∷ l) (suc k) x e = Memᴰ.tail (elem_out l k x e)

  pub once_number : (l : List A) → Once l → (r s : ℕ) (x : A) → get_elem? l r ≡ some x → get_elem? l s ≡ some x → r ≡ s
  once_number [] p r s x e f = let z : ◌≡◌ {A = ℕ} 0 1 = cc in absurd (omega arith)
  once_number (y ∷ l) p zero zero x e f = refl
  once_number (y ∷ l) p zero (suc s) x e f = absurd (p.0 (subst (λ (z : A). Memᴰ z l) (sym (some_one e)) (elem_out l s x f)))
  once_number (y ∷ l) p (suc r) zero x e f = absurd (p.0 (subst (λ (z : A). Memᴰ z l) (sym (some_one f)) (elem_out l r x e)))
  once_number (y ∷ l) p (suc r) (suc s) x e f = ap suc (once_number l p.1 r s x e f)

module _ {A B : Type 0} where
  -- joined lists, each element of which tells where it comes from
  once_each : (f : A → List B) (key : B → A → Type 0) → ((x : A) (y : B) → Memᴰ y (f x) → key y x) → ((y : B) (x z : A) → key y x → key y z → x ≡ z)
      → (l : List A) → Once l → ((x : A) → Once (f x)) → Once (each f l)
  once_each f key has one [] p q = tt
  once_each f key has one (x ∷ l) p q =
      once_append (f x) (each f l) (q x) (once_each f key has one l p.1 q)
      (λ y i j. let (z, k, m) = each_out f l j in p.0 (subst (λ (w : A). Memᴰ w l) (one y z x (has z y m) (has x y i)) k))

  pub once_map : (f : A → B) → ((x y : A) → f x ≡ f y → x ≡ y) → (l : List A) → Once l → Once (map f l)
  once_map f inj [] p = tt
  once_map f inj (x ∷ l) p = ((λ m. let (y, i, e) = map_out f l m in p.0 (subst (λ (w : A). Memᴰ w l) (sym (inj x y e)) i)), once_map f inj l p.1)

  pub elem_map_out : (f : A → B) (l : List A) (k : ℕ) (y : B) → get_elem? (map f l) k ≡ some y → (x : A) × (get_elem? l k ≡ some x) × (f x ≡ y)
  elem_map_out f [] k y e = let z : ◌≡◌ {A = ℕ} 0 1 = cc in absurd (omega arith)
  elem_map_out f (x ∷ l) zero y e = (x, refl, some_one e)
  elem_map_out f (x ∷ l) (suc k) y e = elem_map_out f l k y e

  elem_map_in : (f : A → B) (l : List A) (k : ℕ) (x : A) → get_elem? l k ≡ some x → get_elem? (map f l) k ≡ some (f x)
  elem_map_in f [] k x e = let z : ◌≡◌ {A = ℕ} 0 1 = cc in absurd (omega arith)
  elem_map_in f (y ∷ l) zero x e = ap (λ (z : A). some (f z)) (some_one e)
  elem_map_in f (y ∷ l) (suc k) x e = elem_map_in f l k x e

-- places of forms
placed : (l : List Form) (a : Form) → Memᴰ a l → get_or (map form l) (place_of l a) new_start ≡ form a
placed [] a m = elim m [ ]
placed (b ∷ l) a m = go (same_form b a) refl (λ i. placed l a i)
  where
    go : (t : Bool) → same_form b a ≡ t → (Memᴰ a l → get_or (map form l) (place_of l a) new_start ≡ form a) → get_or (map form (b ∷ l)) (if t then 0 else suc (place_of l a)) new_start ≡ form a
    go true e ih = ap form (same_form_lem b a (rw e tt))
    go false e ih = ⊎_elim (λ q. let z : T false = subst T e (subst (λ (w : Form). T (same_form w a)) q (form_same a)) in absurd z) ih (Memᴰ.cases_cons m)

names_apart : (l : List Form) → Once l → (c d : ℕ) → c < length (map form l) → d < length (map form l) → get_or (map form l) c new_start ≡ get_or (map form l) d new_start → c ≡ d
names_apart [] p c d h k e = let z : ⊥ = omega arith in absurd z
names_apart (a ∷ l) p zero zero h k e = refl
names_apart (a ∷ l) p zero (suc d) h k e = absurd (p.0 (at l d (omega arith) e))
  where
    at : (l : List Form) (d : ℕ) → d < length (map form l) → form a ≡ get_or (map form l) d new_start → Memᴰ a l
    at [] d h e = let z : ⊥ = omega arith in absurd z
    at (b ∷ l) zero h e = Memᴰ.head (form_one e)
    at (b ∷ l) (suc d) h e = Memᴰ.tail (at l d (omega arith) e)
names_apart (a ∷ l) p (suc c) zero h k e = absurd (p.0 (at l c (omega arith) (sym e)))
  where
    at : (l : List Form) (d : ℕ) → d < length (map form l) → form a ≡ get_or (map form l) d new_start → Memᴰ a l
    at [] d h e = let z : ⊥ = omega arith in absurd z
    at (b ∷ l) zero h e = Memᴰ.head (form_one e)
    at (b ∷ l) (suc d) h e = Memᴰ.tail (at l d (omega arith) e)
names_apart (a ∷ l) p (suc c) (suc d) h k e = ap suc (names_apart l p.1 c d (omega arith) (omega arith) e)

form_at : (l : List Form) (d : ℕ) → d < length (map form l) → (a : Form) × (get_or (map form l) d new_start ≡ form a)
form_at [] d h = let z : ⊥ = omega arith in absurd z
form_at (b ∷ l) zero h = (b, refl)
form_at (b ∷ l) (suc d) h = form_at l d (omega arith)

dimensions_same : (l : List Form) (c : ℕ) → c < length (map form l) → get_or (map form_dimension l) c 0 ≡ dimension_of (get_or (map form l) c new_start)
dimensions_same [] c h = let z : ⊥ = omega arith in absurd z
dimensions_same (a ∷ l) zero h = refl
dimensions_same (a ∷ l) (suc c) h = dimensions_same l c (omega arith)

-- rules of instances
rule_out : (f : Instance → NamedRule) (o : Option Instance) (n : NamedRule) → Memᴰ n (rule_if f o) → (s : Instance) × (o ≡ some s) × (left_out s.result ≡ false) × (n ≡ f s)
rule_out f none n m = elim m [ ]
rule_out f (some s) n m = go (left_out s.result) refl m
  where
    go : (b : Bool) → left_out s.result ≡ b → Memᴰ n (if b then [] else f s ∷ []) → (t : Instance) × (some s ≡ some t) × (left_out t.result ≡ false) × (n ≡ f t)
    go true e i = elim i [ ]
    go false e i = (s, refl, e, Memᴰ.eq_of_singleton i)

rule_in : (f : Instance → NamedRule) (o : Option Instance) (s : Instance) → o ≡ some s → left_out s.result ≡ false → Memᴰ (f s) (rule_if f o)
rule_in f none s e q = none_some (sym e)
rule_in f (some t) s e q = go (left_out t.result) (ap (λ (z : Instance). left_out z.result) (some_one e) ∙ q)
  where
    go : (b : Bool) → b ≡ false → Memᴰ (f s) (if b then [] else f t ∷ [])
    go true h = not_both h
    go false h = Memᴰ.head (ap f (sym (some_one e)))

rule_once : (f : Instance → NamedRule) (o : Option Instance) → Once (rule_if f o)
rule_once f none = tt
rule_once f (some s) = go (left_out s.result)
  where
    go : (b : Bool) → Once (if b then [] else f s ∷ [])
    go true = tt
    go false = ((λ m. elim m [ ]), tt)

module _ (lexicon : List Entry) (words start : ℕ) (forms : List Form) (apart : Once forms) (are : (a : Form) → Memᴰ a forms ⇔ Derivable lexicon a) where
  abbrev names : List Name
  names = new_start ∷ map form forms

  -- the rules listed are those made
  start_out : (n : NamedRule) (x : Bool) → Memᴰ n (if is_among forms (start_form start x) then start_rule start x ∷ [] else []) → (n ≡ start_rule start x) × Derivable lexicon (start_form start x)
  start_out n x m = go (is_among forms (start_form start x)) refl m
    where
      go : (b : Bool) → is_among forms (start_form start x) ≡ b → Memᴰ n (if b then start_rule start x ∷ [] else []) → (n ≡ start_rule start x) × Derivable lexicon (start_form start x)
      go true e i = (Memᴰ.eq_of_singleton i, (are (start_form start x)).0 (among_out forms (start_form start x) (rw e tt)))
      go false e i = elim i [ ]

  abbrev at_form : Form → List NamedRule
  at_form a = each (λ b. rule_if (merge_rule a b) (merge_scheme a b)) forms ++ rule_if (move_rule a) (move_scheme a)

  pub starts_out : (n : NamedRule) → Memᴰ n (start_rules start forms) → (x : Bool) × (n ≡ start_rule start x) × Derivable lexicon (start_form start x)
  starts_out n m =
      let (x, i, j) = each_out (λ x. if is_among forms (start_form start x) then start_rule start x ∷ [] else []) (true ∷ false ∷ []) m in
      let (e, d) = start_out n x j in (x, e, d)

  pub listed_made : (n : NamedRule) → Memᴰ n (made_rules lexicon start forms) → Made lexicon start n
  listed_made n m = ⊎_elim from_start (λ i. ⊎_elim from_entry from_scheme (Memᴰ.append_cases (map entry_rule lexicon) i)) (Memᴰ.append_cases (start_rules start forms) m)
    where
      from_start : Memᴰ n (start_rules start forms) → Made lexicon start n
      from_start i = let (x, e, d) = starts_out n i in subst (Made lexicon start) (sym e) (of_start x d)

      from_entry : Memᴰ n (map entry_rule lexicon) → Made lexicon start n
      from_entry i = let (e, j, q) = map_out entry_rule lexicon i in subst (Made lexicon start) (sym q) (of_entry e j)

      from_scheme : Memᴰ n (scheme_rules forms) → Made lexicon start n
      from_scheme i =
          let (a, j, k) = each_out at_form forms i in
          ⊎_elim (λ l. let (b, p, q) = each_out (λ b. rule_if (merge_rule a b) (merge_scheme a b)) forms l in
          let (s, e, f, y) = rule_out (merge_rule a b) (merge_scheme a b) n q in
          subst (Made lexicon start) (sym y) (of_merge a b s ((are a).0 j) ((are b).0 p) e f))
          (λ l. let (s, e, f, y) = rule_out (move_rule a) (move_scheme a) n l in subst (Made lexicon start) (sym y) (of_move a s ((are a).0 j) e f))
          (Memᴰ.append_cases (each (λ b. rule_if (merge_rule a b) (merge_scheme a b)) forms) k)

  pub start_in : (x : Bool) → Derivable lexicon (start_form start x) → Memᴰ (start_rule start x) (if is_among forms (start_form start x) then start_rule start x ∷ [] else [])
  start_in x d = subst (λ (b : Bool). Memᴰ (start_rule start x) (if b then start_rule start x ∷ [] else [])) (sym (passes (is_among forms (start_form start x)) (among_in forms (start_form start x) ((are (start_form start x)).1 d)))) (Memᴰ.head refl)

  pub bool_in : (x : Bool) → Memᴰ x (true ∷ false ∷ [])
  bool_in true = Memᴰ.head refl
  bool_in false = Memᴰ.tail (Memᴰ.head refl)

  pub made_listed : (n : NamedRule) → Made lexicon start n → Memᴰ n (made_rules lexicon start forms)
  made_listed n (of_start x d) =
      mem_left (map entry_rule lexicon ++ scheme_rules forms) (each_in (λ x. if is_among forms (start_form start x) then start_rule start x ∷ [] else []) (bool_in x) (start_in x d))
  made_listed n (of_entry e m) = mem_right (start_rules start forms) (mem_left (scheme_rules forms) (map_in entry_rule m))
  made_listed n (of_merge a b s p q e f) =
      mem_right (start_rules start forms) (mem_right (map entry_rule lexicon)
      (each_in at_form ((are a).1 p) (mem_left (rule_if (move_rule a) (move_scheme a)) (each_in (λ b. rule_if (merge_rule a b) (merge_scheme a b)) ((are b).1 q) (rule_in (merge_rule a b) (merge_scheme a b) s e f)))))
  made_listed n (of_move a s p e f) =
      mem_right (start_rules start forms) (mem_right (map entry_rule lexicon)
      (each_in at_form ((are a).1 p) (mem_right (each (λ b. rule_if (merge_rule a b) (merge_scheme a b)) forms) (rule_in (move_rule a) (move_scheme a) s e f))))

  -- each once
  abbrev first_name : NamedRule → Form → Type 0
  first_name n a = (ns : List Name) × (n.daughters ≡ form a ∷ ns)

  merge_once : (a : Form) → Once (each (λ b. rule_if (merge_rule a b) (merge_scheme a b)) forms)
  merge_once a =
      once_each (λ b. rule_if (merge_rule a b) (merge_scheme a b)) (λ n b. n.daughters ≡ form a ∷ form b ∷ [])
      (λ b n m. let (s, e, f, y) = rule_out (merge_rule a b) (merge_scheme a b) n m in ap (λ (z : NamedRule). z.daughters) y)
      (λ n b c p q. form_one (cons_head (cons_tail (sym p ∙ q)))) forms apart (λ b. rule_once (merge_rule a b) (merge_scheme a b))

  at_once : (a : Form) → Once (at_form a)
  at_once a =
      once_append (each (λ b. rule_if (merge_rule a b) (merge_scheme a b)) forms) (rule_if (move_rule a) (move_scheme a)) (merge_once a) (rule_once (move_rule a) (move_scheme a))
      (λ n i j.
      let (b, p, q) = each_out (λ b. rule_if (merge_rule a b) (merge_scheme a b)) forms i in
      let (s, e, f, y) = rule_out (merge_rule a b) (merge_scheme a b) n q in
      let (t, k, l, z) = rule_out (move_rule a) (move_scheme a) n j in
      nil_cons (cons_tail (sym (ap (λ (w : NamedRule). w.daughters) z) ∙ ap (λ (w : NamedRule). w.daughters) y)))

  at_first : (a : Form) (n : NamedRule) → Memᴰ n (at_form a) → first_name n a
  at_first a n m =
      ⊎_elim (λ i. let (b, p, q) = each_out (λ b. rule_if (merge_rule a b) (merge_scheme a b)) forms i in
      let (s, e, f, y) = rule_out (merge_rule a b) (merge_scheme a b) n q in (form b ∷ [], ap (λ (w : NamedRule). w.daughters) y))
      (λ i. let (s, e, f, y) = rule_out (move_rule a) (move_scheme a) n i in ([], ap (λ (w : NamedRule). w.daughters) y))
      (Memᴰ.append_cases (each (λ b. rule_if (merge_rule a b) (merge_scheme a b)) forms) m)

  schemes_once : Once (scheme_rules forms)
  schemes_once = once_each at_form first_name at_first (λ n a b p q. form_one (cons_head (sym p.1 ∙ q.1))) forms apart at_once

  starts_once : Once (start_rules start forms)
  starts_once =
      once_each (λ x. if is_among forms (start_form start x) then start_rule start x ∷ [] else []) (λ n x. n ≡ start_rule start x)
      (λ x n m. (start_out n x m).0)
      (λ n x y p q. ap (λ (z : Form). z.lexical) (form_one (cons_head (ap (λ (w : NamedRule). w.daughters) (sym p ∙ q)))))
      (true ∷ false ∷ []) ((λ m. not_both (Memᴰ.eq_of_singleton m)), ((λ m. elim m [ ]), tt))
      (λ x. one (is_among forms (start_form start x)) x)
    where
      one : (b x : Bool) → Once (if b then start_rule start x ∷ [] else [])
      one true x = ((λ m. elim m [ ]), tt)
      one false x = tt

  entry_one : (e f : Entry) → entry_rule e ≡ entry_rule f → e ≡ f
  entry_one e f q =
      let w : e.word ≡ f.word = ap (λ (n : NamedRule). n.word) q in
      let h : e.features ≡ f.features = ap (λ (n : NamedRule). head_of n.category) q in
      λ i. record { word = w i; features = h i }

  pub rules_once : Once lexicon → Once (made_rules lexicon start forms)
  rules_once p =
      once_append (start_rules start forms) (map entry_rule lexicon ++ scheme_rules forms) starts_once
      (once_append (map entry_rule lexicon) (scheme_rules forms) (once_map entry_rule entry_one lexicon p) schemes_once
      (λ n i j.
      let (e, k, y) = map_out entry_rule lexicon i in
      let (a, l, m) = each_out at_form forms j in
      let (ns, z) = at_first a n m in
      nil_cons (sym (ap (λ (w : NamedRule). w.daughters) y) ∙ z)))
      (λ n i j.
      let (x, y, d) = starts_out n i in
      ⊎_elim (λ k. let (e, l, z) = map_out entry_rule lexicon k in not_start (sym (ap (λ (w : NamedRule). w.category) y) ∙ ap (λ (w : NamedRule). w.category) z))
      (λ k.
      let (a, l, m) = each_out at_form forms k in
      ⊎_elim (λ o. let (b, p, q) = each_out (λ b. rule_if (merge_rule a b) (merge_scheme a b)) forms o in
      let (s, e, f, z) = rule_out (merge_rule a b) (merge_scheme a b) n q in not_start (sym (ap (λ (w : NamedRule). w.category) y) ∙ ap (λ (w : NamedRule). w.category) z))
      (λ o. let (s, e, f, z) = rule_out (move_rule a) (move_scheme a) n o in not_start (sym (ap (λ (w : NamedRule). w.category) y) ∙ ap (λ (w : NamedRule). w.category) z))
      (Memᴰ.append_cases (each (λ b. rule_if (merge_rule a b) (merge_scheme a b)) forms) m))
      (Memᴰ.append_cases (map entry_rule lexicon) j))

  -- the numbers of names
  name_back : (x : Name) → IsCategory lexicon x → name_of names (number_of forms x) ≡ x
  name_back new_start c = refl
  name_back (form a) c = placed forms a ((are a).1 c)

  rule_back : (n : NamedRule) → Made lexicon start n → named_rule names (numbered_rule forms n) ≡ n
  rule_back n (of_start x d) = λ i. record { category = new_start; daughters = name_back (form (start_form start x)) d i ∷ []; word = 0; components = (start_rule start x).components }
  rule_back n (of_entry e m) = λ i. record { category = name_back (form (lexical_form e)) (by_entry e m) i; daughters = []; word = e.word; components = [] }
  rule_back n (of_merge a b s p q e f) =
      λ i. record {
        category = name_back (form s.result) (by_merge a b s p q e f) i;
        daughters = name_back (form a) p i ∷ name_back (form b) q i ∷ [];
        word = 0;
        components = s.components;
      }
  rule_back n (of_move a s p e f) = λ i. record { category = name_back (form s.result) (by_move a s p e f) i; daughters = name_back (form a) p i ∷ []; word = 0; components = s.components }

  pub made_from : Once lexicon → MadeFrom lexicon words start (made_by lexicon words start forms)
  made_from once =
      record {
        names = names;
        one_each = ap suc (length-map forms form ∙ sym (length-map forms form_dimension));
        names_differ = differ;
        names_are = among;
        start_is = refl;
        words_is = refl;
        dimensions_are = dims;
        rules_sound = λ r rule e.
            let (n, i, q) = elem_map_out (numbered_rule forms) (made_rules lexicon start forms) r rule e in
            let m = listed_made n (elem_out (made_rules lexicon start forms) r n i) in
            subst (Made lexicon start) (sym (ap (named_rule names) (sym q) ∙ rule_back n m)) m;
        rules_whole = λ n m.
            let (k, e) = elem_in (made_rules lexicon start forms) n (made_listed n m) in
            record { number = k; rule = numbered_rule forms n; is_rule = elem_map_in (numbered_rule forms) (made_rules lexicon start forms) k n e; named = rule_back n m };
        rules_differ = λ r s rule e f.
            let (n, i, q) = elem_map_out (numbered_rule forms) (made_rules lexicon start forms) r rule e in
            let (m, j, p) = elem_map_out (numbered_rule forms) (made_rules lexicon start forms) s rule f in
            let a = rule_back n (listed_made n (elem_out (made_rules lexicon start forms) r n i)) in
            let b = rule_back m (listed_made m (elem_out (made_rules lexicon start forms) s m j)) in
            let same : n ≡ m = sym a ∙ ap (named_rule names) (q ∙ sym p) ∙ b in
            once_number (made_rules lexicon start forms) (rules_once once) r s n i (j ∙ ap some (sym same));
        weights_are_0 = λ r rule e.
            let (n, i, q) = elem_map_out (numbered_rule forms) (made_rules lexicon start forms) r rule e in ap (λ (z : Rule). z.weight) (sym q);
      }
    where
      differ : (c d : ℕ) → c < length names → d < length names → name_of names c ≡ name_of names d → c ≡ d
      differ zero zero h k e = refl
      differ zero (suc d) h k e = let (a, q) = form_at forms d (omega arith) in not_start (e ∙ q)
      differ (suc c) zero h k e = let (a, q) = form_at forms c (omega arith) in not_start (sym e ∙ q)
      differ (suc c) (suc d) h k e = ap suc (names_apart forms apart c d (omega arith) (omega arith) e)

      dims : (c : ℕ) → c < length names → get_or (1 ∷ map form_dimension forms) c 0 ≡ dimension_of (name_of names c)
      dims zero h = refl
      dims (suc c) h = dimensions_same forms c (omega arith)

      among : (x : Name) → Memᴰ x names ⇔ IsCategory lexicon x
      among new_start = ((λ m. tt), λ c. Memᴰ.head refl)
      among (form a) = (
        λ m. ⊎_elim (λ e. not_start (sym e)) (λ i. let (b, j, q) = map_out form forms i in subst (Derivable lexicon) (sym (form_one q)) ((are b).0 j)) (Memᴰ.cases_cons m),
        λ d. Memᴰ.tail (map_in form ((are a).1 d)),
      )

-- where at most 63 forms are found
pub made_grammar_lem : (lexicon : List Entry) (words start : ℕ) (e : Entry) (l : List Entry) → lexicon ≡ e ∷ l → Once lexicon → length (forms_of lexicon) ≤ 63
    → MadeFrom lexicon words start (made_grammar lexicon words start)
made_grammar_lem lexicon words start e l entries once few =
    made_from lexicon words start (forms_of lexicon) (rounds_apart lexicon 63) (forms_are lexicon e l entries few) once

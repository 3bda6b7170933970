-- No rule of a made grammar is another one with its daughters in some order: refusal 10 meets no made file.
-- Assumes nothing.
use Rattle.std.specs.Prelude.{if◌then◌else◌}
use mathlib.Core.Path.{◌≡◌, refl, ap, ap₂, sym, ◌∙◌}
use mathlib.Core.Logic.{◌⊎◌, inl, inr, ⊎_elim}
use mathlib.Core.Bool.{Bool, true, false}
use mathlib.Core.Option.{none, some}
use mathlib.Core.List.Memᴰ
use mathlib.Core.List.{List, [], ◌∷◌, map}
use Prim.Native.Nat.{ℕ, ◌+◌, ◌≤◌}
use native.Mathlib.Omega.{arith}
use lib.Dec.{T, eqb, eqb→eq}
use lib.ListN.{length, get_or}
use Rattle.model.specs.Base.{numbers_from}
use Rattle.model.specs.Grammar.{Grammar}
use Rattle.model.specs.GrammarFile.{within}
use Rattle.model.specs.WellFormed.{WellFormed, Perm}
use Rattle.model.proofs.Tests.{and_l, and_r, none_some, within_low, some_one}
use Rattle.doubles.specs.Doubles.{NoDoubles}
use Rattle.doubles.proofs.Orders.{order_length, order_low, is_among}
use Rattle.minimalist.specs.Lexicon.{Entry, selects}
use Rattle.minimalist.specs.Schemes.{Form, Instance, merge_by, merge_if, merge_scheme, move_scheme}
use Rattle.minimalist.specs.Made.{Name, NamedRule, start_rule, entry_rule, merge_rule, move_rule, Made, of_start, of_entry, of_merge, of_move, name_of, named_rule, MadeFrom}
use Rattle.minimalist.proofs.FromTrees.{not_start, form_one, cons_head, cons_tail, nil_cons, head_of, same_rule_lem}

-- of a merge the first head begins with the selector of what the second begins with
record Firsts (a b : Form) : Type 0 where
  pub selector : (17 ≤ get_or a.head 0 0) × (get_or a.head 0 0 ≤ 31)
  pub partner : get_or a.head 0 0 ≡ get_or b.head 0 0 + 16

firsts : (a b : Form) (s : Instance) → merge_scheme a b ≡ some s → Firsts a b
firsts a b s e = heads a.head b.head refl refl e
  where
    tested : (t : Bool) (x y : ℕ) (α β : List ℕ) → selects x y ≡ t → (if t then some (merge_by a b α β) else none) ≡ some s → T (selects x y)
    tested true x y α β q i = rw q tt
    tested false x y α β q i = none_some (sym i)

    heads : (fs gs : List ℕ) → a.head ≡ fs → b.head ≡ gs → merge_if a b fs gs ≡ some s → Firsts a b
    heads [] gs p q i = none_some (sym i)
    heads (x ∷ α) [] p q i = none_some (sym i)
    heads (x ∷ α) (y ∷ β) p q i =
        let t = tested (selects x y) x y α β refl i in
        let (lo, hi) = within_low 17 31 x (and_l (within 17 31 x) (eqb x (y + 16)) t) in
        let k = eqb→eq x (y + 16) (and_r (within 17 31 x) (eqb x (y + 16)) t) in
        let u : get_or a.head 0 0 ≡ x = ap (λ (l : List ℕ). get_or l 0 0) p in
        let v : get_or b.head 0 0 ≡ y = ap (λ (l : List ℕ). get_or l 0 0) q in
        record { selector = (omega (arith, u), omega (arith, u)); partner = omega (arith, u, v) }

-- so the daughters of a merge, exchanged, are those of none
no_exchange : (a b : Form) (s t : Instance) → merge_scheme a b ≡ some s → merge_scheme b a ≡ some t → ⊥
no_exchange a b s t e f = let p = firsts a b s e in let q = firsts b a t f in omega (arith, p.selector.0, p.selector.1, p.partner, q.partner, q.selector.0)

module _ (lexicon : List Entry) (words start : ℕ) (g : Grammar) (well : WellFormed g) (made : MadeFrom lexicon words start g) where
  -- category, word and daughters tell a made rule
  same_named : (n m : NamedRule) → Made lexicon start n → Made lexicon start m → n.category ≡ m.category → n.word ≡ m.word → n.daughters ≡ m.daughters → n ≡ m
  same_named n m (of_start x d) (of_start y e) c w q = ap (start_rule start) (ap (λ (a : Form). a.lexical) (form_one (cons_head q)))
  same_named n m (of_start x d) (of_entry y e) c w q = not_start c
  same_named n m (of_start x d) (of_merge a b s h i j k) c w q = not_start c
  same_named n m (of_start x d) (of_move a s h i j) c w q = not_start c
  same_named n m (of_entry x d) (of_start y e) c w q = not_start (sym c)
  same_named n m (of_entry x d) (of_entry y e) c w q =
      let f : x.features ≡ y.features = ap head_of c in
      λ i. entry_rule (record { word = w i; features = f i })
  same_named n m (of_entry x d) (of_merge a b s h i j k) c w q = nil_cons q
  same_named n m (of_entry x d) (of_move a s h i j) c w q = nil_cons q
  same_named n m (of_merge a b s h i j k) (of_start y e) c w q = not_start (sym c)
  same_named n m (of_merge a b s h i j k) (of_entry y e) c w q = nil_cons (sym q)
  same_named n m (of_merge a b s h i j k) (of_merge u v t l o p r) c w q =
      let e = form_one (cons_head q) in
      let f = form_one (cons_head (cons_tail q)) in
      let z : s ≡ t = some_one (sym j ∙ ap₂ merge_scheme e f ∙ p) in
      λ y. merge_rule (e y) (f y) (z y)
  same_named n m (of_merge a b s h i j k) (of_move u t l o p) c w q = nil_cons (sym (cons_tail q))
  same_named n m (of_move a s h i j) (of_start y e) c w q = not_start (sym c)
  same_named n m (of_move a s h i j) (of_entry y e) c w q = nil_cons (sym q)
  same_named n m (of_move a s h i j) (of_merge u v t l o p r) c w q = nil_cons (cons_tail q)
  same_named n m (of_move a s h i j) (of_move u t l o p) c w q =
      let e = form_one (cons_head q) in
      let z : s ≡ t = some_one (sym i ∙ ap move_scheme e ∙ o) in
      λ y. move_rule (e y) (z y)

  -- made rules of two daughters each, which are the same exchanged, there are not
  exchanged : (n m : NamedRule) (x y : Name) → Made lexicon start n → Made lexicon start m → n.daughters ≡ x ∷ y ∷ [] → m.daughters ≡ y ∷ x ∷ [] → ⊥
  exchanged n m x y (of_start k d) v p q = nil_cons (cons_tail p)
  exchanged n m x y (of_entry k d) v p q = nil_cons p
  exchanged n m x y (of_move a s h i j) v p q = nil_cons (cons_tail p)
  exchanged n m x y (of_merge a b s h i j k) (of_start e d) p q = nil_cons (cons_tail q)
  exchanged n m x y (of_merge a b s h i j k) (of_entry e d) p q = nil_cons q
  exchanged n m x y (of_merge a b s h i j k) (of_move u t l o r) p q = nil_cons (cons_tail q)
  exchanged n m x y (of_merge a b s h i j k) (of_merge u v t l o r w) p q =
      let e : b ≡ u = form_one (cons_head (cons_tail p) ∙ sym (cons_head q)) in
      let f : a ≡ v = form_one (cons_head p ∙ sym (cons_head (cons_tail q))) in
      no_exchange a b s t j (ap₂ merge_scheme e f ∙ r)

  few_daughters : (n : NamedRule) (x y z : Name) (l : List Name) → Made lexicon start n → n.daughters ≡ x ∷ y ∷ z ∷ l → ⊥
  few_daughters n x y z l (of_start k d) p = nil_cons (cons_tail p)
  few_daughters n x y z l (of_entry k d) p = nil_cons p
  few_daughters n x y z l (of_merge a b s h i j k) p = nil_cons (cons_tail (cons_tail p))
  few_daughters n x y z l (of_move a s h i j) p = nil_cons (cons_tail p)

  -- the two orders of two
  two_orders : (x y : ℕ) → Perm (x ∷ y ∷ []) (numbers_from 0 2) → ((x ≡ 0) × (y ≡ 1)) ⊎ ((x ≡ 1) × (y ≡ 0))
  two_orders x y p =
      ⊎_elim (λ e. inl (ap (λ (l : List ℕ). get_or l 0 0) e, ap (λ (l : List ℕ). get_or l 1 0) e))
      (λ m. let e = Memᴰ.eq_of_singleton m in inr (ap (λ (l : List ℕ). get_or l 0 0) e, ap (λ (l : List ℕ). get_or l 1 0) e))
      (Memᴰ.cases_cons (is_among 2 (x ∷ y ∷ []) (omega arith) p))

  abbrev names : List ℕ → List Name
  names = map (name_of made.names)

  -- reordered daughters of two made rules are in their old order
  in_order : (n m : NamedRule) → Made lexicon start n → Made lexicon start m → (ds es order : List ℕ) → n.daughters ≡ names ds → m.daughters ≡ names es
      → es ≡ map (λ p. get_or ds p 0) order → Perm order (numbers_from 0 (length ds)) → es ≡ ds
  in_order n m v w [] es [] p q e perm = e
  in_order n m v w [] es (x ∷ o) p q e perm = let z : ⊥ = omega (arith, order_length 0 (x ∷ o) perm) in absurd z
  in_order n m v w (d ∷ []) es [] p q e perm = let z : ⊥ = omega (arith, order_length 1 [] perm) in absurd z
  in_order n m v w (d ∷ []) es (x ∷ []) p q e perm =
      let z : x ≡ 0 = omega (arith, order_low 1 (x ∷ []) perm 0 (omega arith)) in e ∙ ap (λ (k : ℕ). get_or (d ∷ []) k 0 ∷ []) z
  in_order n m v w (d ∷ []) es (x ∷ y ∷ o) p q e perm = let z : ⊥ = omega (arith, order_length 1 (x ∷ y ∷ o) perm) in absurd z
  in_order n m v w (d ∷ k ∷ []) es [] p q e perm = let z : ⊥ = omega (arith, order_length 2 [] perm) in absurd z
  in_order n m v w (d ∷ k ∷ []) es (x ∷ []) p q e perm = let z : ⊥ = omega (arith, order_length 2 (x ∷ []) perm) in absurd z
  in_order n m v w (d ∷ k ∷ []) es (x ∷ y ∷ []) p q e perm =
      ⊎_elim (λ z. e ∙ ap₂ (λ (i j : ℕ). get_or (d ∷ k ∷ []) i 0 ∷ get_or (d ∷ k ∷ []) j 0 ∷ []) z.0 z.1)
      (λ z.
      let f = e ∙ ap₂ (λ (i j : ℕ). get_or (d ∷ k ∷ []) i 0 ∷ get_or (d ∷ k ∷ []) j 0 ∷ []) z.0 z.1 in
      absurd (exchanged n m (name_of made.names d) (name_of made.names k) v w p (q ∙ ap names f)))
      (two_orders x y perm)
  in_order n m v w (d ∷ k ∷ []) es (x ∷ y ∷ i ∷ o) p q e perm = let z : ⊥ = omega (arith, order_length 2 (x ∷ y ∷ i ∷ o) perm) in absurd z
  in_order n m v w (d ∷ k ∷ l ∷ ds) es order p q e perm =
      absurd (few_daughters n (name_of made.names d) (name_of made.names k) (name_of made.names l) (names ds) v p)

  pub no_doubles : NoDoubles g
  no_doubles r s a b i j d =
      let n = named_rule made.names a in
      let m = named_rule made.names b in
      let v = made.rules_sound r a i in
      let w = made.rules_sound s b j in
      let e = in_order n m v w a.daughters b.daughters d.order refl refl d.daughters_are d.is_order in
      let z : n ≡ m = same_named n m v w (ap (name_of made.names) (sym d.category_is)) (sym d.word_is) (ap names (sym e)) in
      (same_rule_lem lexicon words start g well made r s a b i j z).numbers

-- Refusals 6 to 9 do not meet the record of a right rule, and it holds that rule.
-- Assumes nothing.
use Rattle.std.specs.Prelude.{if◌then◌else◌}
use mathlib.Core.Path.{◌≡◌, refl, ap, ap₂, sym, subst, ◌∙◌}
use mathlib.Core.Logic.{◌⊎◌, inl, inr, ⊎_elim}
use mathlib.Core.Bool.{Bool, true, false, ◌&&◌, ◌||◌, not}
use mathlib.Core.List.Memᴰ
use mathlib.Core.List.{List, [], ◌∷◌, ◌++◌, map, append_assoc, Memᴰ}
use Prim.Native.Nat.{ℕ, zero, suc, ◌+◌, ◌-◌, ◌*◌, ◌<◌, ◌≤◌}
use native.Mathlib.Omega.{arith}
use native.Mathlib.Decide.{ℕ_discrete}
use lib.Dec.{T, ltb, leb, eqb}
use lib.ListN.{length, get_or, take, drop, length-append, length-map, take-append-drop}
use lib.Seq.{take_at, drop_at, take-take}
use borrow.Author.Tests.{eq-eqb, ne_eqb, lt-leb, le-ltb, lt-ltb}
use Rattle.model.specs.Base.{numbers_from, any_below, all_below, occurrences, total}
use Rattle.model.specs.Grammar.{Variable, Rule, Grammar, dimension, is_lexical, variable, empty_word}
use Rattle.model.specs.WellFormed.{Perm, same, more, swap, chain, daughter_variables, named, RightRule, InRange, WellFormed}
use Rattle.model.specs.GrammarFile.{all_zero, fields, field, has_daughters, word_of, dimension_in, lengths_of, variables, wrong_category, wrong_word, each_once, wrong_variables, unused_bytes, unused_set, decoded, sequences, rule_of}
use Rattle.model.proofs.Tests.{and_both, or_off, on_not, every_both, all_by, none_by}
use Rattle.model.proofs.Lists.{map_append, map_in, map_out, mem_left, mem_right, mem_get_d, numbers_in}
use Rattle.model.proofs.Perm.{perm_map, perm_length, perm_mem}
use Rattle.model.proofs.Once.{Once, vars_once, vars_length}
use Rattle.model.proofs.Variables.{Distinct, vars_out, decode_code}
use Rattle.grammar_to_file.specs.FileFor.{code_of, record_for}
use Rattle.grammar_to_file.proofs.Records.{at_daughter, daughters_are, word_is, lengths_are, variables_are, past_daughters, past_lengths, past_variables, word_zero, lexical_rest, at_weight}

-- how often a number is in a list
occurrences_perm : (x : ℕ) {l m : List ℕ} → Perm l m → occurrences x l ≡ occurrences x m
occurrences_perm x (same e) = ap (occurrences x) e
occurrences_perm x (more y p) = ap (λ (n : ℕ). (if eqb x y then 1 else 0) + n) (occurrences_perm x p)
occurrences_perm x (swap {l = l} y z) = omega arith
occurrences_perm x (chain p q) = occurrences_perm x p ∙ occurrences_perm x q

not_there : (x : ℕ) (l : List ℕ) → ((y : ℕ) → Memᴰ y l → x ≡ y → ⊥) → occurrences x l ≡ 0
not_there x [] h = refl
not_there x (y ∷ l) h = rw (ne_eqb x y (h y (Memᴰ.head refl))) (omega (arith, not_there x l (λ z m. h z (Memᴰ.tail m))))

there_once : (x : ℕ) (l : List ℕ) → Distinct l → Memᴰ x l → occurrences x l ≡ 1
there_once x [] d m = elim m [ ]
there_once x (y ∷ l) d m = go (ℕ_discrete x y) (λ i. there_once x l d.1 i) (Memᴰ.cases_cons m)
  where
    go : Dec (x ≡ y) → (Memᴰ x l → occurrences x l ≡ 1) → (x ≡ y) ⊎ Memᴰ x l → (if eqb x y then 1 else 0) + occurrences x l ≡ 1
    go (yes e) ih i = rw (eq-eqb x y e) (omega (arith, not_there x l (λ z m f. d.0 z m (sym e ∙ f))))
    go (no e) ih (inl f) = absurd (e f)
    go (no e) ih (inr j) = rw (ne_eqb x y e) (omega (arith, ih j))

-- variables as numbers
codes_distinct : (l : List Variable) → Once l → ((v : Variable) → Memᴰ v l → v.component < 4) → Distinct (map code_of l)
codes_distinct [] o h = tt
codes_distinct (v ∷ l) o h = (
  λ y m e. let (w, i, q) = map_out code_of l m in clash w i (e ∙ q) (h v (Memᴰ.head refl)) (h w (Memᴰ.tail i)),
  codes_distinct l o.1 (λ w m. h w (Memᴰ.tail m)),
)
  where
    clash : (w : Variable) → Memᴰ w l → code_of v ≡ code_of w → v.component < 4 → w.component < 4 → ⊥
    clash w i e a b = o.0 w i (omega arith, omega arith)

decode_list : (l : List Variable) → ((v : Variable) → Memᴰ v l → v.component < 4) → map decoded (map code_of l) ≡ l
decode_list [] h = refl
decode_list (v ∷ l) h = ap₂ (λ (x : Variable) (k : List Variable). x ∷ k) (decode_code v (h v (Memᴰ.head refl))) (decode_list l (λ w m. h w (Memᴰ.tail m)))

sequences_back : (cs : List (List Variable)) (rest : List ℕ) → ((v : Variable) → Memᴰ v (named cs) → v.component < 4) → sequences (map length cs) (map code_of (named cs) ++ rest) ≡ cs
sequences_back [] rest h = refl
sequences_back (c ∷ cs) rest h =
    let q : map code_of (c ++ named cs) ++ rest ≡ map code_of c ++ (map code_of (named cs) ++ rest) = ap (λ (l : List ℕ). l ++ rest) (map_append code_of c (named cs)) ∙ append_assoc (map code_of c) (map code_of (named cs)) rest in
    ap₂ (λ (x : List Variable) (y : List (List Variable)). x ∷ y)
    (ap (λ (l : List ℕ). map decoded (take (length c) l)) q ∙ ap (map decoded) (take_at (map code_of c) (map code_of (named cs) ++ rest) (length c) (length-map c code_of)) ∙ decode_list c (λ v m. h v (mem_left (named cs) m)))
    (ap (λ (l : List ℕ). sequences (map length cs) (drop (length c) l)) q ∙ ap (sequences (map length cs)) (drop_at (map code_of c) (map code_of (named cs) ++ rest) (length c) (length-map c code_of)) ∙ sequences_back cs rest (λ v m. h v (mem_right c m)))

total_lengths : (cs : List (List Variable)) → total (map length cs) ≡ length (named cs)
total_lengths [] = refl
total_lengths (c ∷ cs) = omega (arith, total_lengths cs, length-append c (named cs))

-- every variable of a daughter is among those of all
variable_in : (g : Grammar) (a : ℕ) (ds : List ℕ) (k c : ℕ) → k < length ds → c < dimension g (get_or ds k 0) → (j : ℕ) → j ≡ a + k → Memᴰ (variable j c) (daughter_variables g a ds)
variable_in g a [] k c h l j q = let z : ⊥ = omega arith in absurd z
variable_in g a (d ∷ ds) zero c h l j q =
    mem_left (daughter_variables g (suc a) ds) (subst (λ (x : ℕ). Memᴰ (variable x c) (map (variable a) (numbers_from 0 (dimension g d)))) (omega arith) (map_in (variable a) (numbers_in c 0 (dimension g d) (omega arith) (omega arith))))
variable_in g a (d ∷ ds) (suc k) c h l j q = mem_right (map (variable a) (numbers_from 0 (dimension g d))) (variable_in g (suc a) ds k c (omega arith) l j (omega arith))

total_most : (f : ℕ → ℕ) (l : List ℕ) → ((x : ℕ) → Memᴰ x l → f x ≤ 4) → total (map f l) ≤ 4 * length l
total_most f [] h = omega arith
total_most f (x ∷ l) h = omega (arith, h x (Memᴰ.head refl), total_most f l (λ y m. h y (Memᴰ.tail m)))

mem_total : (x : ℕ) (l : List ℕ) → Memᴰ x l → x ≤ total l
mem_total x [] m = elim m [ ]
mem_total x (y ∷ l) (Memᴰ.head e) = omega arith
mem_total x (y ∷ l) (Memᴰ.tail m) = omega (arith, mem_total x l m)

module _ (g : Grammar) (well : WellFormed g) (rule : Rule) (w : InRange g rule) (rr : RightRule g rule) where
  abbrev dimensions : List ℕ
  dimensions = g.dimensions

  abbrev ds : List ℕ
  ds = rule.daughters

  abbrev e : List ℕ
  e = record_for rule

  dim_few : (c : ℕ) → c < length dimensions → dimension g c ≤ 4
  dim_few c h = (well.dimensions_are c h).1

  -- refusal 6
  pub category_passes : wrong_category dimensions e ≡ false
  category_passes =
      or_off (leb (length dimensions) rule.category || ltb 3 (length ds)) (any_below (λ j. leb (length dimensions) (field e (2 + j))) (length ds))
      (or_off (leb (length dimensions) rule.category) (ltb 3 (length ds)) (lt-leb (length dimensions) rule.category w.category_is) (le-ltb 3 (length ds) w.daughters_few))
      (none_by (λ j. leb (length dimensions) (field e (2 + j))) (length ds)
      (λ j h. lt-leb (length dimensions) (field e (2 + j)) (subst (λ (x : ℕ). x < length dimensions) (sym (at_daughter rule (2 + j) j refl (omega (arith, w.daughters_few)))) (w.daughters_are (get_or ds j 0) (mem_get_d ds 0 j h)))))

  -- with daughters
  module _ (l : is_lexical rule ≡ false) (some_daughter : 0 < length ds) where
    has : has_daughters e ≡ true
    has = lt-ltb 0 (length ds) some_daughter

    abbrev m : ℕ
    m = dimension g rule.category

    abbrev v : ℕ
    v = total (map (dimension g) ds)

    abbrev codes : List ℕ
    codes = map code_of (named rule.components)

    small : (x : Variable) → Memᴰ x (named rule.components) → x.component < 4
    small x i =
        let p = vars_out g 0 ds x (perm_mem (rr.complete l) i) in
        omega (arith, p.comp_in, dim_few (get_or ds p.k 0) (w.daughters_are (get_or ds p.k 0) (mem_get_d ds 0 p.k p.in_range)))

    -- variables and lengths are bytes
    pub codes_small : (x : ℕ) → Memᴰ x codes → x < 256
    codes_small x i =
        let (u, j, q) = map_out code_of (named rule.components) i in
        let p = vars_out g 0 ds u (perm_mem (rr.complete l) j) in
        omega (arith, small u j, p.daughter_is, p.in_range, w.daughters_few)

    pub lengths_small : (x : ℕ) → Memᴰ x (map length rule.components) → x < 256
    lengths_small x i = omega (arith, mem_total x (map length rule.components) i, total_lengths rule.components, perm_length (rr.complete l), vars_length g 0 ds, total_most (dimension g) ds (λ d i. dim_few d (w.daughters_are d i)), w.daughters_few)

    lengths_is : lengths_of dimensions e ≡ map length rule.components
    lengths_is = lengths_are rule m (rr.components l) (dim_few rule.category w.category_is)

    variables_is : variables dimensions e ≡ v
    variables_is = ap (λ (x : List ℕ). total (map (dimension g) x)) (daughters_are rule w.daughters_few)

    codes_many : length codes ≡ v
    codes_many = length-map (named rule.components) code_of ∙ perm_length (rr.complete l) ∙ vars_length g 0 ds

    twelve : v ≤ 12
    twelve = omega (arith, total_most (dimension g) ds (λ d i. dim_few d (w.daughters_are d i)), w.daughters_few)

    fields_is : fields e 11 (variables dimensions e) ≡ codes
    fields_is = ap (fields e 11) variables_is ∙ variables_are rule v codes_many twelve

    once_at : (j c : ℕ) → j < length ds → c < dimension g (get_or ds j 0) → occurrences (4 * j + c) codes ≡ 1
    once_at j c h k =
        let all = daughter_variables g 0 ds in
        occurrences_perm (4 * j + c) (perm_map code_of (rr.complete l))
        ∙ there_once (4 * j + c) (map code_of all)
        (codes_distinct all (vars_once g 0 ds) (λ x i. let p = vars_out g 0 ds x i in omega (arith, p.comp_in, dim_few (get_or ds p.k 0) (w.daughters_are (get_or ds p.k 0) (mem_get_d ds 0 p.k p.in_range)))))
        (map_in code_of (variable_in g 0 ds j c h k j (omega arith)))

    each_once_lem : T (each_once dimensions e)
    each_once_lem =
        all_by (λ j. all_below (λ c. eqb (occurrences (4 * j + c) (fields e 11 (variables dimensions e))) 1) (dimension_in dimensions (field e (2 + j)))) (length ds)
        (λ j h. all_by (λ c. eqb (occurrences (4 * j + c) (fields e 11 (variables dimensions e))) 1) (dimension_in dimensions (field e (2 + j)))
        (λ c k.
        let q : field e (2 + j) ≡ get_or ds j 0 = at_daughter rule (2 + j) j refl (omega (arith, w.daughters_few)) in
        let k' : c < dimension g (get_or ds j 0) = subst (λ (x : ℕ). c < dimension g x) q k in
        rw (eq-eqb (occurrences (4 * j + c) (fields e 11 (variables dimensions e))) 1 (ap (occurrences (4 * j + c)) fields_is ∙ once_at j c h k')) tt))

    -- refusals 7, 8 and 9
    pub word_passes : wrong_word dimensions e g.words ≡ false
    word_passes = ap (λ (b : Bool). if b then false else not (eqb (dimension_in dimensions (field e 0)) 1) || (leb g.words (word_of e) && not (eqb (word_of e) empty_word))) has

    pub variables_pass : wrong_variables dimensions e ≡ false
    variables_pass =
        let sums : total (lengths_of dimensions e) ≡ variables dimensions e = ap total lengths_is ∙ total_lengths rule.components ∙ perm_length (rr.complete l) ∙ vars_length g 0 ds ∙ sym variables_is in
        ap (λ (b : Bool). if b then not (eqb (total (lengths_of dimensions e)) (variables dimensions e) && each_once dimensions e) else false) has
        ∙ on_not (eqb (total (lengths_of dimensions e)) (variables dimensions e) && each_once dimensions e) (and_both (eqb (total (lengths_of dimensions e)) (variables dimensions e)) (each_once dimensions e) (rw (eq-eqb (total (lengths_of dimensions e)) (variables dimensions e) sums) tt) each_once_lem)

    pub unused_passes : rule.word ≡ 0 → unused_set dimensions e ≡ false
    unused_passes z =
        let a = fields e (2 + field e 1) (3 - field e 1) in
        let b = fields e 5 2 in
        let c = fields e (7 + dimension_in dimensions (field e 0)) (4 - dimension_in dimensions (field e 0)) in
        let d = fields e (11 + variables dimensions e) (12 - variables dimensions e) in
        let zd : T (all_zero d) = subst (λ (n : ℕ). T (all_zero (fields e (11 + n) (12 - n)))) (sym variables_is) (past_variables rule v codes_many twelve) in
        let all = every_both (eqb 0) ((a ++ b) ++ c) d (every_both (eqb 0) (a ++ b) c (every_both (eqb 0) a b (past_daughters rule w.daughters_few) (word_zero rule z)) (past_lengths rule m (rr.components l) (dim_few rule.category w.category_is))) zd in
        on_not (all_zero (unused_bytes dimensions e)) (subst (λ (t : Bool). T (all_zero (if t then ((a ++ b) ++ c) ++ d else fields e 2 3 ++ fields e 7 16))) (sym has) all)

    -- the rule that it holds
    pub holds_rule : rule.word ≡ 0 → rule_of dimensions e ≡ rule
    holds_rule z =
        let d = daughters_are rule w.daughters_few in
        let q : word_of e ≡ rule.word = word_is rule (omega arith) in
        let twelve_bytes : fields e 11 12 ≡ codes ++ drop v (fields e 11 12) =
        sym (take-append-drop v (fields e 11 12)) ∙ ap (λ (x : List ℕ). x ++ drop v (fields e 11 12)) (take_fields v 12 twelve ∙ variables_are rule v codes_many twelve) in
        let k : (if has_daughters e then sequences (lengths_of dimensions e) (fields e 11 12) else []) ≡ rule.components =
        ap (λ (t : Bool). if t then sequences (lengths_of dimensions e) (fields e 11 12) else []) has
        ∙ ap₂ sequences lengths_is twelve_bytes ∙ sequences_back rule.components (drop v (fields e 11 12)) small in
        let u = at_weight rule 23 refl in
        λ i. record { category = rule.category; daughters = d i; word = q i; components = k i; weight = u i }
      where
        take_fields : (a b : ℕ) → a ≤ b → take a (fields e 11 b) ≡ fields e 11 a
        take_fields a b h = take-take a b (drop 11 e) h

  -- without daughters
  module _ (l : ds ≡ []) (no_components : rule.components ≡ []) where
    lexical : is_lexical rule ≡ true
    lexical = ap (λ (x : List ℕ). elim x as (λ x. Bool) [ [] ↦ true | d ∷ es ↦ false ]) l

    has_not : has_daughters e ≡ false
    has_not = ap (λ (x : List ℕ). ltb 0 (length x)) l

    small_word : rule.word < 65536
    small_word = ⊎_elim (λ h. omega (arith, well.words_are.1)) (λ h. omega arith) (w.word_is lexical)

    pub word_passes_lexical : wrong_word dimensions e g.words ≡ false
    word_passes_lexical =
        ap (λ (b : Bool). if b then false else not (eqb (dimension_in dimensions (field e 0)) 1) || (leb g.words (word_of e) && not (eqb (word_of e) empty_word))) has_not
        ∙ or_off (not (eqb (dimension g rule.category) 1)) (leb g.words (word_of e) && not (eqb (word_of e) empty_word)) (on_not (eqb (dimension g rule.category) 1) (rw (eq-eqb (dimension g rule.category) 1 (rr.word_alone lexical)) tt))
        (ap (λ (x : ℕ). leb g.words x && not (eqb x empty_word)) (word_is rule small_word) ∙ known (w.word_is lexical))
      where
        known : (rule.word < g.words) ⊎ (rule.word ≡ empty_word) → (leb g.words rule.word && not (eqb rule.word empty_word)) ≡ false
        known (inl h) = ap (λ (b : Bool). b && not (eqb rule.word empty_word)) (lt-leb g.words rule.word h)
        known (inr h) = both (leb g.words rule.word) (ap not (eq-eqb rule.word empty_word h))
          where
            both : (a : Bool) {b : Bool} → b ≡ false → (a && b) ≡ false
            both true q = q
            both false q = refl

    pub variables_pass_lexical : wrong_variables dimensions e ≡ false
    variables_pass_lexical = ap (λ (b : Bool). if b then not (eqb (total (lengths_of dimensions e)) (variables dimensions e) && each_once dimensions e) else false) has_not

    pub unused_passes_lexical : unused_set dimensions e ≡ false
    unused_passes_lexical =
        let a = fields e 2 3 in
        let b = fields e 7 16 in
        let z : T (all_zero a) = subst (λ (n : ℕ). T (all_zero (fields e (2 + n) (3 - n)))) (ap length l) (past_daughters rule w.daughters_few) in
        on_not (all_zero (unused_bytes dimensions e)) (subst (λ (t : Bool). T (all_zero (if t then fields e (2 + field e 1) (3 - field e 1) ++ fields e 5 2 ++ fields e (7 + dimension_in dimensions (field e 0)) (4 - dimension_in dimensions (field e 0)) ++ fields e (11 + variables dimensions e) (12 - variables dimensions e) else a ++ b))) (sym has_not) (every_both (eqb 0) a b z (lexical_rest rule no_components)))

    pub holds_lexical : rule_of dimensions e ≡ rule
    holds_lexical =
        let d = daughters_are rule w.daughters_few in
        let q = word_is rule small_word in
        let k : (if has_daughters e then sequences (lengths_of dimensions e) (fields e 11 12) else []) ≡ rule.components = ap (λ (t : Bool). if t then sequences (lengths_of dimensions e) (fields e 11 12) else []) has_not ∙ sym no_components in
        let u = at_weight rule 23 refl in
        λ i. record { category = rule.category; daughters = d i; word = q i; components = k i; weight = u i }

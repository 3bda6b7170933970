-- The reader accepts the file of a grammar, and it holds that grammar.
-- Assumes nothing.
use mathlib.Core.Path.{◌≡◌, refl, ap, ap₂, sym, subst, ◌∙◌}
use mathlib.Core.Logic.{◌⊎◌, inl, inr, ⊎_elim}
use mathlib.Core.Bool.{Bool, true, false, ◌&&◌, not}
use mathlib.Core.Option.{Option, none, some}
use mathlib.Core.List.Memᴰ
use mathlib.Core.List.{List, [], ◌∷◌, ◌++◌, map, Memᴰ}
use Prim.Native.Nat.{ℕ, zero, suc, ◌+◌, ◌-◌, ◌*◌, ◌<◌, ◌≤◌}
use native.Mathlib.Omega.{arith}
use native.Mathlib.Decide.{dec_lt}
use lib.Dec.{T, ltb, eqb, lt→ltb}
use lib.ListN.{length, get_or, get_elem?, take, drop, length-append, get_or-eq_default}
use lib.Seq.{take_at, drop-append-add, ext_get_or}
use borrow.Author.Tests.{eq-eqb, le-ltb}
use Rattle.model.specs.declared.Refusal.{Refusal}
use Rattle.model.specs.Base.{◌or_else◌, first_from, each, every, numbers_from}
use Rattle.model.specs.Verdict.{refuse_if}
use Rattle.model.specs.Grammar.{Variable, Rule, Grammar, rule_at, dimension, is_lexical}
use Rattle.model.specs.WellFormed.{WellFormed, InRange, RightRule, named}
use Rattle.model.specs.GrammarFile.{within, all_zero, fields, dimension_in, dimensions_of, rules_of, record_of, same_rule, repeated, record_refusal, rule_of, grammar_refusal, grammar_of, wrong_category, wrong_word, wrong_variables, unused_set}
use Rattle.model.specs.Writer.{Heading, all_bytes, fits_fields, little2, padded, writer_refusal}
use Rattle.model.proofs.Tests.{passes as on, fails, and_both, on_not, every_by, none_by, some_one, within_bounds}
use Rattle.model.proofs.Lists.{number_below}
use Rattle.model.proofs.ByteLists.{fields_length, fields_at, padded_length, padded_at, zeros_by, Bytes, all_bytes_lem, bytes_append, bytes_padded, bytes_little2}
use Rattle.model.proofs.WriterFile.{file_written}
use Rattle.model.proofs.WriterFields.{written_categories, written_start, written_words, written_rules, written_dimensions, written_record_of, written_bytes}
use Rattle.model.proofs.WriterHeading.{wrong_numbers, writer_refusal_lem}
use Rattle.model.proofs.WriterBack.{read_back}
use Rattle.doubles.specs.Doubles.{Reordered, Passes}
use Rattle.doubles.proofs.RefusalTen.{refusal_ten}
use Rattle.grammar_to_file.specs.FileFor.{code_of, bytes_before_weight, record_for, heading_for, file_for, Storable}
use Rattle.grammar_to_file.proofs.Records.{lens, codes, from_variables, from_lengths, from_word, from_daughters, long}
use Rattle.grammar_to_file.proofs.RecordTests.{category_passes, word_passes, variables_pass, unused_passes, holds_rule, word_passes_lexical, variables_pass_lexical, unused_passes_lexical, holds_lexical, codes_small, lengths_small}

-- the records, one after the other
pub records_long : (rules : List Rule) → length (each record_for rules) ≡ 24 * length rules
records_long [] = refl
records_long (x ∷ rules) = omega (arith, length-append (record_for x) (each record_for rules), long x, records_long rules)

pub record_at : (rules : List Rule) (k : ℕ) (rule : Rule) → get_elem? rules k ≡ some rule → fields (each record_for rules) (24 * k) 24 ≡ record_for rule
record_at [] k rule e = let z : ◌≡◌ {A = ℕ} 0 1 = cc in absurd (omega arith)
record_at (x ∷ rules) zero rule e = take_at (record_for x) (each record_for rules) 24 (long x) ∙ ap record_for (some_one e)
record_at (x ∷ rules) (suc k) rule e =
    let q : 24 * suc k ≡ length (record_for x) + 24 * k = omega (arith, long x) in
    ap (λ (n : ℕ). take 24 (drop n (record_for x ++ each record_for rules))) q
    ∙ ap (take 24) (drop-append-add (record_for x) (each record_for rules) (24 * k)) ∙ record_at rules k rule e

-- what is found at each number of a list
by_numbers : (F : ℕ → Rule) (rules : List Rule) (a : ℕ) → ((k : ℕ) (rule : Rule) → get_elem? rules k ≡ some rule → F (a + k) ≡ rule) → map F (numbers_from a (length rules)) ≡ rules
by_numbers F [] a h = refl
by_numbers F (x ∷ rules) a h =
    ap₂ (λ (y : Rule) (l : List Rule). y ∷ l) (ap F (omega arith) ∙ h 0 x refl)
    (by_numbers F rules (suc a) (λ k rule e. ap F (omega arith) ∙ h (suc k) rule e))

element : (rules : List Rule) (k : ℕ) → k < length rules → (rule : Rule) × (get_elem? rules k ≡ some rule)
element [] k h = let z : ⊥ = omega arith in absurd z
element (x ∷ rules) zero h = (x, refl)
element (x ∷ rules) (suc k) h = element rules k (omega arith)

bytes_of : (l : List ℕ) → ((x : ℕ) → Memᴰ x l → x < 256) → Bytes l
bytes_of [] h k = omega arith
bytes_of (x ∷ l) h zero = h x (Memᴰ.head refl)
bytes_of (x ∷ l) h (suc k) = bytes_of l (λ y m. h y (Memᴰ.tail m)) k

bytes_each : (rules : List Rule) → ((rule : Rule) → Memᴰ rule rules → Bytes (record_for rule)) → Bytes (each record_for rules)
bytes_each [] h k = omega arith
bytes_each (x ∷ rules) h k = bytes_append (record_for x) (each record_for rules) (h x (Memᴰ.head refl)) (bytes_each rules (λ y m. h y (Memᴰ.tail m))) k

number_in : (l : List Rule) (x : Rule) → Memᴰ x l → (k : ℕ) × (get_elem? l k ≡ some x)
number_in [] x m = elim m [ ]
number_in (y ∷ l) x (Memᴰ.head e) = (0, ap some (sym e))
number_in (y ∷ l) x (Memᴰ.tail m) = let (k, e) = number_in l x m in (suc k, e)

module _ (g : Grammar) (s : Storable g) where
  abbrev heading : Heading
  heading = heading_for g

  abbrev records : List ℕ
  records = each record_for g.rules

  well : WellFormed g
  well = s.well

  -- of each rule: refusals 6 to 9, and the rule that the record holds
  record Held (rule : Rule) : Type 0 where
    pub passes : Passes g (record_for rule)
    pub holds : rule_of g.dimensions (record_for rule) ≡ rule

  -- what `Storable` says of a rule, but for its weight
  record Sound (rule : Rule) : Type 0 where
    pub within_bounds : InRange g rule
    pub right : RightRule g rule
    pub no_word : is_lexical rule ≡ false → rule.word ≡ 0
    pub no_components : is_lexical rule ≡ true → rule.components ≡ []

  sound : (r : ℕ) (rule : Rule) → rule_at g r ≡ some rule → Sound rule
  sound r rule e =
      record { within_bounds = well.ranges r rule e; right = well.right.rules r rule e; no_word = s.no_word r rule e; no_components = s.no_components r rule e }

  passing : (rule : Rule) → Sound rule → Held rule
  passing rule a = go rule.daughters refl
    where
      w : InRange g rule
      w = a.within_bounds

      rr : RightRule g rule
      rr = a.right

      go : (ds : List ℕ) → rule.daughters ≡ ds → Held rule
      go [] q =
          let l : is_lexical rule ≡ true = ap (λ (x : List ℕ). elim x as (λ x. Bool) [ [] ↦ true | d ∷ es ↦ false ]) q in
          let n = a.no_components l in
          record {
            passes =
                record {
                  long = long rule;
                  category = category_passes g well rule w rr;
                  word = word_passes_lexical g well rule w rr q n;
                  variables = variables_pass_lexical g well rule w rr q n;
                  unused = unused_passes_lexical g well rule w rr q n;
                };
            holds = holds_lexical g well rule w rr q n;
          }
      go (d ∷ ds) q =
          let l : is_lexical rule ≡ false = ap (λ (x : List ℕ). elim x as (λ x. Bool) [ [] ↦ true | d ∷ es ↦ false ]) q in
          let h : 0 < length rule.daughters = omega (arith, ap length q) in
          let z = a.no_word l in
          record {
            passes =
                record {
                  long = long rule;
                  category = category_passes g well rule w rr;
                  word = word_passes g well rule w rr l h;
                  variables = variables_pass g well rule w rr l h;
                  unused = unused_passes g well rule w rr l h z;
                };
            holds = holds_rule g well rule w rr l h z;
          }

  -- no rule twice, weight and the order of the daughters aside
  not_repeated : (i : ℕ) (rule : Rule) → rule_at g i ≡ some rule → repeated (λ j. fields records (24 * j) 24) i ≡ false
  not_repeated i rule e =
      none_by (λ j. same_rule (fields records (24 * j) 24) (fields records (24 * i) 24)) i
      (λ j h. fails (same_rule (fields records (24 * j) 24) (fields records (24 * i) 24)) (λ t.
      let (other, f) = element g.rules j (omega (arith, number_below g.rules i e)) in
      let u : T (same_rule (record_for other) (record_for rule)) = subst T (ap₂ same_rule (record_at g.rules j other f) (record_at g.rules i rule e)) t in
      let first = passing other (sound j other f) in
      let second = passing rule (sound i rule e) in
      let double = (refusal_ten.meant g well.dimensions_are (record_for other) (record_for rule) first.passes second.passes).0 (on (same_rule (record_for other) (record_for rule)) u) in
      let same : Reordered other rule = subst (λ (x : Rule). Reordered x rule) first.holds
      (subst (λ (x : Rule). Reordered (rule_of g.dimensions (record_for other)) x) second.holds double) in
      omega (arith, s.differ j i other rule f e same)))

  none_of : (b : Bool) (r : Refusal) (o : Option Refusal) → b ≡ false → o ≡ none → refuse_if b r or_else o ≡ none
  none_of b r o e f = ap (λ (x : Bool). refuse_if x r or_else o) e ∙ f

  record_none : (i : ℕ) → i < length g.rules → record_refusal g.dimensions g.words (λ j. fields records (24 * j) 24) i ≡ none
  record_none i h =
      let (rule, e) = element g.rules i h in
      let p = (passing rule (sound i rule e)).passes in
      let q = sym (record_at g.rules i rule e) in
      let on : (P : List ℕ → Bool) → P (record_for rule) ≡ false → P (fields records (24 * i) 24) ≡ false = λ P k. ap P (sym q) ∙ k in
      none_of (wrong_category g.dimensions (fields records (24 * i) 24)) (Refusal.Grammar 6 i) _ (on (wrong_category g.dimensions) p.category)
      (none_of (wrong_word g.dimensions (fields records (24 * i) 24) g.words) (Refusal.Grammar 7 i) _ (on (λ x. wrong_word g.dimensions x g.words) p.word)
      (none_of (wrong_variables g.dimensions (fields records (24 * i) 24)) (Refusal.Grammar 8 i) _ (on (wrong_variables g.dimensions) p.variables)
      (none_of (unused_set g.dimensions (fields records (24 * i) 24)) (Refusal.Grammar 9 i) _ (on (unused_set g.dimensions) p.unused)
      (ap (λ (b : Bool). refuse_if b (Refusal.Grammar 10 i)) (not_repeated i rule e)))))

  records_none : (n a : ℕ) → a + n ≤ length g.rules → first_from (record_refusal g.dimensions g.words (λ j. fields records (24 * j) 24)) a n ≡ none
  records_none zero a h = refl
  records_none (suc n) a h =
      ap (λ (o : Option Refusal). o or_else first_from (record_refusal g.dimensions g.words (λ j. fields records (24 * j) 24)) (suc a) n) (record_none a (omega arith)) ∙ records_none n (suc a) (omega arith)

  -- every record is a list of bytes
  rule_bytes : (r : ℕ) (rule : Rule) → rule_at g r ≡ some rule → Bytes (record_for rule)
  rule_bytes r rule e =
      let w = well.ranges r rule e in
      let c = well.categories.1 in
      let variables : Bytes (from_variables rule) = bytes_padded 12 (codes rule) (bytes_of (codes rule) (parts rule.daughters refl).1) in
      let lengths : Bytes (from_lengths rule) = bytes_append (padded 4 (lens rule)) (from_variables rule) (bytes_padded 4 (lens rule) (bytes_of (lens rule) (parts rule.daughters refl).0)) variables in
      let word : Bytes (from_word rule) = bytes_append (little2 rule.word) (from_lengths rule) (bytes_little2 rule.word) lengths in
      let daughters : Bytes (from_daughters rule) = bytes_append (padded 3 rule.daughters) (from_word rule) (bytes_padded 3 rule.daughters (bytes_of rule.daughters (λ d m. omega (arith, w.daughters_are d m)))) word in
      let bytes : Bytes (bytes_before_weight rule) = bytes_append (rule.category ∷ length rule.daughters ∷ []) (from_daughters rule) (bytes_of (rule.category ∷ length rule.daughters ∷ []) front) daughters in
      bytes_append (bytes_before_weight rule) (rule.weight ∷ []) bytes (bytes_of (rule.weight ∷ []) weight)
    where
      weight : (x : ℕ) → Memᴰ x (rule.weight ∷ []) → x < 256
      weight x m = ⊎_elim (λ q. omega (arith, s.weights r rule e)) (λ i. elim i [ ]) (Memᴰ.cases_cons m)

      front : (x : ℕ) → Memᴰ x (rule.category ∷ length rule.daughters ∷ []) → x < 256
      front x m = first (Memᴰ.cases_cons m)
        where
          second : (x ≡ length rule.daughters) ⊎ Memᴰ x [] → x < 256
          second (inl q) = omega (arith, (well.ranges r rule e).daughters_few)
          second (inr j) = elim j [ ]

          first : (x ≡ rule.category) ⊎ Memᴰ x (length rule.daughters ∷ []) → x < 256
          first (inl q) = omega (arith, (well.ranges r rule e).category_is, well.categories.1)
          first (inr i) = second (Memᴰ.cases_cons i)

      parts : (ds : List ℕ) → rule.daughters ≡ ds → ((x : ℕ) → Memᴰ x (map length rule.components) → x < 256) × ((x : ℕ) → Memᴰ x (map code_of (named rule.components)) → x < 256)
      parts [] q =
          let n = s.no_components r rule e (ap (λ (x : List ℕ). elim x as (λ x. Bool) [ [] ↦ true | d ∷ es ↦ false ]) q) in (
            λ x m. nothing x (subst (λ (c : List (List Variable)). Memᴰ x (map length c)) n m),
            λ x m. nothing x (subst (λ (c : List (List Variable)). Memᴰ x (map code_of (named c))) n m),
          )
        where
          nothing : (x : ℕ) → Memᴰ x [] → x < 256
          nothing x m = elim m [ ]
      parts (d ∷ ds) q =
          let l : is_lexical rule ≡ false = ap (λ (x : List ℕ). elim x as (λ x. Bool) [ [] ↦ true | d ∷ es ↦ false ]) q in
          let h : 0 < length rule.daughters = omega (arith, ap length q) in
          let w = well.ranges r rule e in
          let rr = well.right.rules r rule e in
          (lengths_small g well rule w rr l h, codes_small g well rule w rr l h)

  record_bytes : Bytes records
  record_bytes = bytes_each g.rules (λ rule m. let (k, e) = number_in g.rules rule m in rule_bytes k rule e)

  bytes : T (all_bytes records)
  bytes = all_bytes_lem records record_bytes

  abbrev dimensions : List ℕ
  dimensions = g.dimensions

  dims_bytes : Bytes (padded 64 dimensions)
  dims_bytes = bytes_padded 64 dimensions (λ k. go k (dec_lt k (length dimensions)))
    where
      go : (k : ℕ) → Dec (k < length dimensions) → get_or dimensions k 0 < 256
      go k (yes h) = omega (arith, (well.dimensions_are k h).1)
      go k (no h) = omega (arith, get_or-eq_default dimensions 0 {n = k} (omega arith))

  fits : T (fits_fields heading)
  fits =
      let c = lt→ltb (length dimensions) 256 (omega (arith, well.categories.1)) in
      let t = lt→ltb g.start 256 (omega (arith, well.start_is, well.categories.1)) in
      let w = lt→ltb g.words 65536 (omega (arith, well.words_are.1)) in
      let r = lt→ltb (length g.rules) 65536 (omega (arith, well.rules_are.1)) in
      let ct = and_both (ltb (length dimensions) 256) (ltb g.start 256) c t in
      let ctw = and_both (ltb (length dimensions) 256 && ltb g.start 256) (ltb g.words 65536) ct w in
      let ctwr = and_both (ltb (length dimensions) 256 && ltb g.start 256 && ltb g.words 65536) (ltb (length g.rules) 65536) ctw r in
      and_both (ltb (length dimensions) 256 && ltb g.start 256 && ltb g.words 65536 && ltb (length g.rules) 65536) (all_bytes (padded 64 dimensions)) ctwr (all_bytes_lem (padded 64 dimensions) dims_bytes)

  named_64 : length heading.dimensions ≡ 64
  named_64 = padded_length 64 dimensions

  dims_back : fields (padded 64 dimensions) 0 (length dimensions) ≡ dimensions
  dims_back =
      let few = well.categories.1 in
      let q = fields_length (padded 64 dimensions) 0 (length dimensions) (omega (arith, padded_length 64 dimensions)) in
      ext_get_or 0 (fields (padded 64 dimensions) 0 (length dimensions)) dimensions q (λ j k. let k' : j < length dimensions = omega arith in fields_at (padded 64 dimensions) 0 (length dimensions) j k' ∙ ap (λ (x : ℕ). get_or (padded 64 dimensions) x 0) (omega arith) ∙ padded_at 64 dimensions j (omega arith))

  right_numbers_lem : wrong_numbers heading ≡ false
  right_numbers_lem = on_not numbers all
    where
      numbers : Bool
      numbers =
          within 1 64 (length dimensions) && within 1 4096 g.words && within 1 256 (length g.rules) && every (within 1 4) (fields (padded 64 dimensions) 0 (length dimensions)) && ltb g.start (length dimensions)
          && eqb (dimension_in (fields (padded 64 dimensions) 0 (length dimensions)) g.start) 1 && all_zero (fields (padded 64 dimensions) (length dimensions) (64 - length dimensions))

      few : length dimensions ≤ 64
      few = well.categories.1

      dims : T (every (within 1 4) (fields (padded 64 dimensions) 0 (length dimensions)))
      dims = subst (λ (l : List ℕ). T (every (within 1 4) l)) (sym dims_back) (every_by (within 1 4) dimensions (λ k h. let d = well.dimensions_are k h in within_bounds 1 4 (get_or dimensions k 0) d.0 d.1))

      alone : T (eqb (dimension_in (fields (padded 64 dimensions) 0 (length dimensions)) g.start) 1)
      alone = subst (λ (l : List ℕ). T (eqb (dimension_in l g.start) 1)) (sym dims_back) (rw (eq-eqb (dimension g g.start) 1 well.right.start_alone) tt)

      rest : T (all_zero (fields (padded 64 dimensions) (length dimensions) (64 - length dimensions)))
      rest =
          zeros_by (fields (padded 64 dimensions) (length dimensions) (64 - length dimensions)) (λ j k.
          let k' : j < 64 - length dimensions = omega (arith, fields_length (padded 64 dimensions) (length dimensions) (64 - length dimensions) (omega (arith, padded_length 64 dimensions))) in
          fields_at (padded 64 dimensions) (length dimensions) (64 - length dimensions) j k' ∙ padded_at 64 dimensions (length dimensions + j) (omega arith) ∙ get_or-eq_default dimensions 0 (omega arith))

      all : T numbers
      all =
          let a = within 1 64 (length dimensions) in
          let b = within 1 4096 g.words in
          let c = within 1 256 (length g.rules) in
          let d = every (within 1 4) (fields (padded 64 dimensions) 0 (length dimensions)) in
          let e = ltb g.start (length dimensions) in
          let f = eqb (dimension_in (fields (padded 64 dimensions) 0 (length dimensions)) g.start) 1 in
          let z = all_zero (fields (padded 64 dimensions) (length dimensions) (64 - length dimensions)) in
          let ab = and_both a b (within_bounds 1 64 (length dimensions) well.categories.0 well.categories.1) (within_bounds 1 4096 g.words well.words_are.0 well.words_are.1) in
          let abc = and_both (a && b) c ab (within_bounds 1 256 (length g.rules) well.rules_are.0 well.rules_are.1) in
          let abcd = and_both (a && b && c) d abc dims in
          let abcde = and_both (a && b && c && d) e abcd (lt→ltb g.start (length dimensions) well.start_is) in
          and_both (a && b && c && d && e && f) z (and_both (a && b && c && d && e) f abcde alone) rest

  writer_none : writer_refusal heading records ≡ none
  writer_none =
      writer_refusal_lem heading records fits bytes
      ∙ none_of (not (eqb (length heading.dimensions) 64)) (Refusal.Grammar 4 0) _ (ap not (eq-eqb (length heading.dimensions) 64 named_64))
      (none_of (ltb 256 (length g.rules)) (Refusal.Grammar 4 0) _ (le-ltb 256 (length g.rules) well.rules_are.1)
      (none_of (wrong_numbers heading) (Refusal.Grammar 4 0) _ right_numbers_lem
      (none_of (not (eqb (length records) (24 * length g.rules))) (Refusal.Grammar 5 0) _ (ap not (eq-eqb (length records) (24 * length g.rules) (records_long g.rules)))
      (ap (λ (d : List ℕ). first_from (record_refusal d g.words (λ j. fields records (24 * j) 24)) 0 (length g.rules)) dims_back ∙ records_none (length g.rules) 0 (omega arith)))))

  -- the file is a list of bytes, and the reader accepts it
  pub file_bytes : T (all_bytes (file_for g))
  file_bytes = all_bytes_lem (file_for g) (written_bytes heading records (file_for g) (file_written heading records) fits record_bytes)

  pub file_accepted : grammar_refusal (file_for g) ≡ none
  file_accepted = (read_back heading records fits writer_none).2

  -- and it holds the grammar
  pub file_holds : grammar_of (file_for g) ≡ g
  file_holds =
      let W = file_written heading records in
      let c = written_categories heading records (file_for g) W in
      let t = written_start heading records (file_for g) W in
      let w = written_words heading records (file_for g) W (omega (arith, well.words_are.1)) in
      let n = written_rules heading records (file_for g) W (omega (arith, well.rules_are.1)) in
      let d : dimensions_of (file_for g) ≡ dimensions = ap (fields (file_for g) 16) c ∙ written_dimensions heading records (file_for g) W named_64 (length dimensions) well.categories.1 ∙ dims_back in
      let r : map (λ i. rule_of (dimensions_of (file_for g)) (record_of (file_for g) i)) (numbers_from 0 (rules_of (file_for g))) ≡ g.rules =
      ap (λ (m : ℕ). map (λ i. rule_of (dimensions_of (file_for g)) (record_of (file_for g) i)) (numbers_from 0 m)) n
      ∙ ap (λ (x : List ℕ). map (λ i. rule_of x (record_of (file_for g) i)) (numbers_from 0 (length g.rules))) d
      ∙ by_numbers (λ i. rule_of dimensions (record_of (file_for g) i)) g.rules 0
      (λ k rule e.
      let k₀ : 0 + k ≡ k = omega arith in
      ap (rule_of dimensions) (ap (record_of (file_for g)) k₀ ∙ written_record_of heading records (file_for g) W (records_long g.rules) k (number_below g.rules k e) ∙ record_at g.rules k rule e)
      ∙ (passing rule (sound k rule e)).holds) in
      λ i. record { start = t i; words = w i; dimensions = d i; rules = r i }

-- Refusal 10 meets a record just if an earlier one holds the same rule with its daughters in some order; and no accepted file has two such rules.
-- Assumes nothing.
use mathlib.Core.Path.{◌≡◌, refl, sym, subst, ◌∙◌}
use mathlib.Core.Logic.{◌⊎◌, inl, inr}
use mathlib.Core.Bool.{Bool, true, false, ◌||◌}
use mathlib.Core.List.Memᴰ
use mathlib.Core.List.{List, [], Memᴰ}
use mathlib.Core.Option.{none}
use Prim.Native.Nat.{ℕ, zero, suc, ◌<◌, ◌≤◌}
use native.Mathlib.Omega.{arith}
use native.Mathlib.Decide.{dec_lt}
use borrow.Author.Tests.{le-ltb}
use lib.Dec.{T}
use lib.ListN.{length}
use Rattle.model.specs.Base.{any_of, any_below}
use Rattle.model.specs.Grammar.{Rule, Variable, Grammar}
use Rattle.model.specs.WellFormed.{RightRule, named}
use Rattle.model.specs.GrammarFile.{field, other_orders, same_record, same_frame, same_in_order, same_reordered, same_rule, repeated, grammar_of, grammar_refusal, rules_of, record_of, record_place}
use Rattle.model.specs.Writer.{all_bytes}
use Rattle.model.proofs.Tests.{passes as on, and_both, or_left, or_right, or_cases, not_both}
use Rattle.model.proofs.ByteLists.{bytes_at, all_fields}
use Rattle.model.proofs.Digits.{Compared, compared, less, same, more}
use Rattle.model.proofs.Perm.{perm_mem}
use Rattle.model.proofs.Variables.{vars_out}
use Rattle.model.proofs.RuleFromRecord.{Tested, DimensionsIn, not_lexical, rule_right, rule_in_range}
use Rattle.model.proofs.FromFile.{rule_read, rule_is, rule_passed, record_tested, dimensions_in}
use Rattle.grammar.proofs.Below.{any_hit}
use Rattle.doubles.specs.Doubles.{Reordered, Passes, Double, EarlierDouble, NoDoubles, RefusalTen}
use Rattle.doubles.proofs.Orders.{unmoved, orders, extended, is_among, is_permutation}
use Rattle.doubles.proofs.Shape.{Shape, shape}
use Rattle.doubles.proofs.Agreement.{Agrees, found, any_in, in_order, same_agrees, reordered, is_order, rules_agree, frame, whole}
use Rattle.doubles.proofs.Back.{reordered_back}

module _ (g : Grammar) (in_range : DimensionsIn g) (earlier e : List ℕ) (px : Passes g earlier) (pe : Passes g e) where
  abbrev d : List ℕ
  d = g.dimensions

  sx : Shape d earlier
  sx = shape g in_range earlier px

  se : Shape d e
  se = shape g in_range e pe

  by_order : (o : List ℕ) → Memᴰ o (orders (field earlier 1)) → Agrees earlier e o → Double g earlier e
  by_order o m h =
      let t = is_permutation (field earlier 1) sx.few m in
      reordered d earlier e sx se t.order t.is_order (subst (Agrees earlier e) t.is h)

  tells : T (same_record earlier e) ⊎ T (same_reordered earlier e) → Double g earlier e
  tells (inl t) = by_order unmoved (Memᴰ.head refl) (same_agrees d earlier e sx se t)
  tells (inr t) =
      let f = found earlier e t in
      by_order f.order (subst (λ (k : ℕ). Memᴰ f.order (orders k)) (sym f.agreed.many) (Memᴰ.tail f.among)) f.agreed

  told : T (all_bytes earlier) → T (all_bytes e) → Double g earlier e → T (same_rule earlier e)
  told bx be r = go (Memᴰ.cases_cons (is_among (field earlier 1) r.order sx.few (is_order d earlier e sx se (bytes_at earlier bx) (bytes_at e be) r)))
    where
      o : List ℕ
      o = extended (field earlier 1) r.order

      h : Agrees earlier e o
      h = rules_agree d earlier e sx se (bytes_at earlier bx) (bytes_at e be) r

      go : (o ≡ unmoved) ⊎ Memᴰ o (other_orders (field earlier 1)) → T (same_rule earlier e)
      go (inl u) = or_left (same_record earlier e) (same_reordered earlier e) (whole d earlier e sx se o h u)
      go (inr m) =
          or_right (same_record earlier e) (same_reordered earlier e)
          (and_both (same_frame earlier e) (any_of (same_in_order earlier e) (other_orders (field e 1))) (frame d earlier e sx se o h)
          (any_in (same_in_order earlier e) (subst (λ (k : ℕ). Memᴰ o (other_orders k)) h.many m) (in_order earlier e o h)))

  meant : (same_rule earlier e ≡ true → Double g earlier e) × (T (all_bytes earlier) → T (all_bytes e) → Double g earlier e → same_rule earlier e ≡ true)
  meant = (λ q. tells (or_cases (same_record earlier e) (same_reordered earlier e) (subst T (sym q) tt)), λ bx be r. on (same_rule earlier e) (told bx be r))

below_out : (test : ℕ → Bool) (n : ℕ) → any_below test n ≡ true → (j : ℕ) × (j < n) × (test j ≡ true)
below_out test zero e = not_both (sym e)
below_out test (suc n) e = go (any_below test n) refl e (λ f. below_out test n f)
  where
    go : (b : Bool) → any_below test n ≡ b → b || test n ≡ true → (any_below test n ≡ true → (j : ℕ) × (j < n) × (test j ≡ true)) → (j : ℕ) × (j < suc n) × (test j ≡ true)
    go true f u ih = let (j, h, v) = ih f in (j, omega arith, v)
    go false f u ih = (n, omega arith, u)

module _ (g : Grammar) (in_range : DimensionsIn g) (record_at : ℕ → List ℕ) (i : ℕ) (passes : (k : ℕ) → k ≤ i → Passes g (record_at k)) where
  abbrev test : ℕ → Bool
  test j = same_rule (record_at j) (record_at i)

  found_earlier : repeated record_at i ≡ true → EarlierDouble g record_at i
  found_earlier q =
      let (j, h, s) = below_out test i q in
      (j, h, (meant g in_range (record_at j) (record_at i) (passes j (omega arith)) (passes i (omega arith))).0 s)

  is_repeated : ((k : ℕ) → k ≤ i → T (all_bytes (record_at k))) → EarlierDouble g record_at i → repeated record_at i ≡ true
  is_repeated bytes w =
      let (j, h, r) = w in
      any_hit test j i h ((meant g in_range (record_at j) (record_at i) (passes j (omega arith)) (passes i (omega arith))).1 (bytes j (omega arith)) (bytes i (omega arith)) r)

module _ (file : List ℕ) (bytes : T (all_bytes file)) (accepted : grammar_refusal file ≡ none) where
  record_passes : (i : ℕ) → i < rules_of file → Passes (grammar_of file) (record_of file i)
  record_passes i h =
      let p = rule_passed file accepted i h in
      record {
        long = (record_tested file accepted i h).long;
        category = p.category;
        word = p.word;
        variables = p.variables;
        unused = p.unused;
      }

  -- no rule is an earlier one with its daughters in some order
  no_earlier : (i j : ℕ) → i < rules_of file → j < i → Reordered (rule_read file j) (rule_read file i) → ⊥
  no_earlier i j h l r =
      let again = is_repeated (grammar_of file) (dimensions_in file accepted) (record_of file) i (λ k le. record_passes k (omega arith))
      (λ k le. all_fields file (record_place k) 24 bytes) (j, l, r) in
      not_both (sym again ∙ (rule_passed file accepted i h).single)

  -- a rule's variables are of its daughters
  of_daughters : (i : ℕ) → i < rules_of file → (v : Variable) → Memᴰ v (named (rule_read file i).components) → v.daughter < length (rule_read file i).daughters
  of_daughters i h v m = go (dec_lt 0 (field (record_of file i) 1))
    where
      t : Tested (grammar_of file) (record_of file i)
      t = record_tested file accepted i h

      right : RightRule (grammar_of file) (rule_read file i)
      right = rule_right (grammar_of file) (record_of file i) t (dimensions_in file accepted)

      nothing : Memᴰ v [] → v.daughter < length (rule_read file i).daughters
      nothing k = elim k [ ]

      go : Dec (0 < field (record_of file i) 1) → v.daughter < length (rule_read file i).daughters
      go (yes l) =
          let p = vars_out (grammar_of file) 0 (rule_read file i).daughters v (perm_mem (right.complete (not_lexical (grammar_of file) (record_of file i) t l)) m) in
          omega (arith, p.daughter_is, p.in_range)
      go (no l) = nothing (rw (le-ltb 0 (field (record_of file i) 1) (omega arith)) at m)

  no_doubles : NoDoubles (grammar_of file)
  no_doubles r s a b ea eb double =
      let (hr, fa) = rule_is file r a ea in
      let (hs, fb) = rule_is file s b eb in
      go hr hs (subst (λ (x : Rule). Reordered x (rule_read file s)) (sym fa) (subst (λ (x : Rule). Reordered a x) (sym fb) double)) (compared r s)
    where
      few : (i : ℕ) → i < rules_of file → length (rule_read file i).daughters ≤ 3
      few i h = (rule_in_range (grammar_of file) (record_of file i) (record_tested file accepted i h)).daughters_few

      go : r < rules_of file → s < rules_of file → Reordered (rule_read file r) (rule_read file s) → Compared r s → r ≡ s
      go hr hs w (less l) = absurd (no_earlier s r hs l w)
      go hr hs w (same e) = e
      go hr hs w (more l) = absurd (no_earlier r s hr l (reordered_back (rule_read file r) (rule_read file s) (few r hr) (of_daughters s hs) w))

pub refusal_ten : RefusalTen
refusal_ten = record { meant = meant; met = λ g in_range record_at i passes. (found_earlier g in_range record_at i passes, is_repeated g in_range record_at i passes); no_doubles = no_doubles }

-- A file that was accepted between papers 1 and 4 and has a double is refused by 10, at the first rule that is an earlier one with its daughters in some
-- order; so is every call that is given it.
-- Assumes nothing.
use mathlib.Core.Path.{◌≡◌, refl, sym, ap, ap₂, ◌∙◌}
use mathlib.Core.Bool.{Bool, not}
use mathlib.Core.List.{List, [], ◌∷◌}
use mathlib.Core.Option.{Option, none, some}
use Prim.Native.Nat.{ℕ, zero, suc, ◌+◌, ◌*◌, ◌%◌, ◌<◌, ◌≤◌}
use native.Mathlib.Omega.{arith}
use native.Mathlib.Decide.{ℕ_discrete}
use lib.Dec.{T, ltb, eqb}
use lib.ListN.{length}
use Rattle.model.specs.declared.Refusal.{Refusal}
use Rattle.model.specs.Base.{◌or_else◌, first_from}
use Rattle.model.specs.Verdict.{refuse_if, verdict, count_verdict}
use Rattle.model.specs.Grammar.{Grammar}
use Rattle.model.specs.GrammarFile.{wrong_heading, categories_of, rules_of, rule_refusal, grammar_refusal, grammar_of}
use Rattle.model.specs.Writer.{Heading, all_bytes, heading_block}
use Rattle.model.specs.Trace.{sentence_refusal, trace_refusal}
use Rattle.model.specs.Tree.{tree_refusal}
use Rattle.model.specs.Conversions.{tree_of, trace_of}
use Rattle.model.specs.Counting.{limits_refusal, effort_refusal, entry_refusal, count, effort, listing, entry}
use Rattle.model.specs.Calls.{written, room_refusal}
use Rattle.model.specs.Program.{sentence_in, limit_in, program_limit, printed}
use Rattle.weights.specs.Weights.{weight_sum}
use Rattle.old_files.specs.OldFiles.{grammar_refusal_between, writer_tests, Lost, FirstDouble}
use Rattle.old_files.proofs.Between.{tenth, fresh, is_repeated, not_repeated, refused_at}

-- the first of tests, where those before it are not met
first_met_lem : (f : ℕ → Option Refusal) (from n i : ℕ) {r : Refusal} → from ≤ i → i < from + n → ((k : ℕ) → from ≤ k → k < i → f k ≡ none) → f i ≡ some r
    → first_from f from n ≡ some r
first_met_lem f from zero i lo hi before here = let z : ⊥ = omega arith in absurd z
first_met_lem f from (suc n) i {r} lo hi before here =
    go (ℕ_discrete from i) (λ l. first_met_lem f (suc from) n i l (omega arith) (λ k m h. before k (omega arith) h) here)
  where
    go : Dec (from ≡ i) → (suc from ≤ i → first_from f (suc from) n ≡ some r) → f from or_else first_from f (suc from) n ≡ some r
    go (yes q) ih = ap (λ (o : Option Refusal). o or_else first_from f (suc from) n) (ap f q ∙ here)
    go (no q) ih = ap (λ (o : Option Refusal). o or_else first_from f (suc from) n) (before from (omega arith) (omega arith)) ∙ ih (omega arith)

-- of tests of which the last is met one is the first that is met
some_met : (a b c d : Option Refusal) (r : Refusal) → (x : Refusal) × (a or_else b or_else c or_else d or_else some r ≡ some x)
some_met (some x) b c d r = (x, refl)
some_met none (some x) c d r = (x, refl)
some_met none none (some x) d r = (x, refl)
some_met none none none (some x) r = (x, refl)
some_met none none none none r = (r, refl)

module _ (h : Heading) (records : List ℕ) (r : Refusal) where
  abbrev tests : Option Refusal
  tests = writer_tests h records (some r)

  met : (x : Refusal) × (tests ≡ some x)
  met =
      some_met (refuse_if (not (eqb (length h.dimensions) 64)) (Refusal.Grammar 4 0)) (refuse_if (ltb 256 h.rules) (Refusal.Grammar 4 0))
      (refuse_if (wrong_heading (heading_block h)) (Refusal.Grammar 4 0)) (refuse_if (not (eqb (length records) (24 * h.rules))) (Refusal.Grammar 5 0)) r

  -- what follows makes no difference
  refused_anyhow : (rest : Option Refusal) (n : ℕ) → verdict (tests or_else rest) n ≡ verdict tests 0
  refused_anyhow rest n = ap (λ (o : Option Refusal). verdict (o or_else rest) n) met.1 ∙ sym (ap (λ (o : Option Refusal). verdict o 0) met.1)

  nothing_written : (rest : Option Refusal) (list out : List ℕ) → written (tests or_else rest) list out ≡ out
  nothing_written rest list out = ap (λ (o : Option Refusal). written (o or_else rest) list out) met.1

module _ (file : List ℕ) (between : grammar_refusal_between file ≡ none) (bytes : T (all_bytes file)) (i : ℕ) (double : FirstDouble (grammar_of file) i) where
  refused : grammar_refusal file ≡ some (Refusal.Grammar 10 i)
  refused =
      let (here, again) = is_repeated file between bytes i double.double in
      refused_at file between i
      (first_met_lem (rule_refusal file) 0 (rules_of file) i (omega arith) (omega arith)
      (λ k lo hi. fresh file between k (omega arith) (not_repeated file between k (omega arith) (double.first k hi)))
      (tenth file between i here ∙ ap (λ (b : Bool). refuse_if b (Refusal.Grammar 10 i)) again))

  -- what depends on the refusal of the file
  refused_by : {A : Type 0} (f : Option Refusal → A) → f (grammar_refusal file) ≡ f (some (Refusal.Grammar 10 i))
  refused_by f = ap f refused

  abbrev g : Grammar
  g = grammar_of file

  pub loses : Lost file i
  loses =
      record {
        refused_now = refused;
        reader = refused_by (λ o. verdict o (rules_of file));
        writer = λ h records out q. (
          ap₂ (λ (o : Option Refusal) (f : List ℕ). verdict (writer_tests h records o or_else refuse_if (ltb (length out) (length f)) (Refusal.Desk 23 0)) (length f)) (ap grammar_refusal q ∙ refused) q
              ∙ refused_anyhow h records (Refusal.Grammar 10 i) (refuse_if (ltb (length out) (length file)) (Refusal.Desk 23 0)) (length file),
          ap₂ (λ (o : Option Refusal) (f : List ℕ). written (writer_tests h records o or_else refuse_if (ltb (length out) (length f)) (Refusal.Desk 23 0)) f out) (ap grammar_refusal q ∙ refused) q
              ∙ nothing_written h records (Refusal.Grammar 10 i) (refuse_if (ltb (length out) (length file)) (Refusal.Desk 23 0)) file out,
        );
        trace_checker = λ s trace. refused_by (λ o. verdict (o or_else sentence_refusal g s or_else trace_refusal g s trace) (length trace));
        tree_checker = λ s tree. refused_by (λ o. verdict (o or_else sentence_refusal g s or_else tree_refusal g s tree) (length tree));
        trace_to_tree = λ s trace out. (
          refused_by (λ o. verdict (o or_else room_refusal out or_else sentence_refusal g s or_else trace_refusal g s trace) (length trace)),
          refused_by (λ o. written (o or_else room_refusal out or_else sentence_refusal g s or_else trace_refusal g s trace) (tree_of g s trace) out),
        );
        tree_to_trace = λ s tree out. (
          refused_by (λ o. verdict (o or_else room_refusal out or_else sentence_refusal g s or_else tree_refusal g s tree) (length tree)),
          refused_by (λ o. written (o or_else room_refusal out or_else sentence_refusal g s or_else tree_refusal g s tree) (trace_of g s tree) out),
        );
        counted = λ s n limit.
            refused_by (λ o. count_verdict (o or_else limits_refusal n limit or_else sentence_refusal g s or_else effort_refusal g s n limit) (count g s n) (effort g s n));
        entered = λ s n limit m out. (
          refused_by (λ o.
              verdict (o or_else room_refusal out or_else limits_refusal n limit or_else sentence_refusal g s or_else effort_refusal g s n limit or_else entry_refusal g s n m)
              (length (entry g s n m))),
          refused_by (λ o.
              written (o or_else room_refusal out or_else limits_refusal n limit or_else sentence_refusal g s or_else effort_refusal g s n limit or_else entry_refusal g s n m)
              (entry g s n m) out),
        );
        surveyed = λ out answer after s. (
          s.verdict_is ∙ refused_by (λ o. verdict (o or_else room_refusal out) (categories_of file)),
          s.output_is ∙ refused_by (λ o. written (o or_else room_refusal out) s.figures out),
        );
        trace_weighed = λ s trace. refused_by (λ o. verdict (o or_else sentence_refusal g s or_else trace_refusal g s trace) (weight_sum g trace));
        tree_weighed = λ s tree. refused_by (λ o. verdict (o or_else sentence_refusal g s or_else tree_refusal g s tree) (weight_sum g tree));
        program_prints = λ sentence_file.
            let s = sentence_in sentence_file in
            let n = limit_in sentence_file in
            refused_by (λ o.
            printed
            (o or_else refuse_if (eqb (length sentence_file % 2) 0) (Refusal.Analysis 11 0) or_else o or_else limits_refusal n program_limit or_else sentence_refusal g s
            or_else effort_refusal g s n program_limit)
            ((count g s n ∷ effort g s n ∷ []) ∷ listing g s n));
      }

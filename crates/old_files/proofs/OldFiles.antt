-- An older file keeps its verdicts, or it has a double and loses them.
-- Assumes nothing.
use mathlib.Core.Path.{◌≡◌, refl, sym, subst, ◌∙◌}
use mathlib.Core.Logic.{◌⊎◌, inl, inr}
use mathlib.Core.Bool.{Bool, true, false}
use mathlib.Core.List.{List, [], ◌∷◌}
use mathlib.Core.Option.{Option, none, some}
use Prim.Native.Nat.{ℕ, zero, suc, ◌<◌, ◌≤◌}
use native.Mathlib.Omega.{arith}
use native.Mathlib.Decide.{ℕ_discrete}
use lib.Dec.{T}
use Rattle.model.specs.declared.Refusal.{Refusal}
use Rattle.model.specs.Grammar.{Rule, Grammar, rule_at}
use Rattle.model.specs.GrammarFile.{rules_of, record_of, repeated, grammar_refusal, grammar_of}
use Rattle.model.specs.Writer.{all_bytes}
use Rattle.model.specs.ExampleFiles.{copy_file}
use Rattle.model.proofs.Tests.{not_both}
use Rattle.model.proofs.FromFile.{each_rule}
use Rattle.doubles.specs.Doubles.{DoubleAt}
use Rattle.weights.specs.Weights.{weight_by, weight_sum}
use Rattle.old_files.specs.OldFiles.{grammar_refusal_before, grammar_refusal_between, grammar_before, shuffled_file, weighed_file, shuffled_weighed_file, two_weights_file, Weightless, Kept, SumsKept, Lost, WithoutDoubles, FirstDouble, OldFiles, FilesBetween}
use Rattle.old_files.proofs.Before.{unused, same_grammar, accepted_between}
use Rattle.old_files.proofs.Between.{a_double, is_repeated, accepted_now}
use Rattle.old_files.proofs.Kept.{keeps, keeps_sums}
use Rattle.old_files.proofs.Lost.{loses}

-- files from between papers 1 and 4
module _ (file : List ℕ) (between : grammar_refusal_between file ≡ none) where
  -- what is refused of a file without doubles is what was refused: nothing
  pub same_refusal : WithoutDoubles (grammar_of file) → grammar_refusal file ≡ grammar_refusal_between file
  same_refusal none-double = accepted_now file between none-double ∙ sym between

  kept_between : WithoutDoubles (grammar_of file) → Kept file (grammar_refusal_between file) (grammar_of file)
  kept_between none-double = keeps file (same_refusal none-double) refl (accepted_now file between none-double)

  sums_kept : WithoutDoubles (grammar_of file) → SumsKept file (grammar_refusal_between file) (grammar_of file)
  sums_kept none-double = keeps_sums file (same_refusal none-double) refl

  module _ (bytes : T (all_bytes file)) where
    abbrev NoneBelow : ℕ → Type 0
    NoneBelow n = (k : ℕ) → k < n → DoubleAt (grammar_of file) k → ⊥

    abbrev Found : Type 0
    Found = (i : ℕ) × FirstDouble (grammar_of file) i

    below : (n : ℕ) → n ≤ rules_of file → NoneBelow n ⊎ Found
    below zero h = inl (λ k l w. let z : ⊥ = omega arith in z)
    below (suc n) h = go (below n (omega arith)) (repeated (record_of file) n) refl
      where
        go : NoneBelow n ⊎ Found → (b : Bool) → repeated (record_of file) n ≡ b → NoneBelow (suc n) ⊎ Found
        go (inr found) b q = inr found
        go (inl absent) true q = inr (n, record { double = a_double file between n (omega arith) q; first = absent })
        go (inl absent) false q = inl (λ k l w. more k l w (ℕ_discrete k n))
          where
            off : repeated (record_of file) n ≡ true → ⊥
            off t = not_both (sym t ∙ q)

            more : (k : ℕ) → k < suc n → DoubleAt (grammar_of file) k → Dec (k ≡ n) → ⊥
            more k l w (yes e) = off (subst (λ (m : ℕ). repeated (record_of file) m ≡ true) e (is_repeated file between bytes k w).1)
            more k l w (no e) = absent k (omega arith) w

    either_between : WithoutDoubles (grammar_of file) ⊎ Found
    either_between = go (below (rules_of file) (omega arith))
      where
        go : NoneBelow (rules_of file) ⊎ Found → WithoutDoubles (grammar_of file) ⊎ Found
        go (inl absent) = inl (λ k w. absent k (is_repeated file between bytes k w).0 w)
        go (inr found) = inr found

pub files_between : FilesBetween
files_between = record { kept = kept_between; sums_kept = sums_kept; lost = loses; either = either_between }

-- files of document 01, which are among them
module _ (file : List ℕ) (before : grammar_refusal_before file ≡ none) where
  weights_zero : (r : ℕ) (rule : Rule) → rule_at (grammar_of file) r ≡ some rule → rule.weight ≡ 0
  weights_zero = each_rule file (λ rule. rule.weight ≡ 0) (λ r h. (unused file before r h).1)

  no_weight : (r : ℕ) (o : Option Rule) → rule_at (grammar_of file) r ≡ o → weight_by o ≡ 0
  no_weight r none q = refl
  no_weight r (some rule) q = weights_zero r rule q

  no_sum : (list : List ℕ) → weight_sum (grammar_of file) list ≡ 0
  no_sum [] = refl
  no_sum (r ∷ list) = omega (arith, no_weight r (rule_at (grammar_of file) r) refl, no_sum list)

  weightless : Weightless file
  weightless = record { weights_zero = weights_zero; sums_zero = no_sum }

  -- by the grammar that document 01 reads
  abbrev back : (P : Grammar → Type 0) → P (grammar_before file) → P (grammar_of file)
  back P = subst P (sym (same_grammar file before))

  pub accepted : WithoutDoubles (grammar_before file) → grammar_refusal file ≡ none
  accepted none-double = accepted_now file (accepted_between file before) (back WithoutDoubles none-double)

  kept : WithoutDoubles (grammar_before file) → Kept file (grammar_refusal_before file) (grammar_before file)
  kept none-double = let a = accepted none-double in keeps file (a ∙ sym before) (same_grammar file before) a

  lost : T (all_bytes file) → (i : ℕ) → FirstDouble (grammar_before file) i → Lost file i
  lost bytes i double = loses file (accepted_between file before) bytes i (back (λ g. FirstDouble g i) double)

  either : T (all_bytes file) → WithoutDoubles (grammar_before file) ⊎ ((i : ℕ) × FirstDouble (grammar_before file) i)
  either bytes =
      subst (λ (g : Grammar). WithoutDoubles g ⊎ ((i : ℕ) × FirstDouble g i)) (same_grammar file before)
      (either_between file (accepted_between file before) bytes)

pub old_files : OldFiles
old_files = record { weightless = weightless; accepted_between = accepted_between; kept = kept; lost = lost; either = either }

-- there are such files: that of the copy grammar of document 01, which is accepted still, and one that is not
pub copy_was_accepted : (grammar_refusal_before copy_file ≡ none) × (grammar_refusal copy_file ≡ none)
copy_was_accepted = (refl, refl)

pub shuffled_was_accepted : (grammar_refusal_before shuffled_file ≡ none) × (grammar_refusal shuffled_file ≡ some (Refusal.Grammar 10 1))
shuffled_was_accepted = (refl, refl)

-- with weights, so that document 01 does not accept them: one that is accepted still, and one that is not
pub weighed_was_accepted : (grammar_refusal_before weighed_file ≡ some (Refusal.Grammar 9 0)) × (grammar_refusal_between weighed_file ≡ none)
    × (grammar_refusal weighed_file ≡ none)
weighed_was_accepted = (refl, refl, refl)

pub shuffled_weighed_was_accepted : (grammar_refusal_before shuffled_weighed_file ≡ some (Refusal.Grammar 9 0)) × (grammar_refusal_between shuffled_weighed_file ≡ none)
    × (grammar_refusal shuffled_weighed_file ≡ some (Refusal.Grammar 10 1))
shuffled_weighed_was_accepted = (refl, refl, refl)

-- "Two records that differ only in weight still meet refusal 10.": then as now
pub two_weights_were_refused : (grammar_refusal_between two_weights_file ≡ some (Refusal.Grammar 10 1))
    × (grammar_refusal two_weights_file ≡ some (Refusal.Grammar 10 1))
two_weights_were_refused = (refl, refl)

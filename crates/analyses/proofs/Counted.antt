-- The count's answer, after its tests.
-- Assumes nothing.
use mathlib.Core.Path.{◌≡◌, sym, ap, ◌∙◌}
use mathlib.Core.Option.{Option, none, some}
use mathlib.Core.List.{List}
use Prim.Native.Nat.{ℕ}
use Rattle.model.specs.declared.Refusal.{Refusal}
use Rattle.model.specs.Base.{◌or_else◌}
use Rattle.model.specs.Verdict.{count_verdict, CountVerdict}
use Rattle.model.specs.GrammarFile.{grammar_refusal, grammar_of}
use Rattle.model.specs.Trace.{sentence_refusal}
use Rattle.model.specs.Counting.{limits_refusal, effort_refusal, count, effort}
use Rattle.model.specs.Calls.{count_call}
use Rattle.model.proofs.Tests.{first_of, rest_of, last_apart}
use Rattle.analyses.specs.Tests.{before_search}
use Rattle.std.specs.Prelude.{Err}

-- the tests before the walk
module _ (file sentence : List ℕ) (n limit : ℕ) where
  abbrev G : Option Refusal
  G = grammar_refusal file

  abbrev L : Option Refusal
  L = limits_refusal n limit

  abbrev W : Option Refusal
  W = sentence_refusal (grammar_of file) sentence

  abbrev E : Option Refusal
  E = effort_refusal (grammar_of file) sentence n limit

  pub tests_passed : before_search file sentence n limit ≡ none → (G ≡ none) × (L ≡ none) × (W ≡ none)
  tests_passed e =
      let r = rest_of G (L or_else W) e in
      (first_of G (L or_else W) e, first_of L W r, rest_of L W r)

  call_is : count_call file sentence n limit ≡ count_verdict (before_search file sentence n limit or_else E) (count (grammar_of file) sentence n) (effort (grammar_of file) sentence n)
  call_is = ap (λ (o : Option Refusal). count_verdict o (count (grammar_of file) sentence n) (effort (grammar_of file) sentence n)) (last_apart G L W E)

  pub searched_call : before_search file sentence n limit ≡ none → (v : CountVerdict) → v ≡ count_verdict E (count (grammar_of file) sentence n) (effort (grammar_of file) sentence n)
      → v ≡ count_call file sentence n limit
  searched_call e v f =
      f ∙ sym (call_is ∙ ap (λ (o : Option Refusal). count_verdict (o or_else E) (count (grammar_of file) sentence n) (effort (grammar_of file) sentence n)) e)

  pub refused_call : (x : Refusal) → before_search file sentence n limit ≡ some x → Err x ≡ count_call file sentence n limit
  refused_call x e = sym (call_is ∙ ap (λ (o : Option Refusal). count_verdict (o or_else E) (count (grammar_of file) sentence n) (effort (grammar_of file) sentence n)) e)

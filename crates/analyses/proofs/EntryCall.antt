-- The call for an entry: the tests before the search, and then its answer.
-- Assumes nothing.
use mathlib.Core.Path.{◌≡◌, refl, sym, ap, ◌∙◌}
use mathlib.Core.Option.{Option, none, some}
use mathlib.Core.List.{List}
use Prim.Native.Nat.{ℕ, ◌≤◌}
use lib.ListN.{length}
use Rattle.model.specs.declared.Refusal.{Refusal}
use Rattle.model.specs.Base.{◌or_else◌}
use Rattle.model.specs.Verdict.{verdict, Verdict}
use Rattle.model.specs.GrammarFile.{grammar_refusal, grammar_of}
use Rattle.model.specs.Trace.{sentence_refusal}
use Rattle.model.specs.Counting.{limits_refusal, entry}
use Rattle.model.specs.Calls.{written, room_refusal, entry_call_refusal, entry_verdict, entry_output}
use Rattle.model.proofs.Tests.{first_of, rest_of}
use Rattle.model.proofs.Verdicts.{refused_first, room_long}
use Rattle.analyses.specs.Tests.{before_entry, after_search}
use Rattle.std.specs.Prelude.{Err}

module _ (file sentence : List ℕ) (n limit m : ℕ) (out : List ℕ) where
  abbrev G : Option Refusal
  G = grammar_refusal file

  abbrev O : Option Refusal
  O = room_refusal out

  abbrev L : Option Refusal
  L = limits_refusal n limit

  abbrev W : Option Refusal
  W = sentence_refusal (grammar_of file) sentence

  abbrev B : Option Refusal
  B = before_entry file sentence n limit out

  abbrev A : Option Refusal
  A = after_search file sentence n limit m

  abbrev p : List ℕ
  p = entry (grammar_of file) sentence n m

  pub tests_passed : B ≡ none → (G ≡ none) × (L ≡ none) × (96 ≤ length out)
  tests_passed e =
      let r = rest_of G (O or_else L or_else W) e in
      (first_of G (O or_else L or_else W) e, first_of L W (rest_of O (L or_else W) r), room_long out (first_of O (L or_else W) r))

  joined : (a b c d e : Option Refusal) → (a or_else b or_else c or_else d or_else e) ≡ ((a or_else b or_else c or_else d) or_else e)
  joined none none none none e = refl
  joined none none none (some x) e = refl
  joined none none (some x) d e = refl
  joined none (some x) c d e = refl
  joined (some x) b c d e = refl

  call_is : entry_call_refusal file sentence n limit m out ≡ (B or_else A)
  call_is = joined G O L W A

  pub searched_call : B ≡ none → (v : Verdict) (last : List ℕ) → (v ≡ verdict A (length p)) × (last ≡ written A p out)
      → (v ≡ entry_verdict file sentence n limit m out) × (last ≡ entry_output file sentence n limit m out)
  searched_call e v last f =
      let a : A ≡ entry_call_refusal file sentence n limit m out = sym (call_is ∙ ap (λ (o : Option Refusal). o or_else A) e) in
      (f.0 ∙ ap (λ (o : Option Refusal). verdict o (length p)) a, f.1 ∙ ap (λ (o : Option Refusal). written o p out) a)

  pub refused_call : {x : Refusal} → B ≡ some x
      → (Err x ≡ entry_verdict file sentence n limit m out) × (out ≡ entry_output file sentence n limit m out)
  refused_call {x} e =
      let b : (B or_else A) ≡ some x = ap (λ (o : Option Refusal). o or_else A) e in
      (refused_first B A (length p) e ∙ ap (λ (o : Option Refusal). verdict o (length p)) (sym call_is), sym (ap (λ (o : Option Refusal). written o p out) (call_is ∙ b)))

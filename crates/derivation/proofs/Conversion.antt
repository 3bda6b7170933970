-- The outcome of a conversion, from the tests before its input, and the input's own.
-- Assumes nothing.
use mathlib.Core.Path.{◌≡◌, sym, ap, ◌∙◌}
use mathlib.Core.Option.{Option, none, some}
use mathlib.Core.List.{List}
use Prim.Native.Nat.{ℕ, ◌≤◌}
use lib.ListN.{length}
use Rattle.model.specs.declared.Refusal.{Refusal}
use Rattle.model.specs.Base.{◌or_else◌}
use Rattle.model.specs.Verdict.{verdict, Verdict}
use Rattle.model.specs.GrammarFile.{grammar_refusal, grammar_of}
use Rattle.model.specs.Trace.{sentence_refusal}
use Rattle.model.specs.Calls.{written, room_refusal}
use Rattle.model.proofs.Tests.{first_of, rest_of, last_apart}
use Rattle.model.proofs.Verdicts.{refused, sentence_short, room_long}
use Rattle.derivation.specs.TreeRun.{before_input}
use Rattle.std.specs.Prelude.{Err}

module _ (file sentence out : List ℕ) where
  abbrev G : Option Refusal
  G = grammar_refusal file

  abbrev O : Option Refusal
  O = room_refusal out

  abbrev W : Option Refusal
  W = sentence_refusal (grammar_of file) sentence

  abbrev B : Option Refusal
  B = before_input file sentence out

  pub tests_passed : B ≡ none → (G ≡ none) × (length sentence ≤ 96) × (96 ≤ length out)
  tests_passed e =
      let r = rest_of G (O or_else W) e in
      (first_of G (O or_else W) e, sentence_short (grammar_of file) sentence (rest_of O W r), room_long out (first_of O W r))

  -- the input's refusal is `own`; of an accepted one with n numbers, `list` is written
  module _ (own : Option Refusal) (n : ℕ) (list : List ℕ) where
    abbrev call : Option Refusal
    call = G or_else O or_else W or_else own

    call_is : call ≡ (B or_else own)
    call_is = last_apart G O W own

    pub tested_call : B ≡ none → (v : Verdict) (last : List ℕ) → (v ≡ verdict own n) × (last ≡ written own list out)
        → (v ≡ verdict call n) × (last ≡ written call list out)
    tested_call e v last f =
        let a : own ≡ call = sym (call_is ∙ ap (λ (o : Option Refusal). o or_else own) e) in
        (f.0 ∙ ap (λ (o : Option Refusal). verdict o n) a, f.1 ∙ ap (λ (o : Option Refusal). written o list out) a)

    pub refused_call : (x : Refusal) → B ≡ some x → (Err x ≡ verdict call n) × (out ≡ written call list out)
    refused_call x e =
        let met : call ≡ some x = call_is ∙ ap (λ (o : Option Refusal). o or_else own) e in
        (refused call n x met, sym (ap (λ (o : Option Refusal). written o list out) met))

-- Verdicts of tests that refuse or pass, one after the other.
-- Assumes nothing.
use mathlib.Core.Path.{◌≡◌, refl, sym, ap, ap₂, ◌∙◌}
use mathlib.Core.Option.{Option, none, some}
use Prim.Native.Nat.{ℕ, ◌≤◌}
use native.Mathlib.Omega.{arith}
use borrow.Author.Tests.{ltb-false}
use lib.Dec.{ltb}
use lib.ListN.{length}
use mathlib.Core.List.{List}
use Rattle.model.specs.declared.Refusal.{Refusal}
use Rattle.model.specs.Base.{◌or_else◌}
use Rattle.model.specs.Verdict.{refusal_answer, verdict_answer, count_answer, refuse_if, answered, counts, tested, Verdict, Tested, CountVerdict}
use Rattle.model.specs.Grammar.{Grammar}
use Rattle.model.specs.Trace.{places_refusal, sentence_refusal}
use Rattle.model.specs.Calls.{room_refusal}
use Rattle.model.proofs.Tests.{no_refusal, first_of}
use Rattle.std.specs.Prelude.{Result, Ok, Err, IsErrAnd}

-- an answer in the paper's terms says which value of the enum it is: different verdicts have different answers
pub same_refusal : (r s : Refusal) → refusal_answer r ≡ refusal_answer s → r ≡ s
same_refusal (Refusal.Grammar n p) (Refusal.Grammar m q) e = cc
same_refusal (Refusal.Analysis n p) (Refusal.Analysis m q) e = cc
same_refusal (Refusal.Desk n p) (Refusal.Desk m q) e = cc
same_refusal (Refusal.Grammar n p) (Refusal.Analysis m q) e = let z : ◌≡◌ {A = ℕ} 0 1 = cc in absurd (omega arith)
same_refusal (Refusal.Grammar n p) (Refusal.Desk m q) e = let z : ◌≡◌ {A = ℕ} 0 1 = cc in absurd (omega arith)
same_refusal (Refusal.Analysis n p) (Refusal.Grammar m q) e = let z : ◌≡◌ {A = ℕ} 0 1 = cc in absurd (omega arith)
same_refusal (Refusal.Analysis n p) (Refusal.Desk m q) e = let z : ◌≡◌ {A = ℕ} 0 1 = cc in absurd (omega arith)
same_refusal (Refusal.Desk n p) (Refusal.Grammar m q) e = let z : ◌≡◌ {A = ℕ} 0 1 = cc in absurd (omega arith)
same_refusal (Refusal.Desk n p) (Refusal.Analysis m q) e = let z : ◌≡◌ {A = ℕ} 0 1 = cc in absurd (omega arith)

pub same_verdict : (v w : Verdict) → verdict_answer v ≡ verdict_answer w → v ≡ w
same_verdict (Ok n) (Ok m) e = cc
same_verdict (Err r) (Err s) e = ap Err (same_refusal r s e)
same_verdict (Ok n) (Err s) e = let z : ◌≡◌ {A = ℕ} 0 1 = cc in absurd (omega arith)
same_verdict (Err r) (Ok m) e = let z : ◌≡◌ {A = ℕ} 0 1 = cc in absurd (omega arith)

pub same_count : (v w : CountVerdict) → count_answer v ≡ count_answer w → v ≡ w
same_count (Ok c) (Ok d) e =
    let x : c.count ≡ d.count = cc in
    let y : c.effort ≡ d.effort = cc in
    ap₂ (λ (n m : ℕ). Ok (counts n m)) x y
same_count (Err r) (Err s) e = ap Err (same_refusal r s e)
same_count (Ok c) (Err s) e = let z : ◌≡◌ {A = ℕ} 0 1 = cc in absurd (omega arith)
same_count (Err r) (Ok d) e = let z : ◌≡◌ {A = ℕ} 0 1 = cc in absurd (omega arith)

-- o is what tests refuse, and x the value of the call where they pass
pub refused : {A : Type 0} (o : Option Refusal) (x : A) (r : Refusal) → o ≡ some r → Err r ≡ answered o x
refused o x r e = sym (ap (λ (p : Option Refusal). answered p x) e)

pub accepted : {A : Type 0} (o : Option Refusal) (x y : A) → o ≡ none → y ≡ x → Ok y ≡ answered o x
accepted o x y e d = ap Ok d ∙ sym (ap (λ (p : Option Refusal). answered p x) e)

pub none_accepted : {A : Type 0} {o : Option Refusal} (x : A) → o ≡ none → answered o x ≡ Ok x
none_accepted x e = rw e

pub met_is : (o : Option Refusal) (r : Refusal) → o ≡ some r → Err r ≡ tested o
met_is o r e = refused o tt r e

pub passed_is : (o : Option Refusal) → o ≡ none → Ok tt ≡ tested o
passed_is o e = accepted o tt tt e refl

-- v is the answer of the tests o
module _ {A : Type 0} (o : Option Refusal) (x : A) (v : Result A Refusal) (is : v ≡ answered o x) where
  pub passed : {y : A} → v ≡ Ok y → o ≡ none
  passed {y} e = go o (sym is ∙ e)
    where
      go : (o : Option Refusal) → answered o x ≡ Ok y → o ≡ none
      go none f = refl
      go (some r) f = let z : ◌≡◌ {A = ℕ} 0 1 = cc in absurd (omega arith)

  pub met : {r : Refusal} → v ≡ Err r → o ≡ some r
  met {r} e = go o (sym is ∙ e)
    where
      go : (o : Option Refusal) → answered o x ≡ Err r → o ≡ some r
      go none f = let z : ◌≡◌ {A = ℕ} 0 1 = cc in absurd (omega arith)
      go (some s) f = cc

module _ (o : Option Refusal) (t : Tested) (is : t ≡ tested o) where
  pub tests_pass : {u : Unit} → t ≡ Ok u → o ≡ none
  tests_pass e = passed o tt t is e

  pub tests_met : {r : Refusal} → t ≡ Err r → o ≡ some r
  tests_met e = met o tt t is e

-- a refusal stands whatever is tested after it
pub refused_first : {A : Type 0} (o p : Option Refusal) (x : A) {r : Refusal} → o ≡ some r → Err r ≡ answered (o or_else p) x
refused_first o p x e = rw e

-- after a test that passed
pub after_pass : {A : Type 0} (o p : Option Refusal) (x : A) (v : Result A Refusal) → o ≡ none → v ≡ answered p x → v ≡ answered (o or_else p) x
after_pass o p x v e f = f ∙ sym (ap (λ (q : Option Refusal). answered (q or_else p) x) e)

-- the same of a row of tests
pub tests_stop : (o : Option Refusal) (t : Tested) → t ≡ tested o → (p : Option Refusal) {r : Refusal} → t ≡ Err r → Err r ≡ tested (o or_else p)
tests_stop o t is p e = refused_first o p tt (tests_met o t is e)

pub tests_after : (o p : Option Refusal) (t : Tested) → o ≡ none → t ≡ tested p → t ≡ tested (o or_else p)
tests_after o p t e f = after_pass o p tt t e f

-- `?` hands a refusal on as it is
pub handed_on : {A : Type 0} {r : Refusal} (v : Result A Refusal) → IsErrAnd v (λ (x : Refusal). x ≡ r) → v ≡ Err r
handed_on (Ok a) e = absurd e
handed_on (Err x) e = ap Err e

pub sentence_short : (g : Grammar) (sentence : List ℕ) → sentence_refusal g sentence ≡ none → length sentence ≤ 96
sentence_short g sentence e =
    ltb-false 96 (length sentence)
    (no_refusal (ltb 96 (length sentence)) (Refusal.Analysis 11 96) (first_of (refuse_if (ltb 96 (length sentence)) (Refusal.Analysis 11 96)) (places_refusal g.words 0 sentence) e))

pub room_long : (out : List ℕ) → room_refusal out ≡ none → 96 ≤ length out
room_long out e = ltb-false (length out) 96 (no_refusal (ltb (length out) 96) (Refusal.Desk 23 0) e)

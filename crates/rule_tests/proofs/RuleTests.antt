-- Refusals 6 to 9 of a record, and with refusal 10 those of a rule.
-- Assumes nothing.
use mathlib.Core.Path.{◌≡◌, refl, ap, ◌∙◌}
use mathlib.Core.List.{List}
use mathlib.Core.Option.{Option, none, some}
use Prim.Native.Nat.{ℕ}
use Rattle.model.specs.declared.Refusal.{Refusal}
use Rattle.model.specs.Base.{◌or_else◌}
use Rattle.model.specs.Verdict.{refuse_if, tested, Tested}
use Rattle.model.specs.GrammarFile.{wrong_category, wrong_word, wrong_variables, unused_set, repeated, record_refusal}
use Rattle.record_tests.specs.RecordTests.{record_tests}
use Rattle.model.proofs.Verdicts.{tests_pass, tests_stop, tests_after}
use Rattle.std.specs.Prelude.{Ok, Err}

-- tests joined in two groups
join_joined : (a b c d e : Option Refusal) → (a or_else b or_else c or_else d) or_else e ≡ a or_else b or_else c or_else d or_else e
join_joined (some r) b c d e = refl
join_joined none (some r) c d e = refl
join_joined none none (some r) d e = refl
join_joined none none none d e = refl

-- records by their numbers, as the file has them or as the writer is given them
module _ (dimensions : List ℕ) (words : ℕ) (at : ℕ → List ℕ) (i : ℕ) where
  -- the tests of record i: 6 to 9, and 10
  abbrev pub up_to9 : Option Refusal
  up_to9 = record_tests dimensions words (at i) i

  abbrev tenth : Option Refusal
  tenth = refuse_if (repeated at i) (Refusal.Grammar 10 i)

  with_tenth : up_to9 or_else tenth ≡ record_refusal dimensions words at i
  with_tenth =
      join_joined (refuse_if (wrong_category dimensions (at i)) (Refusal.Grammar 6 i)) (refuse_if (wrong_word dimensions (at i) words) (Refusal.Grammar 7 i))
      (refuse_if (wrong_variables dimensions (at i)) (Refusal.Grammar 8 i)) (refuse_if (unused_set dimensions (at i)) (Refusal.Grammar 9 i)) tenth

  -- t is the answer of 6 to 9: it stands where one of them meets, and else 10 decides
  module _ (t : Tested) (is : t ≡ tested up_to9) where
    pub record_stop : {r : Refusal} → t ≡ Err r → Err r ≡ tested (record_refusal dimensions words at i)
    record_stop e = tests_stop up_to9 t is tenth e ∙ ap tested with_tenth

    pub record_pass : {x : Unit} → t ≡ Ok x → (u : Tested) → u ≡ tested (refuse_if (repeated at i) (Refusal.Grammar 10 i)) → u ≡ tested (record_refusal dimensions words at i)
    record_pass e u f = tests_after up_to9 tenth u (tests_pass up_to9 t is e) f ∙ ap tested with_tenth

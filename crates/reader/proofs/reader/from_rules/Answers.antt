-- `reader::from_rules` meets its contract.
-- Assumes nothing.
use mathlib.Core.Path.{◌≡◌, sym, ap, ◌∙◌}
use mathlib.Core.List.{List}
use mathlib.Core.Option.{Option}
use Prim.Native.Nat.{ℕ}
use Rattle.model.specs.declared.Refusal.{Refusal}
use Rattle.model.specs.Verdict.{refuse_if, tested, Tested}
use Rattle.model.specs.GrammarFile.{dimensions_of, words_of, record_of, rules_of, wrong_rest}
use Rattle.model.proofs.Verdicts.{handed_on, tests_pass, tests_stop, tests_after}
use Rattle.rule_tests.specs.Rules.{rules_refusal}
use Rattle.model.proofs.TestLoops.{refuse_on, refuse_off}
use Rattle.reader.proofs.reader.from_rules.Goals as goal
use Rattle.std.specs.Prelude.{Err}

abbrev of_rules : List ℕ → Option Refusal
of_rules file = rules_refusal (dimensions_of file) (words_of file) (record_of file) (rules_of file)

-- the answer for what the accessors give is the answer for the file's own fields
given : {t : Tested} (file dimensions : List ℕ) (words n : ℕ) → t ≡ tested (rules_refusal dimensions words (record_of file) n) → dimensions ≡ dimensions_of file → words ≡ words_of file → n ≡ rules_of file → t ≡ tested (of_rules file)
given file dimensions words n is d w r =
    is ∙ ap (λ (x : List ℕ). tested (rules_refusal x words (record_of file) n)) d ∙ ap (λ (x : ℕ). tested (rules_refusal (dimensions_of file) x (record_of file) n)) w
    ∙ ap (λ (x : ℕ). tested (rules_refusal (dimensions_of file) (words_of file) (record_of file) x)) r

pub returns-in_err-rules_refusal : goal.returns-in_err-rules_refusal
returns-in_err-rules_refusal c =
    let file = c.args.file.now in
    let rest = refuse_if (wrong_rest file) (Refusal.Grammar 9 (rules_of file)) in
    let each = given file c.dimensions.result.now c.words.result c.rules-n.result c.rules_refusal.ensures c.dimensions.ensures c.words.ensures c.rules-n.ensures in
    rw (handed_on c.from_residual.result c.from_residual.ensures.1) (tests_stop (of_rules file) c.rules_refusal.result each rest c.in_err-rules_refusal.was)

pub returns-then-wrong_rest : goal.returns-then-wrong_rest
returns-then-wrong_rest c =
    let file = c.args.file.now in
    let rest = refuse_if (wrong_rest file) (Refusal.Grammar 9 (rules_of file)) in
    let each = given file c.dimensions.result.now c.words.result c.rules-n.result c.rules_refusal.ensures c.dimensions.ensures c.words.ensures c.rules-n.ensures in
    let pass = tests_pass (of_rules file) c.rules_refusal.result each c.in_ok-rules_refusal.was in
    let wrong = refuse_on (wrong_rest file) (Refusal.Grammar 9 (rules_of file)) (sym c.wrong_rest.ensures ∙ c.if-wrong_rest.true) in
    tests_after (of_rules file) rest _ pass (ap (λ (k : ℕ). Err (Refusal.Grammar 9 k)) c.rules-n.ensures ∙ sym (ap tested wrong))

pub returns : goal.returns
returns c =
    let file = c.args.file.now in
    let rest = refuse_if (wrong_rest file) (Refusal.Grammar 9 (rules_of file)) in
    let each = given file c.dimensions.result.now c.words.result c.rules-n.result c.rules_refusal.ensures c.dimensions.ensures c.words.ensures c.rules-n.ensures in
    let pass = tests_pass (of_rules file) c.rules_refusal.result each c.in_ok-rules_refusal.was in
    let right = refuse_off (wrong_rest file) (Refusal.Grammar 9 (rules_of file)) (sym c.wrong_rest.ensures ∙ c.if-wrong_rest.false) in
    tests_after (of_rules file) rest _ pass (sym (ap tested right))

-- Refusals 6 to 10 of rules, in their order.
-- Assumes nothing.
use Rattle.std.specs.Prelude.{List, ℕ}
use Rattle.std.proofs.Math.Option.{Option}
use Rattle.model.specs.declared.Refusal.{Refusal}
use Rattle.model.specs.Base.{first_from}
use Rattle.model.specs.GrammarFile.{record_refusal}

-- "Per rule, place its number": of the rules 0 to n - 1, rule after rule, the first there is
abbrev pub rules_refusal : List ℕ → ℕ → (ℕ → List ℕ) → ℕ → Option Refusal
rules_refusal dimensions words record_at n = first_from (record_refusal dimensions words record_at) 0 n

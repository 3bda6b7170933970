-- `reader::blocks_refusal` meets its contract. The loop keeps: the first refusal is the first from block k on.
-- Assumes nothing.
use Rattle.std.specs.Prelude.{ℕ, Bool, ◌≡◌, ◌-◌}
use Rattle.model.specs.declared.Refusal.{Refusal}
use Rattle.model.specs.Base.{first_from}
use Rattle.model.specs.Verdict.{refuse_if, tested}
use Rattle.model.proofs.TestLoops.{left}
use Rattle.reader.proofs.blocks.blocks_refusal.Given as goal

abbrev pub invariant-loop-k : goal.invariant-loop-k
invariant-loop-k g l =
    (test : ℕ → Bool) → ((k : ℕ) (r : Bool) → goal.F-post g l.meets k r → r ≡ test k)
    → tested (first_from (λ k. refuse_if (test k) (Refusal.Grammar l.number k)) l.from (l.n - l.from)) ≡ left (λ k. refuse_if (test k) (Refusal.Grammar l.number k)) l.k l.n

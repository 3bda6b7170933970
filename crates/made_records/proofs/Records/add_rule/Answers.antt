-- `made_records::Records::add_rule` meets its contract.
-- Assumes nothing.
use native.Mathlib.Omega.{arith}
use mathlib.Core.Path.{sym, subst}
use Rattle.std.specs.Prelude.{Option, Some}
use Prim.Native.Nat.{ℕ, ◌+◌}
use Rattle.made_records.specs.Records.{AddsRule}
use Rattle.made_records.proofs.RecordLaws.{rule_put}
use Rattle.made_records.proofs.Records.add_rule.Goals as goal

pub returns-in-Some : goal.returns-in-Some
returns-in-Some c =
    let rule = c.args.rule in
    let bytes = c.args.self.now.bytes in
    let after = c.put_record.new.records in
    let k = c.in-Some.k in
    subst (λ (o : Option ℕ). AddsRule rule (record { bytes = bytes; count = o }) (record { bytes = after; count = Some (k + 1) })) (sym c.in-Some.is)
    (rule_put rule bytes after k (omega arith) (rw (c.front_of-front.ensures, c.shape_of.ensures) at c.put_record.ensures))

-- `made_rules::add_entry_rules` meets its contract.
-- Assumes nothing.
use mathlib.Core.Path.{◌≡◌, refl, subst, ◌∙◌}
use native.Mathlib.Omega.{arith}
use Prim.Native.Nat.{ℕ}
use Rattle.made_rules.specs.Listed.{Lists}
use Rattle.made_rules.proofs.Listing.{lists_none, lists_then, with_entries_of, entries_next}
use Rattle.made_rules.proofs.entries.add_entry_rules.Goals as goal

pub loop-i-init : goal.loop-i-init
loop-i-init c = lists_none c.args.forms.now c.args.records.now (λ forms t. refl)

pub loop-i-preserved : goal.loop-i-preserved
loop-i-preserved c =
    let t = c.loop-i in
    lists_then t.invariant c.add_entry_rule.ensures (λ forms l. entries_next c.args.bytes.now t.i _ c.entry_bytes.ensures forms)

pub returns : goal.returns
returns c =
    let t = c.loop-i in
    let a = c.args in
    let end : t.i ≡ a.count = omega arith in
    subst (λ (x : ℕ). Lists (with_entries_of a.bytes.now x) a.forms.now a.records.now t.records) (end ∙ c.requires.1) t.invariant

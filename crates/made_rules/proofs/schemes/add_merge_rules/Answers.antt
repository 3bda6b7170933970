-- `made_rules::add_merge_rules` meets its contract.
-- Assumes nothing.
use mathlib.Core.Path.{◌≡◌, refl, subst}
use native.Mathlib.Omega.{arith}
use Prim.Native.Nat.{ℕ}
use lib.ListN.{length}
use Rattle.made_rules.specs.Listed.{Lists, with_merges}
use Rattle.made_rules.proofs.Listing.{lists_none, lists_then, merges_next}
use Rattle.made_rules.proofs.schemes.add_merge_rules.Goals as goal

pub loop-j-init : goal.loop-j-init
loop-j-init c = lists_none c.args.forms.now c.args.records.now (λ forms t. refl)

pub loop-j-preserved : goal.loop-j-preserved
loop-j-preserved c =
    let t = c.loop-j in
    lists_then t.invariant c.add_merge_rule.ensures (λ forms l. merges_next c.args.i t.j forms (omega arith))

pub returns : goal.returns
returns c =
    let t = c.loop-j in
    let a = c.args in
    let end : t.j ≡ length a.forms.now = omega arith in
    subst (λ (x : ℕ). Lists (with_merges a.i x) a.forms.now a.records.now t.records) end t.invariant

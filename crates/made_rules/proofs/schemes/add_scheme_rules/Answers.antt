-- `made_rules::add_scheme_rules` meets its contract.
-- Assumes nothing.
use mathlib.Core.Path.{◌≡◌, refl, ◌∙◌}
use native.Mathlib.Omega.{arith}
use mathlib.Core.List.{◌++◌}
use lib.ListN.{length}
use Rattle.made_rules.specs.Listed.{with_merges, with_schemes_of}
use Rattle.made_rules.proofs.Listing.{lists_none, lists_then, lists_same, schemes_next, schemes_all}
use Rattle.made_rules.proofs.schemes.add_scheme_rules.Goals as goal

pub loop-i-init : goal.loop-i-init
loop-i-init c = lists_none c.args.forms.now c.args.records.now (λ forms t. refl)

pub loop-i-preserved : goal.loop-i-preserved
loop-i-preserved c =
    let t = c.loop-i in
    let n = length c.args.forms.now in
    let merged = lists_then {h = λ forms. with_schemes_of t.i forms ++ with_merges t.i n forms} t.invariant c.add_merge_rules.ensures (λ forms l. refl) in
    lists_then merged c.add_move_rule.ensures (λ forms l. schemes_next t.i n forms l (omega arith))

pub returns : goal.returns
returns c =
    let t = c.loop-i in
    let end : t.i ≡ length c.args.forms.now = omega arith in
    lists_same t.invariant (λ forms l. schemes_all t.i forms (end ∙ l))

-- `grammar::total` meets its contract.
-- Assumes nothing.
use Rattle.std.proofs.Common.{◌≡◌, ◌∙◌, rules}
use Rattle.std.specs.List.{sum}
use Rattle.std.proofs.iter.runs.Made.{chains}
use Rattle.grammar.proofs.FromStd.{total_is}
use Rattle.grammar.proofs.lists.total.Goals as goal

pub returns : goal.returns
returns c =
    let e : c.sum.result ≡ sum c.args.bytes.now = search (rules, chains) in
    e ∙ total_is c.args.bytes.now

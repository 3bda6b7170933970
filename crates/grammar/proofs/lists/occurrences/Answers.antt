-- `grammar::occurrences` meets its contract.
-- Assumes nothing.
use Rattle.std.proofs.Common.{◌≡◌, ◌∙◌, rules, eqb}
use Rattle.std.specs.List.{count_by}
use Rattle.std.proofs.iter.runs.Made.{chains}
use Rattle.grammar.proofs.FromStd.{occurrences_is}
use Rattle.grammar.proofs.lists.occurrences.Goals as goal

pub returns : goal.returns
returns c =
    let e : c.count.result ≡ count_by (λ y. eqb y c.args.x) c.args.bytes.now = search (rules, chains) in
    e ∙ occurrences_is c.args.x c.args.bytes.now

-- `grammar::byte_of` meets its contract.
-- Assumes nothing.
use Rattle.std.proofs.Common.{◌≡◌, ℕ, ◌+◌, arith, ap, sym, ◌∙◌, get_or}
use Rattle.model.specs.GrammarFile.{record_place}
use Rattle.grammar.proofs.Parts.{part_at}
use Rattle.grammar.proofs.rule.byte_of.Goals as goal

pub returns : goal.returns
returns c =
    let a = c.args in
    c.byte.ensures ∙ ap (λ (p : ℕ). get_or a.file.now (p + a.i) 0) c.record_place.ensures ∙ sym (part_at a.file.now (record_place a.r.0) 24 a.i c.requires)

-- `tally::prefixes::note` meets its contract.
-- Assumes nothing.
use mathlib.Core.Path.{sym, ◌∙◌}
use native.Mathlib.Omega.{arith}
use lib.Seq.{length-take-le}
use Rattle.tally.proofs.Notes.{notes_this, notes_other, notes_none}
use Rattle.tally.proofs.prefixes.note.Goals as goal

pub returns-then-not-at_end : goal.returns-then-not-at_end
returns-then-not-at_end c =
    let a = c.args in
    notes_none a.sentence.now a.path.now a.at a.m a.held.now a.so c.requires (sym c.if-not-at_end.true ∙ c.at_end.ensures)

pub returns-then-so-m : goal.returns-then-so-m
returns-then-so-m c =
    let a = c.args in
    notes_other a.sentence.now a.path.now a.at a.m a.held.now a.so c.requires (sym c.if-not-at_end.false ∙ c.at_end.ensures) c.if-so-m.true

pub returns : goal.returns
returns c =
    let a = c.args in
    let may = c.requires in
    notes_this a.sentence.now a.path.now a.at a.m a.held.now a.so may (sym c.if-not-at_end.false ∙ c.at_end.ensures) c.if-so-m.false _
    (rw (length-take-le a.at.steps a.path.now (omega (arith, may.long, may.within))) at c.write_front.ensures)

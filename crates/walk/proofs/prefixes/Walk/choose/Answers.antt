-- `walk::prefixes::Walk::choose` meets its contract.
-- Assumes nothing.
use Rattle.walk.proofs.Nexts.{chosen_resumed, chosen_here}
use Rattle.walk.proofs.prefixes.Walk.choose.Goals as goal

pub first_open-requires : goal.first_open-requires
first_open-requires c =
    let p = c.requires in
    record { grammar = p.grammar; path = p.path; trailed = p.walking.trailed }

pub resume-requires : goal.resume-requires
resume-requires c =
    let a = c.args in
    let p = c.requires in
    record { grammar = p.grammar; t = a.tables.now.rules; chain = a.tables.now.chain; sentence = a.sentence.now; array = a.self.now.queues; path = p.path; walking = p.walking }

pub returns-in-None : goal.returns-in-None
returns-in-None c =
    let a = c.args in
    chosen_resumed a.tables.now.rules a.tables.now.chain a.sentence.now a.self.now.queues a.self.now.turns a.at (rw c.in-None.is at c.first_open.ensures) _ c.resume.ensures

pub returns-in-Some : goal.returns-in-Some
returns-in-Some c =
    let a = c.args in
    chosen_here a.tables.now.rules a.tables.now.chain a.sentence.now a.self.now.queues a.self.now.turns a.at _ (rw c.in-Some.is at c.first_open.ensures)

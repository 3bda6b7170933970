-- `walk::prefixes::Walk::resume` meets its contract.
-- Assumes nothing.
use Rattle.walk.proofs.Nexts.{turn_within, resumes_nothing, resumes_step}
use Rattle.walk.proofs.prefixes.Walk.resume.Goals as goal

pub returns-in_err-r : goal.returns-in_err-r
returns-in_err-r c =
    let a = c.args in
    rw c.from_residual.ensures (resumes_nothing a.self.now.turns a.at (rw c.in_err-r.was at c.rule_of.ensures))

pub standing_of-requires : goal.standing_of-requires
standing_of-requires c =
    let a = c.args in
    let p = c.requires in
    turn_within a.self.now.turns a.at p.grammar p.t p.chain p.sentence p.array p.path p.walking

pub returns : goal.returns
returns c =
    let a = c.args in
    resumes_step a.self.now.turns a.at c.in_ok-r.r (rw c.in_ok-r.was at c.rule_of.ensures) c.standing_of.result c.standing_of.ensures

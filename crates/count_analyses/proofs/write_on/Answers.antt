-- What `count_analyses::write_on` writes is within the text.
use Rattle.std.proofs.Common.{◌+◌, ◌≤◌, length, rules}
use Rattle.count_analyses.proofs.write_on.Goals as goal

within : (g : _) (c : goal.In-Some g) → c.args.done + c.in-Some.n ≤ length c.args.text.now
within g c = let h = rw c.in-Some.is at (c.in_ok-moved.ensures _ c.write_some.ensures.bound) in search rules

pub overflow_add-result : goal.overflow_add-result
overflow_add-result g c = let h = within g c in search rules

pub returns-in-Some : goal.returns-in-Some
returns-in-Some g c = within g c

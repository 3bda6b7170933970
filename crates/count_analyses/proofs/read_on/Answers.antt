-- What `count_analyses::read_on` puts into the buffer is what was read.
use Rattle.std.proofs.Common.{ℕ, ◌≤◌, List, length, rules}
use Rattle.std.specs.Prelude.{Result, Ok, Err, IfOk}
use Rattle.std.specs.Counts.{IsPrefixLen}
use Rattle.count_analyses.proofs.read_on.Goals as goal

no_more : {E : Type 0} (r : Result ℕ E) (buf : List ℕ) → IfOk r (λ n. IsPrefixLen n buf) → IfOk r (λ n. n ≤ length buf)
no_more (Ok n) buf h = h.0
no_more (Err e) buf h = tt

within : (g : _) (c : goal.In-Some g) → c.in-Some.n ≤ length c.read.new.buf
within g c = rw c.in-Some.is at (c.in_ok-moved.ensures c.read.new.buf (no_more c.read.result c.read.new.buf c.read.ensures.bound))

pub slice_bounds-append-end : goal.slice_bounds-append-end
slice_bounds-append-end g c = within g c

pub slice_bounds-append-end-in-Some : goal.slice_bounds-append-end-in-Some
slice_bounds-append-end-in-Some g c = let h = within g c in search rules

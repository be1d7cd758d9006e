-- A tail is the step's minutes and the tail of its target, and fits.
use Rattle.std.proofs.Common.{◌≡◌, ◌+◌, arith}
use Rattle.steps.specs.Limits.{max_minutes}
use Rattle.ways.specs.Paths.{tail}
use Rattle.plans.proofs.Bounds.{tail_most}
use Rattle.plans.proofs.Chains.{tails_right}
use Rattle.paths.proofs.tails.+tail.Goals as goal

further : (t : _) (c : goal.After-tail t) → c.from-minutes.result + c.tail.result ≡ tail c.args.steps.now c.args.i
further t c =
    let split = (tails_right c.args.steps.now c.requires.descending).1 c.args.i (omega arith) c.requires.within in
    omega (arith, split, c.from-minutes.ensures, c.tail.ensures)

pub overflow_add-result : goal.overflow_add-result
overflow_add-result t c =
    let most = tail_most c.args.steps.now c.requires.descending max_minutes (λ i h. (c.requires.timed i h).1) c.args.i c.requires.within in
    omega (arith, further t c, most, c.requires.within, c.requires.few)

pub returns-else-i-eq0 : goal.returns-else-i-eq0
returns-else-i-eq0 t c = further t c

-- One entry more is begun.
use Rattle.std.proofs.Common.{arith}
use Rattle.choice.proofs.Entering.{entries_begun}
use Rattle.choice.proofs.settling.begin.Goals as goal

pub returns : goal.returns
returns c = entries_begun c.args.limit c.args.paths.now.steps.now c.loop-i.table (λ k h. c.loop-i.invariant k (omega (arith, h, c.loop-i-test.false)))

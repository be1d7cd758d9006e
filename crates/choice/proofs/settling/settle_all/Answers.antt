-- From one step to the next lower one.
use Rattle.std.proofs.Common.{◌≡◌, ◌+◌, ◌-◌, subst, arith}
use Rattle.choice.specs.Entries.{Settled}
use Rattle.choice.proofs.settling.settle_all.Goals as goal

pub settle-requires-clause-settled : goal.settle-requires-clause-settled
settle-requires-clause-settled c =
    let next : c.loop-i.i ≡ c.loop-i.i - 1 + 1 = omega arith in
    subst (λ n. Settled c.args.limit c.args.paths.now.steps.now n c.loop-i.table) next c.loop-i.invariant.1

pub returns : goal.returns
returns c =
    let first : c.loop-i.i ≡ 0 = omega arith in
    subst (λ n. Settled c.args.limit c.args.paths.now.steps.now n c.loop-i.table) first c.loop-i.invariant.1

-- What is added up fits.
use Rattle.std.proofs.Common.{sym, subst}
use Rattle.choice.specs.Entries.{Within}
use Rattle.choice.proofs.Amounts.{least_within}
use Rattle.choice.proofs.planned.Goals as goal

pub consider-best-requires-clause-within : goal.consider-best-requires-clause-within
consider-best-requires-clause-within c =
    let paths = c.args.paths.now in
    subst Within (sym c.at_limit-sums.ensures) (least_within _ paths.steps.now paths.size.1 paths.timed 0 paths.size.0)

-- The chain joins by the greater.
use Rattle.std.proofs.Common.{sym, ap, rules}
use Rattle.measures.specs.Counter.{meaning_of}
use Rattle.measures.proofs.counter.CounterMeasureMeasure.join.Goals as goal

pub returns-in-Chain : goal.returns-in-Chain
returns-in-Chain c =
    let greater = sym (ap (λ m. (meaning_of m).joins c.args.a c.args.b) c.in-Chain.is) in
    search (rules, greater)

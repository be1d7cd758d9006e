use Rattle.policies.specs.Kept.{put_made}
use Rattle.policies.proofs.counter_list.CounterListChangeable.set.Goals as goal

pub returns-clause-after : goal.returns-clause-after
returns-clause-after c = put_made (λ ranks. record { ranks = ranks }) c.args.self.now.ranks _ c.args.step c.args.value c.set.ensures.after

use Rattle.plans.proofs.Rule.{planned_keeps, planned_only}
use Rattle.plans.proofs.rule_stands.Goals as goal

pub returns : goal.returns
returns c = record { keeps = planned_keeps; only = planned_only }

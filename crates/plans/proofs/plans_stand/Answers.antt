use Rattle.plans.proofs.Planned.{planned_right}
use Rattle.plans.proofs.plans_stand.Goals as goal

pub returns : goal.returns
returns c = planned_right

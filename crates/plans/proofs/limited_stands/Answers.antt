use Rattle.plans.proofs.Limited.{taken_right}
use Rattle.plans.proofs.limited_stands.Goals as goal

pub returns : goal.returns
returns c = taken_right

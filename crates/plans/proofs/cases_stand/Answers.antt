use Rattle.std.proofs.Common.{refl}
use Rattle.plans.proofs.cases_stand.Goals as goal

pub returns : goal.returns
returns c = refl

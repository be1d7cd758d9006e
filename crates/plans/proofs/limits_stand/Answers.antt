use Rattle.plans.proofs.Leaves.{leaves_right}
use Rattle.plans.proofs.Limits.{limits_right}
use Rattle.plans.proofs.limits_stand.Goals as goal

pub returns : goal.returns
returns c = record { leaves = leaves_right; limits = limits_right }

use Rattle.steps.proofs.Repeats.{repeated}
use Rattle.policies.specs.Values.{kept_values}
use Rattle.policies.proofs.values.Values.new.Goals as goal

pub returns : goal.returns
returns c step = repeated kept_values step 0

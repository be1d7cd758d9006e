use Rattle.plans.proofs.Chains.{tails_right, chains_right}
use Rattle.plans.proofs.chains_stand.Goals as goal

pub returns : goal.returns
returns c = record { tails = tails_right; chains = chains_right }

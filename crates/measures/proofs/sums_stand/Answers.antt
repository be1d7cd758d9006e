use Rattle.measures.proofs.Unstopped.{sums_plain}
use Rattle.measures.proofs.sums_stand.Goals as goal

pub returns : goal.returns
returns c = sums_plain

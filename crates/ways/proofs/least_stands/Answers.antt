use Rattle.std.proofs.Common.{ℕ}
use Rattle.ways.specs.Measures.{numbers}
use Rattle.ways.proofs.LeastRight.{least_right, numbers_rise}
use Rattle.ways.proofs.least_stands.Goals as goal

pub returns : goal.returns
returns c = λ m. least_right ℕ (numbers m) (numbers_rise m)

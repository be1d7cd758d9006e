use Rattle.schedules.proofs.Bounds.{lower_bounds, first_ends_last}
use Rattle.schedules.proofs.FinishBound.{greedy_bound}
use Rattle.schedules.proofs.Runs.{dispatch_bound}
use Rattle.schedules.proofs.bounds_stand.Goals as goal

pub returns : goal.returns
returns c = record { greedy = greedy_bound; most = dispatch_bound; least = lower_bounds; last = first_ends_last }

use Rattle.schedules.proofs.Runs.{dispatch_valid}
use Rattle.schedules.proofs.timetables_stand.Goals as goal

pub returns : goal.returns
returns c = dispatch_valid

use Rattle.schedules.proofs.RuleMet.{dispatch_meets_rule}
use Rattle.schedules.proofs.RuleUnique.{rule_unique}
use Rattle.schedules.proofs.rule_stands.Goals as goal

pub returns : goal.returns
returns c = record { met = dispatch_meets_rule; unique = rule_unique }

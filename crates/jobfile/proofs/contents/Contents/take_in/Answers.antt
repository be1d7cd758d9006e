-- A step is put behind those that were taken in.
use Rattle.std.proofs.Common.{rules}
use Rattle.std.proofs.lemmas.List.{take_more_set}
use Rattle.jobfile.proofs.contents.Contents.take_in.Goals as goal

pub returns-in-Step : goal.returns-in-Step
returns-in-Step c = search (rules, take_more_set)

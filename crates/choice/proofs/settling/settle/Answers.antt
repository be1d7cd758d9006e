-- Step i is settled, and folded into its target where it has one.
use Rattle.std.proofs.Common.{◌≡◌, ◌<◌, refl, ◌∙◌, arith}
use Rattle.steps.specs.Sheet.{step}
use Rattle.ways.specs.Least.{least_of}
use Rattle.plans.specs.Limited.{both, sheet_at}
use Rattle.choice.proofs.Entering.{settled_sums, entries_first, entries_more, sums_within, fold_within}
use Rattle.choice.proofs.settling.settle.Goals as goal
use Rattle.choice.proofs.settling.settle.Goals.{After-finish-sums}

is_least : (c : After-finish-sums) → c.finish-sums.result ≡ least_of both (sheet_at c.args.limit c.args.paths.now.steps.now) c.args.i
is_least c = c.finish-sums.ensures ∙ settled_sums c.args.limit c.args.paths.now.steps.now c.args.table.now c.args.i c.requires.within c.requires.settled c.closed_at-closed.result c.closed_at-closed.ensures

pub finish-sums-requires : goal.finish-sums-requires
finish-sums-requires c =
    let ss = c.args.paths.now.steps.now in
    let es = c.args.table.now in
    let i = c.args.i in
    let limit = c.args.limit in
    sums_within limit ss es i c.requires.within c.requires.settled c.args.paths.now.size.1 c.args.paths.now.timed _
    (settled_sums limit ss es i c.requires.within c.requires.settled c.closed_at-closed.result c.closed_at-closed.ensures)

pub fold-requires : goal.fold-requires
fold-requires c =
    let ss = c.args.paths.now.steps.now in
    let i = c.args.i in
    let low : (step ss i).target < i = c.args.paths.now.descending i c.if-i-gt0.true c.requires.within in
    fold_within c.args.limit ss c.args.table.now i c.requires.within c.requires.settled c.args.paths.now.size.1 c.args.paths.now.timed low c.finish-sums.result (is_least (goal.at.fold-requires c).After-finish-sums) _

pub returns-then-i-gt0 : goal.returns-then-i-gt0
returns-then-i-gt0 c =
    let ss = c.args.paths.now.steps.now in
    let i = c.args.i in
    let low : (step ss i).target < i = c.args.paths.now.descending i c.if-i-gt0.true c.requires.within in
    entries_more c.args.limit ss c.args.table.now i c.requires.within c.requires.settled low c.finish-sums.result (is_least (goal.at.returns-then-i-gt0 c).After-finish-sums) _ c.requires.room refl c.fold.result c.fold.ensures

pub returns-else-i-gt0 : goal.returns-else-i-gt0
returns-else-i-gt0 c =
    entries_first c.args.limit c.args.paths.now.steps.now c.args.table.now c.args.i c.requires.within c.requires.settled (omega (arith, c.if-i-gt0.false)) c.requires.room c.finish-sums.result (is_least (goal.at.returns-else-i-gt0 c).After-finish-sums)

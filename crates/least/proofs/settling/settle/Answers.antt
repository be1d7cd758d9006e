-- Step i is settled, and folded into its target where it has one.
use Rattle.std.proofs.Common.{◌<◌, length, set, ◌∙◌, arith}
use Rattle.std.proofs.lemmas.List.{drop-set-lt}
use Rattle.steps.specs.Sheet.{step}
use Rattle.least.proofs.Tables.{first_settled, more_settled}
use Rattle.least.proofs.settling.settle.Goals as goal

pub returns-then-i-gt0 : goal.returns-then-i-gt0
returns-then-i-gt0 g c =
    let m = g.M.Measure.meaning c.args.measure.now in
    let number = g.M.Measure.number c.args.measure.now in
    let ss = c.args.steps.now in
    let i = c.args.i in
    let table = c.args.table.now in
    let e = c.entry.result in
    let low : (step ss i).target < i = c.requires.descending i c.if-i-gt0.true c.requires.within in
    record {
      settled = more_settled _ m number ss table i c.requires.room c.requires.within c.requires.settled _ c.index-table-i.is _ c.least.ensures _ c.finish-least.ensures e c.entry.ensures low _ c.index-table-target.is _ c.least-so_far.ensures _ c.fold.ensures _ c.entry-then-i-gt0.ensures;
      kept = drop-set-lt (length ss) (set table i e) (step ss i).target c.entry-then-i-gt0.result (omega (arith, low, c.requires.within)) ∙ drop-set-lt (length ss) table i e c.requires.within;
    }

pub returns-else-i-gt0-clause-settled : goal.returns-else-i-gt0-clause-settled
returns-else-i-gt0-clause-settled g c =
    let m = g.M.Measure.meaning c.args.measure.now in
    let number = g.M.Measure.number c.args.measure.now in
    first_settled _ m number c.args.steps.now c.args.table.now c.args.i c.requires.room c.requires.within c.requires.settled _ c.index-table-i.is _ c.least.ensures _ c.finish-least.ensures _ c.entry.ensures (omega (arith, c.if-i-gt0.false))

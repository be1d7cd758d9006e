-- Every entry is begun, and none behind them is written.
use Rattle.std.proofs.Common.{length, ◌∙◌, arith}
use Rattle.std.proofs.lemmas.List.{drop-set-lt}
use Rattle.least.proofs.Tables.{begun_more}
use Rattle.least.proofs.settling.begin.Goals as goal

pub loop-i-preserved : goal.loop-i-preserved
loop-i-preserved g c =
    let m = g.M.Measure.meaning c.args.measure.now in
    let number = g.M.Measure.number c.args.measure.now in
    let ss = c.args.steps.now in (
      begun_more _ m number ss c.loop-i.table c.loop-i.i (omega arith) c.loop-i.invariant.0 _ c.start.ensures _ c.entry.ensures,
      drop-set-lt (length ss) c.loop-i.table c.loop-i.i c.entry.result c.loop-i-test.true ∙ c.loop-i.invariant.1,
    )

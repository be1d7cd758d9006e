-- The rows have one more at their end, and its end is kept.
use Rattle.std.proofs.Common.{◌<◌, length, take, set, Some, sym, refl, subst, arith}
use Rattle.std.proofs.lemmas.List.{take_more_set}
use Rattle.dispatch.specs.Tracking.{Tracks}
use Rattle.dispatch.proofs.Tracked.{tracks_more}
use Rattle.dispatch.proofs.job.turning.begin.Goals as goal

pub returns : goal.returns
returns c =
    let run = c.args.run.now in
    let rows = c.args.rows.now in
    let row = c.args.row in
    let fits : row.step < length run.ends = omega (arith, run.whole, c.requires.within) in
    record {
      time = refl;
      count = refl;
      rows = refl;
      tracked = subst (λ rs. Tracks rs (set run.ends row.step (Some row.end))) (sym (take_more_set rows run.count row c.requires.room)) (tracks_more (take run.count rows) run.ends row c.requires.tracked c.requires.fresh fits);
    }

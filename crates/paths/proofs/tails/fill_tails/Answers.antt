-- One tail more is written, and none behind them.
use Rattle.std.proofs.Common.{◌<◌, ◌≢◌, length, ◌∙◌, arith, below_more}
use Rattle.std.proofs.lemmas.List.{drop-set-lt, get_or-set_same, get_or-set_other}
use Rattle.paths.proofs.tails.fill_tails.Goals as goal

pub loop-i-preserved : goal.loop-i-preserved
loop-i-preserved c =
    let ts = c.loop-i.tails in
    let i = c.loop-i.i in
    let here : i < length ts = omega arith in (
      below_more _ _
          (λ k h. let ne : k ≢ i = omega arith in get_or-set_other ts i k c.tail.result 0 ne ∙ c.loop-i.invariant.0 k h)
          (get_or-set_same ts i c.tail.result 0 here ∙ c.tail.ensures),
      drop-set-lt (length c.args.steps.now) ts i c.tail.result c.loop-i-test.true ∙ c.loop-i.invariant.1,
    )

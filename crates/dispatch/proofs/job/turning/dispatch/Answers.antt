use Rattle.std.proofs.Common.{sym, refl, subst, arith}
use Rattle.steps.specs.Limits.{max_steps}
use Rattle.dispatch.specs.Members.{members}
use Rattle.dispatch.specs.Promise.{Dispatches}
use Rattle.dispatch.proofs.Promised.{tracks_none, promised}
use Rattle.dispatch.proofs.job.turning.dispatch.Goals as goal

pub make_turns-requires : goal.make_turns-requires
make_turns-requires g c =
    record { way = c.requires.way; room = c.requires.room; starts = refl; count = omega arith; tracked = tracks_none max_steps }

pub returns : goal.returns
returns g c =
    let end = c.make_turns.ensures in
    subst (λ n. Dispatches c.args.benches c.args.paths.now.steps.now (members c.args.way.now) (g.P.Policy.placing c.args.policy.now) c.args.rows.now c.make_turns.new.rows (record { finish = n; rows = c.make_turns.new.run.count })) (sym c.unwrap_or.ensures)
    (promised c.args.benches c.args.paths.now.steps.now (members c.args.way.now) (g.P.Policy.placing c.args.policy.now) c.requires.crewed c.args.paths.now.descending c.requires.way
    c.args.rows.now c.make_turns.new.rows c.make_turns.new.run.time c.make_turns.new.run.count c.make_turns.new.run.ends end.turned end.tracked end.count end.kept)

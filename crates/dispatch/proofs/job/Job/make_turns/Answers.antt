-- One turn more.
use Rattle.std.proofs.Common.{sym, ap, ◌∙◌, subst, arith}
use Rattle.schedules.specs.Dispatch.{turn, empty_state}
use Rattle.schedules.specs.Greedy.{Greedy, starts}
use Rattle.schedules.proofs.Limits.{turns_add}
use Rattle.schedules.proofs.Turns.{turns_greedy}
use Rattle.dispatch.specs.Members.{members}
use Rattle.dispatch.proofs.Turned.{drop_further}
use Rattle.dispatch.proofs.job.Job.make_turns.Goals as goal

pub turn-requires : goal.turn-requires
turn-requires g c =
    let w = members c.args.self.now.way.now in
    let p = g.P.Policy.placing c.args.policy.now in
    record {
      way = c.requires.way;
      room = omega (arith, c.requires.room, c.loop-turns.auto.rows);
      count = c.loop-turns.invariant.2;
      greedy = subst (Greedy c.args.self.now.benches c.args.self.now.paths.now.steps.now w) (sym c.loop-turns.invariant.0) (turns_greedy c.args.self.now.benches c.args.self.now.paths.now.steps.now w p c.loop-turns._turns empty_state starts);
      tracked = c.loop-turns.invariant.1;
    }

pub loop-turns-preserved : goal.loop-turns-preserved
loop-turns-preserved g c =
    let f = turn c.args.self.now.benches c.args.self.now.paths.now.steps.now (g.P.Policy.placing c.args.policy.now) (members c.args.self.now.way.now) in
    let old = c.loop-turns.invariant in
    let new = c.turn.ensures in (
      new.turned ∙ ap f old.0 ∙ sym (turns_add c.loop-turns._turns 1 f empty_state),
      new.tracked,
      new.count,
      new.kept ∙ drop_further c.loop-turns.run.count c.turn.new.run.count c.loop-turns.rows c.args.rows.now new.more old.3,
    )

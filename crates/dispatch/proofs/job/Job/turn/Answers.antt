-- What the code does next is the next turn of the dispatch rule.
use Rattle.std.proofs.Common.{◌≡◌, ◌<◌, [], ◌∷◌, ◌++◌, reverse, length, take, drop, sym, refl, ap, ◌∙◌, ap₂, arith}
use Rattle.std.proofs.lemmas.List.{take_more_set, drop-set-lt, length-take-le}
use Rattle.steps.specs.Limits.{max_steps}
use Rattle.schedules.specs.Dispatch.{moment, wait}
use Rattle.dispatch.specs.Members.{members}
use Rattle.dispatch.proofs.Listing.{least_later}
use Rattle.dispatch.proofs.Turned.{code_begins, code_fresh, code_waits, code_room, row_more, time_most}
use Rattle.dispatch.proofs.job.Job.turn.Goals as goal

pub next_row-requires : goal.next_row-requires
next_row-requires g c =
    let given = c.args.self.now.paths.now in
    record { early = time_most max_steps c.args.self.now.benches c.args.self.now.paths.now.steps.now (members c.args.self.now.way.now) given.size.1 c.args.self.now.crewed given.descending given.timed c.requires.way c.requires.greedy }

pub begin-requires : goal.begin-requires
begin-requires g c =
    let run = c.args.run.now in
    let ss = c.args.self.now.paths.now.steps.now in
    let p = g.P.Policy.placing c.args.policy.now in
    let w = members c.args.self.now.way.now in
    let rows = take run.count c.args.rows.now in
    let row = c.in-Some.row in
    let b = code_begins ss c.args.self.now.paths.now.tails c.args.self.now.way.now run.time rows run.ends c.args.self.now.paths.now.tailed c.requires.tracked c.args.self.now.benches p row (sym c.in-Some.ensures) in
    let few = code_room c.args.self.now.benches ss p w run.time rows row c.requires.greedy b in
    let long = length-take-le run.count c.args.rows.now c.requires.count in
    record {
      room = omega (arith, few, long, c.requires.room);
      within = omega (arith, b.step_inside, c.args.self.now.paths.now.size.1);
      fresh = code_fresh ss c.args.self.now.paths.now.tails c.args.self.now.way.now run.time rows run.ends c.args.self.now.paths.now.tailed c.requires.tracked c.args.self.now.benches p row b;
      tracked = c.requires.tracked;
    }

pub returns-in-Some : goal.returns-in-Some
returns-in-Some g c =
    let run = c.args.run.now in
    let p = g.P.Policy.placing c.args.policy.now in
    let rows = take run.count c.args.rows.now in
    let row = c.in-Some.row in
    let b = code_begins c.args.self.now.paths.now.steps.now c.args.self.now.paths.now.tails c.args.self.now.way.now run.time rows run.ends c.args.self.now.paths.now.tailed c.requires.tracked c.args.self.now.benches p row (sym c.in-Some.ensures) in
    let few = code_room c.args.self.now.benches c.args.self.now.paths.now.steps.now p (members c.args.self.now.way.now) run.time rows row c.requires.greedy b in
    let long = length-take-le run.count c.args.rows.now c.requires.count in
    let room : run.count < length c.args.rows.now = omega (arith, few, long, c.requires.room) in
    let after = c.begin.ensures in
    let front : take c.begin.new.run.count c.begin.new.rows ≡ rows ++ row ∷ [] = ap₂ take after.count after.rows ∙ take_more_set c.args.rows.now run.count row room in
    record {
      turned = ap₂ (λ t rs. moment t (reverse rs)) after.time front ∙ row_more run.time rows row ∙ sym b.turned;
      tracked = after.tracked;
      count = omega (arith, after.count, c.begin.auto.rows, room);
      more = omega (arith, after.count);
      kept = ap (drop c.begin.new.run.count) after.rows ∙ drop-set-lt c.begin.new.run.count c.args.rows.now run.count row (omega (arith, after.count));
    }

pub returns-in-Some-next_end : goal.returns-in-Some-next_end
returns-in-Some-next_end g c =
    let run = c.args.run.now in
    let rows = take run.count c.args.rows.now in
    let waited = code_waits c.args.self.now.paths.now.steps.now c.args.self.now.paths.now.tails c.args.self.now.way.now run.time rows run.ends c.args.self.now.paths.now.tailed c.requires.tracked c.args.self.now.benches (g.P.Policy.placing c.args.policy.now) (sym c.in-None.ensures) in
    record {
      turned = sym (waited ∙ ap (wait (moment run.time (reverse rows))) (sym (least_later run.time rows) ∙ sym c.in-Some-next_end.ensures));
      tracked = c.requires.tracked;
      count = c.requires.count;
      more = omega arith;
      kept = refl;
    }

pub returns-in_default : goal.returns-in_default
returns-in_default g c =
    let run = c.args.run.now in
    let rows = take run.count c.args.rows.now in
    let waited = code_waits c.args.self.now.paths.now.steps.now c.args.self.now.paths.now.tails c.args.self.now.way.now run.time rows run.ends c.args.self.now.paths.now.tailed c.requires.tracked c.args.self.now.benches (g.P.Policy.placing c.args.policy.now) (sym c.in-None.ensures) in
    record {
      turned = sym (waited ∙ ap (wait (moment run.time (reverse rows))) (sym (least_later run.time rows) ∙ sym c.in_default.ensures));
      tracked = c.requires.tracked;
      count = c.requires.count;
      more = omega arith;
      kept = refl;
    }

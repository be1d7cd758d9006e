-- The marks are the planned way, so what is dispatched is its timetable.
use Rattle.std.proofs.Common.{◌≡◌, ◌++◌, length, take, drop, Some, sym, refl, ap, ◌∙◌, subst, ap₂}
use Rattle.std.specs.Option.{option_map}
use Rattle.std.proofs.lemmas.List.{take-append-drop}
use Rattle.ways.specs.Ways.{Way}
use Rattle.plans.specs.Plan.{planned, planned_way}
use Rattle.schedules.specs.Dispatch.{timetable, finish}
use Rattle.dispatch.specs.Members.{members}
use Rattle.dispatch.specs.Promise.{Dispatches}
use Rattle.planning.specs.Planning.{chosen_plan, chosen_rows, or_no_rows, written}
use Rattle.planning.proofs.Members.{marks_taken, planned_is_way}
use Rattle.planning.proofs.make_plan.Goals as goal

pub dispatch-made-requires-clause-way : goal.dispatch-made-requires-clause-way
dispatch-made-requires-clause-way g c =
    let paths = c.new-paths.result in
    let marks = marks_taken c.in_ok-best.best.limit paths.steps.now paths.steps.now c.members-way.result refl c.members-way.ensures in
    subst (Way paths.steps.now) (sym marks) (planned_is_way c.args.benches paths.steps.now paths.descending c.in_ok-best.best (sym c.in_ok-best.ensures))

pub returns : goal.returns
returns g c =
    let ss = c.args.steps.now in
    let benches = c.args.benches in
    let p = g.P.Policy.placing c.args.policy.now in
    let best = c.in_ok-best.best in
    let is : planned benches ss ≡ Some best = ap (planned benches) (sym c.new-paths.ensures) ∙ sym c.in_ok-best.ensures in
    let marks = marks_taken best.limit c.new-paths.result.steps.now ss c.members-way.result c.new-paths.ensures c.members-way.ensures in
    let made = subst (λ us. Dispatches benches us (members c.members-way.result) p c.args.rows.now c.dispatch-made.new.rows c.dispatch-made.result) c.new-paths.ensures c.dispatch-made.ensures in
    let t = c.dispatch-made.result in
    let before = c.args.rows.now in
    let after = c.dispatch-made.new.rows in
    let rows = chosen_rows p benches ss best in
    let front : take t.rows after ≡ rows = made.rows ∙ ap (timetable benches ss p) marks in
    let ends : t.finish ≡ finish benches ss p (planned_way ss best) = made.finish ∙ ap (finish benches ss p) marks in
    let count : t.rows ≡ length rows = made.count ∙ ap (λ w. length (timetable benches ss p w)) marks in
    record {
      answer = ap₂ (λ f n. Some (record { score = best.score; finish = f; rows = n })) ends count ∙ sym (ap (option_map (chosen_plan p benches ss)) is);
      rows = sym (take-append-drop t.rows after) ∙ ap₂ ◌++◌ front (made.kept ∙ ap (λ n. drop n before) count) ∙ sym (ap (λ o. written (or_no_rows (option_map (chosen_rows p benches ss) o)) before) is);
    }

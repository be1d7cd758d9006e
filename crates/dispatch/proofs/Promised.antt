-- What the last state gives of the timetable.
use Rattle.std.proofs.Common.{◌≡◌, ℕ, ◌+◌, ◌-◌, ◌*◌, ◌<◌, ◌≤◌, List, [], reverse, length, take, drop, replicate, None, Option, is_some, unwrap_or, sym, ap, ◌∙◌, subst}
use mathlib.Core.List.{reverse-reverse}
use Rattle.std.proofs.lemmas.List.{length-take-le}
use Rattle.steps.specs.declared.row.Row.{Row}
use Rattle.steps.specs.declared.step.Step.{Step}
use Rattle.steps.specs.Placing.{Placing}
use Rattle.steps.specs.Sheet.{Descending}
use Rattle.steps.proofs.Repeats.{repeated}
use Rattle.ways.specs.Ways.{Set, Way}
use Rattle.schedules.specs.Dispatch.{moment, final, timetable, finish}
use Rattle.schedules.specs.Rule.{Dispatched}
use Rattle.ways.specs.Sums.{minutes_of, chain_of}
use Rattle.schedules.specs.Timetables.{end_of, ValidTimetable}
use Rattle.schedules.proofs.RuleMet.{dispatch_meets_rule}
use Rattle.schedules.proofs.Runs.{dispatch_valid, dispatch_bound}
use Rattle.dispatch.specs.Promise.{Dispatches}
use Rattle.dispatch.specs.Tracking.{end_in, passed, Tracks}

-- before anything begins
pub tracks_none : (n : ℕ) → Tracks [] (replicate n None)
tracks_none n = record {
  end_as = λ i. sym (ap (λ o. unwrap_or o 0) (repeated n i None));
  begun_as = λ i. sym (ap is_some (repeated n i None));
  ended_as = λ t i. sym (ap (passed t) (repeated n i None));
}

module _ (benches : ℕ) (ss : List Step) (w : Set) (p : Placing) (some : 0 < benches) (low : Descending ss) (way : Way ss w) where
  pub promised : (before after : List Row) (time count : ℕ) (ends : List (Option ℕ)) → moment time (reverse (take count after)) ≡ final benches ss p w → Tracks (take count after) ends → count ≤ length after → drop count after ≡ drop count before →
      Dispatches benches ss w p before after (record { finish = unwrap_or (end_in ends 0) 0; rows = count })
  promised before after time count ends over tracks few kept =
      let front : take count after ≡ timetable benches ss p w = sym (reverse-reverse (take count after)) ∙ ap (λ st. reverse st.rows) over in
      let last : unwrap_or (end_in ends 0) 0 ≡ finish benches ss p w = sym (tracks.end_as 0) ∙ ap (end_of 0) front in
      record {
        rows = front;
        count = sym (length-take-le count after few) ∙ ap length front;
        kept = kept;
        finish = last;
        rule = subst (Dispatched benches ss w p) (sym front) (dispatch_meets_rule benches ss w p some low way);
        valid = subst (ValidTimetable benches ss w) (sym front) (dispatch_valid benches ss w p some low way).valid;
        bound = subst (λ n. benches * n ≤ minutes_of ss w + (benches - 1) * chain_of ss w) (sym last) (dispatch_bound benches ss w p low way);
      }

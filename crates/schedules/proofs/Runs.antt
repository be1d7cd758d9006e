-- What dispatching gives is a valid timetable, in order, and its finish is bounded.
use Rattle.std.proofs.Common.{◌≡◌, ℕ, ◌*◌, ◌<◌, ◌≤◌, true, eqb, List, [], ◌∷◌, reverse, length, sym, inl, inr, le_trans, le_refl, mul-le-mul_left, arith}
use Rattle.std.proofs.lemmas.Bool.{cond_both}
use Rattle.steps.specs.declared.row.Row.{Row}
use Rattle.steps.specs.declared.step.Step.{Step}
use Rattle.steps.specs.Placing.{Placing}
use Rattle.steps.specs.Sheet.{Descending}
use Rattle.ways.specs.Ways.{Set, Feeds}
use Rattle.schedules.specs.Timetables.{All, Has, Two, InOrder, latest, end_of, Takes, Differ, Apart, Waits, ValidTimetable}
use Rattle.schedules.specs.Dispatch.{State, final, timetable, empty_state}
use Rattle.schedules.specs.Greedy.{Greedy, starts}
use Rattle.schedules.specs.Theorems.{DispatchValid, DispatchBound}
use Rattle.schedules.proofs.Bounds.{first_ends_last}
use Rattle.schedules.proofs.FinishBound.{greedy_bound}
use Rattle.schedules.proofs.Potential.{next_has}
use Rattle.schedules.proofs.Progress.{next_less, begun_row, final_whole}
use Rattle.schedules.proofs.Rows.{all_map, all_pull, once_all, all_diag, latest_le, has_latest, all_reverse, has_reverse, two_reverse, none_after, latest_reverse}
use Rattle.schedules.proofs.Turns.{Kept, greedy_kept, turns_greedy}
use Rattle.schedules.proofs.Valid.{Valid, greedy_valid, on_benches}

module _ (benches : ℕ) (sheet : List Step) (w : Set) where
  abbrev FedBy : List Row → Row → Type 0
  FedBy ls o = (j : ℕ) → Feeds sheet j o.step → w j ≡ true → Has (λ p. (p.step ≡ j) × (p.end ≤ o.start)) ls

  members : (ls : List Row) → Valid benches sheet w ls → All (λ o. w o.step ≡ true) ls
  members [] v = tt
  members (l ∷ ls) v = (v.0.on_way, members ls v.1)

  all_take : (ls : List Row) → Valid benches sheet w ls → All (Takes sheet) ls
  all_take [] v = tt
  all_take (l ∷ ls) v = (v.0.takes, all_take ls v.1)

  all_once : (ls : List Row) → Valid benches sheet w ls → Two Differ ls
  all_once [] v = tt
  all_once (l ∷ ls) v = (all_map (λ o. o.step ≡ l.step → ⊥) (Differ l) (λ p f e. f (sym e)) ls v.0.was_new, all_once ls v.1)

  all_apart : (ls : List Row) → Valid benches sheet w ls → Two Apart ls
  all_apart [] v = tt
  all_apart (l ∷ ls) v = (all_map (λ o. o.bench ≡ l.bench → o.end ≤ l.start) (Apart l) (λ p f e. inr (f (sym e))) ls v.0.was_free, all_apart ls v.1)

  all_fed : Descending sheet → (ls : List Row) → Valid benches sheet w ls → All (FedBy ls) ls
  all_fed lower [] v = tt
  all_fed lower (l ∷ ls) v =
      ((λ j f on. let z = lower j f.0 f.1 in inr (v.0.was_fed j (omega (arith, f.2)) f.1 f.2 on)), all_map (FedBy ls) (FedBy (l ∷ ls)) (λ o g j f on. inr (g j f on)) ls (all_fed lower ls v.1))

module _ (benches : ℕ) (sheet : List Step) (w : Set) (ls : List Row) (v : Valid benches sheet w ls) where
  fed_row : (o : Row) → FedBy benches sheet w ls o → All (Waits sheet o) ls
  fed_row o h =
      all_diag w (Waits sheet o) ls (members benches sheet w ls v)
      (λ j on. all_map (λ p. Feeds sheet j o.step → p.step ≡ j → p.end ≤ o.start) (λ p. p.step ≡ j → Feeds sheet p.step o.step → p.end ≤ o.start)
      (λ p g q x. g (rw q at x) q) ls
      (all_pull (Feeds sheet j o.step) (λ p. p.step ≡ j → p.end ≤ o.start) ls (λ x. once_all j (λ p. p.end ≤ o.start) ls (all_once benches sheet w ls v) (h j x on))))

  pub valid_timetable : Descending sheet → ((i : ℕ) → w i ≡ true → Has (λ o. o.step ≡ i) ls) → ValidTimetable benches sheet w ls
  valid_timetable lower whole = record {
    member = members benches sheet w ls v;
    whole = whole;
    once = all_once benches sheet w ls v;
    on_bench = on_benches benches sheet w ls v;
    takes = all_take benches sheet w ls v;
    apart = all_apart benches sheet w ls v;
    fed = all_map (FedBy benches sheet w ls) (λ o. All (Waits sheet o) ls) fed_row ls (all_fed benches sheet w lower ls v);
  }

-- The order of the rows does not matter: here, that they may be read backwards.

pub reversed : (benches : ℕ) (sheet : List Step) (w : Set) (ls : List Row) → ValidTimetable benches sheet w ls → ValidTimetable benches sheet w (reverse ls)
reversed benches sheet w ls v = record {
  member = all_reverse (λ o. w o.step ≡ true) ls [] v.member tt;
  whole = λ i on. has_reverse (λ o. o.step ≡ i) ls [] (inl (v.whole i on));
  once = two_reverse Differ Differ (λ o p f e. f (sym e)) ls [] v.once tt (none_after Differ ls);
  on_bench = all_reverse (λ o. o.bench < benches) ls [] v.on_bench tt;
  takes = all_reverse (Takes sheet) ls [] v.takes tt;
  apart = two_reverse Apart Apart (λ o p f e. elim (f (sym e)) [ inl x ↦ inr x | inr x ↦ inl x ]) ls [] v.apart tt (none_after Apart ls);
  fed = all_reverse (λ o. All (Waits sheet o) (reverse ls)) ls []
      (all_map (λ o. All (Waits sheet o) ls) (λ o. All (Waits sheet o) (reverse ls))
      (λ o h. all_reverse (Waits sheet o) ls [] h tt) ls v.fed) tt;
}

-- the time is never past the last end
now_kept : (benches : ℕ) (sheet : List Step) (w : Set) (st : State) → st.now ≤ latest st.rows → Kept benches sheet w (λ s. s.now ≤ latest s.rows) st
now_kept benches sheet w st h = record {
  on_begin = λ i b l r c f. omega arith;
  on_wait = λ t e i. has_latest t st.rows (next_has st.now t st.rows e);
  on_rest = λ e i. h;
}

pub greedy_now : (benches : ℕ) (sheet : List Step) (w : Set) {st : State} → Greedy benches sheet w st → st.now ≤ latest st.rows
greedy_now benches sheet w = greedy_kept benches sheet w (λ s. s.now ≤ latest s.rows) (le_refl 0) (now_kept benches sheet w)

-- rows stand in the order in which they began, and none begins later than now
abbrev pub NewestFirst : State → Type 0
NewestFirst st = All (λ r. r.start ≤ st.now) st.rows × Two (λ r q. q.start ≤ r.start) st.rows

pub ordered_kept : (benches : ℕ) (sheet : List Step) (w : Set) (st : State) → NewestFirst st → Kept benches sheet w NewestFirst st
ordered_kept benches sheet w st h = record {
  on_begin = λ i b l r c f. ((le_refl _, h.0), (h.0, h.1));
  on_wait = λ t e i. let x = next_less st.now t st.rows e in (all_map (λ r. r.start ≤ st.now) (λ r. r.start ≤ t) (λ r y. omega (arith, x.0)) st.rows h.0, h.1);
  on_rest = λ e i. h;
}

pub newest_first : (benches : ℕ) (sheet : List Step) (w : Set) {st : State} → Greedy benches sheet w st → NewestFirst st
newest_first benches sheet w = greedy_kept benches sheet w NewestFirst (tt, tt) (ordered_kept benches sheet w)

pub final_greedy : (benches : ℕ) (sheet : List Step) (w : Set) (p : Placing) → Greedy benches sheet w (final benches sheet p w)
final_greedy benches sheet w p = turns_greedy benches sheet w p (2 * length sheet) empty_state starts

pub in_order : (rs : List Row) → Two (λ r q. q.start ≤ r.start) rs → InOrder (reverse rs)
in_order rs h = two_reverse (λ r q. q.start ≤ r.start) (λ r q. r.start ≤ q.start) (λ r q x. x) rs [] h tt (none_after (λ r q. r.start ≤ q.start) rs)

pub dispatch_valid : DispatchValid
dispatch_valid benches sheet w p some lower way =
    let st = final benches sheet p w in
    let g = final_greedy benches sheet w p in
    let a = final_whole benches some sheet w p in
    let t = valid_timetable benches sheet w st.rows (greedy_valid benches sheet w g) lower (λ i on. begun_row i st.rows (a.0 i (way.within i on) on)) in
    let n = greedy_now benches sheet w g in
    let b = latest_le st.now st.rows a.1 in
    let r = latest_reverse st.rows [] in
    let v = reversed benches sheet w st.rows t in
    record {
      valid = v;
      in_order = in_order st.rows (newest_first benches sheet w g).1;
      finishes = first_ends_last benches sheet w (timetable benches sheet p w) lower way v;
      over = omega arith;
    }

-- no row ends later than the latest
end_of_le : (i : ℕ) (rs : List Row) → end_of i rs ≤ latest rs
end_of_le i [] = le_refl 0
end_of_le i (r ∷ rs) = cond_both (eqb r.step i) r.end (end_of i rs) (λ x. x ≤ latest (r ∷ rs)) (λ e. omega arith) (λ e. let a = end_of_le i rs in omega arith)

pub dispatch_bound : DispatchBound
dispatch_bound benches sheet w p lower way =
    let st = final benches sheet p w in
    let a = greedy_bound benches sheet w lower way st (final_greedy benches sheet w p) in
    let b = end_of_le 0 (timetable benches sheet p w) in
    let r = latest_reverse st.rows [] in
    le_trans (mul-le-mul_left benches (let z : end_of 0 (timetable benches sheet p w) ≤ latest st.rows = omega arith in z)) a

-- Dispatching meets its rule.
use Rattle.std.proofs.Common.{◌≡◌, ℕ, ◌*◌, ◌<◌, ◌≤◌, true, ◌⊎◌, List, [], ◌∷◌, reverse, length, take, Some, sym, refl, ap, ◌∙◌, subst, inl, inr, arith}
use mathlib.Core.List.{reverse-cons}
use Rattle.std.proofs.lemmas.List.{length-reverse, get_or_at, get_or_append_left, take_at, take-append-le}
use Rattle.std.proofs.lemmas.Bool.{both_ways, cases_eq, cases_lt, lt-leb}
use Rattle.steps.specs.declared.row.Row.{Row}
use Rattle.steps.specs.declared.step.Step.{Step}
use Rattle.steps.specs.Placing.{Placing}
use Rattle.ways.specs.Ways.{Set}
use Rattle.schedules.specs.Timetables.{Has, no_row, row}
use Rattle.schedules.specs.Dispatch.{State, moment, begun, ready_list, named, free, empty_state, final, timetable}
use Rattle.schedules.specs.Greedy.{WorkConserving, Greedy}
use Rattle.schedules.specs.Rule.{started}
use Rattle.schedules.specs.Theorems.{DispatchMeetsRule}
use Rattle.schedules.proofs.Moments.{reverse_alike, wait_alike, ready_list_same, free_same, conserving_same, started_all, started_back}
use Rattle.schedules.proofs.Potential.{next_all, next_is}
use Rattle.schedules.proofs.Progress.{final_whole}
use Rattle.schedules.proofs.Rows.{all_map, has_reverse}
use Rattle.schedules.proofs.Runs.{NewestFirst, ordered_kept, final_greedy, dispatch_valid}
use Rattle.schedules.proofs.Turns.{Kept, greedy_kept, Taken, turns_taken}
use Rattle.schedules.proofs.Valid.{is_ready}

-- No bench is free while a step is ready, at any minute before now.

module _ (benches : ℕ) (ss : List Step) (w : Set) where
  abbrev Conserving : State → Type 0
  Conserving st = NewestFirst st × ((t : ℕ) → t < st.now → WorkConserving benches ss w (moment t (started t st.rows)))

  conserving_kept : (st : State) → Conserving st → Kept benches ss w Conserving st
  conserving_kept st h =
      let o = ordered_kept benches ss w st h.0 in
      record {
        on_begin = λ i b l r c f. (o.on_begin i b l r c f, λ t a. rw (lt-leb st.now t a) (h.1 t a));
        on_wait = λ e n c. (
          o.on_wait e n c,
          λ t a. elim (cases_lt t st.now) [
            | inl x ↦ h.1 t x
            | inr x ↦
                rw (started_all t st.rows (all_map (λ r. r.start ≤ st.now) (λ r. r.start ≤ t) (λ r y. omega arith) st.rows h.0.0))
                (conserving_same (moment st.now st.rows) (moment t st.rows) (wait_alike st.now t e st.rows (next_all st.now e st.rows n) x a) benches ss w c)
          ],
        );
        on_rest = λ e c. h;
      }

  conserving : {st : State} → Greedy benches ss w st → Conserving st
  conserving = greedy_kept benches ss w Conserving ((tt, tt), λ t a. absurd (omega arith)) conserving_kept

  none_idle : (p : Placing) (t : ℕ) → ((i : ℕ) → i < length ss → w i ≡ true → begun i (final benches ss p w).rows ≡ true) → WorkConserving benches ss w (moment t (started t (timetable benches ss p w)))
  none_idle p t whole =
      let st = final benches ss p w in
      let k = conserving (final_greedy benches ss w p) in
      rw (started_back t st.rows)
      (conserving_same (moment t (started t st.rows)) (moment t (reverse (started t st.rows))) (reverse_alike t (started t st.rows)) benches ss w
      (elim (cases_lt t st.now) [
        | inl x ↦ k.1 t x
        | inr x ↦
            rw (started_all t st.rows (all_map (λ r. r.start ≤ st.now) (λ r. r.start ≤ t) (λ r y. omega arith) st.rows k.0.0))
            (λ i b l r c. let a = is_ready ss w (moment t st.rows) i r in absurd (both_ways _ a.1 (whole i l a.0)))
      ]))

-- Each row, over the older ones.

abbrev AtEnd : ℕ → List Row → Type 0
AtEnd t rs = (t ≡ 0) ⊎ Has (λ r. r.end ≡ t) rs

module _ (benches : ℕ) (ss : List Step) (w : Set) (p : Placing) where
  abbrev Began : Row → List Row → Type 0
  Began r rs = (named p (ready_list ss w (moment r.start rs)) ≡ Some r.step) × (free benches (moment r.start rs) ≡ Some r.bench) × AtEnd r.start rs

  abbrev EachBegan : List Row → Type 0
  EachBegan [] = Unit {0}
  EachBegan (r ∷ rs) = Began r rs × EachBegan rs

  abbrev AllBegan : State → Type 0
  AllBegan st = AtEnd st.now st.rows × EachBegan st.rows

  began_kept : (st : State) → AllBegan st → Taken benches ss w p AllBegan st
  began_kept st h = record {
    on_begin = λ i b e f. (elim h.0 [ inl x ↦ inl x | inr x ↦ inr (inr x) ], ((e, f, h.0), h.1));
    on_wait = λ t e c. (inr (next_is st.now t st.rows e), h.1);
    on_rest = λ e c. h;
  }

  final_began : EachBegan (final benches ss p w).rows
  final_began = (turns_taken benches ss w p AllBegan began_kept (2 * length ss) empty_state (inl refl, tt)).1

  -- the order of the older rows does not matter
  began_back : (r : Row) (rs : List Row) → Began r rs → Began r (reverse rs)
  began_back r rs h =
      let a = reverse_alike r.start rs in (
        ap (named p) (sym (ready_list_same (moment r.start rs) (moment r.start (reverse rs)) a ss w)) ∙ h.0,
        sym (free_same (moment r.start rs) (moment r.start (reverse rs)) a benches) ∙ h.1,
        elim h.2 [ inl x ↦ inl x | inr x ↦ inr (has_reverse (λ o. o.end ≡ r.start) rs [] (inl x)) ],
      )

  moved : {r q : Row} {rs qs : List Row} → q ≡ r → qs ≡ rs → Began r rs → Began q qs
  moved {r} {q} {rs} {qs} a b h = subst (λ o. Began o qs) (sym a) (subst (Began r) (sym b) h)

  -- the same at each place of the rows in the order in which they began
  began_at : (rs : List Row) → EachBegan rs → (k : ℕ) → k < length rs → Began (row (reverse rs) k) (take k (reverse rs))
  began_at [] h k l = absurd (omega arith)
  began_at (r ∷ rs) h k l =
      let n = length-reverse rs in
      let P : List Row → Type 0 = λ os. Began (row os k) (take k os) in
      subst P (sym (reverse-cons r rs)) (elim (cases_eq k (length rs)) [
        | inl q ↦ moved (get_or_at (reverse rs) r [] no_row k (n ∙ sym q)) (take_at (reverse rs) (r ∷ []) k (n ∙ sym q)) (began_back r rs h.0)
        | inr q ↦ moved (get_or_append_left (reverse rs) (r ∷ []) no_row k (omega arith)) (take-append-le k (reverse rs) (r ∷ []) (omega arith)) (began_at rs h.1 k (omega arith))
      ])

pub dispatch_meets_rule : DispatchMeetsRule
dispatch_meets_rule benches ss w p some lower way =
    let st = final benches ss p w in
    let c = dispatch_valid benches ss w p some lower way in
    let a = final_whole benches some ss w p in
    let n = length-reverse st.rows in
    let b : (k : ℕ) → k < length (timetable benches ss p w) → Began benches ss w p (row (timetable benches ss p w) k) (take k (timetable benches ss p w)) =
    λ k l. began_at benches ss w p st.rows (final_began benches ss w p) k (omega arith) in
    record {
      in_order = c.in_order;
      by_policy = λ k l. (b k l).0;
      lowest_free = λ k l. (b k l).1;
      takes = c.valid.takes;
      at_an_end = λ k l. (b k l).2;
      none_idle = λ t. none_idle benches ss w p t a.0;
      whole = c.valid.whole;
      member = c.valid.member;
    }

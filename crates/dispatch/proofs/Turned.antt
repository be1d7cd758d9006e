-- What the code looks up by step, in its rows and in its list is what a turn of the dispatch rule looks up.
use Rattle.std.proofs.Common.{◌≡◌, ℕ, zero, suc, ◌+◌, ◌-◌, ◌*◌, ◌<◌, ◌≤◌, Bool, true, false, List, [], ◌∷◌, ◌++◌, reverse, length, get_or, drop, Some, None, Option, sym, refl, ap, ◌∙◌, subst, ap₂, mul-le-mul_right, arith}
use mathlib.Core.Path.{fun_ext}
use mathlib.Core.List.{reverse-append}
use Rattle.std.proofs.lemmas.List.{length-reverse, drop-drop}
use Rattle.std.specs.Option.{option_map}
use Rattle.steps.proofs.Clashes.{clash}
use Rattle.steps.specs.declared.ready.Ready.{Ready}
use Rattle.steps.specs.declared.row.Row.{Row}
use Rattle.steps.specs.declared.step.Step.{Step}
use Rattle.steps.specs.Placing.{Placing, no_ready}
use Rattle.steps.specs.Limits.{max_minutes}
use Rattle.steps.specs.Sheet.{step, Descending, Timed}
use Rattle.ways.specs.Paths.{tail}
use Rattle.ways.specs.Ways.{Set, Way}
use Rattle.ways.proofs.Added.{all_added, way_sum_most}
use Rattle.ways.proofs.Suffixes.{uncons}
use Rattle.schedules.specs.Dispatch.{State, moment, begun, ready, ready_among, free, keep, entry, readies, ready_list, named, next_end, wait, begin_or_wait, turn}
use Rattle.schedules.specs.Greedy.{Greedy}
use Rattle.schedules.proofs.Limits.{now_most}
use Rattle.schedules.proofs.Moments.{reverse_alike, ready_list_same, free_same, next_end_back}
use Rattle.schedules.proofs.Progress.{rows_most}
use Rattle.schedules.proofs.Turns.{named_right, turn_greedy}
use Rattle.schedules.proofs.Valid.{is_ready}
use Rattle.dispatch.specs.Members.{members}
use Rattle.dispatch.specs.Tracking.{started_by, done_by, ready_by, Tracks}
use Rattle.dispatch.specs.Running.{chosen, next_row}

-- two tables of tails that agree on the steps give the same list
tails_same : (test : ℕ → Bool) (f g : ℕ → ℕ) (j : ℕ) (ss : List Step) → ((k : ℕ) → k < j + length ss → f k ≡ g k) → readies test f j ss ≡ readies test g j ss
tails_same test f g j [] same = refl
tails_same test f g j (s ∷ ss) same =
    ap₂ (λ t rs. keep (test j) (record { step = j; minutes = s.minutes; tail = t }) rs) (same j (omega arith)) (tails_same test f g (suc j) ss (λ k h. same k (omega arith)))

-- an entry has its step's minutes
entry_minutes : (sheet : List Step) (test : ℕ → Bool) (tails : ℕ → ℕ) (j : ℕ) (ss : List Step) → drop j sheet ≡ ss → (k : ℕ) → k < length (readies test tails j ss) →
    (get_or (readies test tails j ss) k no_ready).minutes ≡ (step sheet (get_or (readies test tails j ss) k no_ready).step).minutes
entry_minutes sheet test tails j [] e k h = absurd (omega arith)
entry_minutes sheet test tails j (s ∷ ss) e k h =
    let u = uncons sheet j s ss e in
    go (test j) k h (entry_minutes sheet test tails (suc j) ss u.2)
  where
    Right : List Ready → ℕ → Type 0
    Right rs k = (get_or rs k no_ready).minutes ≡ (step sheet (get_or rs k no_ready).step).minutes

    go : (b : Bool) (k : ℕ) → k < length (keep b (entry tails j s) (readies test tails (suc j) ss)) → ((k : ℕ) → k < length (readies test tails (suc j) ss) → Right (readies test tails (suc j) ss) k) → Right (keep b (entry tails j s) (readies test tails (suc j) ss)) k
    go false k h f = f k h
    go true zero h f = ap (λ x. x.minutes) (sym (uncons sheet j s ss e).1)
    go true (suc k) h f = f k (omega arith)

-- nothing begins without a bench
pub no_bench : (time : ℕ) (c : Option Ready) → next_row time c None ≡ None
no_bench time None = refl
no_bench time (Some r) = refl

-- the policy names the step of the entry that is chosen
named_as : (p : Placing) (rs : List Ready) → named p rs ≡ option_map (λ r. r.step) (chosen p rs)
named_as p [] = refl
named_as p (r ∷ rs) = refl

chosen_at : (p : Placing) (rs : List Ready) (r : Ready) → chosen p rs ≡ Some r → (p.place rs < length rs) × (get_or rs (p.place rs) no_ready ≡ r)
chosen_at p [] r e = clash (cc)
chosen_at p (q ∷ rs) r e = (p.inside (q ∷ rs) (omega arith), (cc))

-- what begins, where something does
pub record Begins (benches : ℕ) (ss : List Step) (p : Placing) (w : Set) (st : State) (r : Row) : Type 0 where
  pub turned : turn benches ss p w st ≡ moment st.now (r ∷ st.rows)
  pub step_inside : r.step < length ss
  pub is_ready_now : ready ss w st r.step ≡ true
  pub bench_inside : free benches st ≡ Some r.bench
  pub ends_later : r.end ≡ st.now + (step ss r.step).minutes

begins : (benches : ℕ) (ss : List Step) (p : Placing) (w : Set) (st : State) (r : Row) → next_row st.now (chosen p (ready_list ss w st)) (free benches st) ≡ Some r → Begins benches ss p w st r
begins benches ss p w st r e = go (chosen p (ready_list ss w st)) refl (free benches st) refl e
  where
    go : (c : Option Ready) → chosen p (ready_list ss w st) ≡ c → (f : Option ℕ) → free benches st ≡ f → next_row st.now c f ≡ Some r → Begins benches ss p w st r
    go None a f b e = clash (cc)
    go (Some q) a None b e = clash (cc)
    go (Some q) a (Some bench) b e =
        let at = chosen_at p (ready_list ss w st) q a in
        let own = entry_minutes ss (ready ss w st) (tail ss) 0 ss refl (p.place (ready_list ss w st)) at.0 in
        let minutes : q.minutes ≡ (step ss q.step).minutes = subst (λ x. x.minutes ≡ (step ss x.step).minutes) at.1 own in
        let is_named : named p (ready_list ss w st) ≡ Some q.step = named_as p (ready_list ss w st) ∙ ap (option_map (λ x. x.step)) a in
        let right = named_right p ss w st q.step is_named in
        let is : ◌≡◌ {A = Row} (record { step = q.step; bench = bench; start = st.now; end = st.now + q.minutes }) r = cc in
        let same : q.step ≡ r.step = ap (λ x. x.step) is in
        let ends : r.end ≡ st.now + (step ss r.step).minutes = sym (ap (λ x. x.end) is) ∙ ap (λ n. st.now + n) (minutes ∙ ap (λ k. (step ss k).minutes) same) in
        record {
          turned = ap₂ (begin_or_wait ss st) is_named b ∙ ap (λ n. moment st.now (record { step = q.step; bench = bench; start = st.now; end = st.now + n } ∷ st.rows)) (sym minutes) ∙ ap (λ x. moment st.now (x ∷ st.rows)) is;
          step_inside = omega (arith, right.0, same);
          is_ready_now = subst (λ k. ready ss w st k ≡ true) same right.1;
          bench_inside = b ∙ ap (λ x. Some x.bench) is;
          ends_later = ends;
        }

waits : (benches : ℕ) (ss : List Step) (p : Placing) (w : Set) (st : State) → next_row st.now (chosen p (ready_list ss w st)) (free benches st) ≡ None → turn benches ss p w st ≡ wait st (next_end st.now st.rows)
waits benches ss p w st e = go (chosen p (ready_list ss w st)) refl (free benches st) refl e
  where
    go : (c : Option Ready) → chosen p (ready_list ss w st) ≡ c → (f : Option ℕ) → free benches st ≡ f → next_row st.now c f ≡ None → turn benches ss p w st ≡ wait st (next_end st.now st.rows)
    go None a f b e = ap₂ (begin_or_wait ss st) (named_as p (ready_list ss w st) ∙ ap (option_map (λ x. x.step)) a) b
    go (Some q) a None b e = ap₂ (begin_or_wait ss st) (named_as p (ready_list ss w st) ∙ ap (option_map (λ x. x.step)) a) b
    go (Some q) a (Some bench) b e = clash (cc)

-- by the tables of the code
module _ (ss : List Step) (tails : List ℕ) (way : List Bool) (time : ℕ) (rows : List Row) (ends : List (Option ℕ)) (tailed : (i : ℕ) → i < length ss → get_or tails i 0 ≡ tail ss i) (tracks : Tracks rows ends) (benches : ℕ) (p : Placing) where
  listed_as : ready_by ss tails way time ends ≡ ready_list ss (members way) (moment time (reverse rows))
  listed_as =
      tails_same (ready_among ss (members way) (started_by ends) (done_by time ends)) (λ k. get_or tails k 0) (tail ss) 0 ss (λ k h. tailed k (omega arith))
      ∙ ap₂ (λ started done. readies (ready_among ss (members way) started done) (tail ss) 0 ss) (fun_ext (λ k. sym (tracks.begun_as k))) (fun_ext (λ k. sym (tracks.ended_as time k)))
      ∙ ready_list_same (moment time rows) (moment time (reverse rows)) (reverse_alike time rows) ss (members way)

  next_as : next_row time (chosen p (ready_by ss tails way time ends)) (free benches (moment time rows)) ≡ next_row time (chosen p (ready_list ss (members way) (moment time (reverse rows)))) (free benches (moment time (reverse rows)))
  next_as = ap₂ (λ rs f. next_row time (chosen p rs) f) listed_as (free_same (moment time rows) (moment time (reverse rows)) (reverse_alike time rows) benches)

  pub code_begins : (r : Row) → next_row time (chosen p (ready_by ss tails way time ends)) (free benches (moment time rows)) ≡ Some r → Begins benches ss p (members way) (moment time (reverse rows)) r
  code_begins r e = begins benches ss p (members way) (moment time (reverse rows)) r (sym next_as ∙ e)

  -- a step that begins had not begun
  pub code_fresh : (r : Row) → Begins benches ss p (members way) (moment time (reverse rows)) r → begun r.step rows ≡ false
  code_fresh r b = (reverse_alike time rows).begun_same r.step ∙ (is_ready ss (members way) (moment time (reverse rows)) r.step b.is_ready_now).1

  pub code_waits : next_row time (chosen p (ready_by ss tails way time ends)) (free benches (moment time rows)) ≡ None → turn benches ss p (members way) (moment time (reverse rows)) ≡ wait (moment time (reverse rows)) (next_end time rows)
  code_waits e = waits benches ss p (members way) (moment time (reverse rows)) (sym next_as ∙ e) ∙ ap (wait (moment time (reverse rows))) (sym (next_end_back time rows))

-- no time is beyond what all steps together take
pub time_most : (limit benches : ℕ) (ss : List Step) (w : Set) → length ss ≤ limit → 0 < benches → Descending ss → Timed ss → Way ss w → {st : State} → Greedy benches ss w st → st.now ≤ limit * max_minutes
time_most limit benches ss w few some low timed way run =
    let at = now_most benches ss w some low way run in
    let sum = all_added (λ f. f.minutes) ss w low way in
    let most = way_sum_most (λ f. f.minutes) ss w max_minutes (λ i h. (timed i h).1) in
    let all = mul-le-mul_right max_minutes few in
    omega (arith, at, sum, most, all)

-- there is room for the row that begins
pub code_room : (benches : ℕ) (ss : List Step) (p : Placing) (w : Set) (time : ℕ) (rows : List Row) (r : Row) → Greedy benches ss w (moment time (reverse rows)) → Begins benches ss p w (moment time (reverse rows)) r → length rows < length ss
code_room benches ss p w time rows r run b =
    let next = subst (Greedy benches ss w) b.turned (turn_greedy benches ss w p (moment time (reverse rows)) run) in
    omega (arith, rows_most benches ss w next, length-reverse rows)

-- the state with one row more
pub row_more : (time : ℕ) (rows : List Row) (r : Row) → moment time (reverse (rows ++ r ∷ [])) ≡ moment time (r ∷ reverse rows)
row_more time rows r = ap (moment time) (reverse-append rows (r ∷ []))

pub drop_further : (a b : ℕ) (xs ys : List Row) → a ≤ b → drop a xs ≡ drop a ys → drop b xs ≡ drop b ys
drop_further a b xs ys h e =
    let q : a + (b - a) ≡ b = omega arith in
    subst (λ n. drop n xs ≡ drop n ys) q (sym (drop-drop (b - a) a xs) ∙ ap (drop (b - a)) e ∙ drop-drop (b - a) a ys)

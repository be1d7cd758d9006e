-- Dispatching: how a way is carried out on benches, turn by turn.
use Rattle.std.specs.Prelude.{ℕ, zero, suc, ◌+◌, ◌*◌, min, Bool, true, false, not, ◌&&◌, ◌||◌, List, [], ◌∷◌, reverse, length, drop, Some, None, Option, ◌==◌, nat_le, nat_lt, slice_index_or}
use Rattle.std.specs.List.{list_any}
use Rattle.steps.specs.declared.ready.Ready.{Ready}
use Rattle.steps.specs.declared.row.Row.{Row}
use Rattle.steps.specs.declared.step.Step.{Step}
use Rattle.steps.specs.Placing.{Placing, no_ready}
use Rattle.steps.specs.Sheet.{step}
use Rattle.ways.specs.Paths.{tail}
use Rattle.ways.specs.Ways.{Set}
use Rattle.schedules.specs.Timetables.{end_of}

-- the time, and the rows of what has begun, the newest first. What is busy, begun and ended is read off the rows, in any order.
pub record State : Type 0 where
  pub now : ℕ
  pub rows : List Row

abbrev pub moment : ℕ → List Row → State
moment now rows = record { now = now; rows = rows }

abbrev pub busy : ℕ → ℕ → List Row → Bool
busy now b rows = list_any (λ r. (r.bench == b) && nat_lt now r.end) rows

abbrev pub begun : ℕ → List Row → Bool
begun i rows = list_any (λ r. r.step == i) rows

abbrev pub ended : ℕ → ℕ → List Row → Bool
ended now i rows = list_any (λ r. (r.step == i) && nat_le r.end now) rows

abbrev pub over : State → Set
over st k = ended st.now k st.rows

-- whether each feeder of i on the way, among these steps, the first of which has the number j, is done
abbrev pub fed : Set → Set → ℕ → ℕ → List Step → Bool
fed w done i j [] = true
fed w done i j (s ∷ ss) = (not (s.target == i && w j) || done j) && fed w done i (suc j) ss

-- which steps are ready, where some have started and some are done: those of the way that have not started and whose feeders on
-- the way are all done
abbrev pub ready_among : List Step → Set → Set → Set → Set
ready_among ss w started done i = w i && not (started i) && fed w done i (suc i) (drop (suc i) ss)

abbrev pub ready : List Step → Set → State → Set
ready ss w st = ready_among ss w (λ k. begun k st.rows) (over st)

abbrev pub unless_busy : Bool → ℕ → Option ℕ → Option ℕ
unless_busy true b o = o
unless_busy false b o = Some b

-- the lowest free one of n benches from b on
abbrev pub free_from : State → ℕ → ℕ → Option ℕ
free_from st b zero = None
free_from st b (suc n) = unless_busy (busy st.now b st.rows) b (free_from st (suc b) n)

-- which free bench is taken: the lowest
abbrev pub free : ℕ → State → Option ℕ
free benches st = free_from st 0 benches

abbrev pub keep : Bool → Ready → List Ready → List Ready
keep true r rs = r ∷ rs
keep false r rs = rs

abbrev pub entry : (ℕ → ℕ) → ℕ → Step → Ready
entry tails j s = record { step = j; minutes = s.minutes; tail = tails j }

-- those of these steps, the first of which has the number j, that pass a test, in ascending number
abbrev pub readies : (ℕ → Bool) → (ℕ → ℕ) → ℕ → List Step → List Ready
readies test tails j [] = []
readies test tails j (s ∷ ss) = keep (test j) (entry tails j s) (readies test tails (suc j) ss)

-- what the policy is told
abbrev pub ready_list : List Step → Set → State → List Ready
ready_list ss w st = readies (ready ss w st) (tail ss) 0 ss

-- the step at the place that the policy names, none where nothing is ready
abbrev pub named : Placing → List Ready → Option ℕ
named p [] = None
named p (r ∷ rs) = Some (slice_index_or (r ∷ rs) (p.place (r ∷ rs)) no_ready).step

abbrev pub earlier : Bool → ℕ → Option ℕ → Option ℕ
earlier false e o = o
earlier true e None = Some e
earlier true e (Some f) = Some (min e f)

-- the least end after now
abbrev pub next_end : ℕ → List Row → Option ℕ
next_end now [] = None
next_end now (r ∷ rs) = earlier (nat_lt now r.end) r.end (next_end now rs)

abbrev pub wait : State → Option ℕ → State
wait st None = st
wait st (Some t) = moment t st.rows

abbrev pub new_row : List Step → ℕ → ℕ → ℕ → Row
new_row ss now i b = record { step = i; bench = b; start = now; end = now + (step ss i).minutes }

-- step i begins on bench b
abbrev pub begin : List Step → State → ℕ → ℕ → State
begin ss st i b = moment st.now (new_row ss st.now i b ∷ st.rows)

abbrev pub begin_or_wait : List Step → State → Option ℕ → Option ℕ → State
begin_or_wait ss st None b = wait st (next_end st.now st.rows)
begin_or_wait ss st (Some i) None = wait st (next_end st.now st.rows)
begin_or_wait ss st (Some i) (Some b) = begin ss st i b

-- one turn: the ready step that the policy names begins on the lowest free bench; where nothing is ready or no bench is free, the
-- time goes on to the next end
abbrev pub turn : ℕ → List Step → Placing → Set → State → State
turn benches ss p w st = begin_or_wait ss st (named p (ready_list ss w st)) (free benches st)

abbrev pub turns : ℕ → (State → State) → State → State
turns zero f st = st
turns (suc n) f st = turns n f (f st)

abbrev pub empty_state : State
empty_state = moment 0 []

-- each step takes two turns at most: one to begin it, one to wait for its end
abbrev pub final : ℕ → List Step → Placing → Set → State
final benches ss p w = turns (2 * length ss) (turn benches ss p w) empty_state

-- the rows in the order in which they began
abbrev pub timetable : ℕ → List Step → Placing → Set → List Row
timetable benches ss p w = reverse (final benches ss p w).rows

-- when step 0, and with it the whole way, is done
abbrev pub finish : ℕ → List Step → Placing → Set → ℕ
finish benches ss p w = end_of 0 (timetable benches ss p w)

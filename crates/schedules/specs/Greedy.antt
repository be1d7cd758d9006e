-- Greedy runs: any ready step may begin on any free bench, but no bench stays free while a step is ready.
use Rattle.std.specs.Prelude.{◌≡◌, ℕ, ◌<◌, true, false, List, length, Some}
use Rattle.steps.specs.declared.step.Step.{Step}
use Rattle.ways.specs.Ways.{Set}
use Rattle.schedules.specs.Dispatch.{State, moment, busy, ready, next_end, begin, empty_state}

-- while a step is ready, every bench is busy
abbrev pub WorkConserving : ℕ → List Step → Set → State → Type 0
WorkConserving benches ss w st = (i b : ℕ) → i < length ss → ready ss w st i ≡ true → b < benches → busy st.now b st.rows ≡ true

-- the states of greedy runs
pub data Greedy (benches : ℕ) (ss : List Step) (w : Set) : State → Type 0 where
  starts : Greedy benches ss w empty_state
  begins : {st : State} → Greedy benches ss w st → (i b : ℕ) → i < length ss → ready ss w st i ≡ true → b < benches → busy st.now b st.rows ≡ false → Greedy benches ss w (begin ss st i b)
  goes_on : {st : State} → Greedy benches ss w st → (t : ℕ) → next_end st.now st.rows ≡ Some t → WorkConserving benches ss w st → Greedy benches ss w (moment t st.rows)

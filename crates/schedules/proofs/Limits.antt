-- How long the lists of a run get, how late its rows end, and that it stays where it rests.
use Rattle.std.proofs.Common.{◌≡◌, ℕ, zero, suc, ◌+◌, ◌-◌, ◌*◌, ◌<◌, ◌≤◌, Bool, true, false, List, [], ◌∷◌, length, refl, ap, ◌∙◌, subst, le_trans, le_refl, suc-mul, suc-add, mul-le-mul_left, zero-add, arith}
use native.Mathlib.Nat.{le_of_mul-le-mul_left}
use Rattle.std.proofs.lemmas.Bool.{and_from, le-leb}
use Rattle.steps.specs.declared.step.Step.{Step}
use Rattle.steps.specs.Placing.{rises_from, rising}
use Rattle.steps.specs.Sheet.{Descending}
use Rattle.ways.specs.Paths.{tail}
use Rattle.ways.specs.Ways.{Set, Way}
use Rattle.ways.proofs.Compared.{longest_below}
use Rattle.schedules.specs.Timetables.{All, latest}
use Rattle.schedules.specs.Dispatch.{State, ready, keep, entry, readies, ready_list, turns}
use Rattle.schedules.specs.Greedy.{Greedy}
use Rattle.ways.specs.Sums.{minutes_of, chain_of}
use Rattle.schedules.proofs.FinishBound.{greedy_bound}
use Rattle.schedules.proofs.Rows.{ends_le}
use Rattle.schedules.proofs.Runs.{greedy_now}

-- The list of ready steps.

module _ (test : ℕ → Bool) (tails : ℕ → ℕ) where
  readies_rise : (floor j : ℕ) (ss : List Step) → floor ≤ j → rises_from floor (readies test tails j ss) ≡ true
  readies_rise floor j [] l = refl
  readies_rise floor j (s ∷ ss) l = go (test j) (λ f. readies_rise f (suc j) ss)
    where
      go : (v : Bool) → ((f : ℕ) → f ≤ suc j → rises_from f (readies test tails (suc j) ss) ≡ true) → rises_from floor (keep v (entry tails j s) (readies test tails (suc j) ss)) ≡ true
      go true f = and_from _ _ (le-leb floor j l) (f (j + 1) (omega arith))
      go false f = f floor (omega arith)

  readies_most : (j : ℕ) (ss : List Step) → length (readies test tails j ss) ≤ length ss
  readies_most j [] = le_refl 0
  readies_most j (s ∷ ss) = go (test j) (readies_most (suc j) ss)
    where
      go : (v : Bool) → length (readies test tails (suc j) ss) ≤ length ss → length (keep v (entry tails j s) (readies test tails (suc j) ss)) ≤ suc (length ss)
      go true h = omega arith
      go false h = omega arith

-- its step numbers rise
pub ready_list_rises : (ss : List Step) (w : Set) (st : State) → rising (ready_list ss w st) ≡ true
ready_list_rises ss w st = readies_rise (ready ss w st) (tail ss) 0 0 ss (le_refl 0)

pub ready_list_most : (ss : List Step) (w : Set) (st : State) → length (ready_list ss w st) ≤ length ss
ready_list_most ss w st = readies_most (ready ss w st) (tail ss) 0 ss

-- The times.

module _ (benches : ℕ) (ss : List Step) (w : Set) (some : 0 < benches) (lower : Descending ss) (way : Way ss w) {st : State} (g : Greedy benches ss w st) where
  -- nothing ends later than if one step were worked on after another
  pub latest_most : latest st.rows ≤ minutes_of ss w
  latest_most = go benches some (greedy_bound benches ss w lower way st g)
    where
      go : (n : ℕ) → 0 < n → n * latest st.rows ≤ minutes_of ss w + (n - 1) * chain_of ss w → latest st.rows ≤ minutes_of ss w
      go zero l h = absurd (omega arith)
      go (suc n) l h =
          let e : suc n - 1 ≡ n = omega arith in
          let a : suc n * latest st.rows ≤ minutes_of ss w + n * chain_of ss w = subst (λ k. suc n * latest st.rows ≤ minutes_of ss w + k * chain_of ss w) e h in
          let b = mul-le-mul_left n (longest_below w ss 0) in
          let c = suc-mul n (minutes_of ss w) in
          le_of_mul-le-mul_left (let z : suc n * latest st.rows ≤ suc n * minutes_of ss w = omega arith in z) l

  pub ends_most : All (λ r. r.end ≤ minutes_of ss w) st.rows
  ends_most = ends_le (minutes_of ss w) st.rows latest_most

  pub now_most : st.now ≤ minutes_of ss w
  now_most = le_trans (greedy_now benches ss w g) latest_most

-- Turns.

-- from a turn on that changes nothing, nothing changes
pub turns_rest : (f : State → State) (st : State) → f st ≡ st → (n : ℕ) → turns n f st ≡ st
turns_rest f st e zero = refl
turns_rest f st e (suc n) = ap (turns n f) e ∙ turns_rest f st e n

pub turns_add : (m n : ℕ) (f : State → State) (st : State) → turns (m + n) f st ≡ turns n f (turns m f st)
turns_add zero n f st = ap (λ k. turns k f st) (zero-add n)
turns_add (suc m) n f st = ap (λ k. turns k f st) (suc-add m n) ∙ turns_add m n f (f st)

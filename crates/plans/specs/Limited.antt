-- The sheet at a limit, and the way that is taken there.
use Rattle.std.specs.Prelude.{◌≡◌, ℕ, suc, ◌+◌, ◌<◌, ◌≤◌, max, Bool, true, false, ◌&&◌, ◌||◌, List, [], ◌∷◌, length, Some, None, Option, nat_lt}
use Rattle.steps.specs.declared.step.Step.{Step}
use Rattle.steps.specs.Sheet.{step, Descending}
use Rattle.ways.specs.Least.{least_of}
use Rattle.ways.specs.Measures.{Measure}
use Rattle.ways.specs.Paths.{tail}
use Rattle.ways.specs.Taken.{taken}
use Rattle.ways.specs.Ways.{Set, Way, Open}
use Rattle.plans.specs.declared.Sums.{Sums}
use Rattle.plans.specs.Leaves.{Leaf, leaf}
use Rattle.ways.specs.Sums.{minutes_of, chain_of}

-- minutes and chain side by side, compared by the minutes
abbrev pub both : Measure Sums
both = record {
  empty = record { work = 0; long = 0 };
  joins = λ a b. record { work = a.work + b.work; long = max a.long b.long };
  grows = λ f a. record { work = a.work + f.minutes; long = a.long + f.minutes };
  key = λ a. a.work;
}

abbrev pub shut : Bool → Step → Step
shut b s = record { target = s.target; join = s.join; minutes = s.minutes; fee = s.fee; closed = s.closed || b }

-- these steps of a sheet, the first of which has the number j, with the leaves of a path beyond the limit closed
abbrev pub steps_at : ℕ → List Step → ℕ → List Step → List Step
steps_at limit sheet j [] = []
steps_at limit sheet j (s ∷ ss) = shut (leaf j s ss && nat_lt limit (tail sheet j)) s ∷ steps_at limit sheet (suc j) ss

abbrev pub sheet_at : ℕ → List Step → List Step
sheet_at limit ss = steps_at limit ss 0 ss

-- the minutes and the chain of the way taken at a limit
abbrev pub at_limit : ℕ → List Step → Option Sums
at_limit limit ss = least_of both (sheet_at limit ss) 0

abbrev pub taken_at : ℕ → List Step → Set
taken_at limit ss = taken both (sheet_at limit ss) 0

-- a set without closed steps, whose leaves have no path beyond the limit
abbrev pub OpenAt : ℕ → List Step → Set → Type 0
OpenAt limit ss w = (k : ℕ) → w k ≡ true → ((step ss k).closed ≡ false) × (Leaf ss k → tail ss k ≤ limit)

-- an open way with its chain within the limit, of the fewest minutes; r has its minutes and its chain
pub record Takes (limit : ℕ) (ss : List Step) (w : Set) (r : Sums) : Type 0 where
  pub way : Way ss w
  pub is_open : Open ss w
  pub within : chain_of ss w ≤ limit
  pub fewest : (v : Set) → Way ss v → Open ss v → chain_of ss v ≤ limit → minutes_of ss w ≤ minutes_of ss v
  pub work : minutes_of ss w ≡ r.work
  pub long : chain_of ss w ≡ r.long

-- none exactly where no open way has its chain within the limit
abbrev pub TakesOrNone : ℕ → List Step → Option Sums → Type 0
TakesOrNone limit ss None = (w : Set) → Way ss w → Open ss w → chain_of ss w ≤ limit → ⊥
TakesOrNone limit ss (Some r) = Takes limit ss (taken_at limit ss) r

abbrev pub TakenRight : Type 0
TakenRight = (limit : ℕ) (ss : List Step) → Descending ss → 0 < length ss → TakesOrNone limit ss (at_limit limit ss)

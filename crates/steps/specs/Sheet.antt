-- A sheet as its contracts see it, and the properties that every sheet keeps.
use Rattle.std.specs.Prelude.{◌≡◌, ℕ, ◌<◌, ◌≤◌, false, List, length, slice_index_or}
use Rattle.steps.specs.declared.step.Join.TheVariants.{And}
use Rattle.steps.specs.declared.step.Step.{Step}
use Rattle.steps.specs.Limits.{max_benches, max_minutes, max_fee, no_target}
use Rattle.steps.specs.Numbers.{join_number}

-- the steps, numbered from 0 in their order, and the benches
pub record Sheet : Type 0 where
  pub steps : List Step
  pub benches : ℕ

abbrev pub sheet_of : List Step → ℕ → Sheet
sheet_of ss benches = record { steps = ss; benches = benches }

-- what stands for a step past the end
abbrev pub blank : Step
blank = record { target = 0; join = And; minutes = 0; fee = 0; closed = false }

abbrev pub step : List Step → ℕ → Step
step ss i = slice_index_or ss i blank

-- The properties.

-- there is a step, and there are no more than the limit
abbrev pub Sized : ℕ → List Step → Type 0
Sized limit ss = (1 ≤ length ss) × (length ss ≤ limit)

-- step 0 leads nowhere and joins by AND
abbrev pub Rooted : List Step → Type 0
Rooted ss = ((step ss 0).target ≡ no_target) × (join_number (step ss 0).join ≡ 1)

-- every other step leads into one of lower number
abbrev pub Descending : List Step → Type 0
Descending ss = (i : ℕ) → 0 < i → i < length ss → (step ss i).target < i

abbrev pub Timed : List Step → Type 0
Timed ss = (i : ℕ) → i < length ss → (1 ≤ (step ss i).minutes) × ((step ss i).minutes ≤ max_minutes)

abbrev pub Priced : List Step → Type 0
Priced ss = (i : ℕ) → i < length ss → (step ss i).fee ≤ max_fee

abbrev pub Crewed : ℕ → Type 0
Crewed benches = (1 ≤ benches) × (benches ≤ max_benches)

-- a sheet of at most limit steps that keeps them all
pub record WellFormed (limit : ℕ) (s : Sheet) : Type 0 where
  pub size : Sized limit s.steps
  pub rooted : Rooted s.steps
  pub descending : Descending s.steps
  pub timed : Timed s.steps
  pub priced : Priced s.steps
  pub crewed : Crewed s.benches

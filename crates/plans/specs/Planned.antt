-- The planned way has the least score of all open ways.
use Rattle.std.specs.Prelude.{◌≡◌, ℕ, ◌≤◌, List, Some, None, Option}
use Rattle.steps.specs.declared.step.Step.{Step}
use Rattle.steps.specs.Sheet.{Descending}
use Rattle.ways.specs.Ways.{Set, Way, Open}
use Rattle.plans.specs.declared.Plan.{Plan}
use Rattle.plans.specs.Plan.{planned, planned_way}
use Rattle.plans.specs.Scores.{score_of}

-- the planned way is open, its score is the plan's, and an open way has that score exactly when no open way has less
pub record Plans (benches : ℕ) (ss : List Step) (p : Plan) : Type 0 where
  pub way : Way ss (planned_way ss p)
  pub is_open : Open ss (planned_way ss p)
  pub scores : score_of benches ss (planned_way ss p) ≡ p.score
  pub none_less : (w : Set) → Way ss w → Open ss w → p.score ≤ score_of benches ss w
  pub exactly : (w : Set) → Way ss w → Open ss w →
      (score_of benches ss w ≡ p.score → (v : Set) → Way ss v → Open ss v → score_of benches ss w ≤ score_of benches ss v)
      × (((v : Set) → Way ss v → Open ss v → score_of benches ss w ≤ score_of benches ss v) → score_of benches ss w ≡ p.score)

-- none exactly where no way is open
abbrev pub PlansOrNone : ℕ → List Step → Option Plan → Type 0
PlansOrNone benches ss None = (w : Set) → Way ss w → Open ss w → ⊥
PlansOrNone benches ss (Some p) = Plans benches ss p

abbrev pub PlannedRight : Type 0
PlannedRight = (benches : ℕ) (ss : List Step) → Descending ss → PlansOrNone benches ss (planned benches ss)

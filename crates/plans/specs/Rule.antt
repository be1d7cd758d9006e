-- The rule of the planned way, as facts about the way.
use Rattle.std.specs.Prelude.{◌≡◌, ℕ, ◌<◌, ◌≤◌, true, List, Some}
use Rattle.steps.specs.declared.step.Join.TheVariants.{Or}
use Rattle.steps.specs.declared.step.Step.{Step}
use Rattle.steps.specs.Sheet.{step, Descending}
use Rattle.ways.specs.Figures.{figure}
use Rattle.ways.specs.Ways.{Set, Feeds, WayOf, Way}
use Rattle.plans.specs.Limits.{IsLimit}
use Rattle.plans.specs.Limited.{OpenAt}
use Rattle.plans.specs.declared.Plan.{Plan}
use Rattle.plans.specs.Plan.{planned, planned_way}
use Rattle.ways.specs.Sums.{all_minutes}
use Rattle.plans.specs.Scores.{score_of}

-- n is the fewest minutes of the ways of step k that are open at the limit
pub record Fewest (limit : ℕ) (ss : List Step) (k n : ℕ) : Type 0 where
  pub attained : (w : Set) × WayOf ss k w × OpenAt limit ss w × (figure all_minutes ss w k ≡ n)
  pub least : (w : Set) → WayOf ss k w → OpenAt limit ss w → n ≤ figure all_minutes ss w k

-- the feeder k of i has a way that is open at the limit; no feeder has fewer minutes, and none of lower number as few
pub record Chosen (limit : ℕ) (ss : List Step) (i k : ℕ) : Type 0 where
  pub few : ℕ
  pub fewest : Fewest limit ss k few
  pub none_fewer : (j n : ℕ) → Feeds ss j i → Fewest limit ss j n → few ≤ n
  pub none_lower : (j n : ℕ) → Feeds ss j i → Fewest limit ss j n → j < k → few < n

-- w is the way taken at the limit: open there, and at each of its OR steps it holds the feeder that is chosen
pub record TakenAt (limit : ℕ) (ss : List Step) (w : Set) : Type 0 where
  pub way : Way ss w
  pub is_open : OpenAt limit ss w
  pub chosen : (i k : ℕ) → w i ≡ true → (step ss i).join ≡ Or → Feeds ss k i → w k ≡ true → Chosen limit ss i k

-- w is the planned way: taken at a limit; no way taken at a limit has a lower score, and none of a smaller limit as low a one
pub record IsPlanned (benches : ℕ) (ss : List Step) (w : Set) : Type 0 where
  pub limit : ℕ
  pub is_limit : IsLimit ss limit
  pub taken : TakenAt limit ss w
  pub none_less : (l : ℕ) (v : Set) → IsLimit ss l → TakenAt l ss v → score_of benches ss w ≤ score_of benches ss v
  pub none_smaller : (l : ℕ) (v : Set) → IsLimit ss l → TakenAt l ss v → l < limit → score_of benches ss w < score_of benches ss v

-- the way of the plan keeps the rule
abbrev pub PlannedKeeps : Type 0
PlannedKeeps = (benches : ℕ) (ss : List Step) → Descending ss → (p : Plan) → planned benches ss ≡ Some p → IsPlanned benches ss (planned_way ss p)

-- and no other way does
abbrev pub PlannedOnly : Type 0
PlannedOnly = (benches : ℕ) (ss : List Step) → Descending ss → (w v : Set) → IsPlanned benches ss w → IsPlanned benches ss v → (k : ℕ) → w k ≡ v k

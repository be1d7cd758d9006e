-- The planned way: of the ways taken at the limits, the one with the least score; of equal ones that of the smallest limit.
use Rattle.std.specs.Prelude.{ℕ, cond, List, [], ◌∷◌, Some, None, Option, nat_lt}
use Rattle.steps.specs.declared.step.Step.{Step}
use Rattle.ways.specs.Ways.{Set}
use Rattle.plans.specs.Limits.{limits}
use Rattle.plans.specs.declared.Plan.{Plan}
use Rattle.plans.specs.declared.Sums.{Sums}
use Rattle.plans.specs.Limited.{at_limit, taken_at}
use Rattle.plans.specs.Scores.{score}

abbrev pub plan_at : ℕ → ℕ → Sums → Plan
plan_at benches limit r = record { limit = limit; score = score benches r.work r.long }

-- a later plan takes the place of the best so far only if its score is less
abbrev pub better : Plan → Option Plan → Option Plan
better p None = Some p
better p (Some best) = Some (cond (nat_lt p.score best.score) p best)

-- a limit without a way is passed over
abbrev pub consider : ℕ → ℕ → Option Sums → Option Plan → Option Plan
consider benches limit None best = best
consider benches limit (Some r) best = better (plan_at benches limit r) best

-- the best plan, after these limits too
abbrev pub best_plan : ℕ → List Step → Option Plan → List ℕ → Option Plan
best_plan benches ss best [] = best
best_plan benches ss best (l ∷ ls) = best_plan benches ss (consider benches l (at_limit l ss) best) ls

abbrev pub planned : ℕ → List Step → Option Plan
planned benches ss = best_plan benches ss None (limits ss)

abbrev pub planned_way : List Step → Plan → Set
planned_way ss p = taken_at p.limit ss

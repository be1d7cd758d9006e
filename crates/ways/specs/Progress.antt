-- The least figures in one pass from the highest step down: each step is settled, and folded into its target.
use Rattle.std.specs.Prelude.{ℕ, true, cond, List, drop, Some, None, Option, nat_le}
use Rattle.std.specs.Option.{option_map}
use Rattle.steps.specs.declared.step.Join.{Join}
use Rattle.steps.specs.declared.step.Join.TheVariants.{And, Or}
use Rattle.steps.specs.declared.step.Step.{Step}
use Rattle.steps.specs.Sheet.{step}
use Rattle.ways.specs.Figures.{Line, facts}
use Rattle.ways.specs.Least.{plus_all, all_of, lesser, best_of, unless_closed, least_table, least_of}
use Rattle.ways.specs.Measures.{Measure}

-- before any feeder is folded into a step
abbrev pub started : {A : Type 0} → Measure A → Join → Option A
started m And = Some m.empty
started m Or = None

-- one feeder more
abbrev pub folded : {A : Type 0} → Measure A → Join → Option A → Option A → Option A
folded m And feeder so_far = plus_all m true feeder so_far
folded m Or feeder so_far = lesser m true feeder so_far

-- after the last feeder
abbrev pub joined : {A : Type 0} → Measure A → Join → Option A → Option A
joined m And so_far = so_far
joined m Or so_far = option_map (λ f. m.joins f m.empty) so_far

abbrev pub finished : {A : Type 0} → Measure A → ℕ → Step → Option A → Option A
finished m i s so_far = unless_closed s.closed (option_map (m.grows (facts i s)) (joined m s.join so_far))

-- the feeders of k among these lines, folded
abbrev pub so_far : {A : Type 0} → Measure A → Join → ℕ → List (Line (Option A)) → Option A
so_far m And k t = all_of m k t
so_far m Or k t = best_of m k t

-- what stands for step k where the steps from i on are settled, and folded into those below i
abbrev pub progress : {A : Type 0} → Measure A → List Step → ℕ → ℕ → Option A
progress m ss i k = cond (nat_le i k) (least_of m ss k) (so_far m (step ss k).join k (least_table m i (drop i ss)))

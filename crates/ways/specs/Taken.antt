-- The way that a table of least figures takes: from a step down, at an OR step the feeder with the least figure, of the lowest
-- number among equals.
use Rattle.std.specs.Prelude.{ℕ, zero, suc, Bool, true, false, cond, ◌&&◌, ◌||◌, List, [], ◌∷◌, length, drop, Some, None, Option, ◌==◌, nat_le, nat_lt}
use Rattle.steps.specs.declared.step.Join.{Join}
use Rattle.steps.specs.declared.step.Join.TheVariants.{And, Or}
use Rattle.steps.specs.declared.step.Step.{Step}
use Rattle.steps.specs.Sheet.{step}
use Rattle.ways.specs.Measures.{Measure}
use Rattle.ways.specs.Figures.{Line}
use Rattle.ways.specs.Least.{best_of, least_table}
use Rattle.ways.specs.Ways.{Set}

-- the lines of the steps after i
abbrev pub rest : {A : Type 0} → Measure A → List Step → ℕ → List (Line (Option A))
rest m ss i = least_table m (suc i) (drop (suc i) ss)

-- whether a feeder's entry is at most the best of those of higher number
abbrev pub wins : {A : Type 0} → Measure A → Bool → Option A → Option A → Bool
wins m false e a = false
wins m true None a = false
wins m true (Some f) None = true
wins m true (Some f) (Some b) = nat_le (m.key f) (m.key b)

-- the number of the best feeder of i among these lines, the first of which has the number j
abbrev pub pick : {A : Type 0} → Measure A → ℕ → ℕ → List (Line (Option A)) → ℕ
pick m i j [] = j
pick m i j (r ∷ rs) = cond (wins m (r.into == i) r.entry (best_of m i rs)) j (pick m i (suc j) rs)

abbrev pub chosen : Join → Bool → Bool
chosen And b = true
chosen Or b = b

-- whether the feeder k comes along with i
abbrev pub comes : {A : Type 0} → Measure A → List Step → ℕ → ℕ → Bool
comes m ss i k = nat_lt k (length ss) && chosen (step ss i).join (k == pick m i (suc i) (rest m ss i))

-- whether k is reached from the root in so many turns along targets
abbrev pub reached : {A : Type 0} → Measure A → List Step → ℕ → ℕ → ℕ → Bool
reached m ss root zero k = k == root
reached m ss root (suc turns) k = k == root || (nat_lt 0 k && (reached m ss root turns (step ss k).target && comes m ss (step ss k).target k))

-- targets fall, so k turns suffice
abbrev pub taken : {A : Type 0} → Measure A → List Step → ℕ → Set
taken m ss root k = reached m ss root k k

-- Leaves: the steps of join AND without feeders.
use Rattle.std.specs.Prelude.{◌≡◌, ℕ, suc, Bool, true, false, not, ◌&&◌, ◌||◌, List, [], ◌∷◌, drop, ◌==◌}
use Rattle.steps.specs.declared.step.Join.{Join}
use Rattle.steps.specs.declared.step.Join.TheVariants.{And, Or}
use Rattle.steps.specs.declared.step.Step.{Step}
use Rattle.steps.specs.Sheet.{step, Descending}
use Rattle.ways.specs.Ways.{Feeds}

abbrev pub Leaf : List Step → ℕ → Type 0
Leaf ss i = ((step ss i).join ≡ And) × ((k : ℕ) → Feeds ss k i → ⊥)

abbrev pub is_and : Join → Bool
is_and And = true
is_and Or = false

-- whether one of these steps leads into i
abbrev pub fed : ℕ → List Step → Bool
fed i [] = false
fed i (s ∷ ss) = s.target == i || fed i ss

-- whether the step s of number i is a leaf, where the steps ss follow it
abbrev pub leaf : ℕ → Step → List Step → Bool
leaf i s ss = is_and s.join && not (fed i ss)

abbrev pub is_leaf : List Step → ℕ → Bool
is_leaf ss i = leaf i (step ss i) (drop (suc i) ss)

-- the test tells the leaves from the other steps
abbrev pub LeavesRight : Type 0
LeavesRight = (ss : List Step) → Descending ss → (i : ℕ) → (is_leaf ss i ≡ true → Leaf ss i) × (Leaf ss i → is_leaf ss i ≡ true)

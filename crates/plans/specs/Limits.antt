-- Limits: the different paths of the leaves that are not closed, ascending.
use Rattle.std.specs.Prelude.{◌≡◌, ℕ, suc, ◌<◌, Bool, true, false, cond, not, ◌&&◌, ◌⊎◌, List, [], ◌∷◌, length, ◌==◌, nat_lt}
use Rattle.steps.specs.declared.step.Step.{Step}
use Rattle.steps.specs.Sheet.{step, Descending}
use Rattle.ways.specs.Paths.{tail}
use Rattle.plans.specs.Leaves.{Leaf, leaf}

-- l is the path of a leaf that is not closed
abbrev pub IsLimit : List Step → ℕ → Type 0
IsLimit ss l = (i : ℕ) × (i < length ss) × Leaf ss i × ((step ss i).closed ≡ false) × (tail ss i ≡ l)

-- a number at its place in an ascending list, unless it stands there already
abbrev pub insert : ℕ → List ℕ → List ℕ
insert x [] = x ∷ []
insert x (y ∷ ys) = cond (nat_lt x y) (x ∷ y ∷ ys) (cond (x == y) (y ∷ ys) (y ∷ insert x ys))

abbrev pub insert_if : Bool → ℕ → List ℕ → List ℕ
insert_if true x xs = insert x xs
insert_if false x xs = xs

-- the limits that these steps of the sheet set, the first of which has the number j
abbrev pub limits_from : List Step → ℕ → List Step → List ℕ
limits_from sheet j [] = []
limits_from sheet j (s ∷ ss) = insert_if (leaf j s ss && not s.closed) (tail sheet j) (limits_from sheet (suc j) ss)

abbrev pub limits : List Step → List ℕ
limits ss = limits_from ss 0 ss

abbrev pub Among : ℕ → List ℕ → Type 0
Among x [] = ⊥
Among x (y ∷ ys) = (x ≡ y) ⊎ Among x ys

-- each number is below all that follow it
abbrev pub Ascending : List ℕ → Type 0
Ascending [] = Unit {0}
Ascending (x ∷ xs) = ((y : ℕ) → Among y xs → x < y) × Ascending xs

-- the list of the limits ascends, and holds the limits and nothing else
pub record Lists (ss : List Step) (ls : List ℕ) : Type 0 where
  pub ascending : Ascending ls
  pub only : (l : ℕ) → Among l ls → IsLimit ss l
  pub every : (l : ℕ) → IsLimit ss l → Among l ls

abbrev pub LimitsRight : Type 0
LimitsRight = (ss : List Step) → Descending ss → Lists ss (limits ss)

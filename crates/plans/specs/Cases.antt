-- The planned ways of small sheets.
use Rattle.std.specs.Prelude.{◌≡◌, ℕ, suc, Bool, true, false, List, [], ◌∷◌, map, Some, None, Option}
use Rattle.std.specs.Option.{option_map}
use Rattle.steps.specs.declared.step.Join.{Join}
use Rattle.steps.specs.declared.step.Join.TheVariants.{And, Or}
use Rattle.steps.specs.declared.step.Step.{Step}
use Rattle.steps.specs.Limits.{no_target}
use Rattle.ways.specs.Ways.{Set}
use Rattle.plans.specs.Limited.{shut}
use Rattle.plans.specs.declared.Plan.{Plan}
use Rattle.plans.specs.Plan.{planned, planned_way}

abbrev pub open_step : ℕ → Join → ℕ → Step
open_step target join minutes = record { target = target; join = join; minutes = minutes; fee = 0; closed = false }

-- the sheet of seven steps, with so many minutes for step 2, and with steps 3 and 5 closed or open
abbrev pub seven : ℕ → Bool → Bool → List Step
seven minutes third fifth =
    open_step no_target And 2
    ∷ open_step 0 Or 1
    ∷ open_step 0 And minutes
    ∷ shut third (open_step 1 And 6)
    ∷ open_step 1 And 1
    ∷ shut fifth (open_step 4 And 3)
    ∷ open_step 4 And 3
    ∷ []

-- the step of a new sheet
abbrev pub hand_over : Step
hand_over = open_step no_target And 1

-- two feeders with the same minutes
abbrev pub same_minutes : List Step
same_minutes = hand_over ∷ open_step 0 Or 1 ∷ open_step 1 And 3 ∷ open_step 1 And 3 ∷ []

-- two ways with the same minutes, of different chains
abbrev pub same_score : List Step
same_score = hand_over ∷ open_step 0 Or 1 ∷ open_step 1 And 6 ∷ open_step 1 And 2 ∷ open_step 3 And 2 ∷ open_step 3 And 2 ∷ []

-- whether each of these steps is in the set, the first of which has the number j
abbrev pub marks : Set → ℕ → List Step → List Bool
marks w j [] = []
marks w j (s ∷ ss) = w j ∷ marks w (suc j) ss

pub record Outcome : Type 0 where
  pub score : ℕ
  pub way : List Bool

abbrev pub outcome : ℕ → List Step → Option Outcome
outcome benches ss = option_map (λ (p : Plan). record { score = p.score; way = marks (planned_way ss p) 0 ss }) (planned benches ss)

abbrev pub scores : ℕ → List Bool → Option Outcome
scores n w = Some (record { score = n; way = w })

-- 0, 1, 2, 3
abbrev pub through_three : List Bool
through_three = true ∷ true ∷ true ∷ true ∷ false ∷ false ∷ false ∷ []

-- 0, 1, 2, 4, 5, 6
abbrev pub through_four : List Bool
through_four = true ∷ true ∷ true ∷ false ∷ true ∷ true ∷ true ∷ []

pub record Case : Type 0 where
  pub benches : ℕ
  pub sheet : List Step
  pub gives : Option Outcome

abbrev pub case : ℕ → List Step → Option Outcome → Case
case benches ss o = record { benches = benches; sheet = ss; gives = o }

abbrev pub cases : List Case
cases =
    case 1 (seven 4 false false) (scores 13 through_three)
    ∷ case 2 (seven 4 false false) (scores 21 through_four)
    ∷ case 3 (seven 4 false false) (scores 28 through_four)
    ∷ case 1 (seven 4 true false) (scores 14 through_four)
    ∷ case 1 (seven 4 true true) None
    ∷ case 2 (seven 4 true true) None
    ∷ case 2 (seven 20 false false) (scores 51 through_three)
    ∷ case 16 (hand_over ∷ []) (scores 16 (true ∷ []))
    ∷ case 1 (hand_over ∷ open_step 0 Or 1 ∷ []) None
    ∷ case 2 same_minutes (scores 10 (true ∷ true ∷ true ∷ false ∷ []))
    ∷ case 1 same_score (scores 8 (true ∷ true ∷ false ∷ true ∷ true ∷ true ∷ []))
    ∷ []

abbrev pub CasesRight : Type 0
CasesRight = map (λ (c : Case). outcome c.benches c.sheet) cases ≡ map (λ (c : Case). c.gives) cases

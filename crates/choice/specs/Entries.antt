-- What stands in the table of a limit.
use Rattle.std.specs.Prelude.{◌≡◌, ℕ, suc, ◌+◌, ◌*◌, ◌<◌, ◌≤◌, Bool, true, false, cond, ◌&&◌, List, length, drop, Some, None, Option, ◌==◌, nat_le, nat_lt, slice_index_or}
use Rattle.std.specs.Option.{option_map}
use Rattle.steps.specs.declared.step.Join.{Join}
use Rattle.steps.specs.declared.step.Join.TheVariants.{And, Or}
use Rattle.steps.specs.declared.step.Step.{Step}
use Rattle.steps.specs.Limits.{max_steps, max_minutes}
use Rattle.steps.specs.Sheet.{step}
use Rattle.ways.specs.Least.{unless_closed, least_table}
use Rattle.ways.specs.Measures.{Measure}
use Rattle.ways.specs.Progress.{started, folded, progress}
use Rattle.ways.specs.Taken.{rest, wins, pick, chosen}
use Rattle.plans.specs.declared.Sums.{Sums}
use Rattle.plans.specs.Limited.{both, sheet_at}
use Rattle.choice.specs.declared.settling.Entry.{Entry}

-- what stands for an entry past the end
abbrev pub blank_entry : Entry
blank_entry = record { sums = None; feeder = None }

-- no more minutes than all steps have, and no longer chain
abbrev pub Within : Option Sums → Type 0
Within None = Unit {0}
Within (Some r) = (r.long ≤ r.work) × (r.work ≤ max_steps * max_minutes)

-- with a step of so many minutes, which may be closed
abbrev pub grown : Bool → ℕ → Option Sums → Option Sums
grown closed minutes o = unless_closed closed (option_map (λ (r : Sums). record { work = r.work + minutes; long = r.long + minutes }) o)

-- before any feeder is folded in
abbrev pub start_entry : Join → Entry
start_entry join = record { sums = started both join; feeder = None }

-- the feeder that is taken, where the next one is no worse
abbrev pub take_feeder : Join → Bool → ℕ → Option ℕ → Option ℕ
take_feeder And b next old = old
take_feeder Or b next old = cond b (Some next) old

-- with the feeder of this number
abbrev pub fold_entry : Join → ℕ → Option Sums → Entry → Entry
fold_entry join next o e = record { sums = folded both join o e.sums; feeder = take_feeder join (wins both true o e.sums) next e.feeder }

-- the best feeder of k among the steps from i on
abbrev pub picked : {A : Type 0} → Measure A → List Step → ℕ → ℕ → ℕ
picked m ss i k = cond (nat_le i k) (pick m k (suc k) (rest m ss k)) (pick m k i (least_table m i (drop i ss)))

-- the step of this number among so many; another number stands for none
abbrev pub if_step : ℕ → ℕ → Option ℕ
if_step count n = cond (nat_lt n count) (Some n) None

abbrev pub feeder_at : {A : Type 0} → Measure A → List Step → Join → ℕ → ℕ → Option ℕ
feeder_at m ss And i k = None
feeder_at m ss Or i k = if_step (length ss) (picked m ss i k)

-- the entry of step k where the steps from i on are settled
abbrev pub entry_at : List Step → ℕ → ℕ → Entry
entry_at ss i k = record { sums = progress both ss i k; feeder = feeder_at both ss (step ss k).join i k }

-- a table at a limit, where the steps from i on are settled
abbrev pub Settled : ℕ → List Step → ℕ → List Entry → Type 0
Settled limit ss i es = (k : ℕ) → k < length ss → slice_index_or es k blank_entry ≡ entry_at (sheet_at limit ss) i k

-- whether it is the step k
abbrev pub is_step : ℕ → Option ℕ → Bool
is_step k None = false
is_step k (Some n) = k == n

-- whether step k comes along with its target
abbrev pub along : List Step → List Entry → List Bool → ℕ → Bool
along ss es way k =
    let t = (step ss k).target in
    slice_index_or way t false && chosen (step ss t).join (is_step k (slice_index_or es t blank_entry).feeder)

-- Ways: what is carried out of a sheet.
use Rattle.std.specs.Prelude.{◌≡◌, ℕ, ◌<◌, Bool, true, false, List, length, ◌≢◌}
use Rattle.steps.specs.declared.step.Join.TheVariants.{And, Or}
use Rattle.steps.specs.declared.step.Step.{Step}
use Rattle.steps.specs.Sheet.{step}

-- a set of steps: whether each number is in it
abbrev pub Set : Type 0
Set = ℕ → Bool

-- k leads into i
abbrev pub Feeds : List Step → ℕ → ℕ → Type 0
Feeds ss k i = (0 < k) × (k < length ss) × ((step ss k).target ≡ i)

-- a way of step i: it holds i, with an AND step all of its feeders, with an OR step exactly one of them, and nothing else
pub record WayOf (ss : List Step) (i : ℕ) (w : Set) : Type 0 where
  pub holds : w i ≡ true
  pub every : (j : ℕ) → w j ≡ true → (step ss j).join ≡ And → (k : ℕ) → Feeds ss k j → w k ≡ true
  pub one : (j : ℕ) → w j ≡ true → (step ss j).join ≡ Or → (k : ℕ) × Feeds ss k j × (w k ≡ true) × ((l : ℕ) → Feeds ss l j → w l ≡ true → l ≡ k)
  pub led : (k : ℕ) → w k ≡ true → (k ≢ i) → (0 < k) × (w (step ss k).target ≡ true)
  pub within : (k : ℕ) → w k ≡ true → k < length ss

-- a way of the sheet
abbrev pub Way : List Step → Set → Type 0
Way ss w = WayOf ss 0 w

-- no step of it is closed
abbrev pub Open : List Step → Set → Type 0
Open ss w = (k : ℕ) → w k ≡ true → (step ss k).closed ≡ false

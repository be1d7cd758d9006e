-- The rules of the policies, in words of the entries: what is so of the place that each names in a list with entries whose step
-- numbers rise.
use Rattle.std.specs.Prelude.{◌≡◌, ℕ, ◌<◌, ◌≤◌, true, false, List, length}
use Rattle.steps.specs.declared.ready.Ready.{Ready}
use Rattle.steps.specs.Placing.{Placing}
use Rattle.policies.specs.Places.{entry}
use Rattle.policies.specs.Meanings.{rank, marked}

-- no tail is longer, and all before it are shorter
pub record FirstLongest (rs : List Ready) (i : ℕ) : Type 0 where
  pub greatest : (k : ℕ) → k < length rs → (entry rs k).tail ≤ (entry rs i).tail
  pub before : (k : ℕ) → k < i → (entry rs k).tail < (entry rs i).tail

-- no rank is lower, and all before it are higher
pub record FirstRanked (ranks : List ℕ) (rs : List Ready) (i : ℕ) : Type 0 where
  pub lowest : (k : ℕ) → k < length rs → rank ranks (entry rs i) ≤ rank ranks (entry rs k)
  pub before : (k : ℕ) → k < i → rank ranks (entry rs i) < rank ranks (entry rs k)

-- where a step is marked, this one is, and none before it; where none is marked, it is what the policy below names
pub record FirstMarked (marks : List ℕ) (below : Placing) (rs : List Ready) (i : ℕ) : Type 0 where
  pub some : (k : ℕ) → k < length rs → marked marks (entry rs k) ≡ true → (marked marks (entry rs i) ≡ true) × ((j : ℕ) → j < i → marked marks (entry rs j) ≡ false)
  pub none : ((k : ℕ) → k < length rs → marked marks (entry rs k) ≡ false) → i ≡ below.place rs

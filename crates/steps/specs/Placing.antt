-- What a policy means: the place that it names in each list of ready steps.
use Rattle.std.specs.Prelude.{◌≡◌, ℕ, ◌+◌, ◌<◌, Bool, true, false, ◌&&◌, List, [], ◌∷◌, length, nat_le}
use Rattle.steps.specs.declared.ready.Ready.{Ready}

-- each step number is at least the floor, and above the one before it
abbrev pub rises_from : ℕ → List Ready → Bool
rises_from floor [] = true
rises_from floor (r ∷ rs) = nat_le floor r.step && rises_from (r.step + 1) rs

-- the step numbers rise
abbrev pub rising : List Ready → Bool
rising rs = rises_from 0 rs

-- what stands for an entry past the end of a list
abbrev pub no_ready : Ready
no_ready = record { step = 0; minutes = 0; tail = 0 }

-- the place, counted from 0, that a policy names in each list, with the laws
pub record Placing : Type 0 where
  pub place : List Ready → ℕ
  -- inside the list, if it has entries
  pub inside : (rs : List Ready) → 0 < length rs → place rs < length rs
  -- place 0 where the step numbers do not rise, and in the empty list
  pub unordered : (rs : List Ready) → rising rs ≡ false → place rs ≡ 0
  pub nothing : place [] ≡ 0

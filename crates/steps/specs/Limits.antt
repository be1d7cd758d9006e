-- The limits of a sheet, as numbers.
use Rattle.std.specs.Prelude.{ℕ, Bool, ◌||◌, nat_lt}

abbrev pub max_steps : ℕ
max_steps = 256

abbrev pub max_benches : ℕ
max_benches = 16

abbrev pub max_minutes : ℕ
max_minutes = 9999

-- in cents
abbrev pub max_fee : ℕ
max_fee = 100000

-- the target of step 0, which leads nowhere
abbrev pub no_target : ℕ
no_target = 65535

-- whether n is not among low to high
abbrev pub outside : ℕ → ℕ → ℕ → Bool
outside low high n = nat_lt n low || nat_lt high n

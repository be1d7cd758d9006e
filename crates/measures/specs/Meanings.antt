-- What the measures mean.
use Rattle.std.specs.Prelude.{ℕ, ◌+◌, min, max}
use Rattle.std.proofs.Common.{arith}
use Rattle.ways.specs.declared.StepFacts.{StepFacts}
use Rattle.ways.specs.Measures.{Meaning}

-- sums stop here
abbrev pub max_sum : ℕ
max_sum = 4294967295

abbrev pub sum : ℕ → ℕ → ℕ
sum a b = min (a + b) max_sum

-- an amount of each step of a way, all together
abbrev pub summing : (StepFacts → ℕ) → Meaning
summing amount = record {
  empty = 0;
  joins = sum;
  grows = λ s a. sum a (amount s);
  joins_rise = λ a b c d p q. omega arith;
  grows_rise = λ s a b p. omega arith;
}

abbrev pub minutes_meaning : Meaning
minutes_meaning = summing (λ s. s.minutes)

abbrev pub fees_meaning : Meaning
fees_meaning = summing (λ s. s.fee)

-- the most minutes from a leaf to the hand-over
abbrev pub chain_meaning : Meaning
chain_meaning = record {
  empty = 0;
  joins = max;
  grows = λ s a. sum a s.minutes;
  joins_rise = λ a b c d p q. omega arith;
  grows_rise = λ s a b p. omega arith;
}

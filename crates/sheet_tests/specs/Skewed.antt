-- A measure whose join depends on the order of its arguments.
use Rattle.std.proofs.Common.{arith}
use Rattle.measures.specs.Meanings.{sum}
use Rattle.ways.specs.Measures.{Meaning}

abbrev pub skewed_meaning : Meaning
skewed_meaning = record {
  empty = 0;
  joins = λ a b. sum (sum a b) b;
  grows = λ s a. sum a s.minutes;
  joins_rise = λ a b c d p q. omega arith;
  grows_rise = λ s a b p. omega arith;
}

-- What the measures of the counter mean.
use Rattle.ways.specs.Measures.{Meaning}
use Rattle.measures.specs.declared.counter.CounterMeasure.{CounterMeasure}
use Rattle.measures.specs.declared.counter.CounterMeasure.TheVariants.{Minutes, Chain, Fees}
use Rattle.measures.specs.Meanings.{minutes_meaning, chain_meaning, fees_meaning}

abbrev pub meaning_of : CounterMeasure → Meaning
meaning_of Minutes = minutes_meaning
meaning_of Chain = chain_meaning
meaning_of Fees = fees_meaning

-- What a way costs on so many benches: its score.
use Rattle.std.specs.Prelude.{ℕ, ◌+◌, ◌-◌, ◌*◌, List}
use Rattle.steps.specs.declared.step.Step.{Step}
use Rattle.ways.specs.Sums.{minutes_of, chain_of}
use Rattle.ways.specs.Ways.{Set}

abbrev pub score : ℕ → ℕ → ℕ → ℕ
score benches work long = work + (benches - 1) * long

abbrev pub score_of : ℕ → List Step → Set → ℕ
score_of benches ss w = score benches (minutes_of ss w) (chain_of ss w)

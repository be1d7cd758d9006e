-- The kept values with one of them replaced.
use Rattle.std.proofs.Common.{◌∙◌, length-set}
use Rattle.std.specs.Prelude.{ℕ, slice_set}
use Rattle.policies.specs.declared.values.Values.{Values}

abbrev pub put_value : Values → ℕ → ℕ → Values
put_value vs step v = record { values = slice_set vs.values step v; whole = length-set vs.values step v ∙ vs.whole }

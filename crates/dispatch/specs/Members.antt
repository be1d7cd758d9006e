-- A way as its members are kept: a mark for each step.
use Rattle.std.specs.Prelude.{Bool, false, List, slice_index_or}
use Rattle.ways.specs.Ways.{Set}

abbrev pub members : List Bool → Set
members way k = slice_index_or way k false

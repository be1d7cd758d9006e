-- No entry so far is marked.
use Rattle.std.proofs.Common.{◌≡◌, ℕ, ◌<◌, false}
use Rattle.policies.specs.Meanings.{marked}
use Rattle.policies.specs.Places.{entry}
use Rattle.policies.proofs.rush_layer.RushLayerPolicy.pick.Given as goal

abbrev pub invariant-loop-i : goal.invariant-loop-i
invariant-loop-i g l = (k : ℕ) → k < l.i → marked l.self.marks.values (entry l.ready k) ≡ false

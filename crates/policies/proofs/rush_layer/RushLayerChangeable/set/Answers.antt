use Rattle.policies.specs.Kept.{put_made}
use Rattle.policies.proofs.rush_layer.RushLayerChangeable.set.Goals as goal

pub returns-clause-after : goal.returns-clause-after
returns-clause-after g c =
    put_made (λ marks. record { marks = marks; below = c.args.self.now.below }) c.args.self.now.marks _ c.args.step c.args.value c.set.ensures.after

use Rattle.std.proofs.Common.{ltb, rules}
use Rattle.std.proofs.lemmas.Fn.{always_returns_same}
use Rattle.steps.specs.declared.ready.Ready.{Ready}
use Rattle.policies.proofs.Rising.{rising_answer}
use Rattle.policies.proofs.places.rises.Goals as goal

pub returns : goal.returns
returns c =
    rising_answer c.args.ready.now c.is_sorted_by.result
    (c.is_sorted_by.ensures.cases (λ (r s : Ready). ltb r.step s.step) (always_returns_same _ _ _ (λ a b f k. search rules)))

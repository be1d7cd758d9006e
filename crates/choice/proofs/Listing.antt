-- One limit more, from the highest step down.
use Rattle.std.proofs.Common.{◌≡◌, ℕ, suc, ◌+◌, ◌<◌, Bool, not, ◌&&◌, List, length, drop, sym, ap, ◌∙◌, add-one, drop-cons}
use Rattle.steps.specs.declared.step.Step.{Step}
use Rattle.steps.specs.Sheet.{step, blank}
use Rattle.ways.specs.Paths.{tail}
use Rattle.plans.specs.Leaves.{is_and, fed}
use Rattle.plans.specs.Limits.{insert_if, limits_from}

pub limits_more : (ss : List Step) (i : ℕ) (s : Step) (f wanted : Bool) → i < length ss → s ≡ step ss i → f ≡ fed i (drop (suc i) ss) → wanted ≡ (is_and s.join && not f && not s.closed)
    → insert_if wanted (tail ss i) (limits_from ss (i + 1) (drop (i + 1) ss)) ≡ limits_from ss i (drop i ss)
limits_more ss i s f wanted h is fed_is e =
    ap (λ b. insert_if b (tail ss i) (limits_from ss (i + 1) (drop (i + 1) ss))) (e ∙ ap (λ (q : Step). is_and q.join && not f && not q.closed) is ∙ ap (λ b. is_and (step ss i).join && not b && not (step ss i).closed) fed_is)
    ∙ ap (λ n. insert_if (is_and (step ss i).join && not (fed i (drop (suc i) ss)) && not (step ss i).closed) (tail ss i) (limits_from ss n (drop n ss))) (add-one i)
    ∙ sym (ap (limits_from ss i) (drop-cons ss i blank h))

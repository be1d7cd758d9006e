-- The best of all entries, in words of their tails.
use Rattle.std.proofs.Common.{rules}
use Rattle.std.proofs.lemmas.Bool.{ltb-true, ltb-false}
use Rattle.policies.specs.Meanings.{longer}
use Rattle.policies.specs.Found.{by_more}
use Rattle.policies.proofs.longest_tail.LongestTailPolicy.pick.Goals as goal

pub returns-clause-rule : goal.returns-clause-rule
returns-clause-rule c up some =
    let leads = (c.first_best.ensures longer (by_more (λ r. r.tail)) (λ r s b h. search rules)).leads up in
    record { greatest = λ k h. ltb-false _ _ (leads.unbeaten k h); before = λ k h. ltb-true _ _ (leads.before k h) }

-- The best of all entries, in words of their ranks.
use Rattle.std.proofs.Common.{rules}
use Rattle.std.proofs.lemmas.Bool.{ltb-true, ltb-false}
use Rattle.policies.specs.Meanings.{outranks, rank}
use Rattle.policies.specs.Found.{by_less}
use Rattle.policies.proofs.counter_list.CounterListPolicy.pick.Goals as goal

pub returns-clause-rule : goal.returns-clause-rule
returns-clause-rule c up some =
    let ranks = c.args.self.now.ranks.values in
    let leads = (c.first_best.ensures (outranks ranks) (by_less (rank ranks)) (λ r s b h. search rules)).leads up in
    record { lowest = λ k h. ltb-false _ _ (leads.unbeaten k h); before = λ k h. ltb-true _ _ (leads.before k h) }

use Rattle.std.proofs.Common.{◌∙◌, ap, arith, rules}
use Rattle.policies.specs.Values.{kept_values, cleared}
use Rattle.policies.proofs.Clearing.{cleared_rest, cleared_zeros}
use Rattle.policies.proofs.changing.clear.Goals as goal

pub loop-step-init : goal.loop-step-init
unfolding cleared
loop-step-init g c = search rules

pub loop-step-preserved : goal.loop-step-preserved
unfolding cleared
loop-step-preserved g c = search rules

pub returns-clause-zeros : goal.returns-clause-zeros
returns-clause-zeros g c k h =
    let t = g.C.Changeable in
    let laws = g.met.C.Changeable in
    ap (λ x. t.keeps x k) c.loop-step.invariant ∙ cleared_zeros t.put t.keeps kept_values laws.reads laws.others c.loop-step.step c.args.policy.now (omega arith) k (omega arith)

pub returns-clause-kept : goal.returns-clause-kept
returns-clause-kept g c =
    let t = g.C.Changeable in
    ap t.rest c.loop-step.invariant ∙ cleared_rest t.put t.rest g.met.C.Changeable.leaves c.loop-step.step c.args.policy.now

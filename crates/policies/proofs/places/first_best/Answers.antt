use Rattle.std.proofs.Common.{length, sym, subst, ◌∙◌, arith}
use Rattle.std.proofs.lemmas.Bool.{cond-true}
use Rattle.policies.specs.Places.{Leads}
use Rattle.policies.proofs.Firsts.{leads_best}
use Rattle.policies.proofs.places.first_best.Goals as goal

pub returns : goal.returns
returns g c beats strict says =
    let rs = c.args.ready.now in
    let at = c.loop-i.best in
    let leads : Leads beats rs (length rs) at = subst (λ n. Leads beats rs n at) (omega arith) (c.loop-i.invariant.1 beats strict says) in
    record {
      place = leads_best beats rs at leads ∙ sym (cond-true _ _ _ (sym c.if-not-rises.ensures));
      leads = λ up. leads;
    }

-- The first marked entry is named, or what the policy below names where none is marked.
use Rattle.std.proofs.Common.{◌≡◌, ℕ, ◌<◌, false, length, sym, ◌∙◌, arith}
use Rattle.std.proofs.lemmas.Bool.{cond-true, both_ways}
use Rattle.policies.specs.Meanings.{marked}
use Rattle.policies.specs.Places.{entry}
use Rattle.policies.proofs.Firsts.{place_found, place_missing}
use Rattle.policies.proofs.rush_layer.RushLayerPolicy.pick.Goals as goal

pub returns-then-is_marked : goal.returns-then-is_marked
returns-then-is_marked g c =
    let rs = c.args.ready.now in
    let i = c.loop-i.i in
    let marks = marked c.args.self.now.marks.values in
    let here = sym c.is_marked.ensures ∙ c.if-is_marked.true in
    record {
      place = sym (cond-true _ _ _ (sym c.if-not-rises.ensures) ∙ place_found marks rs i _ c.loop-i-test.true here c.loop-i.invariant);
      rule = λ up some. record { some = λ k h e. (here, c.loop-i.invariant); none = λ f. absurd (both_ways _ (f i c.loop-i-test.true) here) };
    }

pub returns : goal.returns
returns g c =
    let rs = c.args.ready.now in
    let marks = marked c.args.self.now.marks.values in
    let none : (k : ℕ) → k < length rs → marks (entry rs k) ≡ false = λ k h. c.loop-i.invariant k (omega (arith, h, c.loop-i-test.false)) in
    record {
      place = c.pick.ensures.place ∙ sym (cond-true _ _ _ (sym c.if-not-rises.ensures) ∙ place_missing marks rs _ none);
      rule = λ up some. record { some = λ k h e. absurd (both_ways _ (none k h) e); none = λ f. c.pick.ensures.place };
    }

-- The limits listed ascend, and there are no more than steps.
use Rattle.std.proofs.Common.{◌≡◌, ◌+◌, ◌<◌, false, length, get_or, drop, sym, ap, ◌∙◌, subst, ap₂, arith, rules}
use Rattle.std.proofs.lemmas.List.{length-drop, drop_all}
use Rattle.steps.specs.Sheet.{blank}
use Rattle.ways.specs.Paths.{tail}
use Rattle.plans.specs.Limits.{Ascending, insert, insert_if, limits_from}
use Rattle.plans.proofs.Limits.{ascends, limits_fit}
use Rattle.steps.proofs.Descents.{Left, all_left, taken}
use Rattle.choice.proofs.Listing.{limits_more}
use Rattle.choice.proofs.limits.Goals as goal

pub loop-i-init : goal.loop-i-init
loop-i-init c =
    let ss = c.args.paths.now.steps.now in
    let rest : c.into_iter-i-iterator.result.iter.iter.rest.now ≡ ss = search rules in
    let none : c.into_iter-i-iterator.result.iter.count ≡ 0 = search rules in
    (none, subst (Left ss) (sym rest) (all_left ss), c.new-limits.ensures ∙ sym (ap (λ us. limits_from ss (length us) (drop (length us) ss)) rest ∙ ap (limits_from ss (length ss)) (drop_all (length ss) ss (omega arith))))

pub insert-requires : goal.insert-requires
insert-requires c =
    let ss = c.args.paths.now.steps.now in
    let n = length c.loop-i.i-iterator.iter.iter.rest.now in
    let listed = c.loop-i.invariant.2 in
    let t = taken ss _ _ _ c.loop-i.invariant.1 c.in-Some.ensures.steps.1.0 in (
      omega arith,
      (
        omega (arith, ap length listed, limits_fit ss n (drop n ss), length-drop n ss, t.less, c.args.paths.now.size.1, c.loop-i.invariant.1.within),
        subst Ascending (sym listed) (ascends ss n (drop n ss)),
      ),
    )

-- the step that is taken, with its tail and whether another leads into it
pub loop-i-preserved-then-sets_limit : goal.loop-i-preserved-then-sets_limit
loop-i-preserved-then-sets_limit c =
    let p = c.args.paths.now in
    let ss = p.steps.now in
    let came = c.in-Some.ensures.steps in
    let t = taken ss _ _ _ c.loop-i.invariant.1 came.1.0 in
    let n = length c.next.new.self.iter.iter.rest.now in
    let i : c.in-Some.i ≡ n = omega (arith, came.1.1, c.loop-i.invariant.0) in
    let here : n < length ss = omega (arith, t.less, c.loop-i.invariant.1.within) in
    let mark = ap (λ k. get_or p.fed k false) i ∙ p.marked n here in
    let tailed = ap (λ k. get_or p.tails k 0) i ∙ p.tailed n here in
    let so_far = c.loop-i.invariant.2 ∙ ap (λ k. limits_from ss k (drop k ss)) t.less in (
      came.0 ∙ c.loop-i.invariant.0,
      t.rests,
      c.insert.ensures
          ∙ ap₂ insert tailed so_far
          ∙ ap (λ b. insert_if b (tail ss n) (limits_from ss (n + 1) (drop (n + 1) ss))) (sym c.if-sets_limit.true)
          ∙ limits_more ss n c.in-Some.step.now _ c.sets_limit.result here (t.is blank) mark c.sets_limit.ensures,
    )

pub loop-i-preserved : goal.loop-i-preserved
loop-i-preserved c =
    let p = c.args.paths.now in
    let ss = p.steps.now in
    let came = c.in-Some.ensures.steps in
    let t = taken ss _ _ _ c.loop-i.invariant.1 came.1.0 in
    let n = length c.next.new.self.iter.iter.rest.now in
    let i : c.in-Some.i ≡ n = omega (arith, came.1.1, c.loop-i.invariant.0) in
    let here : n < length ss = omega (arith, t.less, c.loop-i.invariant.1.within) in
    let mark = ap (λ k. get_or p.fed k false) i ∙ p.marked n here in
    let so_far = c.loop-i.invariant.2 ∙ ap (λ k. limits_from ss k (drop k ss)) t.less in (
      came.0 ∙ c.loop-i.invariant.0,
      t.rests,
      so_far
          ∙ ap (λ b. insert_if b (tail ss n) (limits_from ss (n + 1) (drop (n + 1) ss))) (sym c.if-sets_limit.false)
          ∙ limits_more ss n c.in-Some.step.now _ c.sets_limit.result here (t.is blank) mark c.sets_limit.ensures,
    )

pub returns : goal.returns
returns c =
    let ss = c.args.paths.now.steps.now in
    let none : length c.loop-i.i-iterator.iter.iter.rest.now ≡ 0 = search rules in
    let all = c.loop-i.invariant.2 ∙ ap (λ k. limits_from ss k (drop k ss)) none in
    record { listed = all; few = omega (arith, ap length all, limits_fit ss 0 ss) }

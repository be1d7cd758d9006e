-- One step more, put behind the others: when it is accepted, and that the properties are kept.
use Rattle.std.proofs.Common.{◌≡◌, ℕ, ◌<◌, ◌≤◌, Bool, false, not, ltb, leb, ◌==◌, List, [], ◌∷◌, ◌++◌, length, is_some, Some, None, Ok, Option, unwrap_or, sym, ap, ◌∙◌, arith}
use Rattle.std.proofs.lemmas.List.{length_push, get_or_append_left}
use Rattle.std.proofs.lemmas.Bool.{cond-false, eqb-false, lt-leb, le-ltb}
use Rattle.std.specs.Option.{ok_or}
use Rattle.steps.proofs.Clashes.{clash}
use Rattle.steps.specs.declared.refusal.Refusal.TheVariants.{UnknownJoin}
use Rattle.steps.proofs.Pushes.{each_push}
use Rattle.steps.proofs.Ranges.{inside}
use Rattle.steps.specs.declared.step.Join.{Join}
use Rattle.steps.specs.declared.step.Join.TheVariants.{And}
use Rattle.steps.specs.declared.step.Step.{Step}
use Rattle.steps.specs.Limits.{max_steps, max_minutes, max_fee, outside}
use Rattle.steps.specs.Numbers.{join_of, JoinDecodes}
use Rattle.steps.specs.Sheet.{Sheet, sheet_of, blank, WellFormed}
use Rattle.sheet.specs.Calls.{open_step, after, added, add_answer, add_after}

-- a well-formed sheet stays one
pub grown : (limit : ℕ) (ss : List Step) (benches : ℕ) (x : Step) → WellFormed limit (sheet_of ss benches) → length ss < limit → x.target < length ss → (1 ≤ x.minutes) × (x.minutes ≤ max_minutes) → x.fee ≤ max_fee → WellFormed limit (sheet_of (ss ++ x ∷ []) benches)
grown limit ss benches x old room on timed priced =
    let size = length_push ss x in
    record {
      size = (omega (arith, size), omega (arith, size));
      rooted = rw (get_or_append_left ss (x ∷ []) blank 0 old.size.0) old.rooted;
      descending = λ i p l. each_push ss x (λ n s. 0 < n → s.target < n) (λ k q z. old.descending k z q) (λ z. on) i l p;
      timed = each_push ss x (λ n s. (1 ≤ s.minutes) × (s.minutes ≤ max_minutes)) old.timed timed;
      priced = each_push ss x (λ n s. s.fee ≤ max_fee) old.priced priced;
      crewed = old.crewed;
    }

-- a vector that is not full has room
pub not_full : (full : Bool) (n most : ℕ) → full ≡ (n == most) → full ≡ false → n ≤ most → n < most
not_full full n most e f h = let differ = eqb-false n most (sym e ∙ f) in omega (arith, differ, h)

-- a join that its number gives
pub decoded : (n : ℕ) (j : Join) → JoinDecodes n (Ok j) → join_of n ≡ Some j
decoded n j h = by (join_of n) h
  where
    by : (o : Option Join) → Ok j ≡ ok_or o UnknownJoin → o ≡ Some j
    by None e = clash (cc)
    by (Some k) e = let same : j ≡ k = cc in ap Some (sym same)

-- add accepts a step within the limits
pub accepted : (s : Sheet) (target join minutes fee : ℕ) (j : Join) → length s.steps < max_steps → target < length s.steps → join_of join ≡ Some j → 1 ≤ minutes → minutes ≤ max_minutes → fee ≤ max_fee → (add_answer s target join minutes fee ≡ Ok (length s.steps)) × (add_after s target join minutes fee ≡ added s (open_step target j minutes fee))
accepted s target join minutes fee j room on known low high cheap =
    let answer : add_answer s target join minutes fee ≡ Ok (length s.steps) =
    cond-false (leb max_steps (length s.steps)) _ _ (lt-leb _ _ room)
    ∙ cond-false (leb (length s.steps) target) _ _ (lt-leb _ _ on)
    ∙ cond-false (not (is_some (join_of join))) _ _ (ap (λ o. not (is_some o)) known)
    ∙ cond-false (outside 1 max_minutes minutes) _ _ (inside 1 max_minutes minutes low high)
    ∙ cond-false (ltb max_fee fee) _ _ (le-ltb _ _ cheap) in
    (answer, ap (λ r. after r (added s (open_step target (unwrap_or (join_of join) And) minutes fee)) s) answer ∙ ap (λ o. added s (open_step target (unwrap_or o And) minutes fee)) known)

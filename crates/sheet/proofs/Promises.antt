-- What least's answer says of the open ways.
use Rattle.std.proofs.Common.{◌≡◌, ℕ, ◌<◌, ◌≤◌, Bool, true, false, cond, ltb, List, length, get_or, Some, None, Ok, Err, Option, Result, sym, refl, ap, ◌∙◌, subst, arith}
use Rattle.std.proofs.lemmas.List.{get_or-map}
use Rattle.std.proofs.lemmas.Bool.{cond-false, le-ltb}
use Rattle.std.specs.Option.{option_map, ok_or}
use Rattle.steps.specs.declared.refusal.Refusal.{Refusal}
use Rattle.steps.specs.declared.refusal.Refusal.TheVariants.{NoOpenWay, TableTooShort}
use Rattle.steps.specs.declared.step.Step.{Step}
use Rattle.steps.specs.Numbers.{number}
use Rattle.steps.specs.Sheet.{Descending}
use Rattle.ways.specs.Least.{least_of, IsLeast}
use Rattle.ways.specs.Measures.{Meaning, numbers}
use Rattle.ways.proofs.LeastRight.{least_right, numbers_rise, least_reported}
use Rattle.least.specs.declared.Entry.{Entry}
use Rattle.least.specs.Entries.{Shown, least_figure, shown, entry_for, Filled}
use Rattle.sheet.specs.Least.{told_figure, reported, least_answer, Shut, LeastPromise}

-- a figure is reported where there is one, and a refusal where there is none
pub ok_some : (short : Bool) (e : ℕ) (o : Option ℕ) (n : ℕ) → cond short (Err e) (reported o) ≡ Ok n → o ≡ Some n
ok_some true e o n h = cc
ok_some false e None n h = cc
ok_some false e (Some k) n h = let same : k ≡ n = cc in ap Some same

pub err_none : (o : Option ℕ) (e : ℕ) → reported o ≡ Err e → o ≡ None
err_none None e h = refl
err_none (Some k) e h = cc

module _ (F : Type 0) (m : Meaning) (figure_number : F → ℕ) (ss : List Step) (before after : List (Entry F)) where
  -- the figure of the entry that is read of step 0
  pub first_least : (x : Entry F) (o : Option F) → 0 < length ss → length ss ≤ length after → x ≡ get_or after 0 x → o ≡ least_figure x → Filled m figure_number ss before after → option_map figure_number o ≡ least_of (numbers m) ss 0
  first_least x o some room is_x is_o filled =
      ap (option_map figure_number) is_o
      ∙ ap (λ (v : Shown). v.least) (ap (shown figure_number) is_x ∙ sym (get_or-map (shown figure_number) after 0 x (entry_for m None) (omega arith)) ∙ filled.entries 0 some)

  -- what is told of it
  pub told_least : (o : Option F) (r : Result F Refusal) → r ≡ ok_or o NoOpenWay → told_figure figure_number r ≡ reported (option_map figure_number o)
  told_least None r e = ap (told_figure figure_number) e
  told_least (Some f) r e = ap (told_figure figure_number) e

  module _ (lower_targets : Descending ss) (some : 0 < length ss) (r : Result F Refusal) where
    right : (i : ℕ) → i < length ss → IsLeast (numbers m) ss i (least_of (numbers m) ss i)
    right = least_right ℕ (numbers m) (numbers_rise m) ss lower_targets

    shut_none : (o : Option ℕ) → IsLeast (numbers m) ss 0 o → Shut ss → o ≡ None
    shut_none None least shut = refl
    shut_none (Some n) least shut = let w = least.0 in absurd (shut w.0 w.1 w.2)

    pub promised : told_figure figure_number r ≡ least_answer m ss (length before) → (length before < length ss → after ≡ before) → (length ss ≤ length before → Filled m figure_number ss before after) → LeastPromise m figure_number ss before after r
    promised answer short filled = record {
      answer = answer;
      short = short;
      filled = filled;
      entries = right;
      least = λ n e. least_reported m ss n (subst (IsLeast (numbers m) ss 0) (ok_some (ltb (length before) (length ss)) (number TableTooShort) (least_of (numbers m) ss 0) n (sym answer ∙ e)) (right 0 some));
      none = λ room.
          let said = answer ∙ cond-false (ltb (length before) (length ss)) _ _ (le-ltb (length before) (length ss) room) in (
            λ e. subst (IsLeast (numbers m) ss 0) (err_none (least_of (numbers m) ss 0) (number NoOpenWay) (sym said ∙ e)) (right 0 some),
            λ shut. said ∙ ap reported (shut_none (least_of (numbers m) ss 0) (right 0 some) shut),
          );
    }

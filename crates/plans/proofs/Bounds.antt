-- Bounds of tails, scores and the sums in a table, by the minutes that a step has at most.
use Rattle.std.proofs.Common.{◌≡◌, ℕ, zero, suc, ◌+◌, ◌-◌, ◌*◌, ◌<◌, ◌≤◌, Bool, true, false, eqb, leb, List, [], ◌∷◌, length, Some, None, Option, refl, ap, inl, inr, le_trans, le_refl, mul-le-mul_right, suc-mul, mul-le-mul_left, arith}
use Rattle.std.specs.Option.{option_map}
use Rattle.std.proofs.lemmas.Bool.{ne_eqb, cases_eq, cond_both}
use Rattle.steps.specs.declared.step.Join.{Join}
use Rattle.steps.specs.declared.step.Join.TheVariants.{And, Or}
use Rattle.steps.specs.declared.step.Step.{Step}
use Rattle.steps.specs.Sheet.{step, Descending}
use Rattle.ways.specs.Figures.{Line, facts}
use Rattle.ways.specs.Least.{plus_all, all_of, lesser, best_of, by_join, unless_closed, least_line, least_table}
use Rattle.ways.specs.Paths.{tail}
use Rattle.ways.specs.Sums.{only, sum_below}
use Rattle.ways.specs.Ways.{Set, Way}
use Rattle.ways.proofs.Added.{all_added, way_sum_most}
use Rattle.ways.proofs.Compared.{longest_below}
use Rattle.plans.specs.declared.Sums.{Sums}
use Rattle.plans.specs.Limited.{both}
use Rattle.plans.specs.Scores.{score, score_of}
use Rattle.plans.proofs.Chains.{tails_right}

weighed : (benches work long t : ℕ) → 1 ≤ benches → work ≤ t → long ≤ t → score benches work long ≤ benches * t
weighed zero work long t some a b = absurd (omega arith)
weighed (suc n) work long t some a b =
    let less : (suc n - 1) * long ≤ (suc n - 1) * t = mul-le-mul_left (suc n - 1) b in
    let one : (suc n - 1) * t ≡ n * t = ap (λ x. x * t) (let z : suc n - 1 ≡ n = omega arith in z) in
    omega (arith, less, one, suc-mul n t)

module _ (ss : List Step) (lower_targets : Descending ss) (top : ℕ) (most : (i : ℕ) → i < length ss → (step ss i).minutes ≤ top) where
  tail_turns : (turns j : ℕ) → j ≤ turns → j < length ss → tail ss j ≤ suc j * top
  tail_turns turns zero a l = omega (arith, most 0 l, suc-mul 0 top)
  tail_turns zero (suc j) a l = absurd (omega arith)
  tail_turns (suc turns) (suc j) a l =
      let i = (step ss (suc j)).target in
      let low = lower_targets (suc j) (omega arith) l in
      let next = tail_turns turns i (omega arith) (omega arith) in
      let wider : suc i * top ≤ suc j * top = mul-le-mul_right top low in
      omega (arith, (tails_right ss lower_targets).1 (suc j) (omega arith) l, most (suc j) l, next, wider, suc-mul (suc j) top)

  pub tail_most : (j : ℕ) → j < length ss → tail ss j ≤ suc j * top
  tail_most j l = tail_turns j j (le_refl j) l

  pub score_most : (benches : ℕ) → 1 ≤ benches → (w : Set) → Way ss w → score_of benches ss w ≤ benches * (length ss * top)
  score_most benches some w way =
      let work = all_added (λ f. f.minutes) ss w lower_targets way in
      let few = way_sum_most (λ f. f.minutes) ss w top most in
      let long = longest_below w ss 0 in
      weighed benches _ _ (length ss * top) some (omega (arith, work, few)) (omega (arith, work, few, long))

-- The sums in a table are at most the minutes of all its steps

abbrev pub steps_minutes : List Step → ℕ
steps_minutes [] = 0
steps_minutes (s ∷ ss) = s.minutes + steps_minutes ss

pub steps_most : (ss : List Step) (top : ℕ) → ((i : ℕ) → i < length ss → (step ss i).minutes ≤ top) → steps_minutes ss ≤ length ss * top
steps_most [] top most = omega arith
steps_most (s ∷ ss) top most = omega (arith, most 0 (omega arith), steps_most ss top (λ i l. most (suc i) (omega arith)), suc-mul (length ss) top)

-- the minutes of an entry, if it is there
abbrev pub work_in : Option Sums → ℕ
work_in None = 0
work_in (Some r) = r.work

-- the entries of all feeders of i among these lines
abbrev into : ℕ → List (Line (Option Sums)) → ℕ
into i [] = 0
into i (r ∷ rs) = only (eqb r.into i) (work_in r.entry) + into i rs

all_step : (b : Bool) (o p : Option Sums) (n : ℕ) → work_in p ≤ n → work_in (plus_all both b o p) ≤ only b (work_in o) + n
all_step false o p n h = omega arith
all_step true None p n h = omega arith
all_step true (Some x) None n h = omega arith
all_step true (Some x) (Some y) n h = omega arith

best_step : (b : Bool) (o p : Option Sums) (n : ℕ) → work_in p ≤ n → work_in (lesser both b o p) ≤ only b (work_in o) + n
best_step false o p n h = omega arith
best_step true None p n h = omega arith
best_step true (Some x) None n h = omega arith
best_step true (Some x) (Some y) n h = cond_both (leb x.work y.work) x y (λ (a : Sums). a.work ≤ x.work + n) (λ e. omega arith) (λ e. omega arith)

all_into : (i : ℕ) (rs : List (Line (Option Sums))) → work_in (all_of both i rs) ≤ into i rs
all_into i [] = omega arith
all_into i (r ∷ rs) = all_step (eqb r.into i) r.entry (all_of both i rs) (into i rs) (all_into i rs)

best_into : (i : ℕ) (rs : List (Line (Option Sums))) → work_in (best_of both i rs) ≤ into i rs
best_into i [] = omega arith
best_into i (r ∷ rs) = best_step (eqb r.into i) r.entry (best_of both i rs) (into i rs) (best_into i rs)

joined_into : (n : Join) (i : ℕ) (rs : List (Line (Option Sums))) → work_in (by_join both n i rs) ≤ into i rs
joined_into And i rs = all_into i rs
joined_into Or i rs = go (best_of both i rs) (best_into i rs)
  where
    go : (o : Option Sums) → work_in o ≤ into i rs → work_in (option_map (λ (f : Sums). both.joins f both.empty) o) ≤ into i rs
    go None h = h
    go (Some r) h = omega arith

line_into : (j : ℕ) (s : Step) (rs : List (Line (Option Sums))) → work_in (least_line both j s rs).entry ≤ s.minutes + into j rs
line_into j s rs = go s.closed (by_join both s.join j rs) (joined_into s.join j rs)
  where
    go : (c : Bool) (o : Option Sums) → work_in o ≤ into j rs → work_in (unless_closed c (option_map (both.grows (facts j s)) o)) ≤ s.minutes + into j rs
    go true o h = omega arith
    go false None h = omega arith
    go false (Some r) h = omega arith

sum_two : (f g : ℕ → ℕ) (n : ℕ) → sum_below (λ i. f i + g i) n ≡ sum_below f n + sum_below g n
sum_two f g zero = refl
sum_two f g (suc n) = omega (arith, sum_two f g n)

sum_none : (x v n : ℕ) → n ≤ x → sum_below (λ i. only (eqb x i) v) n ≡ 0
sum_none x v zero h = refl
sum_none x v (suc n) h = let a : only (eqb x n) v ≡ 0 = ap (λ b. only b v) (ne_eqb x n (λ e. omega arith)) in omega (arith, a, sum_none x v n (omega arith))

sum_once : (x v n : ℕ) → sum_below (λ i. only (eqb x i) v) n ≤ v
sum_once x v zero = omega arith
sum_once x v (suc n) = elim (cases_eq x n) [
  | inl e ↦ omega (arith, at_most (eqb x n), sum_none x v n (omega arith))
  | inr e ↦ let a : only (eqb x n) v ≡ 0 = ap (λ b. only b v) (ne_eqb x n e) in omega (arith, a, sum_once x v n)
]
  where
    at_most : (b : Bool) → only b v ≤ v
    at_most true = le_refl v
    at_most false = omega arith

sum_part : (f : ℕ → ℕ) (n i : ℕ) → i < n → f i ≤ sum_below f n
sum_part f zero i l = absurd (omega arith)
sum_part f (suc n) i l = elim (cases_eq i n) [
  | inl e ↦ rw e (let z : f n ≤ f n + sum_below f n = omega arith in z)
  | inr e ↦ omega (arith, sum_part f n i (omega arith))
]

-- each step leads into one other, so that nothing is counted twice
into_all : (j : ℕ) (ss : List Step) → sum_below (λ i. into i (least_table both j ss)) j ≤ steps_minutes ss
into_all j [] = none j
  where
    none : (n : ℕ) → sum_below (λ i. 0) n ≤ 0
    none zero = omega arith
    none (suc n) = omega (arith, none n)
into_all j (s ∷ ss) =
    let rs = least_table both (suc j) ss in
    let e = (least_line both j s rs).entry in
    let once = sum_once s.target (work_in e) j in
    let two = sum_two (λ i. only (eqb s.target i) (work_in e)) (λ i. into i rs) j in
    omega (arith, once, two, line_into j s rs, into_all (suc j) ss)

into_fits : (j : ℕ) (ss : List Step) (i : ℕ) → i < j → into i (least_table both j ss) ≤ steps_minutes ss
into_fits j ss i l = le_trans (sum_part (λ k. into k (least_table both j ss)) j i l) (into_all j ss)

-- what is joined so far for a step below j, and the entry of j
pub all_fits : (j : ℕ) (ss : List Step) (i : ℕ) → i < j → work_in (all_of both i (least_table both j ss)) ≤ steps_minutes ss
all_fits j ss i l = le_trans (all_into i (least_table both j ss)) (into_fits j ss i l)

pub best_fits : (j : ℕ) (ss : List Step) (i : ℕ) → i < j → work_in (best_of both i (least_table both j ss)) ≤ steps_minutes ss
best_fits j ss i l = le_trans (best_into i (least_table both j ss)) (into_fits j ss i l)

pub entry_fits : (j : ℕ) (s : Step) (ss : List Step) → work_in (least_line both j s (least_table both (suc j) ss)).entry ≤ steps_minutes (s ∷ ss)
entry_fits j s ss = omega (arith, line_into j s (least_table both (suc j) ss), into_fits (suc j) ss j (omega arith))

-- No chain in a table is longer than the minutes beside it

abbrev pub Short : Option Sums → Type 0
Short None = Unit {0}
Short (Some r) = r.long ≤ r.work

abbrev AllShort : List (Line (Option Sums)) → Type 0
AllShort [] = Unit {0}
AllShort (r ∷ rs) = Short r.entry × AllShort rs

all_of_short : (i : ℕ) (rs : List (Line (Option Sums))) → AllShort rs → Short (all_of both i rs)
all_of_short i [] h = omega arith
all_of_short i (r ∷ rs) h = go (eqb r.into i) r.entry (all_of both i rs) h.0 (all_of_short i rs h.1)
  where
    go : (b : Bool) (o p : Option Sums) → Short o → Short p → Short (plus_all both b o p)
    go false o p f g = g
    go true None p f g = tt
    go true (Some x) None f g = tt
    go true (Some x) (Some y) f g = omega arith

best_of_short : (i : ℕ) (rs : List (Line (Option Sums))) → AllShort rs → Short (best_of both i rs)
best_of_short i [] h = tt
best_of_short i (r ∷ rs) h = go (eqb r.into i) r.entry (best_of both i rs) h.0 (best_of_short i rs h.1)
  where
    go : (b : Bool) (o p : Option Sums) → Short o → Short p → Short (lesser both b o p)
    go false o p f g = g
    go true None p f g = g
    go true (Some x) None f g = f
    go true (Some x) (Some y) f g = cond_both (leb x.work y.work) x y (λ (a : Sums). a.long ≤ a.work) (λ e. f) (λ e. g)

line_short : (j : ℕ) (s : Step) (rs : List (Line (Option Sums))) → AllShort rs → Short (least_line both j s rs).entry
line_short j s rs h = go s.closed s.join
  where
    grown : (o : Option Sums) → Short o → Short (option_map (both.grows (facts j s)) o)
    grown None f = tt
    grown (Some r) f = omega arith

    alone : (o : Option Sums) → Short o → Short (option_map (λ (f : Sums). both.joins f both.empty) o)
    alone None f = tt
    alone (Some r) f = omega arith

    go : (c : Bool) (n : Join) → Short (unless_closed c (option_map (both.grows (facts j s)) (by_join both n j rs)))
    go true n = tt
    go false And = grown (all_of both j rs) (all_of_short j rs h)
    go false Or = grown (option_map (λ (f : Sums). both.joins f both.empty) (best_of both j rs)) (alone (best_of both j rs) (best_of_short j rs h))

table_short : (j : ℕ) (ss : List Step) → AllShort (least_table both j ss)
table_short j [] = tt
table_short j (s ∷ ss) = let rs = table_short (suc j) ss in (line_short j s (least_table both (suc j) ss) rs, rs)

pub all_short : (j : ℕ) (ss : List Step) (i : ℕ) → Short (all_of both i (least_table both j ss))
all_short j ss i = all_of_short i (least_table both j ss) (table_short j ss)

pub best_short : (j : ℕ) (ss : List Step) (i : ℕ) → Short (best_of both i (least_table both j ss))
best_short j ss i = best_of_short i (least_table both j ss) (table_short j ss)

pub entry_short : (j : ℕ) (s : Step) (ss : List Step) → Short (least_line both j s (least_table both (suc j) ss)).entry
entry_short j s ss = line_short j s (least_table both (suc j) ss) (table_short (suc j) ss)

-- The lines of a listing: their lengths, and one line more.
use Rattle.std.proofs.Common.{◌≡◌, ℕ, suc, ◌+◌, ◌-◌, ◌*◌, ◌<◌, ◌≤◌, Bool, true, false, cond, eqb, List, [], ◌∷◌, ◌++◌, length, get_or, take, drop, Some, None, codes, decimal, Option, sym, refl, ap, ◌∙◌, subst, inl, inr, add-zero, arith}
use Rattle.std.proofs.lemmas.Fmt.{length-decimal-le}
use Rattle.std.proofs.lemmas.List.{append_assoc, append-nil, length-append, length-take-le, take_more, take-append-drop}
use Rattle.std.proofs.lemmas.List.Sums.{count_by-le-length}
use Rattle.std.proofs.lemmas.Bool.{cases_eq}
use Rattle.std.specs.Option.{option_map}
use Rattle.steps.proofs.Clashes.{clash}
use Rattle.steps.specs.declared.step.Join.{Join}
use Rattle.steps.specs.declared.step.Join.TheVariants.{And, Or}
use Rattle.steps.specs.declared.step.Step.{Step}
use Rattle.steps.specs.Limits.{max_steps, max_minutes, max_fee, no_target}
use Rattle.steps.specs.Sheet.{Sheet, step, WellFormed}
use Rattle.ways.specs.Least.{unless_closed, least_of}
use Rattle.ways.specs.Measures.{numbers}
use Rattle.measures.specs.Meanings.{max_sum, sum, minutes_meaning, chain_meaning, fees_meaning}
use Rattle.listing.specs.Text.{newline, crew_line, target_text, join_text, state_text, step_line, step_lines, closed_count, count_line, sheet_lines, together, least_figures, least_text, listing, turned_down, listing_bytes}

three : (a b c : List ℕ) → length (a ++ b ++ c) ≡ length a + length b + length c
three a b c = simp length-append

four : (a b c d : List ℕ) → length (a ++ b ++ c ++ d) ≡ length a + length b + length c + length d
four a b c d = simp length-append

-- the length of a line, by its pieces
pub length_step_line : (i : ℕ) (s : Step) → length (step_line i s) ≡ length (codes "step " ++ decimal i) + length (target_text s.target) + length (join_text s.join) + length (codes " minutes " ++ decimal s.minutes) + length (codes " fee " ++ decimal s.fee) + length (state_text s.closed) + 1
length_step_line i s = six (codes "step " ++ decimal i) (target_text s.target) (join_text s.join) (codes " minutes " ++ decimal s.minutes) (codes " fee " ++ decimal s.fee) (state_text s.closed) newline
  where
    six : (a b c d e f g : List ℕ) → length (a ++ b ++ c ++ d ++ e ++ f ++ g) ≡ length a + length b + length c + length d + length e + length f + length g
    six a b c d e f g = simp length-append

pub length_count_line : (all closed : ℕ) → length (count_line all closed) ≡ length (codes "steps " ++ decimal all) + length (codes " open " ++ decimal (all - closed)) + length (codes " closed " ++ decimal closed) + 1
length_count_line all closed = four (codes "steps " ++ decimal all) (codes " open " ++ decimal (all - closed)) (codes " closed " ++ decimal closed) newline

pub length_least_line : (minutes chain fees : ℕ) → length (least_text (Some (minutes, chain, fees))) ≡ length (codes "least minutes " ++ decimal minutes) + length (codes " chain " ++ decimal chain) + length (codes " fees " ++ decimal fees) + 1
length_least_line minutes chain fees = four (codes "least minutes " ++ decimal minutes) (codes " chain " ++ decimal chain) (codes " fees " ++ decimal fees) newline

pub length_crew_line : (benches : ℕ) → length (crew_line benches) ≡ length (codes "crew " ++ decimal benches) + 1
length_crew_line benches = length-append (codes "crew " ++ decimal benches) newline

pub length_turned_down : (n p : ℕ) → length (turned_down (n, p)) ≡ length (codes "turned down " ++ decimal n) + length (codes " at " ++ decimal p) + 1
length_turned_down n p = three (codes "turned down " ++ decimal n) (codes " at " ++ decimal p) newline

-- one step more
lines_append : (i : ℕ) (xs ys : List Step) → step_lines i (xs ++ ys) ≡ step_lines i xs ++ step_lines (i + length xs) ys
lines_append i [] ys = ap (λ n. step_lines n ys) (sym (add-zero i))
lines_append i (x ∷ xs) ys =
    let n : suc i + length xs ≡ i + suc (length xs) = omega arith in
    ap (λ t. step_line i x ++ t) (lines_append (suc i) xs ys ∙ ap (λ k. step_lines (suc i) xs ++ step_lines k ys) n)
    ∙ sym (append_assoc (step_line i x) (step_lines (suc i) xs) (step_lines (i + suc (length xs)) ys))

pub lines_more : (ss : List Step) (i : ℕ) (d : Step) → i < length ss → step_lines 0 (take (i + 1) ss) ≡ step_lines 0 (take i ss) ++ step_line i (get_or ss i d)
lines_more ss i d h =
    let n : 0 + length (take i ss) ≡ i = (let l = length-take-le i ss (omega arith) in omega (arith, l)) in
    ap (step_lines 0) (take_more ss i d h)
    ∙ lines_append 0 (take i ss) (get_or ss i d ∷ [])
    ∙ ap (λ k. step_lines 0 (take i ss) ++ step_lines k (get_or ss i d ∷ [])) n
    ∙ ap (λ t. step_lines 0 (take i ss) ++ t) (append-nil (step_line i (get_or ss i d)))

-- the lines of the first steps are no longer than all
pub lines_part : (ss : List Step) (i : ℕ) → length (step_lines 0 (take i ss)) ≤ length (step_lines 0 ss)
lines_part ss i =
    let e = ap (step_lines 0) (sym (take-append-drop i ss)) ∙ lines_append 0 (take i ss) (drop i ss) in
    let l = length-append (step_lines 0 (take i ss)) (step_lines (0 + length (take i ss)) (drop i ss)) in
    omega (arith, ap length e, l)

-- the next line fits where all lines do
pub lines_room : (ss : List Step) (i : ℕ) (d : Step) → i < length ss → length (step_lines 0 (take i ss)) + length (step_line i (get_or ss i d)) ≤ length (step_lines 0 ss)
lines_room ss i d h =
    let l = length-append (step_lines 0 (take i ss)) (step_line i (get_or ss i d)) in
    omega (arith, ap length (lines_more ss i d h), l, lines_part ss (i + 1))

pub length_sheet_lines : (s : Sheet) → length (sheet_lines s) ≡ length (crew_line s.benches) + length (step_lines 0 s.steps) + length (count_line (length s.steps) (closed_count s.steps))
length_sheet_lines s = three (crew_line s.benches) (step_lines 0 s.steps) (count_line (length s.steps) (closed_count s.steps))

-- The longest lines.

short_target : (t : ℕ) → t < 65536 → length (target_text t) ≤ 13
short_target t h = by (eqb t no_target)
  where
    by : (b : Bool) → length (cond b (codes " target none") (codes " target " ++ decimal t)) ≤ 13
    by true = omega arith
    by false = let d = length-decimal-le 5 t (omega arith) (omega arith) (omega arith) in omega (arith, d)

short_join : (j : Join) → length (join_text j) ≤ 9
short_join And = omega arith
short_join Or = omega arith

short_state : (b : Bool) → length (state_text b) ≤ 13
short_state true = omega arith
short_state false = omega arith

short_step : (i : ℕ) (s : Step) → i < 1000 → s.target < 65536 → s.minutes ≤ max_minutes → s.fee ≤ max_fee → length (step_line i s) ≤ 70
short_step i s a b c d =
    let l = length_step_line i s in
    let n = length-decimal-le 3 i (omega arith) (omega arith) (omega arith) in
    let m = length-decimal-le 4 s.minutes (omega arith) (omega arith) (omega arith) in
    let f = length-decimal-le 6 s.fee (omega arith) (omega arith) (omega arith) in
    omega (arith, l, n, short_target s.target b, short_join s.join, m, f, short_state s.closed)

short_lines : (i : ℕ) (ss : List Step) → ((k : ℕ) → k < length ss → length (step_line (i + k) (step ss k)) ≤ 70) → length (step_lines i ss) ≤ 70 * length ss
short_lines i [] h = omega arith
short_lines i (s ∷ ss) h =
    let here : length (step_line i s) ≤ 70 = subst (λ n. length (step_line n s) ≤ 70) (add-zero i) (h 0 (omega arith)) in
    let rest = short_lines (suc i) ss (λ k l. subst (λ n. length (step_line n (step ss k)) ≤ 70) (let z : i + suc k ≡ suc i + k = omega arith in z) (h (suc k) (omega arith))) in
    omega (arith, length-append (step_line i s) (step_lines (suc i) ss), here, rest)

pub short_turned_down : (n p : ℕ) → n < 256 → p < 18446744073709551616 → length (turned_down (n, p)) ≤ 40
short_turned_down n p a b =
    let l = length_turned_down n p in
    let d = length-decimal-le 3 n (omega arith) (omega arith) (omega arith) in
    let e = length-decimal-le 20 p (omega arith) (omega arith) (omega arith) in
    omega (arith, l, d, e)

-- a least figure is a sum that has stopped or not
grown_most : (o : Option ℕ) (b n : ℕ) → option_map (λ x. sum x b) o ≡ Some n → n ≤ max_sum
grown_most None b n h = clash (cc)
grown_most (Some x) b n h = let same : sum x b ≡ n = cc in omega (arith, same)

open_most : (closed : Bool) (o : Option ℕ) (b n : ℕ) → unless_closed closed (option_map (λ x. sum x b) o) ≡ Some n → n ≤ max_sum
open_most true o b n h = clash (cc)
open_most false o b n h = grown_most o b n h

short_least : (f : Option (ℕ × ℕ × ℕ)) → ((g : ℕ × ℕ × ℕ) → f ≡ Some g → (g.0 ≤ max_sum) × (g.1 ≤ max_sum) × (g.2 ≤ max_sum)) → length (least_text f) ≤ 60
short_least None h = omega arith
short_least (Some g) h =
    let b = h g refl in
    let d₀ = length-decimal-le 10 g.0 (omega arith) (omega (arith, b.0)) (omega (arith, b.0)) in
    let d₁ = length-decimal-le 10 g.1 (omega arith) (omega (arith, b.1)) (omega (arith, b.1)) in
    let d₂ = length-decimal-le 10 g.2 (omega arith) (omega (arith, b.2)) (omega (arith, b.2)) in
    omega (arith, length_least_line g.0 g.1 g.2, d₀, d₁, d₂)

together_parts : (a b c : Option ℕ) (g : ℕ × ℕ × ℕ) → together a b c ≡ Some g → (a ≡ Some g.0) × (b ≡ Some g.1) × (c ≡ Some g.2)
together_parts None b c g h = clash (cc)
together_parts (Some x) None c g h = clash (cc)
together_parts (Some x) (Some y) None g h = clash (cc)
together_parts (Some x) (Some y) (Some z) g h =
    let e : ◌≡◌ {A = ℕ × ℕ × ℕ} (x, y, z) g = cc in
    (ap (λ (v : ℕ × ℕ × ℕ). Some v.0) e, ap (λ (v : ℕ × ℕ × ℕ). Some v.1) e, ap (λ (v : ℕ × ℕ × ℕ). Some v.2) e)

least_short : (ss : List Step) → length (least_text (least_figures ss)) ≤ 60
least_short ss = short_least (least_figures ss) (λ g h.
    let p = together_parts (least_of (numbers minutes_meaning) ss 0) (least_of (numbers chain_meaning) ss 0) (least_of (numbers fees_meaning) ss 0) g h in
    (open_most (step ss 0).closed _ (step ss 0).minutes g.0 p.0, open_most (step ss 0).closed _ (step ss 0).minutes g.1 p.1, open_most (step ss 0).closed _ (step ss 0).fee g.2 p.2))

-- every listing fits its buffer
pub listing_fits : (s : Sheet) → WellFormed max_steps s → length (listing s) ≤ listing_bytes
listing_fits s w =
    let ss = s.steps in
    let n = length ss in
    let size = w.size in
    let most = count_by-le-length (λ (s : Step). s.closed) ss in
    let target : (k : ℕ) → k < n → (step ss k).target < 65536 = λ k l. elim (cases_eq k 0) [ inl e ↦ omega (arith, ap (λ x. (step ss x).target) e, w.rooted.0) | inr z ↦ omega (arith, w.descending k (omega arith) l) ] in
    let lines = short_lines 0 ss (λ k l. subst (λ i. length (step_line i (step ss k)) ≤ 70) (let z : k ≡ 0 + k = omega arith in z) (short_step k (step ss k) (omega arith) (target k l) (w.timed k l).1 (w.priced k l))) in
    let crew = length-decimal-le 2 s.benches (omega arith) (omega (arith, w.crewed)) (omega (arith, w.crewed)) in
    let all = length-decimal-le 3 n (omega arith) (omega arith) (omega arith) in
    let still = length-decimal-le 3 (n - closed_count ss) (omega arith) (omega arith) (omega arith) in
    let closed = length-decimal-le 3 (closed_count ss) (omega arith) (omega arith) (omega arith) in
    let ways = least_short ss in
    omega (arith, length-append (sheet_lines s) (least_text (least_figures ss)), ways, length_sheet_lines s, lines, length_crew_line s.benches, crew, length_count_line n (closed_count ss), all, still, closed)

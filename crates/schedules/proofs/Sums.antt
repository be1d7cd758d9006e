-- Sums below a number and over rows, and their order of summing.
use Rattle.std.proofs.Common.{◌≡◌, ℕ, zero, suc, ◌+◌, ◌*◌, ◌<◌, ◌≤◌, eqb, List, [], ◌∷◌, sym, refl, ap, ◌∙◌, ap₂, inl, inr, le_refl, suc-mul, zero-mul, arith}
use Rattle.std.proofs.lemmas.Bool.{cases_eq, eq-eqb, ne_eqb}
use Rattle.steps.specs.declared.row.Row.{Row}
use Rattle.ways.specs.Sums.{only, sum_below}
use Rattle.schedules.specs.Timetables.{All, Has}
use Rattle.schedules.proofs.Rows.{all_map}

abbrev pub sum_rows : (Row → ℕ) → List Row → ℕ
sum_rows f [] = 0
sum_rows f (l ∷ ls) = f l + sum_rows f ls

pub below_add : (g h : ℕ → ℕ) (n : ℕ) → sum_below (λ i. g i + h i) n ≡ sum_below g n + sum_below h n
below_add g h zero = refl
below_add g h (suc n) = let a = below_add g h n in omega arith

pub below_none : (n : ℕ) → sum_below (λ i. 0) n ≡ 0
below_none zero = refl
below_none (suc n) = let a = below_none n in omega arith

pub below_same : (g h : ℕ → ℕ) (n : ℕ) → ((i : ℕ) → i < n → g i ≡ h i) → sum_below g n ≡ sum_below h n
below_same g h zero f = refl
below_same g h (suc n) f = ap₂ ◌+◌ (f n (omega arith)) (below_same g h n (λ i l. f i (omega arith)))

pub below_le : (g h : ℕ → ℕ) (n : ℕ) → ((i : ℕ) → i < n → g i ≤ h i) → sum_below g n ≤ sum_below h n
below_le g h zero f = le_refl 0
below_le g h (suc n) f = let a = f n (omega arith) in let b = below_le g h n (λ i l. f i (omega arith)) in omega arith

pub below_const : (c n : ℕ) → sum_below (λ i. c) n ≡ n * c
below_const c zero = sym (zero-mul c)
below_const c (suc n) = let a = below_const c n in let b = suc-mul n c in omega arith

-- one value at one place
pub single_none : (c x n : ℕ) → n ≤ c → sum_below (λ b. only (eqb c b) x) n ≡ 0
single_none c x zero h = refl
single_none c x (suc n) h = let a = single_none c x n (omega arith) in rw (ne_eqb c n (λ q. omega arith)) (omega arith)

pub single : (c x n : ℕ) → c < n → sum_below (λ b. only (eqb c b) x) n ≡ x
single c x zero h = absurd (omega arith)
single c x (suc n) h =
    elim (cases_eq c n) [
      | inl q ↦ let a = single_none c x n (omega arith) in rw (eq-eqb c n q) (omega arith)
      | inr q ↦ let a = single c x n (omega arith) in rw (ne_eqb c n q) (omega arith)
    ]

pub rows_add : (f g : Row → ℕ) (ls : List Row) → sum_rows (λ l. f l + g l) ls ≡ sum_rows f ls + sum_rows g ls
rows_add f g [] = refl
rows_add f g (l ∷ ls) = let a = rows_add f g ls in omega arith

pub rows_same : (f g : Row → ℕ) (ls : List Row) → All (λ l. f l ≡ g l) ls → sum_rows f ls ≡ sum_rows g ls
rows_same f g [] h = refl
rows_same f g (l ∷ ls) h = ap₂ ◌+◌ h.0 (rows_same f g ls h.1)

pub rows_none : (f : Row → ℕ) (ls : List Row) → All (λ l. f l ≡ 0) ls → sum_rows f ls ≡ 0
rows_none f [] h = refl
rows_none f (l ∷ ls) h = let a = h.0 in let b = rows_none f ls h.1 in omega arith

pub rows_has : (c : ℕ) (f : Row → ℕ) (ls : List Row) → Has (λ l. c ≤ f l) ls → c ≤ sum_rows f ls
rows_has c f [] h = absurd h
rows_has c f (l ∷ ls) (inl h) = omega arith
rows_has c f (l ∷ ls) (inr h) = let a = rows_has c f ls h in omega arith

-- a sum over rows of sums is a sum of sums over rows
pub swap : (f : Row → ℕ → ℕ) (n : ℕ) (ls : List Row) → sum_rows (λ l. sum_below (f l) n) ls ≡ sum_below (λ t. sum_rows (λ l. f l t) ls) n
swap f n [] = sym (below_none n)
swap f n (l ∷ ls) = ap (λ x. sum_below (f l) n + x) (swap f n ls) ∙ sym (below_add (f l) (λ t. sum_rows (λ l. f l t) ls) n)

-- a sum over rows, gathered by a number that each row has
pub by_key : (key f : Row → ℕ) (n : ℕ) (ls : List Row) → All (λ l. key l < n) ls → sum_rows f ls ≡ sum_below (λ b. sum_rows (λ l. only (eqb (key l) b) (f l)) ls) n
by_key key f n ls h =
    rows_same f (λ l. sum_below (λ b. only (eqb (key l) b) (f l)) n) ls (all_map (λ l. key l < n) (λ l. f l ≡ sum_below (λ b. only (eqb (key l) b) (f l)) n) (λ l k. sym (single (key l) (f l) n k)) ls h)
    ∙ swap (λ l b. only (eqb (key l) b) (f l)) n ls

-- What holds of all rows of a list, of some, and of each two.
use Rattle.std.proofs.Common.{◌≡◌, ℕ, ◌<◌, ◌≤◌, max, true, ◌⊎◌, List, [], ◌∷◌, sym, refl, ◌∙◌, inl, inr, arith}
use mathlib.Core.List.{reverse_aux}
use Rattle.std.proofs.lemmas.Bool.{cases_lt}
use Rattle.steps.specs.declared.row.Row.{Row}
use Rattle.ways.specs.Ways.{Set}
use Rattle.schedules.specs.Timetables.{All, Has, Two, Differ, latest}

pub all_map : (P Q : Row → Type 0) → ((r : Row) → P r → Q r) → (rs : List Row) → All P rs → All Q rs
all_map P Q f [] h = tt
all_map P Q f (r ∷ rs) h = (f r h.0, all_map P Q f rs h.1)

pub all_always : (P : Row → Type 0) → ((r : Row) → P r) → (rs : List Row) → All P rs
all_always P f [] = tt
all_always P f (r ∷ rs) = (f r, all_always P f rs)

pub all_and : (P Q : Row → Type 0) (rs : List Row) → All P rs → All Q rs → All (λ r. P r × Q r) rs
all_and P Q [] a b = tt
all_and P Q (r ∷ rs) a b = ((a.0, b.0), all_and P Q rs a.1 b.1)

pub all_has : (P Q : Row → Type 0) (rs : List Row) → All P rs → Has Q rs → (r : Row) × P r × Q r
all_has P Q [] a h = absurd h
all_has P Q (r ∷ rs) a (inl h) = (r, a.0, h)
all_has P Q (r ∷ rs) a (inr h) = all_has P Q rs a.1 h

-- what follows for each row, if a premise holds
pub all_pull : (X : Type 0) (P : Row → Type 0) (rs : List Row) → (X → All P rs) → All (λ r. X → P r) rs
all_pull X P [] f = tt
all_pull X P (r ∷ rs) f = ((λ x. (f x).0), all_pull X P rs (λ x. (f x).1))

pub has_map : (P Q : Row → Type 0) → ((r : Row) → P r → Q r) → (rs : List Row) → Has P rs → Has Q rs
has_map P Q f [] h = h
has_map P Q f (r ∷ rs) (inl h) = inl (f r h)
has_map P Q f (r ∷ rs) (inr h) = inr (has_map P Q f rs h)

pub has_and : (P Q : Row → Type 0) (rs : List Row) → All P rs → Has Q rs → Has (λ r. P r × Q r) rs
has_and P Q [] a h = h
has_and P Q (r ∷ rs) a (inl h) = inl (a.0, h)
has_and P Q (r ∷ rs) a (inr h) = inr (has_and P Q rs a.1 h)

-- the row that is there
pub has_self : (P : Row → Type 0) (rs : List Row) → Has P rs → (z : Row) × P z × Has (λ r. r ≡ z) rs
has_self P [] h = absurd h
has_self P (r ∷ rs) (inl h) = (r, h, inl refl)
has_self P (r ∷ rs) (inr h) = let a = has_self P rs h in (a.0, a.1, inr a.2)

-- what holds of a row of step i holds of each
pub once_all : (i : ℕ) (Q : Row → Type 0) (rs : List Row) → Two Differ rs → Has (λ r. (r.step ≡ i) × Q r) rs → All (λ r. r.step ≡ i → Q r) rs
once_all i Q [] t h = tt
once_all i Q (r ∷ rs) t (inl h) = ((λ e. h.1), all_map (Differ r) (λ q. q.step ≡ i → Q q) (λ q f e. absurd (f (h.0 ∙ sym e))) rs t.0)
once_all i Q (r ∷ rs) t (inr h) =
    ((λ e. let x = all_has (Differ r) (λ q. (q.step ≡ i) × Q q) rs t.0 h in absurd (x.1 (e ∙ sym x.2.0))), once_all i Q rs t.1 h)

-- what holds of the rows of each step of the way holds of each row
pub all_diag : (w : Set) (P : Row → Type 0) (rs : List Row) → All (λ r. w r.step ≡ true) rs → ((j : ℕ) → w j ≡ true → All (λ r. r.step ≡ j → P r) rs) → All P rs
all_diag w P [] m f = tt
all_diag w P (r ∷ rs) m f = ((f r.step m.0).0 refl, all_diag w P rs m.1 (λ j on. (f j on).1))

-- a row ends at no time between now and t
abbrev pub NoEnd : ℕ → ℕ → Row → Type 0
NoEnd now t r = (r.end ≤ now) ⊎ (t ≤ r.end)

-- The greatest end.

pub ends_le : (n : ℕ) (rs : List Row) → latest rs ≤ n → All (λ r. r.end ≤ n) rs
ends_le n [] h = tt
ends_le n (r ∷ rs) h = (omega arith, ends_le n rs (omega arith))

pub latest_le : (n : ℕ) (rs : List Row) → All (λ r. r.end ≤ n) rs → latest rs ≤ n
latest_le n [] h = omega arith
latest_le n (r ∷ rs) h = let a = h.0 in let b = latest_le n rs h.1 in omega arith

pub has_latest : (t : ℕ) (rs : List Row) → Has (λ r. t ≤ r.end) rs → t ≤ latest rs
has_latest t [] h = absurd h
has_latest t (r ∷ rs) (inl h) = omega arith
has_latest t (r ∷ rs) (inr h) = let a = has_latest t rs h in omega arith

pub latest_has : (rs : List Row) → 0 < latest rs → Has (λ r. latest rs ≤ r.end) rs
latest_has [] h = absurd (omega arith)
latest_has (r ∷ rs) h = elim (cases_lt r.end (latest rs)) [
  | inl l ↦ inr (has_map (λ q. latest rs ≤ q.end) (λ q. max r.end (latest rs) ≤ q.end) (λ q x. omega arith) rs (latest_has rs (omega arith)))
  | inr l ↦ inl (omega arith)
]

-- The rows read backwards.

pub all_reverse : (P : Row → Type 0) (rs qs : List Row) → All P rs → All P qs → All P (reverse_aux rs qs)
all_reverse P [] qs a b = b
all_reverse P (r ∷ rs) qs a b = all_reverse P rs (r ∷ qs) a.1 (a.0, b)

pub has_reverse : (P : Row → Type 0) (rs qs : List Row) → Has P rs ⊎ Has P qs → Has P (reverse_aux rs qs)
has_reverse P [] qs (inl h) = absurd h
has_reverse P [] qs (inr h) = h
has_reverse P (r ∷ rs) qs (inl (inl h)) = has_reverse P rs (r ∷ qs) (inr (inl h))
has_reverse P (r ∷ rs) qs (inl (inr h)) = has_reverse P rs (r ∷ qs) (inl h)
has_reverse P (r ∷ rs) qs (inr h) = has_reverse P rs (r ∷ qs) (inr (inr h))

-- S of two rows is R of them the other way round
pub two_reverse : (R S : Row → Row → Type 0) → ((r q : Row) → R r q → S q r) → (rs qs : List Row) → Two R rs → Two S qs → All (λ r. All (S r) qs) rs → Two S (reverse_aux rs qs)
two_reverse R S s [] qs a b c = b
two_reverse R S s (r ∷ rs) qs a b c = two_reverse R S s rs (r ∷ qs) a.1 (c.0, b) (join rs a.0 c.1)
  where
    join : (rs : List Row) → All (R r) rs → All (λ o. All (S o) qs) rs → All (λ o. All (S o) (r ∷ qs)) rs
    join [] x y = tt
    join (o ∷ os) x y = ((s r o x.0, y.0), join os x.1 y.1)

pub none_after : (R : Row → Row → Type 0) (rs : List Row) → All (λ r. All (R r) []) rs
none_after R [] = tt
none_after R (r ∷ rs) = (tt, none_after R rs)

pub latest_reverse : (rs qs : List Row) → latest (reverse_aux rs qs) ≡ max (latest rs) (latest qs)
latest_reverse [] qs = omega arith
latest_reverse (r ∷ rs) qs = let a = latest_reverse rs (r ∷ qs) in omega arith

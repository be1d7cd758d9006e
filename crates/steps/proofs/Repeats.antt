-- A list that repeats one thing has it at every place, and the default past the end too.
use Rattle.std.proofs.Common.{◌≡◌, ℕ, get_or, replicate, ⊎_elim}
use Rattle.std.proofs.lemmas.List.{get_or-replicate, get_or_past, length-replicate}
use Rattle.std.proofs.lemmas.Bool.{cases_lt}

pub repeated : {A : Type 0} (n i : ℕ) (a : A) → get_or (replicate n a) i a ≡ a
repeated n i a = ⊎_elim (λ h. get_or-replicate n i a a h) (λ h. get_or_past (replicate n a) i a (simp length-replicate h)) (cases_lt i n)

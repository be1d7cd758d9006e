-- Which text is shown of a file.
use Rattle.std.proofs.Common.{◌≡◌, ℕ, ◌≤◌, cond, ltb, List, ◌++◌, length, drop, Some, None, Ok, Err, Option, Result, sym, refl, ap, ◌∙◌}
use Rattle.std.proofs.lemmas.Bool.{cond-false, le-ltb}
use Rattle.std.specs.Option.{option_map}
use Rattle.std.specs.Result.{result_ok}
use Rattle.steps.specs.declared.refusal.Refusal.{Refusal}
use Rattle.steps.proofs.Clashes.{clash}
use Rattle.steps.specs.declared.refusal.Refusal.TheVariants.{TableTooShort}
use Rattle.steps.specs.Limits.{max_steps}
use Rattle.steps.specs.Numbers.{number}
use Rattle.steps.specs.Sheet.{Sheet}
use Rattle.job_format.specs.Decoding.{decode}
use Rattle.sheet.specs.Least.{told_figure, reported}
use Rattle.sheet.specs.Calls.{read_answer, read_after}
use Rattle.listing.specs.Text.{text_of, listing_bytes, listing_answer, listing_after}

-- a file that is read decodes to the sheet that was read, and one that is refused to its refusal
pub accepted : (d : Result Sheet (ℕ × ℕ)) (s : Sheet) → read_answer d ≡ Ok tt → d ≡ Ok (read_after d s)
accepted (Ok x) s h = refl
accepted (Err e) s h = clash (cc)

pub refused : (d : Result Sheet (ℕ × ℕ)) (e : ℕ × ℕ) → read_answer d ≡ Err e → d ≡ Err e
refused (Ok x) e h = clash (cc)
refused (Err f) e h = let same : f ≡ e = cc in ap Err same

-- the text t of a file, at the front of a buffer that is long enough
pub shown : (file buffer t : List ℕ) → listing_bytes ≤ length buffer → text_of (decode max_steps file) ≡ t → (Ok (length t) ≡ listing_answer file buffer) × (t ++ drop (length t) buffer ≡ listing_after file buffer)
shown file buffer t h e =
    let room = le-ltb (length buffer) listing_bytes h in (
      sym (ap (λ b. cond b (Err (number TableTooShort)) (Ok (length (text_of (decode max_steps file))))) room ∙ ap (λ x. Ok (length x)) e),
      sym (ap (λ b. cond b buffer (text_of (decode max_steps file) ++ drop (length (text_of (decode max_steps file))) buffer)) room ∙ ap (λ x. x ++ drop (length x) buffer) e),
    )

-- what is reported of a least figure, where there is room enough
pub figure_part : (F : Type 0) (figure_number : F → ℕ) (room all : ℕ) (r : Result F Refusal) (o : Option ℕ) → all ≤ room → told_figure figure_number r ≡ cond (ltb room all) (Err (number TableTooShort)) (reported o) → option_map figure_number (result_ok r) ≡ o
figure_part F figure_number room all r o h e = by r o (e ∙ cond-false (ltb room all) _ _ (le-ltb room all h))
  where
    by : (r : Result F Refusal) (o : Option ℕ) → told_figure figure_number r ≡ reported o → option_map figure_number (result_ok r) ≡ o
    by (Ok f) (Some n) e = let same : figure_number f ≡ n = cc in ap Some same
    by (Ok f) None e = clash (cc)
    by (Err x) (Some n) e = clash (cc)
    by (Err x) None e = refl

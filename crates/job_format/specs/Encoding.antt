-- A sheet as the bytes of a job file: its head, its steps in their order, and the end.
use Rattle.std.specs.Prelude.{ℕ, ◌/◌, ◌%◌, Bool, cond, List, [], ◌∷◌, ◌++◌}
use Rattle.std.specs.List.{flat_map}
use Rattle.steps.specs.declared.step.Step.{Step}
use Rattle.steps.specs.Numbers.{join_number}
use Rattle.steps.specs.Sheet.{Sheet}
use Rattle.job_format.specs.Layout.{edition, head_body, step_body, head_kind, step_kind, end_kind}

-- a number in two bytes, and in four
abbrev pub two_bytes : ℕ → List ℕ
two_bytes n = (n % 256) ∷ (n / 256 % 256) ∷ []

abbrev pub four_bytes : ℕ → List ℕ
four_bytes n = (n % 256) ∷ (n / 256 % 256) ∷ (n / 65536 % 256) ∷ (n / 16777216 % 256) ∷ []

abbrev pub flag : Bool → ℕ
flag b = cond b 1 0

abbrev pub head_bytes : ℕ → List ℕ
head_bytes benches = head_body ∷ 0 ∷ head_kind ∷ 0 ∷ edition ∷ benches ∷ []

abbrev pub step_bytes : Step → List ℕ
step_bytes s = step_body ∷ 0 ∷ step_kind ∷ 0 ∷ (two_bytes s.target ++ (join_number s.join ∷ flag s.closed ∷ (two_bytes s.minutes ++ four_bytes s.fee)))

abbrev pub end_bytes : List ℕ
end_bytes = 0 ∷ 0 ∷ end_kind ∷ 0 ∷ []

abbrev pub encode : Sheet → List ℕ
encode s = head_bytes s.benches ++ (flat_map step_bytes s.steps ++ end_bytes)

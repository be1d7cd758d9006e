-- The kinds of records, by their numbers.
use Rattle.std.specs.Prelude.{◌≡◌, ℕ, true, false, Result, MatchResult}
use Rattle.steps.specs.declared.refusal.Refusal.{Refusal}
use Rattle.steps.specs.declared.refusal.Refusal.TheVariants.{UnknownKind}
use Rattle.job_format.specs.Layout.{head_kind, step_kind, end_kind, note_kind, unknown}
use Rattle.jobfile.specs.declared.record.kind.Kind.{Kind}
use Rattle.jobfile.specs.declared.record.kind.Kind.TheVariants.{Head, Step, End, Note}

abbrev pub kind_number : Kind → ℕ
kind_number Head = head_kind
kind_number Step = step_kind
kind_number End = end_kind
kind_number Note = note_kind

-- the kind of the number, or that it is none's
abbrev pub KindDecodes : ℕ → Result Kind Refusal → Type 0
KindDecodes n r = MatchResult r (λ k. (kind_number k ≡ n) × (unknown n ≡ false)) (λ e. (e ≡ UnknownKind) × (unknown n ≡ true))

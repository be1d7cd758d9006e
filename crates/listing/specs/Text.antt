-- The listing of a job file, as the bytes of its text.
use Rattle.std.specs.Prelude.{ℕ, suc, ◌-◌, Bool, cond, List, [], ◌∷◌, ◌++◌, length, drop, Some, None, Ok, Err, codes, decimal, Option, Result, ◌==◌, nat_lt}
use Rattle.std.specs.List.{count_by}
use Rattle.steps.specs.declared.refusal.Refusal.TheVariants.{TableTooShort}
use Rattle.steps.specs.declared.step.Join.{Join}
use Rattle.steps.specs.declared.step.Join.TheVariants.{And, Or}
use Rattle.steps.specs.declared.step.Step.{Step}
use Rattle.steps.specs.Limits.{max_steps, no_target}
use Rattle.steps.specs.Numbers.{number}
use Rattle.steps.specs.Sheet.{Sheet}
use Rattle.job_format.specs.Decoding.{decode}
use Rattle.ways.specs.Least.{least_of}
use Rattle.ways.specs.Measures.{numbers}
use Rattle.measures.specs.Meanings.{minutes_meaning, chain_meaning, fees_meaning}

-- the end of a line
abbrev pub newline : List ℕ
newline = 10 ∷ []

abbrev pub crew_line : ℕ → List ℕ
crew_line benches = codes "crew " ++ decimal benches ++ newline

-- the words for a step's target, its join, and whether it is closed
abbrev pub target_text : ℕ → List ℕ
target_text target = cond (target == no_target) (codes " target none") (codes " target " ++ decimal target)

abbrev pub join_text : Join → List ℕ
join_text And = codes " join AND"
join_text Or = codes " join OR"

abbrev pub state_text : Bool → List ℕ
state_text closed = cond closed (codes " cents closed") (codes " cents open")

-- a step with its number
abbrev pub step_line : ℕ → Step → List ℕ
step_line i s = (codes "step " ++ decimal i) ++ target_text s.target ++ join_text s.join ++ (codes " minutes " ++ decimal s.minutes) ++ (codes " fee " ++ decimal s.fee) ++ state_text s.closed ++ newline

-- these steps, the first of which has the number i
abbrev pub step_lines : ℕ → List Step → List ℕ
step_lines i [] = []
step_lines i (s ∷ ss) = step_line i s ++ step_lines (suc i) ss

abbrev pub closed_count : List Step → ℕ
closed_count ss = count_by (λ (s : Step). s.closed) ss

-- of so many steps, so many closed
abbrev pub count_line : ℕ → ℕ → List ℕ
count_line all closed = (codes "steps " ++ decimal all) ++ (codes " open " ++ decimal (all - closed)) ++ (codes " closed " ++ decimal closed) ++ newline

-- what the sheet holds
abbrev pub sheet_lines : Sheet → List ℕ
sheet_lines s = crew_line s.benches ++ step_lines 0 s.steps ++ count_line (length s.steps) (closed_count s.steps)

-- the least minutes, chain and fees of the open ways
abbrev pub together : Option ℕ → Option ℕ → Option ℕ → Option (ℕ × ℕ × ℕ)
together None b c = None
together (Some a) None c = None
together (Some a) (Some b) None = None
together (Some a) (Some b) (Some c) = Some (a, b, c)

abbrev pub least_figures : List Step → Option (ℕ × ℕ × ℕ)
least_figures ss = together (least_of (numbers minutes_meaning) ss 0) (least_of (numbers chain_meaning) ss 0) (least_of (numbers fees_meaning) ss 0)

abbrev pub least_text : Option (ℕ × ℕ × ℕ) → List ℕ
least_text None = codes "no open way" ++ newline
least_text (Some f) = (codes "least minutes " ++ decimal f.0) ++ (codes " chain " ++ decimal f.1) ++ (codes " fees " ++ decimal f.2) ++ newline

abbrev pub listing : Sheet → List ℕ
listing s = sheet_lines s ++ least_text (least_figures s.steps)

-- what is said of a file that is refused by a number at a place
abbrev pub turned_down : ℕ × ℕ → List ℕ
turned_down e = (codes "turned down " ++ decimal e.0) ++ (codes " at " ++ decimal e.1) ++ newline

-- the whole text for a file that decodes to r
abbrev pub text_of : Result Sheet (ℕ × ℕ) → List ℕ
text_of (Ok s) = listing s
text_of (Err e) = turned_down e

-- the buffer that holds the longest listing
abbrev pub listing_bytes : ℕ
listing_bytes = 20480

abbrev pub listing_answer : List ℕ → List ℕ → Result ℕ ℕ
listing_answer file buffer = cond (nat_lt (length buffer) listing_bytes) (Err (number TableTooShort)) (Ok (length (text_of (decode max_steps file))))

-- the text at the front of the buffer, or the buffer as it was
abbrev pub listing_after : List ℕ → List ℕ → List ℕ
listing_after file buffer = cond (nat_lt (length buffer) listing_bytes) buffer (text_of (decode max_steps file) ++ drop (length (text_of (decode max_steps file))) buffer)

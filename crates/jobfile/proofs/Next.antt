-- What a reader answers at a record, and where it stands behind it.
use Rattle.std.proofs.Common.{◌≡◌, ℕ, ◌+◌, ◌-◌, ◌<◌, ◌≤◌, List, length, take, drop, Some, Ok, Option, Result, refl, ap, arith}
use Rattle.std.proofs.lemmas.Bool.{le-ltb, lt-leb}
use Rattle.std.proofs.lemmas.List.{take_rest, length-take, length-drop}
use Rattle.steps.specs.declared.refusal.Refusal.{Refusal}
use Rattle.job_format.specs.declared.Stage.{Stage}
use Rattle.job_format.specs.Layout.{head_kind, step_kind, word, stage_after, steps_after, fault, max_file}
use Rattle.job_format.specs.Decoding.{first}
use Rattle.jobfile.specs.declared.record.Record.{Record}
use Rattle.jobfile.specs.declared.record.Record.TheVariants.{Head, Step, Note, End}
use Rattle.jobfile.specs.Reading.{bytes_of, kind_of, Fielded, Handed, Standing, record_at, next_answer, judged, passed}

module _ (limit : ℕ) (file : List ℕ) (s : Standing) (short : length file ≤ max_file) (more : s.place < length file) where
  -- the answer at a record is what is found at it
  pub next_judged : (found : Option Refusal) → fault limit s.stage s.steps (record_at file s.place) ≡ found → next_answer limit file s ≡ judged found s.place (record_at file s.place)
  next_judged found e = rw (le-ltb max_file (length file) short, lt-leb (length file) s.place more, e) refl

-- `&file[place..]` as the code writes it
pub part : (file : List ℕ) (place : ℕ) → first (take (length file - place) (drop place file)) ≡ record_at file place
part file place = ap first (take_rest file place)

-- the record at a place ends within the file
pub record_fits : (file : List ℕ) (place : ℕ) → place ≤ length file → place + length (record_at file place) ≤ length file
record_fits file place h = simp (length-take, length-drop) (omega arith)

-- the same record is handed out where its kind and its bytes are the same
pub handed_same : (place k k' : ℕ) (b b' : List ℕ) → k ≡ k' → b ≡ b' → ◌≡◌ {A = Result (Option Handed) (ℕ × ℕ)} (Ok (Some (record { place = place; kind = k; bytes = b }))) (Ok (Some (record { place = place; kind = k'; bytes = b' })))
handed_same place k k' b b' e f = rw (e, f) refl

-- where a reader stands behind the bytes r that it handed out as b
pub standing_behind : (s : Standing) (r b : List ℕ) (k : ℕ) (stage : Stage) (steps : ℕ) → b ≡ r → k ≡ word r 2 → stage ≡ stage_after s.stage k → steps ≡ steps_after s.steps k → ◌≡◌ {A = Standing} (record { place = s.place + length r; stage = stage; steps = steps }) (passed s b)
standing_behind s r b k stage steps e n g h = rw (e, g, h, n) refl

-- a record that is long enough for its kind has its fields
pub fielded : (r : Record) → (kind_of r ≡ head_kind → 6 ≤ length (bytes_of r)) → (kind_of r ≡ step_kind → 14 ≤ length (bytes_of r)) → 4 ≤ length (bytes_of r) → Fielded r
fielded (Head b) head step header = rw (le-ltb (length b.now) 6 (head refl)) refl
fielded (Step b) head step header = rw (le-ltb (length b.now) 14 (step refl)) refl
fielded (Note b) head step header = rw (le-ltb (length b.now) 4 header) refl
fielded (End b) head step header = tt

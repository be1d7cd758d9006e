-- How far the file is read.
use Rattle.std.proofs.Common.{◌≡◌, ◌-◌, [], length, drop}
use Rattle.steps.specs.Limits.{max_steps}
use Rattle.job_format.specs.declared.Stage.TheVariants.{Start}
use Rattle.job_format.specs.Decoding.{records, decode_from}
use Rattle.jobfile.specs.Loading.{sheet_in}
use Rattle.jobfile.proofs.contents.loading.load.Given as goal

-- the file stays, and what is read so far with the records that are left gives what the whole file gives
abbrev pub invariant-loop-placed : goal.invariant-loop-placed
invariant-loop-placed l =
    (l.reader.file.now ≡ l.initial.reader.file.now)
    × (length (sheet_in l.contents).steps ≡ l.reader.steps)
    × (decode_from max_steps l.reader.stage l.contents.benches (sheet_in l.contents).steps l.reader.place (records (drop l.reader.place l.reader.file.now)) ≡ decode_from max_steps Start 0 [] 0 (records l.reader.file.now))

abbrev pub decreases-loop-placed : goal.decreases-loop-placed
decreases-loop-placed l = length l.reader.file.now - l.reader.place

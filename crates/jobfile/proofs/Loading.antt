-- What a reader's answers say of the decoding of the whole file.
use Rattle.std.proofs.Common.{◌≡◌, ℕ, ◌+◌, ◌-◌, ◌<◌, ◌≤◌, Bool, true, false, cond, eqb, ltb, leb, List, [], ◌∷◌, ◌++◌, length, drop, Some, None, Ok, Err, Option, Result, sym, refl, ap, ◌∙◌, arith}
use Rattle.std.proofs.lemmas.List.{drop_all, drop-drop, length-drop, length_push}
use Rattle.std.proofs.lemmas.Bool.{leb-true, leb-false}
use Rattle.steps.proofs.Clashes.{clash}
use Rattle.steps.specs.declared.refusal.Refusal.{Refusal}
use Rattle.steps.specs.declared.refusal.Refusal.TheVariants.{FileTooLong}
use Rattle.steps.specs.declared.step.Step.{Step}
use Rattle.steps.specs.Limits.{max_steps}
use Rattle.steps.specs.Numbers.{number}
use Rattle.steps.specs.Sheet.{Sheet}
use Rattle.job_format.specs.declared.Stage.{Stage}
use Rattle.job_format.specs.declared.Stage.TheVariants.{Start, Body, Finished}
use Rattle.job_format.specs.Layout.{kind, step_in, fault, stage_after, steps_after, max_file}
use Rattle.job_format.specs.Decoding.{records, benches_after, step_list_after, at_stop, unless, decode_from}
use Rattle.job_format.proofs.Cutting.{records_more}
use Rattle.job_format.proofs.KindsPassed.{head_length, step_length}
use Rattle.job_format.proofs.Passing.{passes, room_left}
use Rattle.jobfile.specs.declared.record.Placed.{Placed}
use Rattle.jobfile.specs.Reading.{Handed, Standing, handed_of, kind_of, record_at, stopped, judged, next_answer, passed}
use Rattle.jobfile.specs.Loading.{Passed}

-- The three tests of an answer, at arbitrary outcomes: the file too long, no bytes left, a fault found.
module _ (place : ℕ) (stage : Stage) (r : List ℕ) (x : Sheet) (next whole : Result Sheet (ℕ × ℕ)) (too_long : ℕ × ℕ) where
  refused_by : (long none : Bool) (found : Option Refusal) → (none ≡ true → whole ≡ at_stop stage place x) → (none ≡ false → whole ≡ unless found place next) → (e : ℕ × ℕ) → cond long (Err too_long) (cond none (stopped stage place) (judged found place r)) ≡ Err e → cond long (Err too_long) whole ≡ Err e
  refused_by true none found a b e h = let h' : ◌≡◌ {A = ℕ × ℕ} too_long e = cc in ap Err h'
  refused_by false true found a b e h = a refl ∙ at_stop_gives stage h
    where
      at_stop_gives : (stage : Stage) → stopped stage place ≡ Err e → at_stop stage place x ≡ Err e
      at_stop_gives Start h = let h' : ◌≡◌ {A = ℕ × ℕ} _ e = cc in ap Err h'
      at_stop_gives Body h = let h' : ◌≡◌ {A = ℕ × ℕ} _ e = cc in ap Err h'
      at_stop_gives Finished h = clash (cc)
  refused_by false false None a b e h = clash (cc)
  refused_by false false (Some f) a b e h = let h' : ◌≡◌ {A = ℕ × ℕ} (number f, place) e = cc in b refl ∙ ap Err h'

  ended_by : (long none : Bool) (found : Option Refusal) → (none ≡ true → whole ≡ at_stop stage place x) → cond long (Err too_long) (cond none (stopped stage place) (judged found place r)) ≡ Ok None → cond long (Err too_long) whole ≡ Ok x
  ended_by true none found a h = clash (cc)
  ended_by false true found a h = a refl ∙ at_stop_gives stage h
    where
      at_stop_gives : (stage : Stage) → stopped stage place ≡ Ok None → at_stop stage place x ≡ Ok x
      at_stop_gives Start h = clash (cc)
      at_stop_gives Body h = clash (cc)
      at_stop_gives Finished h = refl
  ended_by false false None a h = clash (cc)
  ended_by false false (Some f) a h = clash (cc)

  handed_by : (long none : Bool) (found : Option Refusal) (p : Handed) → cond long (Err too_long) (cond none (stopped stage place) (judged found place r)) ≡ Ok (Some p) → (none ≡ false) × (found ≡ None) × (p.bytes ≡ r) × (p.kind ≡ kind r)
  handed_by true none found p h = clash (cc)
  handed_by false true found p h = at_stop_gives stage h
    where
      at_stop_gives : (stage : Stage) → stopped stage place ≡ Ok (Some p) → (true ≡ false) × (found ≡ None) × (p.bytes ≡ r) × (p.kind ≡ kind r)
      at_stop_gives Start h = clash (cc)
      at_stop_gives Body h = clash (cc)
      at_stop_gives Finished h = clash (cc)
  handed_by false false None p h =
      let e : ◌≡◌ {A = Handed} (record { place = place; kind = kind r; bytes = r }) p = cc in
      (refl, refl, sym (ap (λ (q : Handed). q.bytes) e), sym (ap (λ (q : Handed). q.kind) e))
  handed_by false false (Some f) p h = clash (cc)

-- A reader that stands at a place, with these benches and steps read before it, where the rest of the file gives what the whole gives.
module _ (limit : ℕ) (file : List ℕ) (s : Standing) (benches : ℕ) (steps : List Step) (whole : Result Sheet (ℕ × ℕ)) (counted : length steps ≡ s.steps) (so_far : decode_from limit s.stage benches steps s.place (records (drop s.place file)) ≡ whole) where
  abbrev here : List ℕ
  here = record_at file s.place

  -- what is still to be decoded behind the record here
  abbrev behind : Result Sheet (ℕ × ℕ)
  behind = decode_from limit (stage_after s.stage (kind here)) (benches_after benches here) (step_list_after steps here) (s.place + length here) (records (drop (s.place + length here) file))

  stops : leb (length file) s.place ≡ true → whole ≡ at_stop s.stage s.place (record { steps = steps; benches = benches })
  stops h = sym so_far ∙ ap (λ b. decode_from limit s.stage benches steps s.place (records b)) (drop_all s.place file (leb-true _ _ h))

  goes : leb (length file) s.place ≡ false → whole ≡ unless (fault limit s.stage s.steps here) s.place behind
  goes h =
      let l = leb-false (length file) s.place h in
      let cut = records_more (drop s.place file) (omega (arith, length-drop s.place file)) in
      sym so_far
      ∙ ap (decode_from limit s.stage benches steps s.place) cut
      ∙ ap (λ b. decode_from limit s.stage benches steps s.place (here ∷ records b)) (drop-drop (length here) s.place file)
      ∙ ap (λ n. unless (fault limit s.stage n here) s.place behind) counted

  pub refused : (e : ℕ × ℕ) → next_answer limit file s ≡ Err e → cond (ltb max_file (length file)) (Err (number FileTooLong, 0)) whole ≡ Err e
  refused = refused_by s.place s.stage here _ behind whole _ (ltb max_file (length file)) (leb (length file) s.place) (fault limit s.stage s.steps here) stops goes

  pub ended : next_answer limit file s ≡ Ok None → cond (ltb max_file (length file)) (Err (number FileTooLong, 0)) whole ≡ Ok (record { steps = steps; benches = benches })
  ended = ended_by s.place s.stage here _ behind whole _ (ltb max_file (length file)) (leb (length file) s.place) (fault limit s.stage s.steps here) stops

  pub record Handing (p : Handed) : Type 0 where
    pub within : s.place < length file
    pub passing : fault limit s.stage s.steps here ≡ None
    pub bytes : p.bytes ≡ here
    pub kinds : p.kind ≡ kind here
    pub rest : behind ≡ whole

  pub handed : (p : Handed) → next_answer limit file s ≡ Ok (Some p) → Handing p
  handed p h =
      let a = handed_by s.place s.stage here (record { steps = steps; benches = benches }) behind whole (number FileTooLong, 0) (ltb max_file (length file)) (leb (length file) s.place) (fault limit s.stage s.steps here) p h in
      record {
        within = leb-false _ _ a.0;
        passing = a.1;
        bytes = a.2;
        kinds = a.3;
        rest = sym (goes a.0 ∙ ap (λ f. unless f s.place behind) a.1);
      }

  -- one turn: a record is handed out, and what is read goes on with it
  pub turn : (p : Handed) → next_answer limit file s ≡ Ok (Some p) → (s' : Standing) (benches' : ℕ) (steps' : List Step) → s' ≡ passed s p.bytes → benches' ≡ benches_after benches p.bytes → steps' ≡ step_list_after steps p.bytes → (length steps' ≡ s'.steps) × (decode_from limit s'.stage benches' steps' s'.place (records (drop s'.place file)) ≡ whole) × (length file - s'.place < length file - s.place)
  turn p h s' benches' steps' a b c =
      let g = handed p h in
      let long = (passes limit s.stage s.steps here g.passing).header in
      let e = g.bytes in
      let at = ap (λ (x : Standing). x.place) a ∙ ap (λ r. s.place + length r) e in (
        ap length c ∙ ap (λ r. length (step_list_after steps r)) e ∙ length_after (kind here) ∙ sym (ap (λ (x : Standing). x.steps) a ∙ ap (λ r. steps_after s.steps (kind r)) e),
        rw (a, b, c, e) g.rest,
        omega (arith, at, g.within, long),
      )
    where
      added : (t : Bool) (x : Step) → length (cond t (steps ++ x ∷ []) steps) ≡ cond t (s.steps + 1) s.steps
      added true x = length_push steps x ∙ ap (λ n. n + 1) counted
      added false x = counted

      length_after : (k : ℕ) → length (cond (eqb k 2) (steps ++ step_in here ∷ []) steps) ≡ steps_after s.steps k
      length_after k = added (eqb k 2) (step_in here)

  -- what `take_in` asks of a record that is handed out
  pub passed_record : (p : Placed) → next_answer limit file s ≡ Ok (Some (handed_of p)) → limit ≤ max_steps → Passed s.steps p.record
  passed_record p h small =
      let g = handed (handed_of p) h in
      let ok = passes limit s.stage s.steps here g.passing in
      let e : kind_of p.record ≡ kind here = g.kinds in
      let l = ap length g.bytes in
      record {
        kinds = e ∙ ap kind (sym g.bytes);
        head = λ k. omega (arith, l, ok.whole, head_length limit s.stage s.steps here ok (sym e ∙ k));
        step = λ k. omega (arith, l, ok.whole, step_length limit s.stage s.steps here ok (sym e ∙ k));
        room = λ k. omega (arith, small, room_left limit s.stage s.steps here ok (sym e ∙ k));
      }

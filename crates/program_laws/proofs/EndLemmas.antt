-- What is printed at the end of a command, and its exit status.
use Rattle.std.proofs.Common.{◌≡◌, ◌∙◌, ◌⊎◌, ℕ, Bool, true, false, if◌then◌else◌, nat_eq, Option, None, Some, Result, Ok, Err, List, [], ◌∷◌, ◌++◌, refl, sym, ap, subst, arith, inl, inr, append_assoc}
use Rattle.std.proofs.lemmas.Bool.{eqb-true}
use Rattle.hosts.specs.Event.{Event}
use Rattle.hosts.specs.Streams.{errors, output}
use Rattle.hosts.specs.declared.faults.Unwritten.TheVariants as unwritten
use Rattle.refusals.specs.Faults.{fault_line}
use Rattle.refusals.specs.declared.faults.SessionFault.{SessionFault}
use Rattle.refusals.specs.declared.faults.SessionFault.TheVariants as session
use Rattle.outcome.specs.Notes.{text_on_file}
use Rattle.outcome.specs.Outcomes.{Writing, fault_outcome, full_output, outcome_of}
use Rattle.outcome.specs.Shown.{writing_of, writing_on}
use Rattle.outcome.specs.declared.contents.Content.{Content}
use Rattle.outcome.specs.declared.endings.Ending.{Ending}
use Rattle.outcome.specs.declared.endings.Ending.TheVariants.{Line, Fault, Failure, Busy, NotWritten, FullOutput, Unreported, NoReader, Misuse}
use Rattle.outcome.specs.declared.notes.FileNote.{FileNote}
use Rattle.outcome.specs.declared.notes.FileNote.TheVariants as file
use Rattle.outcome.specs.declared.outcomes.Outcome.{Outcome}
use Rattle.outcome.specs.declared.outcomes.Stream.{Stream}
use Rattle.outcome.specs.declared.outcomes.Stream.TheVariants.{Output, Errors}
use Rattle.image_files.specs.Ending.{EndsAfter, EndsInstead, EndsSo, EndsUnread, PrintsLine, PrintsOutcome, TellsLine, status_unread, with_note}
use Rattle.image_files.specs.Saving.{Prints, Writes}
use Rattle.image_files.specs.States.{TellsState, state_at_end, state_refused, text_of}
use Rattle.image_files.specs.Work.{ending_after}
use Rattle.image_files.specs.declared.states.ChangeState.{ChangeState}
use Rattle.image_files.specs.declared.states.ImageNotes.{ImageNotes}
use Rattle.program_laws.specs.Ends.{EndsWith, HasLostLine, HasReason, HasTold, PrintsOnce, status_of}
use Rattle.program_laws.specs.Statuses.{failed_prints}

-- ## The status of an ending

status-on : (stream : Stream) (note line : List ℕ) (status : ℕ) → (writing_on stream note line status).status ≡ status
status-on Output note line status = refl
status-on Errors note line status = refl

status-is : (it : Outcome) (writing : Writing) → writing_of it ≡ writing → it.status ≡ writing.status
status-is it writing is = sym (status-on it.stream (text_on_file it.note) it.line.items it.status) ∙ ap (λ (w : Writing). w.status) is

fault-status : (is_data : Bool) (fault : SessionFault) → (fault_outcome is_data fault).status ≡ 1
fault-status true session.BadLine = refl
fault-status true session.NoJob = refl
fault-status true session.TooManyJobs = refl
fault-status true (session.File fault) = refl
fault-status true (session.Asm fault) = refl
fault-status true (session.Tape fault) = refl
fault-status true session.BadText = refl
fault-status true session.Reader = refl
fault-status true session.Writer = refl
fault-status true session.Memory = refl
fault-status true session.TooManyBreaks = refl
fault-status false session.BadLine = refl
fault-status false session.NoJob = refl
fault-status false session.TooManyJobs = refl
fault-status false (session.File fault) = refl
fault-status false (session.Asm fault) = refl
fault-status false (session.Tape fault) = refl
fault-status false session.BadText = refl
fault-status false session.Reader = refl
fault-status false session.Writer = refl
fault-status false session.Memory = refl
fault-status false session.TooManyBreaks = refl

work-status : (is_data : Bool) (work : Result (Unit {0}) Ending) → (outcome_of is_data work).status ≡ status_of work
work-status is_data (Ok it) = refl
work-status true (Err (Line it)) = refl
work-status false (Err (Line it)) = refl
work-status is_data (Err (Fault it)) = fault-status is_data it
work-status is_data (Err Failure) = refl
work-status true (Err (Busy it)) = refl
work-status false (Err (Busy it)) = refl
work-status true (Err (NotWritten it left)) = refl
work-status false (Err (NotWritten it left)) = refl
work-status is_data (Err FullOutput) = refl
work-status is_data (Err Unreported) = refl
work-status is_data (Err NoReader) = refl
work-status is_data (Err Misuse) = refl

outcome-status : (is_data : Bool) (work : Result (Unit {0}) Ending) (it : Outcome) → writing_of it ≡ outcome_of is_data work → it.status ≡ status_of work
outcome-status is_data work it is = status-is it (outcome_of is_data work) is ∙ work-status is_data work

-- ## What is printed

-- why a print ends a command: standard output takes no more, or nobody reads it
abbrev pub IsLost : Ending → Type 0
IsLost ending = (ending ≡ FullOutput) ⊎ (ending ≡ NoReader)

noted : (note : Option (FileNote × Content)) (ok : Bool) (old : List Event) → output (with_note note ok old) ≡ output old
noted None ok old = refl
noted (Some it) ok old = refl

tells-output : (state : Option ChangeState) (notes : Option ImageNotes) (old new : List Event) → TellsState state notes old new → output new ≡ output old
tells-output None notes old new p = ap output p
tells-output (Some it) None old new p = ap output p
tells-output (Some it) (Some notes) old new (ok, p) = ap output p

line-output : (line : List ℕ) (old new : List Event) → TellsLine line old new → output new ≡ output old
line-output line old new (inl (utf8, ok, is)) = ap output is
line-output line old new (inr (not_utf8, is)) = ap output is

-- where a line isn't taken, it is the newest print
pub record Loses (line : List ℕ) (ending : Ending) (old new : List Event) : Type 0 where
  pub why : IsLost ending
  pub prints : output new ≡ (false, line) ∷ output old

prints-lose : (line : List ℕ) (old : List Event) (ending : Ending) (new : List Event) → Prints line old (Err ending) new → Loses line ending old new
prints-lose line old FullOutput new p = record { why = inl refl; prints = ap output p }
prints-lose line old NoReader new p = record { why = inr refl; prints = ap output p }
prints-lose line old (Line it) new p = absurd p
prints-lose line old (Fault it) new p = absurd p
prints-lose line old Failure new p = absurd p
prints-lose line old (Busy it) new p = absurd p
prints-lose line old (NotWritten it left) new p = absurd p
prints-lose line old Unreported new p = absurd p
prints-lose line old Misuse new p = absurd p

-- the line of an outcome that standard output gets
line-of : (stream : Stream) (note line : List ℕ) (status : ℕ) (writing : Writing) → stream ≡ Output → writing_on stream note line status ≡ writing → line ≡ writing.output
line-of Output note line status writing so is = ap (λ (w : Writing). w.output) is
line-of Errors note line status writing so is = absurd (apart so)
  where
    apart : Errors ≡ Output → ⊥
    apart same = cc

-- what an outcome prints, and whether it is lost
abbrev Printed : List ℕ → List Event → Result (Unit {0}) Ending → List Event → Type 0
Printed line old (Ok it) new = (output new ≡ output old) ⊎ (output new ≡ (true, line) ∷ output old)
Printed line old (Err ending) new = Loses line ending old new

stream-prints : (stream : Stream) (note line : List ℕ) (status : ℕ) (writing : Writing) → writing_on stream note line status ≡ writing → (old between : List Event) → output between ≡ output old
    → (result : Result (Unit {0}) Ending) (new : List Event) → PrintsLine stream line between result new → Printed writing.output old result new
stream-prints Output note line status writing is old between same (Ok it) new p =
    inr (ap output p ∙ ap (λ (l : List ℕ). (true, l) ∷ output between) (line-of Output note line status writing refl is) ∙ ap (λ (o : List (Bool × List ℕ)). (true, writing.output) ∷ o) same)
stream-prints Output note line status writing is old between same (Err ending) new p =
    let l = prints-lose line between ending new p in
    record { why = l.why; prints = l.prints ∙ ap (λ (l : List ℕ). (false, l) ∷ output between) (line-of Output note line status writing refl is) ∙ ap (λ (o : List (Bool × List ℕ)). (false, writing.output) ∷ o) same }
stream-prints Errors note line status writing is old between same (Ok it) new p = inl (line-output line between new p.1 ∙ same)
stream-prints Errors note line status writing is old between same (Err ending) new p = absurd p.0

outcome-prints : (it : Outcome) (writing : Writing) → writing_of it ≡ writing → (old : List Event) (result : Result (Unit {0}) Ending) (new : List Event) → PrintsOutcome it old result new → Printed writing.output old result new
outcome-prints it writing is old result new (ok, p) =
    stream-prints it.stream (text_on_file it.note) it.line.items it.status writing is old (with_note it.note ok old) (noted it.note ok old) result new p

-- ## The line in place of one that is not taken

abbrev head-of : List ℕ → ℕ
head-of [] = 0
head-of (byte ∷ bytes) = byte

no-fault : (note : Option (FileNote × Content)) → text_on_file note ≡ fault_line session.Writer → ⊥
no-fault None is =
    let apart : 0 ≡ 63 = ap head-of is in
    omega (arith, apart)
no-fault (Some it) is = of-file it.0 is
  where
    of-file : (note : FileNote) → text_on_file (Some (note, it.1)) ≡ fault_line session.Writer → ⊥
    of-file file.Busy same =
        let apart : 101 ≡ 63 = ap head-of same in
        omega (arith, apart)
    of-file file.AsItWas same =
        let apart : 101 ≡ 63 = ap head-of same in
        omega (arith, apart)
    of-file file.InPart same =
        let apart : 101 ≡ 63 = ap head-of same in
        omega (arith, apart)
    of-file file.NoLock same =
        let apart : 110 ≡ 63 = ap head-of same in
        omega (arith, apart)
    of-file file.InPlace same =
        let apart : 110 ≡ 63 = ap head-of same in
        omega (arith, apart)
    of-file file.NoSync same =
        let apart : 110 ≡ 63 = ap head-of same in
        omega (arith, apart)

-- it goes to standard error
full-silent : (stream : Stream) (before : Option (FileNote × Content)) (line : List ℕ) (status : ℕ) → writing_on stream (text_on_file before) line status ≡ full_output → (old : List Event) (result : Result (Unit {0}) Ending) (new : List Event)
    → PrintsLine stream line old result new → output new ≡ output old
full-silent Output before line status is old result new p = absurd (no-fault before (ap (λ (w : Writing). w.errors) is))
full-silent Errors before line status is old result new p = line-output line old new p.1

instead-silent : (is_data : Bool) (told new : List Event) (status : ℕ) → EndsInstead is_data FullOutput told new status → (output new ≡ output told) × (status ≡ 1)
instead-silent is_data told new status (other, is, last, (ok, prints), so) =
    (full-silent other.stream other.note other.line.items other.status is (with_note other.note ok told) last new prints ∙ noted other.note ok told, so ∙ status-is other full_output is)

-- ## The end

-- what follows a line that is lost prints no more, and says which status it is
abbrev Followed : ℕ → List Event → List Event → ℕ → Type 0
Followed given old new status = (output new ≡ output old) × ((status ≡ status_unread given) ⊎ (status ≡ 1))

follows-lost : (is_data : Bool) (said : Option ChangeState) (notes : Option ImageNotes) (given : ℕ) (ending : Ending) → IsLost ending → (old new : List Event) (status : ℕ) → EndsUnread is_data said notes given ending old new status
    → Followed given old new status
follows-lost is_data said notes given ending (inl is) old new status p = of-full (subst (λ (e : Ending). EndsUnread is_data said notes given e old new status) is p)
  where
    of-full : EndsUnread is_data said notes given FullOutput old new status → Followed given old new status
    of-full (told, tells, q) =
        let s = instead-silent is_data told new status q in
        (s.0 ∙ tells-output said notes old told tells, inr s.1)
follows-lost is_data said notes given ending (inr is) old new status p = of-unread (subst (λ (e : Ending). EndsUnread is_data said notes given e old new status) is p)
  where
    of-unread : EndsUnread is_data said notes given NoReader old new status → Followed given old new status
    of-unread q = (ap output q.0, inl q.1)

unread-at : (given : ℕ) (is : Bool) → nat_eq given 0 ≡ is → (status : ℕ) → status ≡ (if is then 141 else given) → (status ≡ given) ⊎ ((given ≡ 0) × (status ≡ 141))
unread-at given true same status so = inr (eqb-true given 0 same, so)
unread-at given false same status so = inl so

unread-is : (given status : ℕ) → status ≡ status_unread given → (status ≡ given) ⊎ ((given ≡ 0) × (status ≡ 141))
unread-is given status so = unread-at given (nat_eq given 0) refl status so

module _ (is_data : Bool) (notes : Option ImageNotes) (work : Result (Unit {0}) Ending) (old new : List Event) (status : ℕ) where
  -- the line is that of the work, which is lost or not, and so is the status
  weighs : (told : List Event) → output told ≡ output old → (outcome : Outcome) → writing_of outcome ≡ outcome_of is_data work → (printed : Result (Unit {0}) Ending) (between : List Event)
      → Printed (outcome_of is_data work).output told printed between → EndsAfter is_data (state_refused work) notes outcome.status printed between new status
      → EndsWith work status old new × PrintsOnce (outcome_of is_data work).output old new
  weighs told same outcome is (Ok it) between (inl quiet) after = (inl (after.1 ∙ outcome-status is_data work outcome is), inl (ap output after.0 ∙ quiet ∙ same))
  weighs told same outcome is (Ok it) between (inr got) after =
      (inl (after.1 ∙ outcome-status is_data work outcome is), inr (true, ap output after.0 ∙ got ∙ ap (λ (o : List (Bool × List ℕ)). (true, (outcome_of is_data work).output) ∷ o) same))
  weighs told same outcome is (Err ending) between l after = (of-status after_lost.1, inr (false, after_lost.0 ∙ more))
    where
      after_lost : Followed outcome.status between new status
      after_lost = follows-lost is_data (state_refused work) notes outcome.status ending l.why between new status after

      more : output between ≡ (false, (outcome_of is_data work).output) ∷ output old
      more = l.prints ∙ ap (λ (o : List (Bool × List ℕ)). (false, (outcome_of is_data work).output) ∷ o) same

      loses : HasLostLine old new
      loses = omega (arith, ap failed_prints (after_lost.0 ∙ more))

      of-given : (status ≡ outcome.status) ⊎ ((outcome.status ≡ 0) × (status ≡ 141)) → EndsWith work status old new
      of-given (inl given) = inl (given ∙ outcome-status is_data work outcome is)
      of-given (inr (none, given)) = inr (loses, inr (sym (outcome-status is_data work outcome is) ∙ none, given))

      of-status : (status ≡ status_unread outcome.status) ⊎ (status ≡ 1) → EndsWith work status old new
      of-status (inl so) = of-given (unread-is outcome.status status so)
      of-status (inr so) = inr (loses, inl so)

  pub ends : EndsSo is_data notes work old new status → EndsWith work status old new × PrintsOnce (outcome_of is_data work).output old new
  ends e = weighs e.told (tells-output (state_at_end work) notes old e.told e.tells) e.outcome e.is e.printed e.between
      (outcome-prints e.outcome (outcome_of is_data work) e.is e.told e.printed e.between e.prints) e.after

  -- nobody reads the last line
  pub unheard : (e : EndsSo is_data notes work old new status) → e.printed ≡ Err NoReader → status ≡ status_unread (status_of work)
  unheard e lost =
      let after : EndsAfter is_data (state_refused work) notes e.outcome.status (Err NoReader) e.between new status = subst (λ (r : Result (Unit {0}) Ending). EndsAfter is_data (state_refused work) notes e.outcome.status r e.between new status) lost e.after in
      after.1 ∙ ap status_unread (outcome-status is_data work e.outcome e.is)

-- ## Parts of the work

pub unread-after : (ending : Ending) → ending_after false ending ≡ NoReader → ⊥
unread-after (Line it) is = cc
unread-after (Fault it) is = cc
unread-after Failure is = cc
unread-after (Busy it) is = cc
unread-after (NotWritten it left) is = cc
unread-after FullOutput is = cc
unread-after Unreported is = cc
unread-after NoReader is = cc
unread-after Misuse is = cc

-- ## What standard error gets

-- it has what it had, with more after that
abbrev Grows : List Event → List Event → Type 0
Grows old new = (later : List (Bool × List ℕ)) × (errors new ≡ later ++ errors old)

stays : (old new : List Event) → new ≡ old → Grows old new
stays old new is = ([], ap errors is)

grows-on : (old mid new : List Event) → Grows old mid → Grows mid new → Grows old new
grows-on old mid new (first, is) (more, so) = (more ++ first, so ∙ ap (λ (e : List (Bool × List ℕ)). more ++ e) is ∙ sym (append_assoc more first (errors old)))

line-grows : (line : List ℕ) (old new : List Event) → TellsLine line old new → Grows old new
line-grows line old new (inl (utf8, ok, is)) = ((ok, line) ∷ [], ap errors is)
line-grows line old new (inr (not_utf8, is)) = stays old new is

prints-grow : (line : List ℕ) (old : List Event) (result : Result (Unit {0}) Ending) (new : List Event) → Prints line old result new → Grows old new
prints-grow line old (Ok it) new p = ([], ap errors p)
prints-grow line old (Err FullOutput) new p = ([], ap errors p)
prints-grow line old (Err NoReader) new p = ([], ap errors p)
prints-grow line old (Err (Line it)) new p = absurd p
prints-grow line old (Err (Fault it)) new p = absurd p
prints-grow line old (Err Failure) new p = absurd p
prints-grow line old (Err (Busy it)) new p = absurd p
prints-grow line old (Err (NotWritten it left)) new p = absurd p
prints-grow line old (Err Unreported) new p = absurd p
prints-grow line old (Err Misuse) new p = absurd p

stream-grows : (stream : Stream) (line : List ℕ) (old : List Event) (result : Result (Unit {0}) Ending) (new : List Event) → PrintsLine stream line old result new → Grows old new
stream-grows Output line old result new p = prints-grow line old result new p
stream-grows Errors line old result new p = line-grows line old new p.1

note-grows : (note : Option (FileNote × Content)) (ok : Bool) (old : List Event) → Grows old (with_note note ok old)
note-grows None ok old = ([], refl)
note-grows (Some it) ok old = ((ok, text_on_file (Some it)) ∷ [], refl)

outcome-grows : (it : Outcome) (old : List Event) (result : Result (Unit {0}) Ending) (new : List Event) → PrintsOutcome it old result new → Grows old new
outcome-grows it old result new (ok, p) = grows-on old (with_note it.note ok old) new (note-grows it.note ok old) (stream-grows it.stream it.line.items (with_note it.note ok old) result new p)

told-grows : (said : Option ChangeState) (notes : Option ImageNotes) (old new : List Event) → TellsState said notes old new → Grows old new
told-grows None notes old new p = stays old new p
told-grows (Some it) None old new p = stays old new p
told-grows (Some it) (Some notes) old new (ok, p) = ((ok, text_of it notes) ∷ [], ap errors p)

instead-grows : (is_data : Bool) (ending : Ending) (told new : List Event) (status : ℕ) → EndsInstead is_data ending told new status → Grows told new
instead-grows is_data ending told new status (other, is, last, prints, so) = outcome-grows other told last new prints

lost-grows : (is_data : Bool) (said : Option ChangeState) (notes : Option ImageNotes) (given : ℕ) (ending : Ending) → IsLost ending → (old new : List Event) (status : ℕ) → EndsUnread is_data said notes given ending old new status → Grows old new
lost-grows is_data said notes given ending (inl is) old new status p = of-full (subst (λ (e : Ending). EndsUnread is_data said notes given e old new status) is p)
  where
    of-full : EndsUnread is_data said notes given FullOutput old new status → Grows old new
    of-full (told, tells, q) = grows-on old told new (told-grows said notes old told tells) (instead-grows is_data FullOutput told new status q)
lost-grows is_data said notes given ending (inr is) old new status p = of-unread (subst (λ (e : Ending). EndsUnread is_data said notes given e old new status) is p)
  where
    of-unread : EndsUnread is_data said notes given NoReader old new status → Grows old new
    of-unread q = stays old new q.0

why-lost : (it : Outcome) (old : List Event) (ending : Ending) (new : List Event) → PrintsOutcome it old (Err ending) new → IsLost ending
why-lost it old ending new (ok, p) = of-stream it.stream p
  where
    of-stream : (stream : Stream) → PrintsLine stream it.line.items (with_note it.note ok old) (Err ending) new → IsLost ending
    of-stream Output q = (prints-lose it.line.items (with_note it.note ok old) ending new q).why
    of-stream Errors q = absurd q.0

after-grows : (is_data : Bool) (said : Option ChangeState) (notes : Option ImageNotes) (it : Outcome) (told : List Event) (printed : Result (Unit {0}) Ending) (old new : List Event) (status : ℕ) → PrintsOutcome it told printed old
    → EndsAfter is_data said notes it.status printed old new status → Grows old new
after-grows is_data said notes it told (Ok result) old new status prints p = stays old new p.0
after-grows is_data said notes it told (Err ending) old new status prints p = lost-grows is_data said notes it.status ending (why-lost it told ending old prints) old new status p

-- a text is among what it got, if more came before and after
told-among : (text : List ℕ) (old begun told new : List Event) (ok : Bool) → Grows old begun → errors told ≡ (ok, text) ∷ errors begun → Grows told new → HasTold text old new
told-among text old begun told new ok (before, was) tells (later, is) =
    (later, before, ok, is ∙ ap (λ (e : List (Bool × List ℕ)). later ++ e) (tells ∙ ap (λ (e : List (Bool × List ℕ)). (ok, text) ∷ e) was))

-- what is known at the end is told first
pub told-at-end : (is_data : Bool) (notes : ImageNotes) (it : ChangeState) (text : List ℕ) → text_of it notes ≡ text → (work : Result (Unit {0}) Ending) → state_at_end work ≡ Some it → (old new : List Event) (status : ℕ)
    → EndsSo is_data (Some notes) work old new status → HasTold text old new
told-at-end is_data notes it text is work so old new status e = of-told (subst (λ (s : Option ChangeState). TellsState s (Some notes) old e.told) so e.tells)
  where
    of-told : TellsState (Some it) (Some notes) old e.told → HasTold text old new
    of-told (ok, tells) = told-among text old old e.told new ok ([], refl) (ap errors tells ∙ ap (λ (t : List ℕ). (ok, t) ∷ errors old) is)
        (grows-on e.told e.between new (outcome-grows e.outcome e.told e.printed e.between e.prints)
        (after-grows is_data (state_refused work) (Some notes) e.outcome e.told e.printed e.between new status e.prints e.after))

-- what is known of a refusal is told where its line is not taken
pub told-refused : (is_data : Bool) (notes : ImageNotes) (it : ChangeState) (text : List ℕ) → text_of it notes ≡ text → (work : Result (Unit {0}) Ending) → state_refused work ≡ Some it → (old new : List Event) (status : ℕ)
    → (e : EndsSo is_data (Some notes) work old new status) → e.printed ≡ Err FullOutput → HasTold text old new
told-refused is_data notes it text is work so old new status e lost =
    of-after (subst (λ (r : Result (Unit {0}) Ending). EndsAfter is_data (state_refused work) (Some notes) e.outcome.status r e.between new status) lost e.after)
  where
    begun : Grows old e.between
    begun = grows-on old e.told e.between (told-grows (state_at_end work) (Some notes) old e.told e.tells) (outcome-grows e.outcome e.told e.printed e.between e.prints)

    of-after : EndsAfter is_data (state_refused work) (Some notes) e.outcome.status (Err FullOutput) e.between new status → HasTold text old new
    of-after (told, tells, p) = of-told (subst (λ (s : Option ChangeState). TellsState s (Some notes) e.between told) so tells)
      where
        of-told : TellsState (Some it) (Some notes) e.between told → HasTold text old new
        of-told (ok, now) = told-among text old e.between told new ok begun (ap errors now ∙ ap (λ (t : List ℕ). (ok, t) ∷ errors e.between) is) (instead-grows is_data FullOutput told new status p)

-- ## Why a file is not written

pub has-reason : (kind : Content) (path name file : List ℕ) (old : List Event) (why : Ending) (new : List Event) → Writes kind path name file old (Err why) new → HasReason name old new
has-reason kind path name file old (NotWritten it unwritten.AsItWas) new (is, fault, between, p, tells) = record { fault = fault; between = between; failed = p.cause; why = p.why; told = tells }
has-reason kind path name file old (NotWritten it unwritten.InPart) new (is, fault, between, p, tells) = record { fault = fault; between = between; failed = p.cause; why = p.why; told = tells }
has-reason kind path name file old (Line it) new p = absurd p
has-reason kind path name file old (Fault it) new p = absurd p
has-reason kind path name file old Failure new p = absurd p
has-reason kind path name file old (Busy it) new p = absurd p
has-reason kind path name file old FullOutput new p = absurd p
has-reason kind path name file old Unreported new p = absurd p
has-reason kind path name file old NoReader new p = absurd p
has-reason kind path name file old Misuse new p = absurd p

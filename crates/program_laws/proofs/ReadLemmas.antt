-- What commands read, and what they do with it.
use Rattle.std.proofs.Common.{◌≡◌, ◌∙◌, ◌<◌, ◌+◌, ℕ, Bool, true, false, Option, None, Some, Result, Ok, Err, List, [], ◌∷◌, ap, refl, sym, subst, arith, inl, inr, length, option_map}
use Rattle.std.specs.Global.{Vec}
use Rattle.hosts.specs.Event.{Event, Look, failed_call, look_call, print_call}
use Rattle.hosts.specs.Faults.{class_of}
use Rattle.hosts.specs.Streams.{errors, failures, read}
use Rattle.hosts.specs.declared.faults.FaultClass.{FaultClass}
use Rattle.hosts.specs.declared.faults.FaultClass.TheVariants as class
use Rattle.hosts.specs.declared.faults.HostFault.{HostFault}
use Rattle.hosts.specs.declared.faults.HostFault.TheVariants as host
use Rattle.word12.specs.declared.sizes.TheConstants.{CORE}
use Rattle.bin_tape.specs.Items.{words_of}
use Rattle.core_load.specs.Core.{zeros}
use Rattle.core_load.specs.Load.{IsLoaded}
use Rattle.tape_reports.specs.Lists.{IsListed}
use Rattle.tape_reports.specs.Rims.{IsRimWritten}
use Rattle.tape_reports.specs.Starts.{first_cell, start_cell}
use Rattle.archive_files.specs.Asking.{Target}
use Rattle.archive_files.specs.Getting.{Gets, IsGiven}
use Rattle.archive_files.specs.declared.forms.GetForm.{GetForm}
use Rattle.image_kind.specs.Keeping.{two_readings}
use Rattle.image_kind.specs.Lines.{mended_lines}
use Rattle.volume_salvage.specs.Scanning.{Scans, scan_text}
use Rattle.outcome.specs.declared.contents.Content.TheVariants.{Image as Held}
use Rattle.outcome.specs.declared.endings.Ending.{Ending}
use Rattle.outcome.specs.declared.endings.Ending.TheVariants.{Busy, Fault, Line}
use Rattle.outcome.specs.declared.reasons.Reason.TheVariants as reason
use Rattle.refusals.specs.declared.faults.SessionFault.TheVariants.{Memory}
use Rattle.program_reports.specs.declared.programs.ProgramLine.TheVariants.{HostRead}
use Rattle.program_tasks.specs.declared.forms.ImageForm.{ImageForm}
use Rattle.program_tasks.specs.declared.forms.TapeForm.{TapeForm}
use Rattle.program_tasks.specs.declared.tasks.RimForm.{RimForm}
use Rattle.program_tasks.specs.declared.tasks.SourceForm.{SourceForm}
use Rattle.program_tasks.specs.declared.tasks.TeletypeForm.{TeletypeForm}
use Rattle.program_tasks.specs.declared.tasks.TraceForm.{TraceForm}
use Rattle.image_files.specs.Answers.{Answers, AreLines}
use Rattle.image_files.specs.Mending.{TellsLines}
use Rattle.image_files.specs.Reading.{Holds, IsUnheld, IsUnheldImage, IsUnread, JudgesLooked, Looks, LooksAt, LooksIf, LooksImage, ending_of_image, image_ending}
use Rattle.image_files.specs.Reasons.{TellsReason, TellsUnless, is_memory, is_class_untold}
use Rattle.image_files.specs.Saving.{Prints}
use Rattle.image_files.specs.Waiting.{TellsBusy}
use Rattle.image_files.specs.Work.{IsJust, Then, Purely}
use Rattle.image_files.specs.declared.mending.ImageReading.{ImageReading}
use Rattle.get_commands.specs.Showing.{Shows}
use Rattle.salvage_commands.specs.ScanningBlocks.{ShowsPieces}
use Rattle.tape_commands.specs.Programs.{ReadsGiven}
use Rattle.tape_commands.specs.Rims.{GivesRim, ReadsFrames, WritesRim}
use Rattle.tape_commands.specs.Sources.{GivesSource, WritesSource, starts_or}
use Rattle.tape_commands.specs.Tapes.{GivesLines, ListsTape}
use Rattle.run_commands.specs.CorePrograms.{FindsStart, LoadsProgram, StartsIf, program_in}
use Rattle.run_commands.specs.Runs.{IsReady, ReadsRun, start_or}
use Rattle.run_commands.specs.Teletypes.{ReadsProgramOf}
use Rattle.keeper_laws.proofs.OpenLemmas.{judged}
use Rattle.program_laws.specs.Tapes.{AreLaid}
use Rattle.program_laws.specs.Reads.{HasProgram, IsInCore, IsOfFile, IsOfPieces, IsOfWords, IsOnceMended, IsSourceOf, PrintsOf, PrintsSource, SaysWhyUnread}
use Rattle.program_laws.proofs.TapeLemmas.{laid}

-- ## Image files

lines-read : (lines : List ℕ) (old new : List Event) → TellsLines lines old new → read new ≡ read old
lines-read [] old new p = ap read p
lines-read (c ∷ lines) old new p = ap read p.1

-- the file that was read, and what it is taken for
record IsFileRead (is_lenient : Bool) (reading : ImageReading) (name bytes : List ℕ) (old new : List Event) : Type 0 where
  file : List ℕ
  reads : read new ≡ look_call name file ∷ read old
  is : IsOnceMended is_lenient reading file bytes

if-read : (is_lenient : Bool) (reading : ImageReading) (name : List ℕ) (old : List Event) (bytes : Vec ℕ) (new : List Event) → LooksIf is_lenient reading.layout reading.is_plain name old (Ok bytes) new
    → IsFileRead is_lenient reading name bytes.items old new
if-read true reading name old bytes new (inl ends) = absurd ends
if-read true reading name old bytes new (inr two) = record {
  file = two.given.items;
  reads = lines-read (mended_lines name two.after.0) two.between new two.after.3 ∙ ap read two.done.1;
  is = (two.after.0, two.after.1, two.after.2);
}
if-read false reading name old bytes new p = record { file = bytes.items; reads = ap read p.1; is = refl }

judged-same : (reading : ImageReading) (name : List ℕ) (file : Vec ℕ) (old : List Event) (it : Vec ℕ) (new : List Event) → JudgesLooked reading name file old (Ok it) new → (it ≡ file) × (new ≡ old)
judged-same reading name file old it new (inl ends) = absurd ends
judged-same reading name file old it new (inr two) = (two.after.0, two.after.1 ∙ judged name (two_readings reading.layout reading.is_plain file.items) old two.given two.between two.done)

pub image-read : (reading : ImageReading) (name : List ℕ) (old : List Event) (image : Vec ℕ) (new : List Event) → LooksImage reading name old (Ok image) new → IsOfFile reading name image.items old new
image-read reading name old image new (inl ends) = absurd ends
image-read reading name old image new (inr two) =
    let r = if-read reading.is_lenient reading name old two.given two.between two.done in
    let j = judged-same reading name two.given two.between image new two.after in
    record { file = r.file; reads = ap read j.1 ∙ r.reads; is = subst (λ (v : Vec ℕ). IsOnceMended reading.is_lenient reading r.file v.items) (sym j.0) r.is }

-- ## What is printed

-- what a step gives is printed
prints-of : {A : Type 0} (takes : List Event → Result A Ending → List Event → Type 0) (gives : A → List ℕ → Type 0) (given : A) (text : List ℕ) (old taken between : List Event) (it : Unit {0}) (new : List Event)
    → takes old (Ok given) taken → gives given text → between ≡ taken → Prints text between (Ok it) new → PrintsOf takes gives old new
prints-of takes gives given text old taken between it new took gave same p = record { given = given; taken = taken; took = took; text = text; gave = gave; prints = p ∙ ap (λ (events : List Event). print_call true 0 text ∷ events) same }

pub shows-words : (wanted : Target) (how : GetForm) (form : ImageForm) (old : List Event) (it : Unit {0}) (new : List Event) → Shows (λ bytes. Gets bytes wanted how) form old (Ok it) new
    → PrintsOf (LooksAt form) (IsOfWords wanted (IsGiven how)) old new
shows-words wanted how form old it new (inl ends) = absurd ends
shows-words wanted how form old it new (inr l) = given l.after
  where
    given : Then (Answers (Gets l.given.items wanted how) (length l.given.items)) (λ bytes. Prints bytes.items) l.between (Ok it) new → PrintsOf (LooksAt form) (IsOfWords wanted (IsGiven how)) old new
    given (inl ends) = absurd ends
    given (inr g) = prints-of (LooksAt form) (IsOfWords wanted (IsGiven how)) l.given g.given.items old l.between g.between it new l.done g.done.0 g.done.1 g.after

pub scan-prints : (form : ImageForm) (old : List Event) (it : Unit {0}) (new : List Event) → ShowsPieces form old (Ok it) new → PrintsOf (LooksAt form) IsOfPieces old new
scan-prints form old it new (inl ends) = absurd ends
scan-prints form old it new (inr l) = scanned l.after
  where
    scanned : Then (Answers (Scans l.given.items) (length l.given.items)) (λ scan. Then (Purely (AreLines (scan_text scan))) (λ lines. Prints lines.items)) l.between (Ok it) new → PrintsOf (LooksAt form) IsOfPieces old new
    scanned (inl ends) = absurd ends
    scanned (inr s) = lined s.after
      where
        lined : Then (Purely (AreLines (scan_text s.given))) (λ lines. Prints lines.items) s.between (Ok it) new → PrintsOf (LooksAt form) IsOfPieces old new
        lined (inl ends) = absurd ends
        lined (inr n) = prints-of (LooksAt form) IsOfPieces l.given n.given.items old l.between n.between it new l.done (s.given, s.done.0, n.done.0) (n.done.1 ∙ s.done.1) n.after

pub tape-prints : (given : Option TapeForm) (old : List Event) (it : Unit {0}) (new : List Event) → ListsTape given old (Ok it) new → PrintsOf (ReadsGiven given) (λ program lines. IsListed program.frames.items lines) old new
tape-prints given old it new (inl ends) = absurd ends
tape-prints given old it new (inr r) = listed r.after
  where
    listed : Then (GivesLines r.given.frames.items) (λ text. Prints text.items) r.between (Ok it) new → PrintsOf (ReadsGiven given) (λ program lines. IsListed program.frames.items lines) old new
    listed (inl ends) = absurd ends
    listed (inr g) = prints-of (ReadsGiven given) (λ program lines. IsListed program.frames.items lines) r.given g.given.items old r.between g.between it new r.done g.done.0 g.done.1 g.after

pub rim-prints : (form : RimForm) (given : Option TapeForm) (old : List Event) (it : Unit {0}) (new : List Event) → WritesRim form given old (Ok it) new
    → PrintsOf (ReadsFrames given) (λ frames bytes. IsRimWritten form frames.items bytes) old new
rim-prints form given old it new (inl ends) = absurd ends
rim-prints form given old it new (inr r) = written r.after
  where
    written : Then (Purely (GivesRim form r.given.items)) (λ bytes. Prints bytes.items) r.between (Ok it) new → PrintsOf (ReadsFrames given) (λ frames bytes. IsRimWritten form frames.items bytes) old new
    written (inl ends) = absurd ends
    written (inr g) = prints-of (ReadsFrames given) (λ frames bytes. IsRimWritten form frames.items bytes) r.given g.given.items old r.between g.between it new r.done g.done.0 g.done.1 g.after

pub source-prints : (form : SourceForm) (old : List Event) (it : Unit {0}) (new : List Event) → WritesSource form old (Ok it) new → PrintsSource form old new
source-prints form old it new (inl ends) = absurd ends
source-prints form old it new (inr n) = read-next n.after
  where
    read-next : Then (ReadsGiven form.tape) (λ program. Then (GivesSource form.is_pal8 program.frames.items (starts_or form.starts.items program.start) (option_map (λ names. names.items) n.given)) (λ text. Prints text.items))
        n.between (Ok it) new → PrintsSource form old new
    read-next (inl ends) = absurd ends
    read-next (inr r) = written r.after
      where
        written : Then (GivesSource form.is_pal8 r.given.frames.items (starts_or form.starts.items r.given.start) (option_map (λ names. names.items) n.given)) (λ text. Prints text.items) r.between (Ok it) new → PrintsSource form old new
        written (inl ends) = absurd ends
        written (inr g) = record {
          names = n.given;
          named = n.between;
          reads = n.done;
          prints = prints-of (ReadsGiven form.tape) (IsSourceOf form n.given) r.given g.given.items n.between r.between g.between it new r.done (g.given, g.done.0, refl) g.done.1 g.after;
        }

-- ## What is run

given-start : (cell : ℕ) (words : List (ℕ × ℕ)) (begins usual : Option ℕ) (old : List Event) (start : ℕ) (new : List Event) → StartsIf words (Some cell) begins usual old (Ok start) new → start ≡ cell
given-start cell words (Some begins) (Some usual) old start new p = p.0
given-start cell words (Some begins) None old start new p = absurd p.0
given-start cell words None usual old start new p = absurd p.0

in-core : (frames : List ℕ) (given switches : Option ℕ) (old : List Event) (program : _) (new : List Event) → LoadsProgram frames given switches old (Ok program) new → IsInCore frames given program.core program.start
in-core frames given switches old program new (inl ends) = absurd ends
in-core frames given switches old program new (inr c) = started c.after
  where
    loaded : IsLoaded frames (zeros CORE) c.given
    loaded = c.done.0

    started : Then (FindsStart frames given) (λ start. Purely (IsJust (program_in c.given switches start))) c.between (Ok program) new → IsInCore frames given program.core program.start
    started (inl ends) = absurd ends
    started (inr s) =
        let core : program.core ≡ c.given = rw s.after.0 refl in
        let start : program.start ≡ s.given = rw s.after.0 refl in
        record {
          items = loaded.items;
          is_tape = loaded.is_tape;
          laid = subst (λ (words : List ℕ). AreLaid (words_of loaded.items) (zeros CORE) words) (sym core) (laid loaded.items (words_of loaded.items) refl frames (zeros CORE) c.given loaded refl);
          starts = λ cell is. start ∙ given-start cell (words_of loaded.items) (first_cell (words_of loaded.items)) (start_cell (words_of loaded.items)) c.between s.given s.between
              (subst (λ (g : Option ℕ). StartsIf (words_of loaded.items) g (first_cell (words_of loaded.items)) (start_cell (words_of loaded.items)) c.between (Ok s.given) s.between) is (s.done loaded.items loaded.is_tape));
        }

pub typed-program : (form : TeletypeForm) (old : List Event) (program : _) (new : List Event) → ReadsProgramOf form old (Ok program) new → HasProgram form.tape (start_or form.start) program.core program.start old
typed-program form old program new (inl ends) = absurd ends
typed-program form old program new (inr t) = record {
  tape = t.given;
  taken = t.between;
  reads = t.done;
  loaded = in-core t.given.frames.items (start_or form.start t.given.start) form.console.switches t.between program new t.after;
}

pub traced-program : (form : TraceForm) (old : List Event) (run : _) (new : List Event) → ReadsRun form old (Ok run) new → HasProgram form.tape (start_or form.start) run.program.core run.program.start old
traced-program form old run new (inl ends) = absurd ends
traced-program form old run new (inr t) = ready t.after
  where
    ready : Then (LoadsProgram t.given.frames.items (start_or form.start t.given.start) form.switches) (λ program. Purely (IsReady form t.given.frames.items program)) t.between (Ok run) new
        → HasProgram form.tape (start_or form.start) run.program.core run.program.start old
    ready (inl ends) = absurd ends
    ready (inr l) = record {
      tape = t.given;
      taken = t.between;
      reads = t.done;
      loaded = rw l.after.0.0 (in-core t.given.frames.items (start_or form.start t.given.start) form.switches t.between l.given l.between l.done);
    }

-- ## Why a file is not read

more : (n : ℕ) → n < n + 1
more n = omega arith

abbrev endings : Ending → Ending → Type 0
endings one other = one ≡ other

other-class : (of : FaultClass) → endings (Line HostRead) (image_ending of) → of ≡ class.Other
other-class class.Busy is = absurd cc
other-class class.Memory is = absurd cc
other-class class.Other is = refl

not-memory : endings (Line HostRead) (Fault Memory) → ⊥
not-memory is = cc

pub unread-looks : (name : List ℕ) (old new : List Event) → Looks name name old (Err (Line HostRead)) new → SaysWhyUnread name old new
unfolding IsUnread
unread-looks name old new (inl (fault, is, p)) =
    let told : TellsUnless false (reason.Fault fault) name (failed_call Look name fault ∷ old) new =
    subst (λ (b : Bool). TellsUnless b (reason.Fault fault) name (failed_call Look name fault ∷ old) new) (ap is_memory (other-class (class_of fault) is)) p in
    inl (record { fault = fault; between = failed_call Look name fault ∷ old; failed = more (failures old); why = refl; told = told })
unread-looks name old new (inr (bytes, many, inl (is, ok, p))) = inr ([], [], ok, ap errors p)
unread-looks name old new (inr (bytes, many, inr (is, p))) = absurd (not-memory is)

pub unheld-so : (fault : HostFault) (ending : Ending) → IsUnheld fault ending → ending ≡ ending_of_image fault
unheld-so host.Denied ending is = absurd is
unheld-so host.ReadOnly ending is = absurd is
unheld-so host.Busy ending is = is
unheld-so host.Memory ending is = is
unheld-so host.Absent ending is = is
unheld-so host.Folder ending is = is
unheld-so host.NoFolder ending is = is
unheld-so host.Full ending is = is
unheld-so host.Links ending is = is
unheld-so host.Large ending is = is
unheld-so host.Changed ending is = is
unheld-so host.Pipe ending is = is
unheld-so host.Owner ending is = is
unheld-so host.Failed ending is = is

pub unread-holds : (name : List ℕ) (old new : List Event) → Holds name old (Err (Line HostRead)) new → SaysWhyUnread name old new
unfolding IsUnheldImage
unread-holds name old new (inl (fault, unheld, (between, idle, failed, why, p))) =
    let told : TellsUnless false (reason.Fault fault) name between new =
    subst (λ (b : Bool). TellsUnless b (reason.Fault fault) name between new) (ap (is_class_untold Held) (other-class (class_of fault) (unheld-so fault (Line HostRead) unheld))) p in
    inl (record { fault = fault; between = between; failed = failed; why = sym why; told = told })
unread-holds name old new (inr (is, p)) = absurd (not-memory is)

pub busy-reason : {A : Type 0} (name : List ℕ) (old new : List Event) → TellsBusy {A = A} name (Err (Busy Held)) old new → TellsReason (reason.Fault host.Busy) name old new
busy-reason name old new (inl (free, p)) = absurd (free refl)
busy-reason name old new (inr (is, p)) = p

-- What assembling to standard output and to files of the host leaves.
use Rattle.std.proofs.Common.{◌≡◌, ◌∙◌, ℕ, Bool, true, false, is_some, Option, None, Some, String, Result, Ok, Err, List, [], ap, refl, sym, subst, arith, inl, inr, map}
use Rattle.std.specs.Borrow.{Bor}
use Rattle.std.specs.Global.{Vec, Global}
use Rattle.byte_reader.specs.Readings.{Reading}
use Rattle.hosts.specs.Event.{Event}
use Rattle.hosts.specs.Place.{Place, Just, Step as HostStep, about, replay}
use Rattle.hosts.specs.Saving.{Makes as MakesAt, replacements}
use Rattle.hosts.specs.Streams.{may_replace, output, path_of_name, changes_at}
use Rattle.hosts.specs.declared.faults.Durability.{Durability}
use Rattle.hosts.specs.declared.faults.Durability.TheVariants.{Certain, Unknown}
use Rattle.hosts.specs.declared.faults.HostFault.{HostFault}
use Rattle.outcome.specs.Streams.{gives_data}
use Rattle.outcome.specs.declared.contents.Content.{Content}
use Rattle.outcome.specs.declared.contents.Content.TheVariants.{Image as Held, Tape, Listing}
use Rattle.outcome.specs.declared.endings.Ending.{Ending}
use Rattle.outcome.specs.declared.endings.Ending.TheVariants.{Line, Fault, Failure, Busy, NotWritten, FullOutput, Unreported, NoReader, Misuse}
use Rattle.refusals.specs.declared.faults.SessionFault.TheVariants.{Memory}
use Rattle.program_tasks.specs.declared.forms.ImageForm.{ImageForm}
use Rattle.program_tasks.specs.declared.tasks.AssembleForm.{AssembleForm}
use Rattle.program_tasks.specs.declared.tasks.Task.{Task}
use Rattle.program_tasks.specs.declared.tasks.Task.TheVariants as task
use Rattle.image_files.specs.Laws.{ChangesNothing}
use Rattle.image_files.specs.Making.{HasMade, IsUnheldFile, MakesFile}
use Rattle.image_files.specs.Reading.{IsIdle, hold_calls, with_lock_note}
use Rattle.image_files.specs.Saving.{HasSaved, IsDone}
use Rattle.image_files.specs.Waiting.{TellsBusy, Within}
use Rattle.image_files.specs.Work.{Then, Purely}
use Rattle.image_files.proofs.KeepLemmas.{of-file}
use Rattle.assemble_commands.specs.Assembling.{Assembles, AssemblesAll, AssemblesFrom, AssemblesTo, IsListing, IsMade, IsPal8Listing, IsTapeOf, ListsTape, Makes, MakesIf, NotesIf, options_of}
use Rattle.assemble_commands.specs.Clashes.{tape_place}
use Rattle.assemble_commands.specs.Outputs.{WritesIf, WritesListing, WritesTape}
use Rattle.assemble_commands.specs.Places.{KeepsInputs}
use Rattle.assemble_commands.specs.Sources.{AreLent, ReadsEach, is_standard}
use Rattle.assemble_commands.specs.declared.assembling.Assembled.{Assembled}
use Rattle.program.specs.Changes.{file_for, seconds_for}
use Rattle.program.specs.Tasks.{DoesTask, RunsTask}
use Rattle.keeper_laws.specs.Ended.{DoesNothing}
use Rattle.keeper_laws.proofs.AloneLemmas.{alone-after, alone-only}
use Rattle.program_laws.specs.Assembled.{IsTapeIn}
use Rattle.program_laws.specs.Ends.{EndsWith, status_of}
use Rattle.program_laws.specs.Outputs.{GetsHeld, HasFile, HasLeft, HasOutputs, IsNewFile, IsVolumeFor, ListsTo, WentIf, WentTo}
use Rattle.program_laws.proofs.AssembleLemmas.{makes-if}
use Rattle.program_laws.proofs.EndLemmas.{ends as end-with}
use Rattle.program_laws.proofs.QuietLemmas.{ends-so}
use Rattle.program_laws.proofs.RunLemmas.{seen-kept}
use Rattle.program_laws.proofs.SourceLemmas.{at-vain, each-vain, inputs-vain}
use Rattle.program_laws.proofs.StatusLemmas.{nothing-joined}
use Rattle.program_laws.proofs.TryLemmas.{once}

-- ## A file

written-held : (content : Content) (path name bytes : List ℕ) (has_lock ok : Bool) (old new : List Event) → HasSaved content path bytes (with_lock_note content has_lock ok (hold_calls name path has_lock old)) new
    → GetsHeld content name bytes old new
written-held content path name bytes has_lock ok old new saved =
    let begun = with_lock_note content has_lock ok (hold_calls name path has_lock old) in
    record {
      path = path;
      begun = begun;
      has_lock = has_lock;
      ok = ok;
      held = refl;
      now = λ start was seen. seen-kept (may_replace new) saved.durability bytes (about path begun) (about path new) saved.kept start was seen;
      alone = alone-only path begun new saved.only;
    }

pub lock-output : (content : Content) (name path : List ℕ) (has_lock ok : Bool) (old : List Event) → output (with_lock_note content has_lock ok (hold_calls name path has_lock old)) ≡ output old
lock-output content name path true ok old = refl
lock-output content name path false ok old = refl

made-now : (durability : Durability) (file : List ℕ) (old new : List HostStep) → MakesAt (Ok durability) file old new → (start : Place) → (replay start new).seen ≡ Just (Some file)
made-now Certain file old new made start = (made start).seen
made-now Unknown file old new made start = made start

is-new : (content : Content) (name bytes : List ℕ) (old begun new : List Event) → IsIdle old begun → HasMade content name bytes begun new → IsNewFile name bytes old new
is-new content name bytes old begun new idle m = record {
  asked = m.asked;
  now = made-now m.durability bytes (about (path_of_name new) begun) (about (path_of_name new) new) m.made;
  first = m.first ∙ ap (λ (s : List HostStep). replacements s) (of-file (path_of_name new) (idle.files (path_of_name new)));
  alone = alone-after (path_of_name new) old begun new idle.files (alone-only (path_of_name new) begun new m.only);
}

not-unheld : (content : Content) (fault : HostFault) (it : Unit {0}) → IsUnheldFile content fault (Ok it) → ⊥
not-unheld content fault it (other, is) = cc

has-file : (content : Content) (name bytes : List ℕ) (old : List Event) (it : Unit {0}) (new : List Event) → MakesFile content name bytes old (Ok it) new → HasFile content name bytes old new
has-file content name bytes old it new (inl (path, has_lock, ok, saved)) =
    (inl (written-held content path name bytes has_lock ok old new saved), saved.only.prints ∙ lock-output content name path has_lock ok old)
has-file content name bytes old it new (inr (inl (begun, idle, failed, absent, made))) = (inr (is-new content name bytes old begun new idle made), made.only.prints ∙ idle.prints)
has-file content name bytes old it new (inr (inr (fault, between, unheld, idle, failed, why, told))) = absurd (not-unheld content fault it unheld)

-- ## Where the outputs go

went-if : (is : Bool) (content : Content) (name bytes : List ℕ) (old : List Event) (it : Unit {0}) (new : List Event) → WritesIf is content name bytes old (Ok it) new → WentIf is content name bytes old new
went-if true content name bytes old it new p = (λ path. ap (λ (n : List Event). changes_at path n) p, ap output p)
went-if false content name bytes old it new p = has-file content name bytes old it new p

tape-went : (given : Option (String Global)) (tape : List ℕ) (old : List Event) (it : Unit {0}) (new : List Event) → WritesTape given tape old (Ok it) new → WentTo Tape (tape_place given) tape old new
tape-went None tape old it new p = (λ path. ap (λ (n : List Event). changes_at path n) p, ap output p)
tape-went (Some name) tape old it new p = went-if (is_standard name.bytes.items) Tape name.bytes.items tape old it new p

-- the listing that was made, if one is asked for
abbrev pub ListedAs : Bool → Bool → AssembleForm → List (Bor (List ℕ)) → Option (Vec ℕ) → Type 0
ListedAs true is form sources listing = IsPal8Listing is form.is_cross (options_of form) sources listing
ListedAs false is form sources listing = IsListing is form.is_cross sources listing

listing-went : (is_pal8 : Bool) (form : AssembleForm) (sources : List (Bor (List ℕ))) (list : Option (String Global)) (listing : Option (Vec ℕ)) (old : List Event) (it : Unit {0}) (new : List Event)
    → ListedAs is_pal8 (is_some list) form sources listing → WritesListing list listing old (Ok it) new → ListsTo is_pal8 form sources list old new
listing-went is_pal8 form sources None listing old it new has p = (λ path. ap (λ (n : List Event). changes_at path n) p.1, ap output p.1)
listing-went true form sources (Some name) None old it new has p = absurd has
listing-went false form sources (Some name) None old it new has p = absurd has
listing-went true form sources (Some name) (Some listing) old it new has p = (listing, has, went-if (is_standard name.bytes.items) Listing name.bytes.items listing.items old it new p)
listing-went false form sources (Some name) (Some listing) old it new has p = (listing, has, went-if (is_standard name.bytes.items) Listing name.bytes.items listing.items old it new p)

-- ## What sources come to

listed-as : (is_pal8 : Bool) (form : AssembleForm) (sources names : List (Bor (List ℕ))) (old : List Event) (made : Assembled) (new : List Event) → MakesIf is_pal8 form sources names old (Ok made) new
    → ListedAs is_pal8 (is_some form.list) form sources made.listing
listed-as true form sources names old made new (inl ends) = absurd ends
listed-as true form sources names old made new (inr it) = noted it.after
  where
    noted : Then (NotesIf form.has_notes (options_of form) sources names) (λ other. Purely (IsMade it.given)) it.between (Ok made) new → ListedAs true (is_some form.list) form sources made.listing
    noted (inl ends) = absurd ends
    noted (inr two) = subst (λ (m : Assembled). ListedAs true (is_some form.list) form sources m.listing) (sym two.after.0) it.done.1
listed-as false form sources names old made new p = p.1

-- the tape and the listing of texts
pub record IsMadeOf (form : AssembleForm) (texts : List (List ℕ)) (made : Assembled) (old new : List Event) : Type 0 where
  pub sources : List (Bor (List ℕ))
  pub lent : map (λ source. source.now) sources ≡ texts
  pub assembled : IsTapeIn form.is_pal8 form sources made.tape.items
  pub listed : ListedAs form.is_pal8 (is_some form.list) form sources made.listing
  pub quiet : DoesNothing old new

pub made-of : (form : AssembleForm) (texts : List (List ℕ)) (old : List Event) (made : Assembled) (new : List Event) → Makes form texts old (Ok made) new → IsMadeOf form texts made old new
made-of form texts old made new (inl ends) = absurd ends
made-of form texts old made new (inr it) = named it.after
  where
    named : Then (Purely (AreLent (map (λ name. name.bytes.items) form.sources.items))) (λ names. MakesIf form.is_pal8 form it.given.items names.items) it.between (Ok made) new → IsMadeOf form texts made old new
    named (inl ends) = absurd ends
    named (inr two) =
        let h = makes-if form.is_pal8 form it.given.items two.given.items two.between made new two.after in
        let stays : two.between ≡ old = two.done.1 ∙ it.done.1 in
        record {
          sources = it.given.items;
          lent = it.done.0;
          assembled = h.tape;
          listed = listed-as form.is_pal8 form it.given.items two.given.items two.between made new two.after;
          quiet = (λ path. h.quiet.files path ∙ ap (λ (n : List Event). changes_at path n) stays, h.quiet.prints ∙ ap output stays);
        }

-- ## The command

module _ (volume : Option (List ℕ)) (form : AssembleForm) (start old : List Event) (from : IsVolumeFor form.from volume start old) (opened : DoesNothing start old) where
  to-ends : (it : Unit {0}) (new : List Event) → AssemblesTo volume form old (Ok it) new → HasOutputs form start new
  to-ends it new (inl ends) = absurd ends
  to-ends it new (inr a) = listed a.done
    where
      written : (texts : Vec (Vec ℕ)) (read made begun : List Event) (m : Assembled) → ReadsEach volume [] (map (λ source. source.bytes.items) form.sources.items) old (Ok texts) read
          → IsMadeOf form (map (λ text. text.items) texts.items) m read made → DoesNothing made begun → Then (WritesListing form.list m.listing) (λ other. Purely (IsTapeOf m)) begun (Ok a.given) a.between → HasOutputs form start new
      written texts read made begun m reads s kept (inl ends) = absurd ends
      written texts read made begun m reads s kept (inr l) = record {
        sources = s.sources;
        read = read;
        are = record { volume = volume; opened = old; from = from; texts = texts; reads = reads; are = s.lent };
        tape = a.given;
        assembled = subst (λ (v : Vec ℕ). IsTapeIn form.is_pal8 form s.sources v.items) (sym l.after.0) s.assembled;
        begun = begun;
        quiet = nothing-joined start made begun (nothing-joined start read made (nothing-joined start old read opened
            (each-vain volume [] (map (λ source. source.bytes.items) form.sources.items) old (Ok texts) read reads)) s.quiet) kept;
        listed = l.between;
        lists = listing-went form.is_pal8 form s.sources form.list m.listing begun l.given l.between s.listed l.done;
        went = subst (λ (n : List Event). WentTo Tape (tape_place form.output) a.given.items n new) l.after.1 (tape-went form.output a.given.items a.between it new a.after);
      }

      kept : (texts : Vec (Vec ℕ)) (read made : List Event) (m : Assembled) → ReadsEach volume [] (map (λ source. source.bytes.items) form.sources.items) old (Ok texts) read
          → IsMadeOf form (map (λ text. text.items) texts.items) m read made
          → Then (KeepsInputs form) (λ other. Then (WritesListing form.list m.listing) (λ other. Purely (IsTapeOf m))) made (Ok a.given) a.between → HasOutputs form start new
      kept texts read made m reads s (inl ends) = absurd ends
      kept texts read made m reads s (inr k) = written texts read made k.between m reads s (inputs-vain form made (Ok k.given) k.between k.done) k.after

      assembled : (texts : Vec (Vec ℕ)) (read : List Event) → ReadsEach volume [] (map (λ source. source.bytes.items) form.sources.items) old (Ok texts) read
          → Then (Makes form (map (λ text. text.items) texts.items)) (λ m. Then (KeepsInputs form) (λ other. Then (WritesListing form.list m.listing) (λ other. Purely (IsTapeOf m)))) read (Ok a.given) a.between
          → HasOutputs form start new
      assembled texts read reads (inl ends) = absurd ends
      assembled texts read reads (inr m) = kept texts read m.between m.given reads (made-of form (map (λ text. text.items) texts.items) read m.given m.between m.done) m.after

      listed : ListsTape volume form old (Ok a.given) a.between → HasOutputs form start new
      listed (inl ends) = absurd ends
      listed (inr t) = assembled t.given t.between t.done t.after

all-ends : (form : AssembleForm) (from : Option ImageForm) → form.from ≡ from → form.onto ≡ None → (old : List Event) (it : Unit {0}) (new : List Event) → AssemblesAll form from old (Ok it) new → HasOutputs form old new
all-ends form None is onto old it new p = to-ends None form old old (subst (λ (f : Option ImageForm). IsVolumeFor f None old old) (sym is) (refl, refl)) (λ path. refl, refl) it new p
all-ends form (Some image) is onto old it new p = seen (subst (λ (o : Option (String Global)). AssemblesFrom form image o old (Ok it) new) onto p)
  where
    seen : AssemblesFrom form image None old (Ok it) new → HasOutputs form old new
    seen (inl ends) = absurd ends
    seen (inr l) = to-ends (Some l.given.items) form old l.between (subst (λ (f : Option ImageForm). IsVolumeFor f (Some l.given.items) old l.between) (sym is) (l.given, l.done, refl))
        (at-vain image old (Ok l.given) l.between l.done) it new l.after

pub outputs-end : (form : AssembleForm) (old : List Event) (it : Unit {0}) (new : List Event) → form.onto ≡ None → Assembles form old (Ok it) new → HasOutputs form old new
outputs-end form old it new onto (inl ends) = absurd ends
outputs-end form old it new onto (inr c) =
    all-ends form form.from refl onto old it new (subst (λ (n : List Event). AssemblesAll form form.from n (Ok it) new) c.done.1 c.after)

-- ## The status 0

abbrev IsBusyNow : Result (Unit {0}) Ending → Type 0
IsBusyNow result = result ≡ Err (Busy Held)

told-none : (name : List ℕ) (it : Unit {0}) (old new : List Event) → TellsBusy name (Ok it) old new → new ≡ old
told-none name it old new (inl p) = p.1
told-none name it old new (inr p) = absurd (not-busy it p.0)
  where
    not-busy : (it : Unit {0}) → IsBusyNow (Ok it) → ⊥
    not-busy it is = cc

well-of : (work : Result (Unit {0}) Ending) → 0 ≡ status_of work → IsDone work
well-of (Ok it) is = tt
well-of (Err (Line it)) is = absurd (omega (arith, is))
well-of (Err (Fault it)) is = absurd (omega (arith, is))
well-of (Err Failure) is = absurd (omega (arith, is))
well-of (Err (Busy it)) is = absurd (omega (arith, is))
well-of (Err (NotWritten it left)) is = absurd (omega (arith, is))
well-of (Err FullOutput) is = absurd (omega (arith, is))
well-of (Err Unreported) is = absurd (omega (arith, is))
well-of (Err NoReader) is = absurd (omega (arith, is))
well-of (Err Misuse) is = absurd (omega (arith, is))

-- whatever the command puts on standard output
pub zero-well : (work : Result (Unit {0}) Ending) (old new : List Event) → EndsWith work 0 old new → IsDone work
zero-well work old new (inl is) = well-of work is
zero-well work old new (inr (lost, inl is)) = absurd (omega (arith, is))
zero-well work old new (inr (lost, inr (so, is))) = absurd (omega (arith, is))

module _ (form : AssembleForm) (is_typed : Bool) (input : Reading) (from : form.from ≡ None) (onto : form.onto ≡ None) where
  tried-once : (it : Unit {0}) (old between new : List Event) → Within 0 (file_for form.from) (Assembles form) old (Ok it) between → ChangesNothing between new → HasLeft (HasOutputs form) old new
  tried-once it old between new w same = (
    w.after,
    outputs-end form old it w.after onto (once (file_for form.from) (Assembles form) old (Ok it) between w),
    λ path. same path ∙ ap (λ (n : List Event). changes_at path n) (told-none (file_for form.from) it w.after between w.told),
  )

  of-work : (work : Result (Unit {0}) Ending) (old between new : List Event) → Within (seconds_for form.from) (file_for form.from) (Assembles form) old work between → IsDone work → ChangesNothing between new
      → HasLeft (HasOutputs form) old new
  of-work (Ok it) old between new w done same = tried-once it old between new (subst (λ (n : ℕ). Within n (file_for form.from) (Assembles form) old (Ok it) between) (ap seconds_for from) w) same
  of-work (Err ending) old between new w done same = absurd done

  pub zero-outputs : (old new : List Event) → RunsTask (task.Assemble form) is_typed input old new 0 → HasLeft (HasOutputs form) old new
  zero-outputs old new (inl r) =
      let is_data = gives_data (task.Assemble form) in
      of-work r.work old r.between new r.does (zero-well r.work r.between new (end-with is_data r.notes r.work r.between new 0 r.ends).0) (ends-so is_data r.notes r.work r.between new 0 r.ends)
  zero-outputs old new (inr e) = absurd (zero-well (Err (Fault Memory)) old new (end-with (gives_data (task.Assemble form)) None (Err (Fault Memory)) old new 0 e).0)

-- the same of any task that is tried once
pub zero-left : (it : Task) (is_typed : Bool) (input : Reading) (done : List Event → List Event → Type 0) → ((old new : List Event) → DoesTask it is_typed input old (Ok tt) new → done old new) → (old new : List Event)
    → RunsTask it is_typed input old new 0 → HasLeft done old new
zero-left it is_typed input done gives old new (inl r) =
    of r.work r.does (zero-well r.work r.between new (end-with (gives_data it) r.notes r.work r.between new 0 r.ends).0) (ends-so (gives_data it) r.notes r.work r.between new 0 r.ends)
  where
    of : (work : Result (Unit {0}) Ending) → DoesTask it is_typed input old work r.between → IsDone work → ChangesNothing r.between new → HasLeft done old new
    of (Ok nothing) does well same = (r.between, gives old r.between does, same)
    of (Err ending) does well same = absurd well
zero-left it is_typed input done gives old new (inr e) = absurd (zero-well (Err (Fault Memory)) old new (end-with (gives_data it) None (Err (Fault Memory)) old new 0 e).0)

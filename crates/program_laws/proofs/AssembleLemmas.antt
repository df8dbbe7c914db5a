-- A tape that is stored on the volume that has its sources.
use Rattle.std.proofs.Common.{◌≡◌, ◌∙◌, ℕ, Bool, true, false, is_some, Option, None, Some, String, Result, Ok, Err, List, [], ◌∷◌, ◌++◌, ap, refl, sym, subst, inl, inr, length, map, append_assoc}
use Rattle.std.specs.Borrow.{Bor}
use Rattle.std.specs.Global.{Vec, Global}
use Rattle.hosts.specs.Event.{Event, look_call, tell_call}
use Rattle.hosts.specs.Streams.{output, read}
use Rattle.archive_files.specs.declared.forms.GetForm.TheVariants.{Text}
use Rattle.archive_files.specs.declared.forms.PutForm.TheVariants.{Frames}
use Rattle.host_sources.specs.declared.faults.SourceFault as pal3_fault
use Rattle.host_sources.specs.declared.faults.SourceFault.TheVariants as pal3_is
use Rattle.pal8_places.specs.declared.options.Options.{Options}
use Rattle.pal8_listing.specs.NotesTexts.{notes_text}
use Rattle.pal8_tape.specs.declared.faults.SourceFault as pal8_fault
use Rattle.pal8_tape.specs.declared.faults.SourceFault.TheVariants as pal8_is
use Rattle.archive_files.specs.Asking.{Target, OfName, target_of}
use Rattle.archive_files.specs.Getting.{Gets}
use Rattle.archive_files.specs.Putting.{PutsFile}
use Rattle.archive_files.specs.declared.putting.NewImage.{NewImage}
use Rattle.outcome.specs.Notes.{name_text}
use Rattle.outcome.specs.declared.endings.Ending.{Ending}
use Rattle.outcome.specs.declared.notes.NameNote.{NameNote}
use Rattle.outcome.specs.declared.notes.NameNote.TheVariants.{NoSource}
use Rattle.program_tasks.specs.declared.forms.ImageForm.{ImageForm}
use Rattle.program_tasks.specs.declared.tasks.AssembleForm.{AssembleForm}
use Rattle.image_files.specs.Answers.{Answers, AreLines}
use Rattle.image_files.specs.Ending.{TellsLine}
use Rattle.image_files.specs.Laws.{is_refusal}
use Rattle.image_files.specs.Saving.{IsDone, Stores}
use Rattle.image_files.specs.Stored.{stored_line}
use Rattle.image_files.specs.Work.{Then, Purely}
use Rattle.image_files.specs.declared.images.Image.{Image}
use Rattle.assemble_commands.specs.Assembling.{Assembles, AssemblesAll, AssemblesFrom, AssemblesOnto, IsMade, IsTapeOf, ListsTape, Makes, MakesIf, MakesPal8, NotesIf, PrintsFaults, RefusesPal8, RefusesSources, TellsAny, options_of}
use Rattle.assemble_commands.specs.Clashes.{IsRefused, clash_of}
use Rattle.assemble_commands.specs.Faults.{faults_text, pal8_faults_text}
use Rattle.assemble_commands.specs.Outputs.{PutsTape, WritesListing}
use Rattle.assemble_commands.specs.Places.{KeepsInputs, KeepsListing, KeepsTape, tape_of}
use Rattle.assemble_commands.specs.Sources.{AreLent, GetsText, IsAsked, IsText, ReadsEach, ReadsMember, ReadsSource, source_text}
use Rattle.assemble_commands.specs.declared.assembling.Assembled.{Assembled}
use Rattle.keeper_laws.specs.Changed.{GetsVolume}
use Rattle.keeper_laws.specs.Ended.{DoesNothing, EndsAs}
use Rattle.keeper_laws.proofs.OpenLemmas.{FindsSaved, FindsUnsaved, IsQuiet, StaysQuiet, after-note, quiet-then, still}
use Rattle.keeper_laws.proofs.RefuseLemmas.{ends-so}
use Rattle.keeper_laws.proofs.PrepareLemmas.{Prepares, Rejects, answers-reject, noted, nothing, nothing-then, prepared-ends, prepares-store, prepares-then, quiet-on, refuses-rejected, rejected-ends, then-rejects}
use Rattle.program_laws.specs.Assembled.{AreTextsOf, HasAssembled, IsTapeIn}

-- ## Words that clash

pub clash-rejected : (clash : Option (NameNote × List ℕ)) (old : List Event) (ending : Ending) (new : List Event) → IsRefused clash old ending new → (is_refusal ending ≡ true) × DoesNothing old new
clash-rejected None old ending new p = absurd p
clash-rejected (Some clash) old ending new (inl (is, ok, p)) = (ends-so ending _ is refl, noted ok (name_text clash.0 clash.1) old new p)
clash-rejected (Some clash) old ending new (inr p) = (ends-so ending _ p.0 refl, nothing old new p.1)

-- ## The sources

pub text-rejects : (image name : List ℕ) (wanted : Target) → Rejects (GetsText image name wanted)
text-rejects image name wanted old ending new (fault, gets, inl (ok, p)) =
    let r = refuses-rejected fault (length image) (tell_call ok (name_text NoSource name) ∷ old) ending new p in
    (r.0, nothing-then old (tell_call ok (name_text NoSource name) ∷ old) new (noted ok (name_text NoSource name) old (tell_call ok (name_text NoSource name) ∷ old) refl) r.1)
text-rejects image name wanted old ending new (fault, gets, inr p) = (ends-so ending _ p.0 refl, nothing old new p.1)

asked-rejects : (name : List ℕ) → Rejects (Purely (IsAsked name))
asked-rejects name old ending new p = (ends-so ending _ p.0 refl, nothing old new p.1)

member-rejects : (image name : List ℕ) → Rejects (ReadsMember image name)
member-rejects image name = then-rejects (Purely (IsAsked name)) (λ asked. GetsText image name (target_of asked)) (asked-rejects name) (λ old asked new p. nothing old new p.1)
    (λ asked. text-rejects image name (target_of asked))

-- the text of a source
record HasText (image name : List ℕ) (text : List ℕ) (old new : List Event) : Type 0 where
  found : Vec ℕ
  gets : Gets image (OfName name) Text (Ok found)
  is : text ≡ found.items
  stays : new ≡ old

has-member : (image name : List ℕ) (old : List Event) (text : Vec ℕ) (new : List Event) → ReadsMember image name old (Ok text) new → HasText image name text.items old new
has-member image name old text new (inl ends) = absurd ends
has-member image name old text new (inr it) = record {
  found = text;
  gets = subst (λ (t : Target). Gets image t Text (Ok text)) it.done.0 it.after.0;
  is = refl;
  stays = it.after.1 ∙ it.done.1;
}

kept-rejects : (text : List ℕ) → Rejects (Purely (IsText text))
kept-rejects text old ending new p = (ends-so ending _ p.0 refl, nothing old new p.1)

source-rejects : (image name : List ℕ) → Rejects (ReadsSource (Some image) name)
source-rejects image name = then-rejects (ReadsMember image name) (λ bytes. Purely (IsText (source_text (Some image) bytes.items))) (member-rejects image name)
    (λ old bytes new p. nothing old new (has-member image name old bytes new p).stays) (λ bytes. kept-rejects (source_text (Some image) bytes.items))

has-text : (image name : List ℕ) (old : List Event) (text : Vec ℕ) (new : List Event) → ReadsSource (Some image) name old (Ok text) new → HasText image name text.items old new
has-text image name old text new (inl ends) = absurd ends
has-text image name old text new (inr it) =
    let m = has-member image name old it.given it.between it.done in
    record { found = m.found; gets = m.gets; is = it.after.0 ∙ m.is; stays = it.after.1 ∙ m.stays }

each-rejects : (image : List ℕ) (texts : List (Vec ℕ)) (names : List (List ℕ)) → Rejects (ReadsEach (Some image) texts names)
each-rejects image texts [] old ending new p = absurd p.0
each-rejects image texts (name ∷ names) old ending new p = then-rejects (ReadsSource (Some image) name) (λ text. ReadsEach (Some image) (texts ++ text ∷ []) names) (source-rejects image name)
    (λ old text new p. nothing old new (has-text image name old text new p).stays) (λ text. each-rejects image (texts ++ text ∷ []) names) old ending new p

-- the texts of more sources
record HasTexts (image : List ℕ) (texts : List (Vec ℕ)) (names : List (List ℕ)) (all : List (Vec ℕ)) (old new : List Event) : Type 0 where
  more : List (Vec ℕ)
  are : all ≡ texts ++ more
  of_names : AreTextsOf image names (map (λ text. text.items) more)
  stays : new ≡ old

none-more : (texts : List (Vec ℕ)) → texts ++ [] ≡ texts
none-more [] = refl
none-more (text ∷ texts) = ap (λ (l : List (Vec ℕ)). text ∷ l) (none-more texts)

has-texts : (image : List ℕ) (texts : List (Vec ℕ)) (names : List (List ℕ)) (old : List Event) (all : Vec (Vec ℕ)) (new : List Event) → ReadsEach (Some image) texts names old (Ok all) new → HasTexts image texts names all.items old new
has-texts image texts [] old all new p = record { more = []; are = p.0 ∙ sym (none-more texts); of_names = tt; stays = p.1 }
has-texts image texts (name ∷ names) old all new (inl ends) = absurd ends
has-texts image texts (name ∷ names) old all new (inr it) =
    let one = has-text image name old it.given it.between it.done in
    let rest = has-texts image (texts ++ it.given ∷ []) names it.between all new it.after in
    record {
      more = it.given ∷ rest.more;
      are = rest.are ∙ append_assoc texts (it.given ∷ []) rest.more;
      of_names = ((one.found, one.gets, one.is), rest.of_names);
      stays = rest.stays ∙ one.stays;
    }

-- ## What they come to

line-quiet : (line : List ℕ) (old new : List Event) → TellsLine line old new → IsQuiet [] old new
line-quiet line old new (inl (utf8, ok, p)) = after-note ok line old new p
line-quiet line old new (inr (not_utf8, p)) = still old new p

faults-rejected : (text : List ℕ) (old : List Event) (ending : Ending) (new : List Event) → PrintsFaults text old ending new → (is_refusal ending ≡ true) × DoesNothing old new
faults-rejected text old ending new (inl (is, p)) = let q = line-quiet text old new p in (ends-so ending _ is refl, (λ path. q.files path, q.prints))
faults-rejected text old ending new (inr p) = (ends-so ending _ p.0 refl, nothing old new p.1)

sources-rejected : (sources names : List (Bor (List ℕ))) (fault : pal3_fault.SourceFault) (old : List Event) (ending : Ending) (new : List Event) → RefusesSources sources names fault old ending new → (is_refusal ending ≡ true) × DoesNothing old new
sources-rejected sources names (pal3_is.At fault) old ending new p = faults-rejected (faults_text sources names fault) old ending new p
sources-rejected sources names pal3_is.Memory old ending new p = (ends-so ending _ p.0 refl, nothing old new p.1)

pal8-rejected : (options : Options) (sources names : List (Bor (List ℕ))) (fault : pal8_fault.SourceFault) (old : List Event) (ending : Ending) (new : List Event) → RefusesPal8 options sources names fault old ending new → (is_refusal ending ≡ true) × DoesNothing old new
pal8-rejected options sources names (pal8_is.At fault) old ending new p = faults-rejected (pal8_faults_text options sources names fault) old ending new p
pal8-rejected options sources names pal8_is.Memory old ending new p = (ends-so ending _ p.0 refl, nothing old new p.1)

pal8-rejects : (is_listed is_cross : Bool) (options : Options) (sources names : List (Bor (List ℕ))) → Rejects (MakesPal8 is_listed is_cross options sources names)
pal8-rejects is_listed is_cross options sources names old ending new (fault, told, p) = pal8-rejected options sources names fault old ending new p

any-quiet : (lines : List ℕ) (old new : List Event) → TellsAny lines old new → IsQuiet [] old new
any-quiet [] old new p = still old new p
any-quiet (b ∷ lines) old new p = line-quiet (b ∷ lines) old new p

notes-quiet : (is : Bool) (options : Options) (sources names : List (Bor (List ℕ))) → StaysQuiet (NotesIf is options sources names)
notes-quiet true options sources names old it new p = any-quiet (notes_text options sources names) old new p
notes-quiet false options sources names old it new p = still old new p.1

notes-reject : (is : Bool) (options : Options) (sources names : List (Bor (List ℕ))) → Rejects (NotesIf is options sources names)
notes-reject true options sources names old ending new p = (ends-so ending _ p.0 refl, nothing old new p.1)
notes-reject false options sources names old ending new p = absurd p.0

made-rejects : (made : Assembled) → Rejects (Purely (IsMade made))
made-rejects made old ending new p = absurd p.0

-- the tape of sources, and what was printed on standard error
pub record HasTape (is_pal8 : Bool) (form : AssembleForm) (sources : List (Bor (List ℕ))) (made : Assembled) (old new : List Event) : Type 0 where
  pub tape : IsTapeIn is_pal8 form sources made.tape.items
  pub quiet : IsQuiet [] old new

pub makes-if : (is_pal8 : Bool) (form : AssembleForm) (sources names : List (Bor (List ℕ))) (old : List Event) (made : Assembled) (new : List Event) → MakesIf is_pal8 form sources names old (Ok made) new → HasTape is_pal8 form sources made old new
makes-if true form sources names old made new (inl ends) = absurd ends
makes-if true form sources names old made new (inr it) = noted-then it.after
  where
    noted-then : Then (NotesIf form.has_notes (options_of form) sources names) (λ other. Purely (IsMade it.given)) it.between (Ok made) new → HasTape true form sources made old new
    noted-then (inl ends) = absurd ends
    noted-then (inr two) = record {
      tape = subst (λ (m : Assembled). IsTapeIn true form sources m.tape.items) (sym two.after.0) it.done.0;
      quiet = quiet-then [] [] old it.between new (still old it.between it.done.2)
          (quiet-then [] [] it.between two.between new (notes-quiet form.has_notes (options_of form) sources names it.between two.given two.between two.done) (still two.between new two.after.1));
    }
makes-if false form sources names old made new p = record { tape = p.0; quiet = still old new p.2 }

if-rejects : (is_pal8 : Bool) (form : AssembleForm) (sources names : List (Bor (List ℕ))) → Rejects (MakesIf is_pal8 form sources names)
if-rejects true form sources names old ending new p =
    then-rejects (MakesPal8 (is_some form.list) form.is_cross (options_of form) sources names) (λ made. Then (NotesIf form.has_notes (options_of form) sources names) (λ it. Purely (IsMade made)))
    (pal8-rejects (is_some form.list) form.is_cross (options_of form) sources names) (λ old made new p. nothing old new p.2)
    (λ made. then-rejects (NotesIf form.has_notes (options_of form) sources names) (λ it. Purely (IsMade made)) (notes-reject form.has_notes (options_of form) sources names)
    (quiet-on (NotesIf form.has_notes (options_of form) sources names) (notes-quiet form.has_notes (options_of form) sources names)) (λ it. made-rejects made)) old ending new p
if-rejects false form sources names old ending new (fault, told, p) = sources-rejected sources names fault old ending new p

lent-rejects : (texts : List (List ℕ)) → Rejects (Purely (AreLent texts))
lent-rejects texts old ending new p = (ends-so ending _ p.0 refl, nothing old new p.1)

-- the sources of texts, and their tape
record HasSources (form : AssembleForm) (texts : List (List ℕ)) (tape : List ℕ) : Type 0 where
  sources : List (Bor (List ℕ))
  lent : map (λ source. source.now) sources ≡ texts
  assembled : IsTapeIn form.is_pal8 form sources tape

has-sources : (form : AssembleForm) (texts : List (List ℕ)) (old : List Event) (made : Assembled) (new : List Event) → Makes form texts old (Ok made) new → HasSources form texts made.tape.items × IsQuiet [] old new
has-sources form texts old made new (inl ends) = absurd ends
has-sources form texts old made new (inr it) = named it.after
  where
    named : Then (Purely (AreLent (map (λ name. name.bytes.items) form.sources.items))) (λ names. MakesIf form.is_pal8 form it.given.items names.items) it.between (Ok made) new → HasSources form texts made.tape.items × IsQuiet [] old new
    named (inl ends) = absurd ends
    named (inr two) =
        let h = makes-if form.is_pal8 form it.given.items two.given.items two.between made new two.after in (
          record { sources = it.given.items; lent = it.done.0; assembled = h.tape },
          quiet-then [] [] old two.between new (still old two.between (two.done.1 ∙ it.done.1)) h.quiet,
        )

pub makes-reject : (form : AssembleForm) (texts : List (List ℕ)) → Rejects (Makes form texts)
makes-reject form texts = then-rejects (Purely (AreLent texts)) (λ sources. Then (Purely (AreLent (map (λ name. name.bytes.items) form.sources.items))) (λ names. MakesIf form.is_pal8 form sources.items names.items))
    (lent-rejects texts) (λ old sources new p. nothing old new p.1)
    (λ sources. then-rejects (Purely (AreLent (map (λ name. name.bytes.items) form.sources.items))) (λ names. MakesIf form.is_pal8 form sources.items names.items)
    (lent-rejects (map (λ name. name.bytes.items) form.sources.items)) (λ old names new p. nothing old new p.1) (λ names. if-rejects form.is_pal8 form sources.items names.items))

-- ## No other output

abbrev Same : Option (String Global) → Option (String Global) → Type 0
Same one other = one ≡ other

some-none : (name : String Global) → Same (Some name) None → ⊥
some-none name is = cc

listing-done : (form : AssembleForm) (list : Option (String Global)) → Same list None → (old : List Event) (result : Result (Unit {0}) Ending) (new : List Event) → KeepsListing form list old result new → IsDone result × (new ≡ old)
listing-done form None is old result new p = p
listing-done form (Some name) is old result new p = absurd (some-none name is)

tape-done : (form : AssembleForm) (onto : Option (String Global)) (name : String Global) → Same onto (Some name) → (old : List Event) (result : Result (Unit {0}) Ending) (new : List Event) → KeepsTape form (tape_of onto form.output) old result new
    → IsDone result × (new ≡ old)
tape-done form (Some other) name is old result new p = p
tape-done form None name is old result new p = absurd (some-none name (sym is))

written-done : (list : Option (String Global)) (listing : Option (Vec ℕ)) → Same list None → (old : List Event) (result : Result (Unit {0}) Ending) (new : List Event) → WritesListing list listing old result new → IsDone result × (new ≡ old)
written-done None listing is old result new p = p
written-done (Some name) listing is old result new p = absurd (some-none name is)

module _ (saves : FindsSaved) (stays : FindsUnsaved) (form : AssembleForm) (named : ImageForm) (name : String Global) (from_is : form.from ≡ Some named) (onto_is : Same form.onto (Some name)) (list_is : Same form.list None)
  where
    inputs-reject : Rejects (KeepsInputs form)
    inputs-reject old ending new (inl ends) = absurd (listing-done form form.list list_is old (Err ending) new ends).0
    inputs-reject old ending new (inr it) = absurd (tape-done form form.onto name onto_is it.between (Err ending) new it.after).0

    inputs-still : (old : List Event) (it : Unit {0}) (new : List Event) → KeepsInputs form old (Ok it) new → new ≡ old
    inputs-still old it new (inl ends) = absurd ends
    inputs-still old it new (inr two) = (tape-done form form.onto name onto_is two.between (Ok it) new two.after).1 ∙ (listing-done form form.list list_is old (Ok two.given) two.between two.done).1

    listing-rejects : (made : Assembled) → Rejects (WritesListing form.list made.listing)
    listing-rejects made old ending new p = absurd (written-done form.list made.listing list_is old (Err ending) new p).0

    tape-rejects : (made : Assembled) → Rejects (Purely (IsTapeOf made))
    tape-rejects made old ending new p = absurd p.0

    -- the sources on the volume, and their tape
    record HasListed (image : List ℕ) (tape : List ℕ) : Type 0 where
      sources : List (Bor (List ℕ))
      are : AreTextsOf image (map (λ source. source.bytes.items) form.sources.items) (map (λ source. source.now) sources)
      assembled : IsTapeIn form.is_pal8 form sources tape

    lists-reject : (image : List ℕ) → Rejects (ListsTape (Some image) form)
    lists-reject image = then-rejects (ReadsEach (Some image) [] (map (λ source. source.bytes.items) form.sources.items))
        (λ texts. Then (Makes form (map (λ text. text.items) texts.items)) (λ made. Then (KeepsInputs form) (λ it. Then (WritesListing form.list made.listing) (λ it. Purely (IsTapeOf made)))))
        (each-rejects image [] (map (λ source. source.bytes.items) form.sources.items))
        (λ old texts new p. nothing old new (has-texts image [] (map (λ source. source.bytes.items) form.sources.items) old texts new p).stays)
        (λ texts. then-rejects (Makes form (map (λ text. text.items) texts.items)) (λ made. Then (KeepsInputs form) (λ it. Then (WritesListing form.list made.listing) (λ it. Purely (IsTapeOf made))))
        (makes-reject form (map (λ text. text.items) texts.items))
        (λ old made new p. let h = has-sources form (map (λ text. text.items) texts.items) old made new p in (λ path. h.1.files path, h.1.prints))
        (λ made. then-rejects (KeepsInputs form) (λ it. Then (WritesListing form.list made.listing) (λ it. Purely (IsTapeOf made))) inputs-reject
        (λ old it new p. nothing old new (inputs-still old it new p))
        (λ it. then-rejects (WritesListing form.list made.listing) (λ it. Purely (IsTapeOf made)) (listing-rejects made)
        (λ old it new p. nothing old new (written-done form.list made.listing list_is old (Ok it) new p).1) (λ it. tape-rejects made))))

    has-listed : (image : List ℕ) (old : List Event) (tape : Vec ℕ) (new : List Event) → ListsTape (Some image) form old (Ok tape) new → HasListed image tape.items × IsQuiet [] old new
    has-listed image old tape new (inl ends) = absurd ends
    has-listed image old tape new (inr it) = made it.after
      where
        texts : HasTexts image [] (map (λ source. source.bytes.items) form.sources.items) it.given.items old it.between
        texts = has-texts image [] (map (λ source. source.bytes.items) form.sources.items) old it.given it.between it.done

        written : (m : Assembled) (two three : List Event) → HasSources form (map (λ text. text.items) it.given.items) m.tape.items → IsQuiet [] it.between two → three ≡ two
            → Then (WritesListing form.list m.listing) (λ other. Purely (IsTapeOf m)) three (Ok tape) new → HasListed image tape.items × IsQuiet [] old new
        written m two three s quiet same (inl ends) = absurd ends
        written m two three s quiet same (inr l) = (
          record {
            sources = s.sources;
            are = subst (λ (t : List (List ℕ)). AreTextsOf image (map (λ source. source.bytes.items) form.sources.items) t) (sym s.lent)
                (subst (λ (l : List (Vec ℕ)). AreTextsOf image (map (λ source. source.bytes.items) form.sources.items) (map (λ text. text.items) l)) (sym texts.are) texts.of_names);
            assembled = subst (λ (v : Vec ℕ). IsTapeIn form.is_pal8 form s.sources v.items) (sym l.after.0) s.assembled;
          },
          quiet-then [] [] old it.between new (still old it.between texts.stays) (quiet-then [] [] it.between two new quiet
              (still two new (l.after.1 ∙ (written-done form.list m.listing list_is three (Ok l.given) l.between l.done).1 ∙ same))),
        )

        kept : (m : Assembled) (two : List Event) → HasSources form (map (λ text. text.items) it.given.items) m.tape.items → IsQuiet [] it.between two
            → Then (KeepsInputs form) (λ other. Then (WritesListing form.list m.listing) (λ other. Purely (IsTapeOf m))) two (Ok tape) new → HasListed image tape.items × IsQuiet [] old new
        kept m two s quiet (inl ends) = absurd ends
        kept m two s quiet (inr k) = written m two k.between s quiet (inputs-still two k.given k.between k.done) k.after

        made : Then (Makes form (map (λ text. text.items) it.given.items)) (λ m. Then (KeepsInputs form) (λ other. Then (WritesListing form.list m.listing) (λ other. Purely (IsTapeOf m)))) it.between (Ok tape) new
            → HasListed image tape.items × IsQuiet [] old new
        made (inl ends) = absurd ends
        made (inr m) = let h = has-sources form (map (λ text. text.items) it.given.items) it.between m.given m.between m.done in kept m.given m.between h.0 h.1 m.after

    -- the volume with the tape
    record Put (image : Image) (calls : List Event) (bytes lines : List ℕ) : Type 0 where
      calls_are : calls ≡ []
      tape : Vec ℕ
      listed : HasListed image.bytes.items tape.items
      stored : NewImage
      puts : PutsFile image.bytes.items name.bytes.items Frames tape.items None (Ok stored)
      bytes_are : bytes ≡ stored.bytes.items
      lines_are : lines ≡ stored_line stored

    put-prepares : (image : Image) → Prepares image (Put image) (Then (ListsTape (Some image.bytes.items) form) (λ tape. PutsTape name.bytes.items tape.items image))
    put-prepares image = prepares-then image (Put image) (ListsTape (Some image.bytes.items) form) (λ tape. PutsTape name.bytes.items tape.items image)
        (λ tape. []) (λ tape. HasListed image.bytes.items tape.items) (lists-reject image.bytes.items) (λ old tape new p. has-listed image.bytes.items old tape new p)
        (λ tape listed. prepares-then image (λ calls bytes lines. Put image (calls ++ []) bytes lines)
        (Answers (PutsFile image.bytes.items name.bytes.items Frames tape.items None) (length image.bytes.items)) (λ made. Then (Purely (AreLines (stored_line made))) (λ line. Stores image made.bytes.items line.items))
        (λ made. []) (λ made. PutsFile image.bytes.items name.bytes.items Frames tape.items None (Ok made))
        (answers-reject (PutsFile image.bytes.items name.bytes.items Frames tape.items None) (length image.bytes.items)) (λ old made new p. (p.0, still old new p.1))
        (λ made puts. prepares-store image (λ calls bytes lines. Put image ((calls ++ []) ++ []) bytes lines) made.bytes.items (stored_line made)
        (record { calls_are = refl; tape = tape; listed = listed; stored = made; puts = puts; bytes_are = refl; lines_are = refl })))

    onto-ends : (old : List Event) (result : Result (Unit {0}) Ending) (new : List Event) → AssemblesOnto form named name.bytes.items old result new → EndsAs named (HasAssembled form named name.bytes.items) result old new
    onto-ends old result new p =
        prepared-ends saves stays named (λ image. Then (ListsTape (Some image.bytes.items) form) (λ tape. PutsTape name.bytes.items tape.items image)) Put (HasAssembled form named name.bytes.items) put-prepares old result new
        (λ ok image path was opened calls bytes lines p has reads prints. record {
          image = image;
          path = path;
          was = was;
          opened = opened;
          reads = subst (λ (c : List Event). read new ≡ c ++ (look_call path was ∷ read old)) p.calls_are reads;
          sources = p.listed.sources;
          are = p.listed.are;
          tape = p.tape;
          assembled = p.listed.assembled;
          stored = p.stored;
          puts = p.puts;
          has = subst (λ (b : List ℕ). GetsVolume named image path was b old new) p.bytes_are has;
          prints = subst (λ (l : List ℕ). output new ≡ (ok, l) ∷ output old) p.lines_are prints;
        }) p

    -- what each ending means of an assembly to a file of a volume
    pub assemble-ends : (old : List Event) (result : Result (Unit {0}) Ending) (new : List Event) → Assembles form old result new → EndsAs named (HasAssembled form named name.bytes.items) result old new
    assemble-ends old (Ok it) new (inl ends) = absurd ends
    assemble-ends old (Err ending) new (inl ends) = rejected-ends named (HasAssembled form named name.bytes.items) old ending new (clash-rejected (clash_of form) old ending new ends)
    assemble-ends old result new (inr it) = onto-ends old result new
        (subst (λ (n : List Event). AssemblesOnto form named name.bytes.items n result new) it.done.1
        (subst (λ (o : Option (String Global)). AssemblesFrom form named o it.between result new) onto_is
        (subst (λ (f : Option ImageForm). AssemblesAll form f it.between result new) from_is it.after)))

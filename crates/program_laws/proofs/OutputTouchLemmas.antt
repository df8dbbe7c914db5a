-- Which files assembling touches.
use Rattle.std.proofs.Common.{◌≡◌, ◌∙◌, ℕ, Bool, true, false, Option, None, Some, String, Result, Ok, Err, List, [], ap, refl, subst, inl, inr, length, map}
use Rattle.std.specs.Global.{Vec, Global}
use Rattle.std.specs.Str.{bytes_eq}
use Rattle.hosts.specs.Event.{Event}
use Rattle.hosts.specs.Streams.{path_of_name, changes_at}
use Rattle.hosts.specs.declared.faults.Unwritten.TheVariants.{AsItWas, InPart}
use Rattle.archive_files.specs.declared.forms.PutForm.TheVariants.{Frames}
use Rattle.archive_files.specs.Putting.{PutsFile}
use Rattle.image_kind.specs.Keeping.{keeps_kind}
use Rattle.image_kind.specs.declared.judging.Judgment.{Judgment}
use Rattle.outcome.specs.declared.contents.Content.{Content}
use Rattle.outcome.specs.declared.contents.Content.TheVariants.{Image as ForImage, Tape, Listing}
use Rattle.outcome.specs.declared.endings.Ending.{Ending}
use Rattle.outcome.specs.declared.endings.Ending.TheVariants.{Line, Fault, Failure, Busy, NotWritten, FullOutput, Unreported, NoReader, Misuse}
use Rattle.outcome.specs.declared.reasons.Reason.TheVariants as reason
use Rattle.program_tasks.specs.declared.forms.ImageForm.{ImageForm}
use Rattle.program_tasks.specs.declared.tasks.AssembleForm.{AssembleForm}
use Rattle.image_files.specs.Answers.{Answers, AreLines}
use Rattle.image_files.specs.Laws.{ChangesNothing, KeepsFiles}
use Rattle.image_files.specs.Making.{MakesBy, MakesFile, ending_of_file}
use Rattle.image_files.specs.Reading.{hold_calls, with_lock_note}
use Rattle.image_files.specs.Reasons.{TellsUnheld, is_untold}
use Rattle.image_files.specs.Saving.{Reports, SavesIf, Stores, Writes, WritesIf as WritesKept}
use Rattle.image_files.specs.Stored.{stored_line}
use Rattle.image_files.specs.Work.{Then, Purely}
use Rattle.image_files.specs.declared.images.Image.{Image}
use Rattle.image_files.proofs.KeepLemmas.{prints-keeps, purely-keeps}
use Rattle.image_files.proofs.LeaveLemmas.{answers-never}
use Rattle.image_files.proofs.ReasonLemmas.{reason-keeps, unless-keeps}
use Rattle.assemble_commands.specs.Assembling.{Assembles, AssemblesAll, AssemblesFrom, AssemblesOnto, AssemblesTo, IsTapeOf, ListsTape, Makes}
use Rattle.assemble_commands.specs.Clashes.{name_given, tape_place}
use Rattle.assemble_commands.specs.Outputs.{PutsTape, WritesIf, WritesListing, WritesTape}
use Rattle.assemble_commands.specs.Places.{KeepsInputs}
use Rattle.assemble_commands.specs.Sources.{ReadsEach, is_standard}
use Rattle.keeper_laws.specs.Changed.{ChangesNoOther}
use Rattle.keeper_laws.specs.Ended.{TouchesOne}
use Rattle.keeper_laws.proofs.AloneLemmas.{alone-after, alone-before, alone-none, alone-only}
use Rattle.program_laws.specs.Outputs.{TouchesAt, TouchesIf, TouchesOutputs}
use Rattle.program_laws.proofs.AssembleLemmas.{makes-reject}
use Rattle.program_laws.proofs.OutputLemmas.{made-of}
use Rattle.program_laws.proofs.SourceLemmas.{IsVain, at-vain, clash-vain, each-vain, inputs-vain, opens-vain, purely-vain}

-- ## One file

pub writes-alone : (content : Content) (path name file : List ℕ) (old : List Event) (result : Result (Unit {0}) Ending) (new : List Event) → Writes content path name file old result new → ChangesNoOther path old new
writes-alone content path name file old (Ok it) new p = alone-only path old new p.only
writes-alone content path name file old (Err (NotWritten it AsItWas)) new (is, fault, between, p, tells) =
    alone-before path old between new (reason-keeps (reason.Fault fault) name between new tells) (alone-only path old between p.only)
writes-alone content path name file old (Err (NotWritten it InPart)) new (is, fault, between, p, tells) =
    alone-before path old between new (reason-keeps (reason.Fault fault) name between new tells) (alone-only path old between p.only)
writes-alone content path name file old (Err (Line it)) new p = absurd p
writes-alone content path name file old (Err (Fault it)) new p = absurd p
writes-alone content path name file old (Err Failure) new p = absurd p
writes-alone content path name file old (Err (Busy it)) new p = absurd p
writes-alone content path name file old (Err FullOutput) new p = absurd p
writes-alone content path name file old (Err Unreported) new p = absurd p
writes-alone content path name file old (Err NoReader) new p = absurd p
writes-alone content path name file old (Err Misuse) new p = absurd p

by-one : (content : Content) (name file : List ℕ) (old : List Event) (result : Result (Unit {0}) Ending) (new : List Event) → MakesBy content (ending_of_file content) (TellsUnheld content) name file old result new → TouchesOne old new
by-one content name file old (Ok it) new m = (path_of_name new, alone-only (path_of_name new) old new m.only)
by-one content name file old (Err ending) new (fault, between, is, unmade, told) =
    (path_of_name between, alone-before (path_of_name between) old between new (unless-keeps (is_untold content fault) (reason.Fault fault) name between new told) (alone-only (path_of_name between) old between unmade.only))

lock-keeps : (content : Content) (name path : List ℕ) (has_lock ok : Bool) (old : List Event) → ChangesNothing old (with_lock_note content has_lock ok (hold_calls name path has_lock old))
lock-keeps content name path true ok old other = refl
lock-keeps content name path false ok old other = refl

one-none : (old new : List Event) → ChangesNothing old new → TouchesOne old new
one-none old new same = ([], alone-none [] old new same)

one-after : (old mid new : List Event) → ChangesNothing old mid → TouchesOne mid new → TouchesOne old new
one-after old mid new same (path, a) = (path, alone-after path old mid new same a)

one-before : (old mid new : List Event) → TouchesOne old mid → ChangesNothing mid new → TouchesOne old new
one-before old mid new (path, a) same = (path, alone-before path old mid new same a)

file-one : (content : Content) (name file : List ℕ) (old : List Event) (result : Result (Unit {0}) Ending) (new : List Event) → MakesFile content name file old result new → TouchesOne old new
file-one content name file old result new (inl (path, has_lock, ok, p)) =
    let begun = with_lock_note content has_lock ok (hold_calls name path has_lock old) in
    one-after old begun new (lock-keeps content name path has_lock ok old) (path, writes-alone content path name file begun result new p)
file-one content name file old result new (inr (inl (between, idle, failed, absent, p))) = one-after old between new (λ path. idle.files path) (by-one content name file between result new p)
file-one content name file old result new (inr (inr (fault, between, unheld, idle, failed, why, told))) =
    one-after old between new (λ path. idle.files path) (one-none between new (unless-keeps (is_untold content fault) (reason.Fault fault) name between new told))

-- ## An output

if-none : (is : Bool) (old new : List Event) → ChangesNothing old new → TouchesIf is old new
if-none true old new same = same
if-none false old new same = one-none old new same

if-after : (is : Bool) (old mid new : List Event) → ChangesNothing old mid → TouchesIf is mid new → TouchesIf is old new
if-after true old mid new same p = λ path. p path ∙ same path
if-after false old mid new same p = one-after old mid new same p

if-before : (is : Bool) (old mid new : List Event) → TouchesIf is old mid → ChangesNothing mid new → TouchesIf is old new
if-before true old mid new p same = λ path. same path ∙ p path
if-before false old mid new p same = one-before old mid new p same

at-none : (given : Option (List ℕ)) (old new : List Event) → ChangesNothing old new → TouchesAt given old new
at-none None old new same = same
at-none (Some name) old new same = if-none (is_standard name) old new same

at-after : (given : Option (List ℕ)) (old mid new : List Event) → ChangesNothing old mid → TouchesAt given mid new → TouchesAt given old new
at-after None old mid new same p = λ path. p path ∙ same path
at-after (Some name) old mid new same p = if-after (is_standard name) old mid new same p

at-before : (given : Option (List ℕ)) (old mid new : List Event) → TouchesAt given old mid → ChangesNothing mid new → TouchesAt given old new
at-before None old mid new p same = λ path. same path ∙ p path
at-before (Some name) old mid new p same = if-before (is_standard name) old mid new p same

-- a step touches no more than this
abbrev pub Touches : {A : Type 0} → (List Event → List Event → Type 0) → (List Event → Result A Ending → List Event → Type 0) → Type 0
Touches {A} touches step = (old : List Event) (result : Result A Ending) (new : List Event) → step old result new → touches old new

module _ (touches : List Event → List Event → Type 0) (none : (old new : List Event) → ChangesNothing old new → touches old new)
    (after : (old mid new : List Event) → ChangesNothing old mid → touches mid new → touches old new) (before : (old mid new : List Event) → touches old mid → ChangesNothing mid new → touches old new)
  where
    pub keep-then : {A B : Type 0} (first : List Event → Result A Ending → List Event → Type 0) (next : A → List Event → Result B Ending → List Event → Type 0) → KeepsFiles first → ((given : A) → Touches touches (next given))
        → Touches touches (Then first next)
    keep-then first next f n old (Ok r) new (inl ends) = absurd ends
    keep-then first next f n old (Err e) new (inl ends) = none old new (f old (Err e) new ends)
    keep-then first next f n old result new (inr it) = after old it.between new (f old (Ok it.given) it.between it.done) (n it.given it.between result new it.after)

    vain-then : {A B : Type 0} (first : List Event → Result A Ending → List Event → Type 0) (next : A → List Event → Result B Ending → List Event → Type 0) → IsVain first → ((given : A) → Touches touches (next given))
        → Touches touches (Then first next)
    vain-then first next f n = keep-then first next (λ old result new p. (f old result new p).0) n

    then-keep : {A B : Type 0} (first : List Event → Result A Ending → List Event → Type 0) (next : A → List Event → Result B Ending → List Event → Type 0) → Touches touches first
        → ((given : A) (old : List Event) (result : Result B Ending) (new : List Event) → next given old result new → ChangesNothing old new) → Touches touches (Then first next)
    then-keep first next f n old (Ok r) new (inl ends) = absurd ends
    then-keep first next f n old (Err e) new (inl ends) = f old (Err e) new ends
    then-keep first next f n old result new (inr it) = before old it.between new (f old (Ok it.given) it.between it.done) (n it.given it.between result new it.after)

writes-if : (is : Bool) (content : Content) (name bytes : List ℕ) (old : List Event) (result : Result (Unit {0}) Ending) (new : List Event) → WritesIf is content name bytes old result new → TouchesIf is old new
writes-if true content name bytes old result new p = prints-keeps bytes old result new p
writes-if false content name bytes old result new p = file-one content name bytes old result new p

listing-touches : (list : Option (String Global)) (listing : Option (Vec ℕ)) → Touches (TouchesAt (name_given list)) (WritesListing list listing)
listing-touches None listing old result new p = λ path. ap (λ (n : List Event). changes_at path n) p.1
listing-touches (Some name) None old result new p = if-none (is_standard name.bytes.items) old new (λ path. ap (λ (n : List Event). changes_at path n) p.1)
listing-touches (Some name) (Some listing) old result new p = writes-if (is_standard name.bytes.items) Listing name.bytes.items listing.items old result new p

tape-touches : (given : Option (String Global)) (tape : List ℕ) → Touches (TouchesAt (Some (tape_place given))) (WritesTape given tape)
tape-touches None tape old result new p = prints-keeps tape old result new p
tape-touches (Some name) tape old result new p = writes-if (is_standard name.bytes.items) Tape name.bytes.items tape old result new p

-- ## The command

makes-vain : (form : AssembleForm) (texts : List (List ℕ)) → IsVain (Makes form texts)
makes-vain form texts old (Ok made) new p = (made-of form texts old made new p).quiet
makes-vain form texts old (Err ending) new p = (makes-reject form texts old ending new p).1

lists-touch : (volume : Option (List ℕ)) (form : AssembleForm) → Touches (TouchesAt (name_given form.list)) (ListsTape volume form)
lists-touch volume form =
    let place = name_given form.list in
    vain-then (TouchesAt place) (at-none place) (at-after place) (at-before place) (ReadsEach volume [] (map (λ name. name.bytes.items) form.sources.items))
    (λ texts. Then (Makes form (map (λ text. text.items) texts.items)) (λ made. Then (KeepsInputs form) (λ it. Then (WritesListing form.list made.listing) (λ it. Purely (IsTapeOf made)))))
    (each-vain volume [] (map (λ name. name.bytes.items) form.sources.items))
    (λ texts. vain-then (TouchesAt place) (at-none place) (at-after place) (at-before place) (Makes form (map (λ text. text.items) texts.items))
    (λ made. Then (KeepsInputs form) (λ it. Then (WritesListing form.list made.listing) (λ it. Purely (IsTapeOf made)))) (makes-vain form (map (λ text. text.items) texts.items))
    (λ made. vain-then (TouchesAt place) (at-none place) (at-after place) (at-before place) (KeepsInputs form) (λ it. Then (WritesListing form.list made.listing) (λ it. Purely (IsTapeOf made))) (inputs-vain form)
    (λ it. then-keep (TouchesAt place) (at-none place) (at-after place) (at-before place) (WritesListing form.list made.listing) (λ it. Purely (IsTapeOf made)) (listing-touches form.list made.listing)
    (λ it old result new p. (purely-vain (IsTapeOf made) old result new p).0))))

-- nothing is touched, or not yet
outputs-none : (form : AssembleForm) (touches : List Event → List Event → Type 0) → ((old new : List Event) → ChangesNothing old new → touches old new) → (old new : List Event) → ChangesNothing old new → TouchesOutputs form touches old new
outputs-none form touches none old new same = (new, at-none (name_given form.list) old new same, none new new (λ path. refl))

outputs-after : (form : AssembleForm) (touches : List Event → List Event → Type 0) (old mid new : List Event) → ChangesNothing old mid → TouchesOutputs form touches mid new → TouchesOutputs form touches old new
outputs-after form touches old mid new same (listed, p, q) = (listed, at-after (name_given form.list) old mid listed same p, q)

-- the listing, and then a step that touches no more than this
lists-then : (volume : Option (List ℕ)) (form : AssembleForm) (touches : List Event → List Event → Type 0) → ((old new : List Event) → ChangesNothing old new → touches old new)
    → (next : Vec ℕ → List Event → Result (Unit {0}) Ending → List Event → Type 0) → ((tape : Vec ℕ) → Touches touches (next tape)) → Touches (TouchesOutputs form touches) (Then (ListsTape volume form) next)
lists-then volume form touches none next n old (Ok r) new (inl ends) = absurd ends
lists-then volume form touches none next n old (Err e) new (inl ends) = (new, lists-touch volume form old (Err e) new ends, none new new (λ path. refl))
lists-then volume form touches none next n old result new (inr it) = (it.between, lists-touch volume form old (Ok it.given) it.between it.done, n it.given it.between result new it.after)

to-touches : (volume : Option (List ℕ)) (form : AssembleForm) → Touches (TouchesOutputs form (TouchesAt (Some (tape_place form.output)))) (AssemblesTo volume form)
to-touches volume form = lists-then volume form (TouchesAt (Some (tape_place form.output))) (at-none (Some (tape_place form.output))) (λ tape. WritesTape form.output tape.items) (λ tape. tape-touches form.output tape.items)

all-touch : (form : AssembleForm) (from : Option ImageForm) → form.onto ≡ None → Touches (TouchesOutputs form (TouchesAt (Some (tape_place form.output)))) (AssemblesAll form from)
all-touch form None onto old result new p = to-touches None form old result new p
all-touch form (Some image) onto old result new p = seen result (subst (λ (o : Option (String Global)). AssemblesFrom form image o old result new) onto p)
  where
    seen : (r : Result (Unit {0}) Ending) → AssemblesFrom form image None old r new → TouchesOutputs form (TouchesAt (Some (tape_place form.output))) old new
    seen (Ok it) (inl ends) = absurd ends
    seen (Err e) (inl ends) = outputs-none form (TouchesAt (Some (tape_place form.output))) (at-none (Some (tape_place form.output))) old new (at-vain image old (Err e) new ends).0
    seen r (inr l) = outputs-after form (TouchesAt (Some (tape_place form.output))) old l.between new (at-vain image old (Ok l.given) l.between l.done).0 (to-touches (Some l.given.items) form l.between r new l.after)

module _ (form : AssembleForm) (touches : List Event → List Event → Type 0) (none : (old new : List Event) → ChangesNothing old new → touches old new) where
  clash-then : Touches (TouchesOutputs form touches) (AssemblesAll form form.from) → Touches (TouchesOutputs form touches) (Assembles form)
  clash-then all old (Ok r) new (inl ends) = absurd ends
  clash-then all old (Err e) new (inl ends) = outputs-none form touches none old new (clash-vain form old (Err e) new ends).0
  clash-then all old result new (inr it) = outputs-after form touches old it.between new (clash-vain form old (Ok it.given) it.between it.done).0 (all it.between result new it.after)

pub outputs-touch : (form : AssembleForm) (old : List Event) (result : Result (Unit {0}) Ending) (new : List Event) → form.onto ≡ None → Assembles form old result new
    → TouchesOutputs form (TouchesAt (Some (tape_place form.output))) old new
outputs-touch form old result new onto p =
    clash-then form (TouchesAt (Some (tape_place form.output))) (at-none (Some (tape_place form.output))) (all-touch form form.from onto) old result new p

-- ## A volume that gets the tape

kept-one : (keeps : Bool) (judgment : Judgment) (path name file : List ℕ) → Touches TouchesOne (WritesKept keeps judgment path name file)
kept-one true judgment path name file old result new p = (path, writes-alone ForImage path name file old result new p)
kept-one false judgment path name file old (Ok it) new p = absurd p
kept-one false judgment path name file old (Err ending) new (is, ok, p) = one-none old new (λ other. ap (λ (n : List Event). changes_at other n) p)

saves-one : (is_same : Bool) (image : Image) (bytes : List ℕ) → Touches TouchesOne (SavesIf is_same image bytes)
saves-one true image bytes old result new (done, stays) = one-none old new (λ path. ap (λ (n : List Event). changes_at path n) stays)
saves-one false image bytes old result new (inl (refused, inl (held, tells))) = one-none old new (reason-keeps (reason.Fault image.place.why) image.place.name.bytes.items old new tells)
saves-one false image bytes old result new (inl (refused, inr (cannot, tells))) = one-none old new (reason-keeps reason.NoRoom image.place.name.bytes.items old new tells)
saves-one false image bytes old result new (inr (held, file, laid, p)) = kept-one (keeps_kind image.judgment file) image.judgment image.place.path.bytes.items image.place.name.bytes.items file old result new p

reports-keep : (lines : List ℕ) (old : List Event) (result : Result (Unit {0}) Ending) (new : List Event) → Reports lines old result new → ChangesNothing old new
reports-keep lines old (Ok it) new p path = ap (λ (n : List Event). changes_at path n) p
reports-keep lines old (Err Unreported) new p path = ap (λ (n : List Event). changes_at path n) p
reports-keep lines old (Err NoReader) new p path = ap (λ (n : List Event). changes_at path n) p
reports-keep lines old (Err (Line it)) new p path = absurd p
reports-keep lines old (Err (Fault it)) new p path = absurd p
reports-keep lines old (Err Failure) new p path = absurd p
reports-keep lines old (Err (Busy it)) new p path = absurd p
reports-keep lines old (Err (NotWritten it left)) new p path = absurd p
reports-keep lines old (Err FullOutput) new p path = absurd p
reports-keep lines old (Err Misuse) new p path = absurd p

stores-one : (image : Image) (bytes lines : List ℕ) → Touches TouchesOne (Stores image bytes lines)
stores-one image bytes lines = then-keep TouchesOne one-none one-after one-before (SavesIf (bytes_eq image.bytes.items bytes) image bytes) (λ it. Reports lines) (saves-one (bytes_eq image.bytes.items bytes) image bytes)
    (λ it old result new p. reports-keep lines old result new p)

puts-one : (name tape : List ℕ) (image : Image) → Touches TouchesOne (PutsTape name tape image)
puts-one name tape image =
    keep-then TouchesOne one-none one-after one-before (Answers (PutsFile image.bytes.items name Frames tape None) (length image.bytes.items)) (λ made. Then (Purely (AreLines (stored_line made))) (λ line. Stores image made.bytes.items line.items))
    (answers-never (PutsFile image.bytes.items name Frames tape None) (length image.bytes.items))
    (λ made. keep-then TouchesOne one-none one-after one-before (Purely (AreLines (stored_line made))) (λ line. Stores image made.bytes.items line.items)
    (purely-keeps (AreLines (stored_line made))) (λ line. stores-one image made.bytes.items line.items))

onto-touches : (form : AssembleForm) (image : ImageForm) (name : List ℕ) → Touches (TouchesOutputs form TouchesOne) (AssemblesOnto form image name)
onto-touches form image name old (Ok r) new (inl ends) = absurd ends
onto-touches form image name old (Err e) new (inl ends) = outputs-none form TouchesOne one-none old new (opens-vain image old (Err e) new ends).0
onto-touches form image name old result new (inr it) =
    outputs-after form TouchesOne old it.between new (opens-vain image old (Ok it.given) it.between it.done).0
    (lists-then (Some it.given.bytes.items) form TouchesOne one-none (λ tape. PutsTape name tape.items it.given) (λ tape. puts-one name tape.items it.given) it.between result new it.after)

pub onto-touch : (form : AssembleForm) (named : ImageForm) (name : String Global) (old : List Event) (result : Result (Unit {0}) Ending) (new : List Event) → form.from ≡ Some named → form.onto ≡ Some name
    → Assembles form old result new → TouchesOutputs form TouchesOne old new
onto-touch form named name old result new from onto p = clash-then form TouchesOne one-none all old result new p
  where
    all : Touches (TouchesOutputs form TouchesOne) (AssemblesAll form form.from)
    all before ended after q = onto-touches form named name.bytes.items before ended after
        (subst (λ (o : Option (String Global)). AssemblesFrom form named o before ended after) onto (subst (λ (f : Option ImageForm). AssemblesAll form f before ended after) from q))

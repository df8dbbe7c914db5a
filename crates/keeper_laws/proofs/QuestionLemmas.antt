-- What a keeper asks of `put`: what a crash leaves, and what `get` prints then.
use Rattle.std.proofs.Common.{◌≡◌, ◌∙◌, ◌⊎◌, ◌<◌, ◌&&◌, ◌||◌, ℕ, Bool, true, false, if◌then◌else◌, codes, option_map, bytes_eq, nat_eq, Option, None, Some, Result, Ok, Err, String, List, [], ◌∷◌, ◌++◌, All, length, map, refl, sym, ap, subst, inl, inr}
use Rattle.std.specs.Global.{Global, Vec}
use Rattle.hosts.specs.Event.{Event, look_call, print_call}
use Rattle.hosts.specs.Place.{Place, Step, Just, about, replay}
use Rattle.hosts.specs.Streams.{read}
use Rattle.char_pack.specs.Packing.{block_frames}
use Rattle.archive_files.specs.Asking.{OfName}
use Rattle.archive_files.specs.Getting.{Gets, is_before_lf, line_feeds}
use Rattle.archive_files.specs.Laws.{whole_blocks}
use Rattle.archive_files.specs.declared.faults.ArchiveFault.{ArchiveFault}
use Rattle.archive_files.specs.declared.forms.GetForm.{GetForm}
use Rattle.archive_files.specs.declared.forms.PutForm.{PutForm}
use Rattle.archive_files.specs.declared.forms.PutForm.TheVariants as put_as
use Rattle.archive_files.proofs.LawLemmas.{some_eq}
use Rattle.archive_many.specs.Extensions.{is_text}
use Rattle.archive_many.specs.HostNames as host
use Rattle.archive_many.specs.Putting.{PutsAll}
use Rattle.archive_many.specs.declared.putting.ManyImage.{ManyImage}
use Rattle.archive_many.specs.declared.putting.NewFile.{NewFile}
use Rattle.asked_files.specs.Texts.{lists_of, put_form}
use Rattle.name_spelling.specs.Reading.{typed_name}
use Rattle.os8_dir.specs.Entries.{IsNamed}
use Rattle.outcome.specs.declared.endings.Ending.{Ending}
use Rattle.program_tasks.specs.declared.forms.ImageForm.{ImageForm}
use Rattle.program_tasks.specs.declared.forms.PutFilesForm.{PutFilesForm}
use Rattle.program_tasks.specs.declared.forms.TextsForm.{TextsForm}
use Rattle.image_kind.specs.Keeping.{two_readings}
use Rattle.image_kind.specs.Margins.{body_of}
use Rattle.image_kind.specs.Volumes.{volumes_in}
use Rattle.image_files.specs.Again.{AreAlike, LooksAndFinds, LooksIn}
use Rattle.image_files.specs.Answers.{Answers}
use Rattle.image_files.specs.Laws.{ChangesNothing}
use Rattle.image_files.specs.Reading.{LooksAt, Opens}
use Rattle.image_files.specs.Saving.{IsFileWith, Prints}
use Rattle.image_files.specs.Stored.{words_of}
use Rattle.image_files.specs.Work.{Then}
use Rattle.image_files.specs.declared.images.Image.{Image}
use Rattle.image_files.proofs.KeepLemmas.{of-file}
use Rattle.put_commands.specs.Putting.{Names, Puts, PutsFiles, ReadsEach, given_name, is_input, or_unused_name, paths_of}
use Rattle.get_commands.specs.Showing.{Shows}
use Rattle.keeper_laws.specs.Changed.{Becomes, GetsVolume}
use Rattle.keeper_laws.specs.GettingBack.{IsPrinted, LooksAndShows, PrintsOrLacks, ShowsIn}
use Rattle.keeper_laws.specs.Questions.{AlwaysHad, GetPrints, HasFile, HasRead, IsGotAs, IsNameFor, capital, get_calls, has_no_slash, is_lf_next, to_block_end, with_lf}
use Rattle.keeper_laws.specs.Stored.{AreGiven, HasStored, IsGiven, given_call, given_calls}
use Rattle.keeper_laws.proofs.CallLemmas.{always-read, had-among, has-read, read-among}
use Rattle.keeper_laws.proofs.GotBackLemmas.{looks-first}
use Rattle.keeper_laws.proofs.ManyBackLemmas.{typed-so}
use Rattle.keeper_laws.proofs.OpenLemmas.{HasOpened, has-opened, judged}
use Rattle.keeper_laws.proofs.PlugLemmas.{IsNothingLost, left-alone, ready-plugged}
use Rattle.keeper_laws.proofs.PrepareLemmas.{IsRejected, Prepared, opens-reject}
use Rattle.keeper_laws.proofs.PutLemmas.{PutsReady, lists-reject, rest-prepares}
use Rattle.keeper_laws.proofs.SeenLemmas.{found-still}

-- ## If the plug is pulled

rejected-alone : (result : Result (Unit {0}) Ending) (old mid new : List Event) → ChangesNothing old mid → IsRejected result mid new → IsNothingLost result old new
rejected-alone (Ok it) old mid new none p = absurd p
rejected-alone (Err ending) old mid new none p = left-alone (Err ending) old new (λ path. p.1.0 path ∙ none path)

opened-plugged : (form : ImageForm) (gives : Image → List Event → List ℕ → List ℕ → Type 0) (old mid : List Event) (image : Image) → HasOpened form old image mid
    → (result : Result (Unit {0}) Ending) (new : List Event) → Prepared image (gives image) mid result new ⊎ IsRejected result mid new → IsNothingLost result old new
opened-plugged form gives old mid image o result new (inl p) =
    ready-plugged form p.calls image p.bytes p.lines old result new (record { opened_at = mid; start = o; mid = p.mid; quiet = p.quiet; stores = p.stores })
opened-plugged form gives old mid image o result new (inr p) = rejected-alone result old mid new o.quiet.files p

put-opened : (form : PutFilesForm) (old : List Event) (result : Result (Unit {0}) Ending) (new : List Event)
    → Then (Opens form.image) (λ image. Then (ReadsEach form [] (paths_of form)) (λ files. PutsFiles form image files.items)) old result new → IsNothingLost result old new
put-opened form old (Ok it) new (inl ends) = absurd ends
put-opened form old (Err ending) new (inl ends) = left-alone (Err ending) old new (opens-reject form.image old ending new ends).1.0
put-opened form old result new (inr it) =
    opened-plugged form.image (PutsReady form) old it.between it.given (has-opened form.image old it.given it.between it.done) result new (rest-prepares form it.given it.between result new it.after)

pub put-plugged : (form : PutFilesForm) (old : List Event) (result : Result (Unit {0}) Ending) (new : List Event) → Puts form old result new → IsNothingLost result old new
put-plugged form old (Ok it) new (inl ends) = absurd ends
put-plugged form old (Err ending) new (inl ends) = left-alone (Err ending) old new (lists-reject form.texts old ending new ends).1.0
put-plugged form old result new (inr it) =
    put-opened form old result new
    (subst (λ (n : List Event). Then (Opens form.image) (λ image. Then (ReadsEach form [] (paths_of form)) (λ files. PutsFiles form image files.items)) n result new) it.done.1 it.after)

-- ## What a path has after a change

pub gets-left : (form : ImageForm) (image : Image) (path was bytes : List ℕ) (old new : List Event) (has : GetsVolume form image path was bytes old new) (start : Place) → HasFile start path was old
    → HasFile start path has.file new
gets-left form image path was bytes old new has start seen = either has.has where
  either : ((image.place.is_held ≡ true) × IsFileWith image bytes has.file × Becomes path was has.file old new) ⊎ ((bytes ≡ image.bytes.items) × (has.file ≡ was) × ChangesNothing old new)
      → HasFile start path has.file new
  either (inl (held, is, becomes)) = becomes.now start seen
  either (inr (same, is, stayed)) = subst (λ (steps : List Step). (replay start steps).seen ≡ Just (Some has.file)) (sym (of-file path (stayed path))) (seen ∙ ap (λ (file : List ℕ). Just (Some file)) (sym is))

-- ## What `get` prints

-- the bytes of the newest call
newest : List Event → List ℕ
newest [] = []
newest (e ∷ earlier) = e.bytes

printed-one : (bytes : List ℕ) (old new : List Event) → PrintsOrLacks bytes old (Ok tt) new → new ≡ print_call true 0 bytes ∷ old
printed-one bytes old new (inl p) = p
printed-one bytes old new (inr p) = absurd p.0

answered : (gives : Result (Vec ℕ) ArchiveFault → Type 0) (size : ℕ) (old new : List Event) → Then (Answers gives size) (λ bytes. Prints bytes.items) old (Ok tt) new
    → (printed : List ℕ) × (new ≡ print_call true 0 printed ∷ old)
answered gives size old new (inl ends) = absurd ends
answered gives size old new (inr it) = (it.given.items, it.after ∙ ap (λ (l : List Event). print_call true 0 it.given.items ∷ l) it.done.1)

looked-still : (form : ImageForm) (file : List ℕ) (old : List Event) (image : Vec ℕ) (new : List Event) → LooksIn form file old (Ok image) new → new ≡ old
looked-still form file old image new (inl ends) = absurd ends
looked-still form file old image new (inr it) =
    found-still (volumes_in form.layout form.is_plain file) (body_of form.layout form.is_plain file) it.between image new it.after
    ∙ judged form.file.bytes.items (two_readings form.layout form.is_plain file) old it.given it.between it.done

shown-one : (gives : List ℕ → Result (Vec ℕ) ArchiveFault → Type 0) (form : ImageForm) (file : List ℕ) (old new : List Event) → ShowsIn gives form file old (Ok tt) new
    → (printed : List ℕ) × (new ≡ print_call true 0 printed ∷ old)
shown-one gives form file old new (inl ends) = absurd ends
shown-one gives form file old new (inr it) =
    let last = answered (gives it.given.items) (length it.given.items) it.between new it.after in
    (last.0, last.1 ∙ ap (λ (l : List Event). print_call true 0 last.0 ∷ l) (looked-still form file old it.given it.between it.done))

looked-prints : (form : ImageForm) (file name bytes : List ℕ) (how : GetForm) → IsPrinted form file name how bytes → (again : ImageForm) (old new : List Event) → AreAlike form again
    → LooksAndShows (λ image. Gets image (OfName name) how) again old (Ok tt) new
    → (found printed : List ℕ) × (new ≡ get_calls again.file.bytes.items found printed old) × (found ≡ file → printed ≡ bytes)
unfolding shown-one newest
looked-prints form file name bytes how prints again old new alike (inl ends) = absurd ends
looked-prints form file name bytes how prints again old new alike (inr it) =
    let one = shown-one (λ image. Gets image (OfName name) how) again it.given.items it.between new it.after in (
      it.given.items,
      one.0,
      one.1 ∙ ap (λ (l : List Event). print_call true 0 one.0 ∷ l) it.done.1,
      λ same. ap newest (sym one.1
          ∙ printed-one bytes it.between new (prints again it.between new (Ok tt) alike (subst (λ (f : List ℕ). ShowsIn (λ image. Gets image (OfName name) how) again f it.between (Ok tt) new) same it.after))),
    )

pub get-prints : (form : ImageForm) (file name bytes : List ℕ) (how : GetForm) → IsPrinted form file name how bytes
    → ((again : ImageForm) (old new : List Event) (result : Result (Vec ℕ) Ending) → again.is_lenient ≡ false → LooksAt again old result new → LooksAndFinds again old result new)
    → GetPrints form file name how bytes
get-prints form file name bytes how prints looks = λ again old new layout plain strict shows.
    looked-prints form file name bytes how prints again old new (layout, plain)
    (looks-first (λ image. Gets image (OfName name) how) again (λ begun ended answer. looks again begun ended answer strict) old new (Ok tt) shows)

-- ## In a keeper's words

no-slash : (text : List ℕ) → host.has_no_slash text ≡ true → has_no_slash text ≡ true
no-slash text is = same text ∙ is
  where
    same : (text : List ℕ) → has_no_slash text ≡ host.has_no_slash text
    same [] = refl
    same (character ∷ text) = ap (λ (b : Bool). if host.is_slash character then false else b) (same text)

lf-next : (others : List ℕ) → is_lf_next others ≡ is_before_lf others
lf-next [] = refl
lf-next (byte ∷ others) = refl

pub lf-alone : (text : List ℕ) → with_lf text ≡ line_feeds text
lf-alone [] = refl
lf-alone (byte ∷ others) =
    ap (λ (b : Bool). if nat_eq byte 0o15 && b then with_lf others else byte ∷ with_lf others) (lf-next others)
    ∙ ap (λ (l : List ℕ). if nat_eq byte 0o15 && is_before_lf others then l else byte ∷ l) (lf-alone others)

pub block-end : (bytes : List ℕ) → to_block_end bytes ≡ whole_blocks bytes
unfolding block_frames
block-end bytes = refl

-- the name of the one file
name-for : (given : Option (String Global)) (source : List ℕ) (number : ℕ) → Names (option_map (λ (name : String Global). name.bytes.items) given) source (Some number) → IsNamed number
    → (name : List ℕ) × IsNameFor given source name × (typed_name name ≡ Some number)
name-for (Some text) source number is named = (text.bytes.items, refl, typed-so (typed_name text.bytes.items) number (some_eq number (or_unused_name (typed_name text.bytes.items)) is) named)
name-for None source number (part, last, is) named =
    (map capital part, (last.folder, part, last.path_is, last.is_folder, no-slash part last.no_slash, refl), sym is)

-- as frames where no texts are asked for, and else as a text
pub plain-form : (texts : TextsForm) (name : ℕ) → texts.is_usual ≡ false → texts.extensions.items ≡ [] → put_form texts name ≡ put_as.Frames
plain-form texts name usual none =
    ap (λ (b : Bool). if b || is_text name false (lists_of texts) then put_as.Text else put_as.Frames) usual
    ∙ ap (λ (l : List (String Global)). if false || is_text name false (map (λ (list : String Global). list.bytes.items) l) then put_as.Text else put_as.Frames) none

pub text-form : (texts : TextsForm) (name : ℕ) → texts.is_usual ≡ true → put_form texts name ≡ put_as.Text
text-form texts name usual = ap (λ (b : Bool). if b || is_text name false (lists_of texts) then put_as.Text else put_as.Frames) usual

-- ## One file that was put

one-given : (asked : PutFilesForm) (source : List ℕ) (files : List NewFile) → AreGiven asked (source ∷ []) files → (file : NewFile) × (files ≡ file ∷ []) × IsGiven asked source file
one-given asked source [] given = absurd given
one-given asked source (file ∷ []) given = (file, refl, given.0)
one-given asked source (file ∷ other ∷ files) given = absurd given.1

no-input : (given : Option (List ℕ)) (source : List ℕ) → bytes_eq source (codes "-") ≡ false → is_input given source ≡ false
no-input None source is = refl
no-input (Some text) source is = is

module _ (form : PutFilesForm) (old new : List Event) (stored : HasStored form true old new) (source : String Global) (bytes : List ℕ) (are : form.files.items ≡ source ∷ [])
    (apart : bytes_eq source.bytes.items (codes "-") ≡ false) (had : AlwaysHad source.bytes.items bytes new)
  where
    paths-are : paths_of form ≡ source.bytes.items ∷ []
    paths-are = ap (λ (l : List (String Global)). map (λ (path : String Global). path.bytes.items) l) are

    pub one : (file : NewFile) × (stored.files ≡ file ∷ []) × IsGiven form source.bytes.items file
    one = one-given form source.bytes.items stored.files (subst (λ (l : List (List ℕ)). AreGiven form l stored.files) paths-are stored.given)

    two-reads : read new ≡ look_call source.bytes.items one.0.bytes.items ∷ (look_call stored.path stored.was ∷ read old)
    two-reads =
        stored.reads
        ∙ ap (λ (l : List (List ℕ)). given_calls (given_name form) l stored.files ++ (look_call stored.path stored.was ∷ read old)) paths-are
        ∙ ap (λ (l : List NewFile). given_calls (given_name form) (source.bytes.items ∷ []) l ++ (look_call stored.path stored.was ∷ read old)) one.1
        ∙ ap (λ (b : Bool). given_call b source.bytes.items one.0.bytes.items ∷ (look_call stored.path stored.was ∷ read old)) (no-input (given_name form) source.bytes.items apart)

    pub bytes-are : one.0.bytes.items ≡ bytes
    bytes-are = had-among source.bytes.items bytes [] (look_call source.bytes.items one.0.bytes.items) (look_call stored.path stored.was ∷ read old)
        (subst (λ (l : List Event). AlwaysHad source.bytes.items bytes l) two-reads (always-read source.bytes.items bytes new had)) refl refl refl

    image-read : HasRead stored.path stored.was new
    image-read = has-read stored.path stored.was new (subst (λ (l : List Event). HasRead stored.path stored.was l) (sym two-reads)
        (read-among stored.path stored.was (look_call source.bytes.items one.0.bytes.items ∷ []) (look_call stored.path stored.was) (read old) refl refl refl))

    is-named : IsNamed one.0.name
    is-named = (subst (λ (l : List NewFile). PutsAll stored.image.bytes.items l (words_of form.info) (Ok stored.stored)) one.1 stored.puts).put.1.named

    pub name-is : (name : List ℕ) × IsNameFor form.name source.bytes.items name × (typed_name name ≡ Some one.0.name)
    name-is = name-for form.name source.bytes.items one.0.name one.2.named is-named

    -- what is printed of it
    pub got-as : (how : GetForm) (printed : List ℕ)
        → ((again : ImageForm) (old new : List Event) (result : Result (Vec ℕ) Ending) → again.is_lenient ≡ false → LooksAt again old result new → LooksAndFinds again old result new)
        → IsPrinted form.image stored.has.file name-is.0 how printed → IsGotAs form.image form.name source.bytes.items how printed old new
    got-as how printed looks prints = record {
      path = stored.path;
      was = stored.was;
      file = stored.has.file;
      read = image-read;
      left = gets-left form.image stored.image stored.path stored.was stored.stored.bytes.items old new stored.has;
      name = name-is.0;
      named = name-is.1;
      gets = get-prints form.image stored.has.file name-is.0 printed how prints looks;
    }

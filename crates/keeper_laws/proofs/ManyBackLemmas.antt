-- Of several files that were put or copied at once each is on the volume as it is got.
use Rattle.std.proofs.Common.{◌≡◌, ◌∙◌, ◌<◌, ◌++◌, ℕ, Bool, true, false, if◌then◌else◌, Option, None, Some, Ok, List, [], ◌∷◌, All, arith, refl, sym, ap, subst}
use Rattle.std.specs.FinMap.{get}
use Rattle.std.specs.Global.{Vec}
use Rattle.char_pack.specs.Packing.{IsBlockPacking, frames, packed_blocks}
use Rattle.archive_files.specs.declared.forms.GetForm.TheVariants as get_as
use Rattle.archive_files.specs.declared.forms.PutForm.{PutForm}
use Rattle.archive_files.specs.declared.forms.PutForm.TheVariants as put_as
use Rattle.volume_image.specs.Image.{IsImageOf, WrittenIsReadBack}
use Rattle.os8_dir.specs.Files.{FileData, files_of}
use Rattle.os8_dir.specs.Names.{with_end_zeros}
use Rattle.os8_dir.specs.Entries.{IsNamed}
use Rattle.os8_files.specs.Calls.{info_of}
use Rattle.os8_files.specs.Mounted.{MountState}
use Rattle.os8_files.specs.Puts.{HasPutWith}
use Rattle.name_spelling.specs.Patterns.{is_like_one}
use Rattle.name_spelling.specs.Reading.{typed_name}
use Rattle.archive_files.specs.Asking.{AtBlock, OfName}
use Rattle.archive_files.specs.ChangeLaws.{CopyIsTheSame}
use Rattle.archive_files.specs.Getting.{IsFile, IsTapeOf, line_feeds}
use Rattle.archive_files.specs.Laws.{LinesComeBack, TapeComesBack, whole_blocks}
use Rattle.archive_files.specs.Opening.{IsOpened}
use Rattle.archive_files.specs.Putting.{PutsFile, information_for, put_words}
use Rattle.archive_files.specs.declared.putting.NewImage.{NewImage}
use Rattle.archive_many.specs.Copying.{AreCopied, CopiesAll}
use Rattle.archive_many.specs.Laws.{HoldsFile, IsNoneOf, LikeAreCopied, OthersStay, PutAreThere, copy_or, copy_with}
use Rattle.archive_many.specs.Putting.{ArePut, PutsAll, blocks_in, info_or, words_in}
use Rattle.archive_many.specs.declared.opened.VolumeFile.{VolumeFile}
use Rattle.archive_many.specs.declared.putting.ManyImage.{ManyImage}
use Rattle.archive_many.specs.declared.putting.NewFile.{NewFile}
use Rattle.program_tasks.specs.declared.forms.ImageForm.{ImageForm}
use Rattle.program_tasks.specs.declared.forms.PutFilesForm.{PutFilesForm}
use Rattle.image_files.specs.Again.{IsFoundAgain}
use Rattle.put_commands.specs.Putting.{Names, given_name, or_unused_name}
use Rattle.keeper_laws.specs.Copied.{AreLike}
use Rattle.keeper_laws.specs.GettingBack.{IsPrinted}
use Rattle.keeper_laws.specs.Stored.{AreGiven}
use Rattle.archive_files.proofs.AgainLemmas.{LongerTape, NoFault, got_again}
use Rattle.archive_files.proofs.LawLemmas.{one_volume, some_eq}
use Rattle.keeper_laws.proofs.BackLemmas.{is-printed}

-- ## Files that were put

-- a file that the volume holds is one that a text asks for by its name
pub held-file : (image name words info : List ℕ) (number : ℕ) → typed_name name ≡ Some number → HoldsFile image number (info, words) → IsFile image (OfName name) words
held-file image name words info number named held = record { blocks = held.blocks; opened = held.opened; number = number; named = named; info = info; there = held.there }

-- the words of frames
pub packed-words : (form : PutForm) (bytes : List ℕ) → form ≡ put_as.Frames → put_words form bytes ≡ packed_blocks bytes
packed-words form bytes is = ap (λ (f : PutForm). put_words f bytes) is

-- another one is there as it was
pub other-file : OthersStay → (image name words : List ℕ) (number : ℕ) (files : List NewFile) (info : Option (List ℕ)) (new : ManyImage) → PutsAll image files info (Ok new) → IsNoneOf number files
    → typed_name name ≡ Some number → IsFile image (OfName name) words → IsFile new.bytes.items (OfName name) words
other-file law image name words number files info new puts none named file =
    let is : file.number ≡ number = some_eq file.number number (sym file.named ∙ named) in
    let held : HoldsFile image number (file.info, words) = record { blocks = file.blocks; opened = file.opened; there = subst (λ (n : ℕ). get (files_of file.blocks) n ≡ Some (file.info, words)) is file.there } in
    held-file new.bytes.items name words file.info number named (law image files info new number (file.info, words) puts none held)

-- What is got of the volume that a put has left, where its image is found in the file.
module _ (form : ImageForm) (saved image : List ℕ) (files : List NewFile) (info : Option (List ℕ)) (made : ManyImage) (puts : PutsAll image files info (Ok made)) (found : IsFoundAgain form saved made.bytes.items)
  where
    -- frames of a file whose name no later one has
    pub frames-back : WrittenIsReadBack → LongerTape → NoFault → PutAreThere → ((bytes : List ℕ) → All (λ byte. byte < 256) bytes → IsBlockPacking bytes (packed_blocks bytes))
        → (before following : List NewFile) (file : NewFile) (name : List ℕ) → files ≡ before ++ file ∷ following → IsNoneOf file.name following → typed_name name ≡ Some file.name → file.form ≡ put_as.Frames
        → All (λ byte. byte < 256) file.bytes.items → IsPrinted form saved name get_as.Frames (whole_blocks file.bytes.items)
    frames-back back longer none law packs before following file name are last named is small =
        let there = law image before following file info made (subst (λ (l : List NewFile). PutsAll image l info (Ok made)) are puts) last in
        is-printed form saved made.bytes.items name (whole_blocks file.bytes.items) get_as.Frames found
        (λ answer again. got_again back longer none made.bytes.items (OfName name) (words_in file) (whole_blocks file.bytes.items) get_as.Frames answer
        (held-file made.bytes.items name (words_in file) there.0 file.name named there.1)
        (sym (ap frames (packed-words file.form file.bytes.items is) ∙ (packs file.bytes.items small).reads_back)) again)

-- ## A file that is put alone

module _ (form : ImageForm) (saved image : List ℕ) (files : List NewFile) (info : Option (List ℕ)) (made : ManyImage) (puts : PutsAll image files info (Ok made)) (found : IsFoundAgain form saved made.bytes.items)
    (file : NewFile) (name : List ℕ) (are : files ≡ file ∷ []) (named : typed_name name ≡ Some file.name)
  where
    -- the same image, as that of one file
    abbrev alone : NewImage
    alone = record { bytes = made.bytes; name = file.name; blocks = blocks_in file }

    put-alone : PutsAll image (file ∷ []) info (Ok made) → PutsFile image name file.form file.bytes.items (info_or file.date info) (Ok alone)
    put-alone all = go all.put where
      go : ArePut all.before info (file ∷ []) all.after → PutsFile image name file.form file.bytes.items (info_or file.date info) (Ok alone)
      go (next, one, same) = (
        one.fit,
        record {
          before = all.before;
          after = all.after;
          mounted = all.mounted;
          named = named;
          put = subst (λ (m : MountState). HasPutWith all.before file.name (information_for all.before file.name (info_or file.date info)) (words_in file) m) (sym same) one.put;
          is_image = all.is_image;
          blocks_are = refl;
        },
      )

    put-as : (kind : PutForm) → file.form ≡ kind → PutsFile image name kind file.bytes.items (info_or file.date info) (Ok alone)
    put-as kind is = subst (λ (k : PutForm). PutsFile image name k file.bytes.items (info_or file.date info) (Ok alone)) is
        (put-alone (subst (λ (l : List NewFile). PutsAll image l info (Ok made)) are puts))

    pub tape-back : TapeComesBack → (tape : List ℕ) → file.form ≡ put_as.Frames → All (λ byte. byte < 256) file.bytes.items → IsTapeOf file.bytes.items tape → IsPrinted form saved name get_as.Tape tape
    tape-back law tape is small is_tape = is-printed form saved made.bytes.items name tape get_as.Tape found
        (λ answer gets. law image name file.bytes.items tape (info_or file.date info) alone answer small is_tape (put-as put_as.Frames is) gets)

    pub text-back : LinesComeBack → file.form ≡ put_as.Text → IsPrinted form saved name get_as.Text (line_feeds file.bytes.items)
    text-back law is = is-printed form saved made.bytes.items name (line_feeds file.bytes.items) get_as.Text found
        (λ answer gets. law.ends image name file.bytes.items (info_or file.date info) alone answer (put-as put_as.Text is) gets)

-- a name that is given is spelled by its text, where the file of it could be put
pub typed-so : (typed : Option ℕ) (name : ℕ) → name ≡ or_unused_name typed → IsNamed name → typed ≡ Some name
typed-so (Some number) name is named = ap (λ (n : ℕ). Some n) (sym is)
typed-so None name is named = absurd (omega (arith, is, named))

-- the one file that is put under a name that is given
pub named-so : (asked : PutFilesForm) (paths : List (List ℕ)) (file : NewFile) (text : List ℕ) → AreGiven asked paths (file ∷ []) → given_name asked ≡ Some text → file.name ≡ or_unused_name (typed_name text)
named-so asked [] file text given is = absurd given
named-so asked (path ∷ paths) file text (one, rest) is = some_eq file.name (or_unused_name (typed_name text)) (subst (λ (g : Option (List ℕ)). Names g path (Some file.name)) is one.named)

-- ## Files that were copied

-- the new image is one of a sound volume
are-opened : CopyIsTheSame → (from to new : List ℕ) (blocks : List (List ℕ)) (files : List VolumeFile) → IsOpened to blocks → AreCopied from to None files new → (after : List (List ℕ)) × IsOpened new after
are-opened law from to new blocks [] opened copied = (blocks, subst (λ (bytes : List ℕ). IsOpened bytes blocks) (sym copied) opened)
are-opened law from to new blocks (file ∷ files) opened (next, one, rest) =
    let has = law from to (AtBlock file.place) None one.file next blocks one one.source opened.is_image in
    are-opened law from next.bytes.items new has.blocks files has.opened rest

-- the copy of a file that is there
copied-there : (info : ℕ) (there older : Option FileData) (held : FileData) (is : Bool) → is ≡ true → there ≡ Some held → (if is then copy_or info there older else older) ≡ Some (copy_with info held)
copied-there info there older held is like same =
    ap (λ (b : Bool). if b then copy_or info there older else older) like ∙ ap (λ (t : Option FileData). copy_or info t older) same

older-there : (info : ℕ) (there older : Option FileData) (is : Bool) → is ≡ false → (if is then copy_or info there older else older) ≡ older
older-there info there older is unlike = ap (λ (b : Bool). if b then copy_or info there older else older) unlike

module _ (back : WrittenIsReadBack) (same : CopyIsTheSame) (law : LikeAreCopied) (from to : List ℕ) (words : List (List ℕ)) (files : List VolumeFile) (is_forced : Bool) (made : Vec ℕ)
    (chosen : AreLike words from files) (copies : CopiesAll from to None files is_forced (Ok made)) (name : List ℕ) (number : ℕ) (named : typed_name name ≡ Some number)
  where
    abbrev old : List (List ℕ)
    old = copies.0.0

    opened : IsOpened to old
    opened = copies.0.1

    all : (blocks : List (List ℕ)) × IsImageOf made.items blocks × ((name : ℕ) → get (files_of blocks) name
        ≡ (if is_like_one words name then copy_or (info_of old) (get (files_of chosen.blocks) name) (get (files_of old) name) else get (files_of old) name))
    all = law from to chosen.blocks old words made.items chosen.opens opened chosen.all (subst (λ (l : List VolumeFile). AreCopied from to None l made.items) chosen.are copies.1)

    sound : IsOpened made.items all.0
    sound =
        let has = are-opened same from to made.items old files opened copies.1 in
        subst (λ (b : List (List ℕ)). IsOpened made.items b) (one_volume back made.items all.0 has.0 all.1 has.1.is_image) has.1

    -- one whose name is like a word is got of the new image as of the old one
    pub copied-file : (held : List ℕ) → is_like_one words number ≡ true → IsFile from (OfName name) held → IsFile made.items (OfName name) held
    copied-file held like file =
        let is : file.number ≡ number = some_eq file.number number (sym file.named ∙ named) in
        let volume : file.blocks ≡ chosen.blocks = one_volume back from chosen.blocks file.blocks chosen.opens.is_image file.opened.is_image in
        let there : get (files_of chosen.blocks) number ≡ Some (file.info, held) =
        subst (λ (n : ℕ). get (files_of chosen.blocks) n ≡ Some (file.info, held)) is (subst (λ (b : List (List ℕ)). get (files_of b) file.number ≡ Some (file.info, held)) volume file.there) in
        record {
          blocks = all.0;
          opened = sound;
          number = number;
          named = named;
          info = with_end_zeros (info_of old) (with_end_zeros 10 file.info);
          there = all.2 number ∙ copied-there (info_of old) (get (files_of chosen.blocks) number) (get (files_of old) number) (file.info, held) (is_like_one words number) like there;
        }

    -- another one is there as it was
    pub older-file : (held : List ℕ) → is_like_one words number ≡ false → IsFile to (OfName name) held → IsFile made.items (OfName name) held
    older-file held unlike file =
        let is : file.number ≡ number = some_eq file.number number (sym file.named ∙ named) in
        let volume : file.blocks ≡ old = one_volume back to old file.blocks opened.is_image file.opened.is_image in
        let there : get (files_of old) number ≡ Some (file.info, held) =
        subst (λ (n : ℕ). get (files_of old) n ≡ Some (file.info, held)) is (subst (λ (b : List (List ℕ)). get (files_of b) file.number ≡ Some (file.info, held)) volume file.there) in
        record {
          blocks = all.0;
          opened = sound;
          number = number;
          named = named;
          info = file.info;
          there = all.2 number ∙ older-there (info_of old) (get (files_of chosen.blocks) number) (get (files_of old) number) (is_like_one words number) unlike ∙ there;
        }

-- What holds of the files of an image that was changed.
use Rattle.std.proofs.Common.{◌≡◌, ◌≢◌, ◌∙◌, ℕ, zero, suc, Bool, true, false, true≢false, cond, eqb, Some, None, Result, Ok, Err, is_ok, Option, List, [], ◌∷◌, length, refl, sym, ap, subst, inl, inr, eq-eqb, ne_eqb}
use Rattle.std.specs.Global.{Vec}
use Rattle.std.specs.FinMap.{get, insert, remove, get-remove, same_map, nat_cmp-IsAntisymmetric}
use Rattle.std.proofs.lemmas.Cmp.{nat_cmp_total}
use Rattle.std.proofs.lemmas.Bool.Decides.{eqb_tells}
use Rattle.volume_image.specs.Image.{IsImageOf, WrittenIsReadBack}
use Rattle.archive_files.specs.declared.forms.GetForm.{GetForm}
use Rattle.name_spelling.specs.Reading.{typed_name}
use Rattle.os8_dir.specs.declared.entries.DirEntry.{DirEntry}
use Rattle.os8_dir.specs.declared.faults.DirFault.{DirFault}
use Rattle.os8_dir.specs.Entries.{DirectoryState, contains, IsTidy}
use Rattle.os8_dir.specs.Reading.{directory_of}
use Rattle.os8_dir.specs.Found.{FilePlace, IsDirectory, files_at, find}
use Rattle.os8_dir.specs.Files.{FileData, Files, files_of, data_if_there}
use Rattle.os8_dir.specs.Changes.{directory_with}
use Rattle.os8_dir.specs.Renaming.{with_new_name}
use Rattle.os8_files.specs.Mounted.{MountState}
use Rattle.os8_files.specs.Failed.{with_list}
use Rattle.os8_files.specs.Calls.{KeepsBlocks}
use Rattle.os8_files.specs.Laws.{extent_on}
use Rattle.os8_files.specs.Renames.{HasRenamed}
use Rattle.archive_files.specs.declared.faults.ArchiveFault.{ArchiveFault}
use Rattle.archive_files.specs.declared.deleting.DeletedImage.{DeletedImage}
use Rattle.archive_files.specs.declared.renaming.RenamedImage.{RenamedImage}
use Rattle.archive_files.specs.declared.squeezing.SqueezedImage.{SqueezedImage}
use Rattle.archive_files.specs.Opening.{IsOpened}
use Rattle.archive_files.specs.Asking.{Target, OfName, AtBlock, asked_name, AreAsked, IsMissing}
use Rattle.archive_files.specs.Getting.{Gets, HasFile, IsFile, IsNoFile}
use Rattle.archive_files.specs.Deleting.{AreDeleted, HasDeletedFrom, without}
use Rattle.archive_files.specs.Squeezing.{AreMoved, HasSqueezed}
use Rattle.archive_files.specs.Renaming.{HasRenamedIn}
use Rattle.archive_files.specs.Laws.{GivesOrLacks}
use Rattle.archive_files.specs.ChangeLaws.{HasFileNamed, IsOneOf, IsNoneOf, IsAsBefore}
use Rattle.archive_files.proofs.LawLemmas.{some_eq, one_volume, tied, get-here, get-there}
use Rattle.archive_files.proofs.FirstBlockLemmas.{DirectoryIs, asked-again, begins-again}
use Rattle.archive_files.proofs.AskLemmas.{one_name}
use Rattle.archive_files.proofs.AgainLemmas.{LongerTape, NoFault, got_again}

-- ## Files that are there

as_file : (image : List ℕ) (wanted : Target) (file : FileData) → HasFile image wanted file → IsFile image wanted file.1
as_file image wanted file is = record { blocks = is.blocks; opened = is.opened; number = is.number; named = is.named; info = file.0; there = is.there }

of_file : (image : List ℕ) (wanted : Target) (words : List ℕ) → (is : IsFile image wanted words) → HasFile image wanted (is.info, words)
of_file image wanted words is = record { blocks = is.blocks; opened = is.opened; number = is.number; named = is.named; there = is.there }

-- a file is there in a new image, asked for so that it has a name which has what the old one had
pub there_again : WrittenIsReadBack → (image new : List ℕ) (was now : Target) (before after : List (List ℕ)) (number : ℕ) (file : FileData) → IsImageOf image before → IsOpened new after
    → asked_name after now ≡ Some number → (has : HasFile image was file) → get (files_of after) number ≡ get (files_of before) has.number → HasFile new now file
there_again law image new was now before after number file is_image opened named has same = record {
  blocks = after;
  opened = opened;
  number = number;
  named = named;
  there = same ∙ ap (λ (blocks : List (List ℕ)). get (files_of blocks) has.number) (sym (one_volume law image before has.blocks is_image has.opened.is_image)) ∙ has.there;
}

-- what a file is asked for as in the volume that is mounted
named-before : WrittenIsReadBack → (image : List ℕ) (one : Target) (before : List (List ℕ)) (file : FileData) → IsImageOf image before → (has : HasFile image one file) → asked_name before one ≡ Some has.number
named-before law image one before file is has = ap (λ (b : List (List ℕ)). asked_name b one) (sym (one_volume law image before has.blocks is has.opened.is_image)) ∙ has.named

-- what could be got of a file that stays is got again
again : WrittenIsReadBack → LongerTape → NoFault → (image new : List ℕ) (wanted : Target) (form : GetForm) (before : Vec ℕ) (answer : Result (Vec ℕ) ArchiveFault)
    → ((file : FileData) → HasFile image wanted file → HasFile new wanted file) → Gets image wanted form (Ok before) → Gets new wanted form answer → GivesOrLacks before.items answer
again law longer none image new wanted form before answer keeps got gets =
    got_again law longer none new wanted got.0 before.items form answer (as_file new wanted (got.1.info, got.0) (keeps (got.1.info, got.0) (of_file image wanted got.0 got.1))) got.2 gets

sound_of : (read : Result DirectoryState DirFault) (d : DirectoryState) → read ≡ Ok d → is_ok read ≡ true
sound_of read d is = ap is_ok is

pub directory_in : (read : Result DirectoryState DirFault) → is_ok read ≡ true → (d : DirectoryState) × (read ≡ Ok d)
directory_in (Ok d) sound = (d, refl)
directory_in (Err fault) sound = cc

get-without : (m : Files) (name q : ℕ) → get (remove m name) q ≡ cond (eqb name q) None (get m q)
get-without m name q = get-remove nat_cmp_total m name q ∙ ap (λ b. cond b None (get m q)) (tied name q)

get-gone : (m : Files) (name : ℕ) → get (remove m name) name ≡ None
get-gone m name = get-without m name name ∙ ap (λ b. cond b None (get m name)) (eq-eqb name name refl)

get-stays : (m : Files) (name q : ℕ) → name ≢ q → get (remove m name) q ≡ get m q
get-stays m name q other = get-without m name q ∙ ap (λ b. cond b None (get m q)) (ne_eqb name q other)

-- ## Deleted files

none-stays : (names : List ℕ) (m : Files) (q : ℕ) → get m q ≡ None → get (without m names) q ≡ None
none-stays [] m q none = none
none-stays (name ∷ names) m q none = none-stays names (remove m name) q (elim (eqb_tells name q) [
  | inl here ↦ get-without m name q ∙ ap (λ b. cond b None (get m q)) here.0
  | inr there ↦ get-stays m name q there.1 ∙ none
])

without-gone : (names : List ℕ) (m : Files) (q : ℕ) → contains names q ≡ true → get (without m names) q ≡ None
without-gone [] m q is = absurd (true≢false (sym is))
without-gone (name ∷ names) m q is = elim (eqb_tells name q) [
  | inl here ↦ none-stays names (remove m name) q (get-without m name q ∙ ap (λ b. cond b None (get m q)) here.0)
  | inr there ↦ without-gone names (remove m name) q (rw there.0 at is)
]

without-stays : (names : List ℕ) (m : Files) (q : ℕ) → contains names q ≡ false → get (without m names) q ≡ get m q
without-stays [] m q none = refl
without-stays (name ∷ names) m q none = elim (eqb_tells name q) [
  | inl here ↦ absurd (true≢false (rw here.0 at none))
  | inr there ↦ without-stays names (remove m name) q (rw there.0 at none) ∙ get-stays m name q there.1
]

-- what is asked for among others
one-of : (blocks : List (List ℕ)) (wanted : List Target) (numbers : List ℕ) (one : Target) → AreAsked blocks wanted numbers → IsOneOf blocks one wanted
    → (number : ℕ) × (asked_name blocks one ≡ Some number) × (contains numbers number ≡ true)
one-of blocks [] numbers one named is = absurd is
one-of blocks (first ∷ others) [] one named is = absurd named
one-of blocks (first ∷ others) (number ∷ numbers) one named (inl same) = (number, sym same ∙ named.0, rw (eq-eqb number number refl) refl)
one-of blocks (first ∷ others) (number ∷ numbers) one named (inr rest) =
    let found = one-of blocks others numbers one named.1 rest in
    (found.0, found.1, elim (eqb number found.0) as (λ b. cond b true (contains numbers found.0) ≡ true) [ true ↦ refl | false ↦ found.2 ])

none-of : (blocks : List (List ℕ)) (wanted : List Target) (numbers : List ℕ) (one : Target) (q : ℕ) → AreAsked blocks wanted numbers → IsNoneOf blocks one wanted → asked_name blocks one ≡ Some q
    → contains numbers q ≡ false
none-of blocks [] [] one q named is at = refl
none-of blocks [] (number ∷ numbers) one q named is at = absurd named
none-of blocks (first ∷ others) [] one q named is at = absurd named
none-of blocks (first ∷ others) (number ∷ numbers) one q named is at =
    rw (ne_eqb number q (λ same. is.0 (named.0 ∙ ap Some same ∙ sym at))) (none-of blocks others numbers one q named.1 is.1 at)

deleted-sound : (names : List ℕ) (old new : MountState) → AreDeleted old names new → is_ok (directory_of old.blocks) ≡ true → is_ok (directory_of new.blocks) ≡ true
deleted-sound [] old new is sound = ap (λ (m : MountState). is_ok (directory_of m.blocks)) is ∙ sound
deleted-sound (name ∷ names) old new is sound = deleted-sound names is.0 new is.2 (sound_of (directory_of is.0.blocks) is.1.written.directory is.1.written.read)

deleted-opened : (image : List ℕ) (wanted : List Target) (new : DeletedImage) → (is : HasDeletedFrom image wanted new) → IsOpened new.bytes.items is.after.blocks
deleted-opened image wanted new is = record { is_image = is.is_image; sound = deleted-sound new.names.items is.before is.after is.deleted is.mounted.opened.sound }

-- what is at a block after a deletion was there before
missing-at : DirectoryIs → (names : List ℕ) (before after : MountState) (place n : ℕ) (found : Option ℕ) → asked_name after.blocks (AtBlock place) ≡ found → asked_name before.blocks (AtBlock place) ≡ Some n
    → contains names n ≡ true → ((other : ℕ) → contains names other ≡ true → get (files_of after.blocks) other ≡ None)
    → ((other : ℕ) → contains names other ≡ false → extent_on after other ≡ extent_on before other) → IsMissing after.blocks after.blocks (AtBlock place)
missing-at is-directory names before after place n None is named among gone places = inl is
missing-at is-directory names before after place n (Some m) is named among gone places = go (contains names m) refl
  where
    go : (b : Bool) → contains names m ≡ b → IsMissing after.blocks after.blocks (AtBlock place)
    go true deleted = inr (m, is, gone m deleted)
    go false kept =
        let was = asked-again is-directory (AtBlock place) after.blocks before.blocks m is (sym (places m kept)) in
        absurd (true≢false (sym among ∙ ap (contains names) (some_eq n m (sym named ∙ was)) ∙ kept))

missing-of : DirectoryIs → (names : List ℕ) (before after : MountState) (one : Target) (n : ℕ) → asked_name before.blocks one ≡ Some n → contains names n ≡ true
    → ((other : ℕ) → contains names other ≡ true → get (files_of after.blocks) other ≡ None)
    → ((other : ℕ) → contains names other ≡ false → extent_on after other ≡ extent_on before other) → IsMissing after.blocks after.blocks one
missing-of is-directory names before after (OfName text) n named among gone places = (n, named, gone n among)
missing-of is-directory names before after (AtBlock place) n named among gone places =
    missing-at is-directory names before after place n (asked_name after.blocks (AtBlock place)) refl named among gone places

pub deleted_gone : WrittenIsReadBack → DirectoryIs → (image : List ℕ) (one : Target) (wanted : List Target) (new : DeletedImage) (blocks : List (List ℕ)) → HasDeletedFrom image wanted new → IsImageOf image blocks
    → IsOneOf blocks one wanted → IsNoFile new.bytes.items one
deleted_gone law is-directory image one wanted new blocks is own among =
    let same : blocks ≡ is.before.blocks = one_volume law image is.before.blocks blocks is.mounted.opened.is_image own in
    let found = one-of is.before.blocks wanted new.names.items one is.named (subst (λ (b : List (List ℕ)). IsOneOf b one wanted) same among) in
    record {
      blocks = is.after.blocks;
      opened = deleted-opened image wanted new is;
      missing = missing-of is-directory new.names.items is.before is.after one found.0 found.1 found.2
          (λ other deleted. ap (λ (m : Files). get m other) is.files ∙ without-gone new.names.items (files_of is.before.blocks) other deleted) is.places;
    }

pub deleted_leaves : WrittenIsReadBack → DirectoryIs → (image : List ℕ) (one : Target) (wanted : List Target) (file : FileData) (new : DeletedImage) (blocks : List (List ℕ)) → HasDeletedFrom image wanted new
    → IsImageOf image blocks → IsNoneOf blocks one wanted → HasFile image one file → HasFile new.bytes.items one file
deleted_leaves law is-directory image one wanted file new blocks is own other has =
    let same : blocks ≡ is.before.blocks = one_volume law image is.before.blocks blocks is.mounted.opened.is_image own in
    let named = named-before law image one is.before.blocks file is.mounted.opened.is_image has in
    let kept = none-of is.before.blocks wanted new.names.items one has.number is.named (subst (λ (b : List (List ℕ)). IsNoneOf b one wanted) same other) named in
    there_again law image new.bytes.items one one is.before.blocks is.after.blocks has.number file is.mounted.opened.is_image (deleted-opened image wanted new is)
    (asked-again is-directory one is.before.blocks is.after.blocks has.number named (is.places has.number kept)) has
    (ap (λ (m : Files). get m has.number) is.files ∙ without-stays new.names.items (files_of is.before.blocks) has.number kept)

pub deleted_got : WrittenIsReadBack → DirectoryIs → LongerTape → NoFault → (image : List ℕ) (one : Target) (wanted : List Target) (form : GetForm) (new : DeletedImage) (before : Vec ℕ)
    (answer : Result (Vec ℕ) ArchiveFault) (blocks : List (List ℕ)) → HasDeletedFrom image wanted new → IsImageOf image blocks → IsNoneOf blocks one wanted → Gets image one form (Ok before)
    → Gets new.bytes.items one form answer → GivesOrLacks before.items answer
deleted_got law is-directory longer none image one wanted form new before answer blocks is own other got gets =
    again law longer none image new.bytes.items one form before answer (λ file has. deleted_leaves law is-directory image one wanted file new blocks is own other has) got gets

-- ## Squeezed volumes

moved-sound : (turns : ℕ) (old new : MountState) → AreMoved turns old new → is_ok (directory_of old.blocks) ≡ true → is_ok (directory_of new.blocks) ≡ true
moved-sound zero old new is sound = ap (λ (m : MountState). is_ok (directory_of m.blocks)) is ∙ sound
moved-sound (suc turns) old new is sound = moved-sound turns is.1 new is.3 (sound_of (directory_of is.1.blocks) is.2.written.directory is.2.written.read)

squeezed-opened : (image : List ℕ) (new : SqueezedImage) → (is : HasSqueezed image new) → IsOpened new.bytes.items is.after.blocks
squeezed-opened image new is = record { is_image = is.is_image; sound = moved-sound new.move_count is.before is.after is.moved is.mounted.opened.sound }

pub squeezed_names : WrittenIsReadBack → (image : List ℕ) (name : ℕ) (file : FileData) (new : SqueezedImage) → HasSqueezed image new → HasFileNamed image name file → HasFileNamed new.bytes.items name file
squeezed_names law image name file new is has = record {
  blocks = is.after.blocks;
  opened = squeezed-opened image new is;
  there = ap (λ (m : Files). get m name) is.files
      ∙ ap (λ (blocks : List (List ℕ)). get (files_of blocks) name) (sym (one_volume law image is.before.blocks has.blocks is.mounted.opened.is_image has.opened.is_image)) ∙ has.there;
}

pub squeezed_there : WrittenIsReadBack → (image name : List ℕ) (file : FileData) (new : SqueezedImage) → HasSqueezed image new → HasFile image (OfName name) file → HasFile new.bytes.items (OfName name) file
squeezed_there law image name file new is has =
    there_again law image new.bytes.items (OfName name) (OfName name) is.before.blocks is.after.blocks has.number file is.mounted.opened.is_image (squeezed-opened image new is) has.named has
    (ap (λ (m : Files). get m has.number) is.files)

pub squeezed_got : WrittenIsReadBack → LongerTape → NoFault → (image name : List ℕ) (form : GetForm) (new : SqueezedImage) (before : Vec ℕ) (answer : Result (Vec ℕ) ArchiveFault)
    → HasSqueezed image new → Gets image (OfName name) form (Ok before) → Gets new.bytes.items (OfName name) form answer → GivesOrLacks before.items answer
squeezed_got law longer none image name form new before answer is got gets =
    again law longer none image new.bytes.items (OfName name) form before answer (λ file has. squeezed_there law image name file new is has) got gets

-- ## Renamed files

two-apart : (m : Files) (name other : ℕ) (file : FileData) → get m name ≡ Some file → get m other ≡ None → name ≢ other
two-apart m name other file there fresh same = let e = ap (get m) same in cc

renamed-opened : (image other : List ℕ) (wanted : Target) (new : RenamedImage) → (is : HasRenamedIn image wanted other new) → IsOpened new.bytes.items is.after.blocks
renamed-opened image other wanted new is = record { is_image = is.is_image; sound = sound_of (directory_of is.after.blocks) is.renamed.written.directory is.renamed.written.read }

pub renamed_there : WrittenIsReadBack → (image other : List ℕ) (wanted : Target) (file : FileData) (new : RenamedImage) → HasRenamedIn image wanted other new → HasFile image wanted file
    → HasFile new.bytes.items (OfName other) file
renamed_there law image other wanted file new is has =
    let one : has.number ≡ new.old_name = one_name law image wanted is.before.blocks has.blocks new.old_name has.number is.mounted.opened.is_image has.opened.is_image is.named has.named in
    there_again law image new.bytes.items wanted (OfName other) is.before.blocks is.after.blocks new.new_name file is.mounted.opened.is_image (renamed-opened image other wanted new is) is.next_named has
    (ap (λ (m : Files). get m new.new_name) is.renamed.files ∙ get-here (remove (files_of is.before.blocks) new.old_name) new.new_name is.renamed.file
    ∙ sym is.renamed.there ∙ ap (get (files_of is.before.blocks)) (sym one))

pub renamed_begins : WrittenIsReadBack → DirectoryIs → (image other : List ℕ) (place : ℕ) (file : FileData) (new : RenamedImage) → HasRenamedIn image (AtBlock place) other new
    → HasFile image (AtBlock place) file → HasFile new.bytes.items (AtBlock place) file
renamed_begins law is-directory image other place file new is has =
    let found = renamed_there law image other (AtBlock place) file new is has in
    record {
      blocks = is.after.blocks;
      opened = renamed-opened image other (AtBlock place) new is;
      number = new.new_name;
      named = begins-again is-directory place is.before.blocks is.after.blocks new.old_name new.new_name is.named is.renamed.place;
      there = ap (get (files_of is.after.blocks)) (some_eq new.new_name found.number (sym is.next_named ∙ found.named))
          ∙ ap (λ (blocks : List (List ℕ)). get (files_of blocks) found.number) (sym (one_volume law new.bytes.items is.after.blocks found.blocks is.is_image found.opened.is_image)) ∙ found.there;
    }

pub renamed_gone : (image text other : List ℕ) (wanted : Target) (new : RenamedImage) → HasRenamedIn image wanted other new → typed_name text ≡ Some new.old_name → IsNoFile new.bytes.items (OfName text)
renamed_gone image text other wanted new is named =
    let apart = two-apart (files_of is.before.blocks) new.old_name new.new_name is.renamed.file is.renamed.there is.renamed.fresh in
    record {
      blocks = is.after.blocks;
      opened = renamed-opened image other wanted new is;
      missing = (
        new.old_name,
        named,
        ap (λ (m : Files). get m new.old_name) is.renamed.files
            ∙ get-there (remove (files_of is.before.blocks) new.old_name) new.new_name is.renamed.file new.old_name (λ same. apart (sym same)) ∙ get-gone (files_of is.before.blocks) new.old_name,
      );
    }

renamed-stays : (m : Files) (name other q : ℕ) (file : FileData) → name ≢ q → other ≢ q → get (insert (remove m name) other file) q ≡ get m q
renamed-stays m name other q file one two = get-there (remove m name) other file q two ∙ get-stays m name q one

pub renamed_leaves : WrittenIsReadBack → DirectoryIs → (image other : List ℕ) (one wanted : Target) (file : FileData) (new : RenamedImage) (blocks : List (List ℕ)) → HasRenamedIn image wanted other new
    → IsImageOf image blocks → asked_name blocks one ≢ Some new.old_name → asked_name blocks one ≢ Some new.new_name → HasFile image one file → HasFile new.bytes.items one file
renamed_leaves law is-directory image other one wanted file new blocks is own not_old not_new has =
    let named = named-before law image one is.before.blocks file is.mounted.opened.is_image has in
    let asked : asked_name blocks one ≡ Some has.number = ap (λ (b : List (List ℕ)). asked_name b one) (one_volume law image is.before.blocks blocks is.mounted.opened.is_image own) ∙ named in
    let first : new.old_name ≢ has.number = λ same. not_old (asked ∙ ap Some (sym same)) in
    let second : new.new_name ≢ has.number = λ same. not_new (asked ∙ ap Some (sym same)) in
    there_again law image new.bytes.items one one is.before.blocks is.after.blocks has.number file is.mounted.opened.is_image (renamed-opened image other wanted new is)
    (asked-again is-directory one is.before.blocks is.after.blocks has.number named (is.renamed.places has.number first second)) has
    (ap (λ (m : Files). get m has.number) is.renamed.files
    ∙ renamed-stays (files_of is.before.blocks) new.old_name new.new_name has.number is.renamed.file first second)

-- the maps of two renamings, there and back
maps-back : (m one two : Files) (name other : ℕ) (file again : FileData) → get m name ≡ Some file → get m other ≡ None → one ≡ insert (remove m name) other file
    → get one other ≡ Some again → two ≡ insert (remove one other) name again → two ≡ m
maps-back m one two name other file again there fresh first found second =
    same_map nat_cmp_total nat_cmp-IsAntisymmetric two m (λ q. elim (eqb_tells name q) [
      | inl here ↦ ap (λ (f : Files). get f q) second ∙ ap (get (insert (remove one other) name again)) (sym here.1) ∙ get-here (remove one other) name again ∙ same ∙ ap (get m) here.1
      | inr away ↦ ap (λ (f : Files). get f q) second ∙ get-there (remove one other) name again q away.1 ∙ elim (eqb_tells other q) [
        | inl here ↦ ap (get (remove one other)) (sym here.1) ∙ get-gone one other ∙ sym fresh ∙ ap (get m) here.1
        | inr apart ↦ get-stays one other q apart.1 ∙ ap (λ (f : Files). get f q) first ∙ renamed-stays m name other q file away.1 apart.1
      ]
    ])
  where
    same : Some again ≡ get m name
    same = sym found ∙ ap (λ (f : Files). get f other) first ∙ get-here (remove m name) other file ∙ sym there

abbrev pub FoundIn : Type 0
FoundIn = (blocks : List (List ℕ)) (d : DirectoryState) (name : ℕ) → directory_of blocks ≡ Ok d → get (files_of blocks) name ≡ data_if_there blocks d.info (find name (files_at d.first d.entries))

abbrev pub BackAgain : Type 0
BackAgain = (name other first : ℕ) (es : List DirEntry) → IsTidy es → find other (files_at first es) ≡ None → with_new_name other name (with_new_name name other es) ≡ es

pub none-found : (blocks : List (List ℕ)) (info : ℕ) (found : Option FilePlace) → data_if_there blocks info found ≡ None → found ≡ None
none-found blocks info None none = refl
none-found blocks info (Some f) none = cc

keeps-both : (old mid new : List (List ℕ)) → KeepsBlocks old mid 0 0 → KeepsBlocks mid new 0 0 → KeepsBlocks old new 0 0
keeps-both old mid new one two = record {
  count = two.count ∙ one.count;
  first = two.first ∙ one.first;
  following = λ k high beside. two.following k high beside ∙ one.following k high beside;
}

-- a list of entries with another name and the old one again
lists-back : BackAgain → (name other : ℕ) (d : DirectoryState) → IsTidy d.entries → find other (files_at d.first d.entries) ≡ None
    → with_list (λ (x : DirectoryState). with_new_name other name x.entries) (with_list (λ (x : DirectoryState). with_new_name name other x.entries) (Ok d)) ≡ Ok d
lists-back back name other d neat none = ap (λ es. Ok (directory_with d es)) (back name other d.first d.entries neat none)

-- the same of two states of a volume
two-lists : BackAgain → (blocks mid again : List (List ℕ)) (name other : ℕ) (d : DirectoryState) → directory_of blocks ≡ Ok d → IsTidy d.entries → find other (files_at d.first d.entries) ≡ None
    → directory_of mid ≡ with_list (λ (x : DirectoryState). with_new_name name other x.entries) (directory_of blocks)
    → directory_of again ≡ with_list (λ (x : DirectoryState). with_new_name other name x.entries) (directory_of mid) → directory_of again ≡ directory_of blocks
two-lists back blocks mid again name other d read neat none one two =
    two ∙ ap (with_list (λ (x : DirectoryState). with_new_name other name x.entries)) (one ∙ ap (with_list (λ (x : DirectoryState). with_new_name name other x.entries)) read) ∙ lists-back back name other d neat none ∙ sym read

-- two renamings, there and back, one after the other
as-before : FoundIn → BackAgain → ((blocks : List (List ℕ)) (d : DirectoryState) → directory_of blocks ≡ Ok d → IsDirectory (length blocks) d)
    → (before mid from after : MountState) (name other : ℕ) → is_ok (directory_of before.blocks) ≡ true → from.blocks ≡ mid.blocks → HasRenamed before name other mid → HasRenamed from other name after
    → IsAsBefore before.blocks after.blocks
as-before finds back is-directory before mid from after name other sound same one two =
    let read = directory_in (directory_of before.blocks) sound in
    let d = read.0 in
    let none = none-found before.blocks d.info (find other (files_at d.first d.entries)) (sym (finds before.blocks d other read.1) ∙ one.fresh) in
    let files : files_of from.blocks ≡ files_of mid.blocks = ap (λ (blocks : List (List ℕ)). files_of blocks) same in
    record {
      directory = two-lists back before.blocks mid.blocks after.blocks name other d read.1 (is-directory before.blocks d read.1).neat none one.list
          (two.list ∙ ap (λ (blocks : List (List ℕ)). with_list (λ (x : DirectoryState). with_new_name other name x.entries) (directory_of blocks)) same);
      files = maps-back (files_of before.blocks) (files_of mid.blocks) (files_of after.blocks) name other one.file two.file one.there one.fresh one.files
          (ap (λ (m : Files). get m other) (sym files) ∙ two.there) (two.files ∙ ap (λ (m : Files). insert (remove m other) name two.file) files);
      blocks_are = keeps-both before.blocks mid.blocks after.blocks one.blocks (subst (λ (blocks : List (List ℕ)). KeepsBlocks blocks after.blocks 0 0) same two.blocks);
    }

pub renamed_back : WrittenIsReadBack → FoundIn → BackAgain → ((blocks : List (List ℕ)) (d : DirectoryState) → directory_of blocks ≡ Ok d → IsDirectory (length blocks) d)
    → (image name other : List ℕ) (wanted later : Target) (new back : RenamedImage) (blocks again : List (List ℕ)) → HasRenamedIn image wanted other new → HasRenamedIn new.bytes.items later name back
    → back.old_name ≡ new.new_name → back.new_name ≡ new.old_name → IsImageOf image blocks → IsImageOf back.bytes.items again → IsAsBefore blocks again
renamed_back law finds laws is-directory image name other wanted later new back blocks again one two next number was is =
    let first : blocks ≡ one.before.blocks = one_volume law image one.before.blocks blocks one.mounted.opened.is_image was in
    let middle : two.before.blocks ≡ one.after.blocks = one_volume law new.bytes.items one.after.blocks two.before.blocks one.is_image two.mounted.opened.is_image in
    let last : again ≡ two.after.blocks = one_volume law back.bytes.items two.after.blocks again two.is_image is in
    let second : HasRenamed two.before new.new_name new.old_name two.after =
    subst (λ n. HasRenamed two.before new.new_name n two.after) number (subst (λ n. HasRenamed two.before n back.new_name two.after) next two.renamed) in
    subst (λ bs. IsAsBefore bs again) (sym first) (subst (λ bs. IsAsBefore one.before.blocks bs) (sym last)
    (as-before finds laws is-directory one.before one.after two.before two.after new.old_name new.new_name one.mounted.opened.sound middle one.renamed second))

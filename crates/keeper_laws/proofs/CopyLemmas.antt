-- Files that are copied from one image file to another.
use Rattle.std.proofs.Common.{◌≡◌, ◌∙◌, ◌⊎◌, ℕ, Bool, true, false, Option, None, Some, Result, Ok, Err, List, [], ◌∷◌, ◌++◌, ap, refl, subst, inl, inr, length, map, slice_get}
use Rattle.std.specs.Global.{Vec}
use Rattle.hosts.specs.Event.{Event, look_call, tell_call}
use Rattle.hosts.specs.Streams.{output}
use Rattle.refusals.specs.declared.faults.SessionFault.TheVariants as session
use Rattle.archive_files.specs.Asking.{Target, target_of}
use Rattle.archive_files.specs.declared.faults.ArchiveFault.{ArchiveFault}
use Rattle.archive_files.specs.declared.faults.ArchiveFault.TheVariants.{Refused}
use Rattle.archive_files.specs.declared.faults.CopyFault.TheVariants as one
use Rattle.archive_many.specs.Copying.{CopiesAll}
use Rattle.archive_many.specs.Cutting.{CutsFiles}
use Rattle.archive_many.specs.Opened.{OpensVolume, files_on}
use Rattle.archive_many.specs.Wishing.{first_unfound, found_files, wishes_of}
use Rattle.archive_many.specs.declared.faults.CopyAllFault.{CopyAllFault}
use Rattle.archive_many.specs.declared.faults.CopyAllFault.TheVariants as copying
use Rattle.archive_many.specs.declared.opened.VolumeFile.{VolumeFile}
use Rattle.archive_many.specs.declared.wishes.Wish.{Wish}
use Rattle.archive_many.specs.declared.wishes.Wish.TheVariants as wish
use Rattle.outcome.specs.Notes.{name_text}
use Rattle.outcome.specs.declared.endings.Ending.{Ending}
use Rattle.outcome.specs.declared.notes.NameNote.TheVariants as note
use Rattle.program_tasks.specs.declared.forms.CopyChoice.{CopyChoice}
use Rattle.program_tasks.specs.declared.forms.CopyChoice.TheVariants.{One, Like}
use Rattle.program_tasks.specs.declared.forms.CopyForm.{CopyForm}
use Rattle.program_tasks.specs.declared.forms.ImageForm.{ImageForm}
use Rattle.image_files.specs.Answers.{Answers, AreLines}
use Rattle.image_files.specs.Laws.{KeepsFiles, LeavesFiles, is_refusal}
use Rattle.image_files.specs.Pairs.{IsOneRefused, RefusesIf, is_one_image, is_want_of}
use Rattle.image_files.specs.Reading.{LooksAt, Opens}
use Rattle.image_files.specs.Saving.{Stores}
use Rattle.image_files.specs.Work.{Then, Purely}
use Rattle.image_files.specs.declared.images.Image.{Image}
use Rattle.image_files.proofs.KeepLemmas.{looks-at-keeps}
use Rattle.image_files.proofs.LeaveLemmas.{opens-never, stores-leaves, then-leaves}
use Rattle.change_commands.specs.Copying.{Copies, CopiesFrom, CopiesInto, FindsAll, FindsChosen, FindsFiles, FindsLike, FindsOne, OpensFrom, PutsFiles, TellsCopies, may_replace, new_name, stored_lines}
use Rattle.change_commands.specs.Refusing.{RefusesCopies, RefusesWish, TellsFile, TellsWord}
use Rattle.asked_files.specs.Wishing.{AreWished}
use Rattle.keeper_laws.specs.Changed.{GetsVolume}
use Rattle.keeper_laws.specs.Copied.{AreChosen, AreLike, HasCopied, IsSource}
use Rattle.keeper_laws.specs.Ended.{DoesNothing, EndsAs}
use Rattle.keeper_laws.proofs.OpenLemmas.{FindsSaved, FindsUnsaved, IsQuiet, still}
use Rattle.keeper_laws.proofs.RefuseLemmas.{ends-so}
use Rattle.keeper_laws.proofs.SeenLemmas.{at-refuses, seen-at}
use Rattle.keeper_laws.proofs.PrepareLemmas.{IsRejected, Prepared, Prepares, Rejects, answers-reject, lines-reject, noted, nothing, nothing-then, prepared-after, prepared-ends, prepares-then, refuses-rejected, rejects-by, then-rejects}

-- ## Why they are refused

refused-if : (is : Bool) (name : List ℕ) (fault : ArchiveFault) (size : ℕ) (old : List Event) (ending : Ending) (new : List Event) → RefusesIf is name fault size old ending new → (is_refusal ending ≡ true) × DoesNothing old new
refused-if true name fault size old ending new p = refuses-rejected fault size old ending new p
refused-if false name fault size old ending new (ok, p) =
    let r = refuses-rejected fault size (tell_call ok (name_text note.Refuses name) ∷ old) ending new p in
    (r.0, nothing-then old (tell_call ok (name_text note.Refuses name) ∷ old) new (noted ok (name_text note.Refuses name) old (tell_call ok (name_text note.Refuses name) ∷ old) refl) r.1)

one-rejected : (name : List ℕ) (fault : ArchiveFault) (size : ℕ) (old : List Event) (ending : Ending) (new : List Event) → IsOneRefused name fault size old ending new → (is_refusal ending ≡ true) × DoesNothing old new
one-rejected name fault size old ending new (inl p) = refused-if (is_want_of fault) name fault size old ending new p
one-rejected name fault size old ending new (inr p) = (ends-so ending _ p.0 refl, nothing old new p.1)

opens-reject : (form : CopyForm) (from : List ℕ) → Rejects (OpensFrom form from)
opens-reject form from old ending new (why, opens, p) = one-rejected form.image.file.bytes.items why (length from) old ending new p

word-noted : (word : Option (List ℕ)) (old new : List Event) → TellsWord word old new → DoesNothing old new
word-noted None old new p = nothing old new p
word-noted (Some word) old new (ok, p) = noted ok _ old new p

wish-rejected : (words : List (List ℕ)) (one : Wish) (old : List Event) (ending : Ending) (new : List Event) → RefusesWish words one old ending new → (is_refusal ending ≡ true) × DoesNothing old new
wish-rejected words (wish.File file) old ending new p = absurd p
wish-rejected words (wish.BadWord place) old ending new p = (ends-so ending _ p.0 refl, word-noted (slice_get words place) old new p.1)
wish-rejected words (wish.NotFound place) old ending new p = (ends-so ending _ p.0 refl, word-noted (slice_get words place) old new p.1)
wish-rejected words (wish.Block block) old ending new p = (ends-so ending _ p.0 refl, nothing old new p.1)

all-reject : (words : List (List ℕ)) (wishes : List Wish) → Rejects (FindsAll words wishes)
all-reject words wishes old ending new (inl (one, is, p)) = wish-rejected words one old ending new p
all-reject words wishes old ending new (inr p) = (ends-so ending _ p.0 refl, nothing old new p.1)

like-reject : (words : List (List ℕ)) (blocks : List (List ℕ)) → Rejects (FindsLike words blocks)
like-reject words blocks =
    then-rejects (Purely (AreWished words blocks)) (λ wishes. FindsAll words wishes.items) (λ old ending new p. (ends-so ending _ p.0 refl, nothing old new p.1)) (λ old wishes new p. nothing old new p.1)
    (λ wishes. all-reject words wishes.items)

one-reject : (image : ImageForm) (size : ℕ) (wanted : Target) (blocks : List (List ℕ)) → Rejects (FindsOne image size wanted blocks)
one-reject image size wanted blocks old ending new (inl (why, is, p)) = one-rejected image.file.bytes.items (Refused (session.File why)) size old ending new p
one-reject image size wanted blocks old ending new (inr p) = (ends-so ending _ p.0 refl, nothing old new p.1)

chosen-reject : (image : ImageForm) (choice : CopyChoice) (size : ℕ) (blocks : List (List ℕ)) → Rejects (FindsChosen image choice size blocks)
chosen-reject image (One asked name) size blocks = one-reject image size (target_of asked) blocks
chosen-reject image (Like words is_forced) size blocks = like-reject (map (λ word. word.bytes.items) words.items) blocks

finds-reject : (form : CopyForm) (from : List ℕ) → Rejects (FindsFiles form from)
finds-reject form from =
    then-rejects (OpensFrom form from) (λ blocks. FindsChosen form.image form.files (length from) blocks) (opens-reject form from) (λ old blocks new p. nothing old new p.1)
    (λ blocks. chosen-reject form.image form.files (length from) blocks)

file-noted : (choice : CopyChoice) (file : VolumeFile) (old new : List Event) → TellsFile choice file old new → DoesNothing old new
file-noted (One asked name) file old new p = nothing old new p
file-noted (Like words is_forced) file old new (text, names, ok, p) = noted ok _ old new p

copies-rejected : (form : CopyForm) (fault : CopyAllFault) (from to : ℕ) (old : List Event) (ending : Ending) (new : List Event) → RefusesCopies form fault from to old ending new → (is_refusal ending ≡ true) × DoesNothing old new
copies-rejected form (copying.To fault) from to old ending new p = one-rejected form.to.file.bytes.items fault to old ending new p
copies-rejected form (copying.Exists file) from to old ending new (inl p) = (ends-so ending _ p.0 refl, file-noted form.files file old new p.1)
copies-rejected form (copying.Exists file) from to old ending new (inr p) = (ends-so ending _ p.0 refl, nothing old new p.1)
copies-rejected form (copying.File file (one.From fault)) from to old ending new p = one-rejected form.image.file.bytes.items fault from old ending new p
copies-rejected form (copying.File file (one.To fault)) from to old ending new (inl (between, tells, p)) =
    let r = one-rejected form.to.file.bytes.items fault to between ending new p in
    (r.0, nothing-then old between new (file-noted form.files file old between tells) r.1)
copies-rejected form (copying.File file (one.To fault)) from to old ending new (inr p) = (ends-so ending _ p.0 refl, nothing old new p.1)
copies-rejected form copying.Memory from to old ending new p = (ends-so ending _ p.0 refl, nothing old new p.1)

puts-reject : (form : CopyForm) (from : List ℕ) (files : List VolumeFile) (to : List ℕ) → Rejects (PutsFiles form from files to)
puts-reject form from files to old ending new (fault, copies, p) = copies-rejected form fault (length from) (length to) old ending new p

tells-reject : (form : CopyForm) (from : List ℕ) (files : List VolumeFile) (to : List ℕ) → Rejects (TellsCopies form from files to)
tells-reject form from files to = then-rejects (Answers (CutsFiles from to files) (length from)) (λ cuts. Purely (AreLines (stored_lines (new_name form.files) files cuts.items))) (answers-reject (CutsFiles from to files) (length from))
    (λ old cuts new p. nothing old new p.1) (λ cuts. lines-reject (stored_lines (new_name form.files) files cuts.items))

-- ## The files

like : (words : List (List ℕ)) (from : List ℕ) (blocks : List (List ℕ)) → OpensVolume from (Ok blocks) → (old : List Event) (files : Vec VolumeFile) (new : List Event) → FindsLike words blocks old (Ok files) new
    → AreLike words from files.items × (new ≡ old)
like words from blocks opens old files new (inl ends) = absurd ends
like words from blocks opens old files new (inr it) = found it.given it.between it.done.0 it.done.1 it.after
  where
    found : (wishes : Vec Wish) (two : List Event) → wishes.items ≡ wishes_of (files_on blocks) false words [] → two ≡ old → FindsAll words wishes.items two (Ok files) new → AreLike words from files.items × (new ≡ old)
    found wishes two are same (none, files_are, p) = (
      record {
        blocks = blocks;
        opens = opens;
        all = subst (λ (w : List Wish). first_unfound w ≡ None) are none;
        are = files_are ∙ ap (λ (w : List Wish). found_files w) are;
      },
      p ∙ same,
    )

chosen-in : (image : ImageForm) (choice : CopyChoice) (from : List ℕ) (blocks : List (List ℕ)) → OpensVolume from (Ok blocks) → (old : List Event) (files : Vec VolumeFile) (new : List Event)
    → FindsChosen image choice (length from) blocks old (Ok files) new → AreChosen choice from files.items × (new ≡ old)
chosen-in image (One asked name) from blocks opens old files new (file, found, are, p) = (record { blocks = blocks; opens = opens; file = file; found = found; are = are }, p)
chosen-in image (Like words is_forced) from blocks opens old files new p = like (map (λ word. word.bytes.items) words.items) from blocks opens old files new p

chosen : (form : CopyForm) (from : List ℕ) (old : List Event) (files : Vec VolumeFile) (new : List Event) → FindsFiles form from old (Ok files) new → AreChosen form.files from files.items × IsQuiet [] old new
chosen form from old files new (inl ends) = absurd ends
chosen form from old files new (inr it) =
    let two = chosen-in form.image form.files from it.given it.done.0 it.between files new it.after in
    (two.0, still old new (two.1 ∙ it.done.1))

-- the lines of the copies
record HasLines (form : CopyForm) (from : List ℕ) (files : List VolumeFile) (to lines : List ℕ) : Type 0 where
  cuts : Vec Bool
  cut : CutsFiles from to files (Ok cuts)
  are : lines ≡ stored_lines (new_name form.files) files cuts.items

has-lines : (form : CopyForm) (from : List ℕ) (files : List VolumeFile) (to : List ℕ) (old : List Event) (lines : Vec ℕ) (new : List Event) → TellsCopies form from files to old (Ok lines) new
    → HasLines form from files to lines.items × IsQuiet [] old new
has-lines form from files to old lines new (inl ends) = absurd ends
has-lines form from files to old lines new (inr it) = (record { cuts = it.given; cut = it.done.0; are = it.after.0 }, still old new (it.after.1 ∙ it.done.1))

-- ## The steps before the save

-- the copies, and the volume with them
record Copied (is_one : Bool) (form : CopyForm) (image : Image) (calls : List Event) (bytes lines : List ℕ) : Type 0 where
  from : List ℕ
  source : IsSource is_one form.image image calls from
  files : List VolumeFile
  chosen_files : AreChosen form.files from files
  made : Vec ℕ
  copies : CopiesAll from image.bytes.items (new_name form.files) files (may_replace form.files) (Ok made)
  bytes_are : bytes ≡ made.items
  told : HasLines form from files image.bytes.items lines

into-prepares : (is_one : Bool) (form : CopyForm) (image : Image) (calls_before : List Event) (from : List ℕ) → IsSource is_one form.image image calls_before from
    → Prepares image (λ calls bytes lines. Copied is_one form image (calls ++ calls_before) bytes lines) (CopiesInto form image from)
into-prepares is_one form image calls_before from source =
    prepares-then image (λ calls bytes lines. Copied is_one form image (calls ++ calls_before) bytes lines)
    (FindsFiles form from) (λ files. Then (PutsFiles form from files.items image.bytes.items) (λ made. Then (TellsCopies form from files.items image.bytes.items) (λ lines. Stores image made.items lines.items)))
    (λ files. []) (λ files. AreChosen form.files from files.items) (finds-reject form from) (λ old files new p. chosen form from old files new p)
    (λ files is. prepares-then image (λ calls bytes lines. Copied is_one form image ((calls ++ []) ++ calls_before) bytes lines)
    (PutsFiles form from files.items image.bytes.items) (λ made. Then (TellsCopies form from files.items image.bytes.items) (λ lines. Stores image made.items lines.items))
    (λ made. []) (λ made. CopiesAll from image.bytes.items (new_name form.files) files.items (may_replace form.files) (Ok made)) (puts-reject form from files.items image.bytes.items) (λ old made new p. (p.0, still old new p.1))
    (λ made copies. prepares-then image (λ calls bytes lines. Copied is_one form image (((calls ++ []) ++ []) ++ calls_before) bytes lines)
    (TellsCopies form from files.items image.bytes.items) (λ lines. Stores image made.items lines.items)
    (λ lines. []) (λ lines. HasLines form from files.items image.bytes.items lines.items) (tells-reject form from files.items image.bytes.items) (λ old lines new p. has-lines form from files.items image.bytes.items old lines new p)
    (λ lines told old result new p. inl (record {
      calls = [];
      bytes = made.items;
      lines = lines.items;
      gave = record { from = from; source = source; files = files.items; chosen_files = is; made = made; copies = copies; bytes_are = refl; told = told };
      mid = old;
      quiet = still old old refl;
      stores = p;
    }))))

none-more : (calls : List Event) → calls ++ [] ≡ calls
none-more [] = refl
none-more (call ∷ calls) = ap (λ (l : List Event). call ∷ l) (none-more calls)

-- no call was read before these
plain : (is_one : Bool) (form : CopyForm) (image : Image) (old : List Event) (result : Result (Unit {0}) Ending) (new : List Event)
    → Prepared image (λ calls bytes lines. Copied is_one form image (calls ++ []) bytes lines) old result new ⊎ IsRejected result old new → Prepared image (Copied is_one form image) old result new ⊎ IsRejected result old new
plain is_one form image old result new (inr rejected) = inr rejected
plain is_one form image old result new (inl p) = inl (record {
  calls = p.calls;
  bytes = p.bytes;
  lines = p.lines;
  gave = subst (λ (l : List Event). Copied is_one form image l p.bytes p.lines) (none-more p.calls) p.gave;
  mid = p.mid;
  quiet = p.quiet;
  stores = p.stores;
})

from-prepares : (is_one : Bool) (form : CopyForm) (image : Image) → Prepares image (Copied is_one form image) (CopiesFrom is_one form image)
from-prepares true form image old result new p = plain true form image old result new (into-prepares true form image [] image.bytes.items (refl, refl) old result new p)
from-prepares false form image old (Ok it) new (inl ends) = absurd ends
from-prepares false form image old (Err ending) new (inl ends) = inr (rejects-by (LooksAt form.image) (at-refuses form.image) (looks-at-keeps form.image) old ending new ends)
from-prepares false form image old result new (inr it) =
    let s = seen-at form.image old it.given it.between it.done in
    prepared-after (look_call form.image.file.bytes.items s.bytes ∷ []) image (Copied false form image) old it.between result new s.quiet
    (into-prepares false form image (look_call form.image.file.bytes.items s.bytes ∷ []) it.given.items
    (record { before = old; after = it.between; found = it.given; looks = it.done; reads = s.quiet.reads; is = refl }) it.between result new it.after)

-- what each ending of a copy means
pub copy-ends : FindsSaved → FindsUnsaved → (form : CopyForm) (old : List Event) (result : Result (Unit {0}) Ending) (new : List Event) → Copies form old result new → EndsAs form.to (HasCopied form) result old new
copy-ends saves stays form old result new p =
    prepared-ends saves stays form.to (λ image. CopiesFrom (is_one_image form.image form.to) form image) (Copied (is_one_image form.image form.to) form) (HasCopied form)
    (from-prepares (is_one_image form.image form.to) form) old result new (λ ok image path was opened calls bytes lines p has reads prints. record {
      image = image;
      path = path;
      was = was;
      opened = opened;
      calls = calls;
      from = p.from;
      source = p.source;
      reads = reads;
      files = p.files;
      chosen = p.chosen_files;
      made = p.made;
      copies = p.copies;
      cuts = p.told.cuts;
      cut = p.told.cut;
      has = subst (λ (b : List ℕ). GetsVolume form.to image path was b old new) p.bytes_are has;
      prints = subst (λ (l : List ℕ). output new ≡ (ok, l) ∷ output old) p.told.are prints;
    }) p

-- ## Copies that are refused

keeps-by : {A : Type 0} (step : List Event → Result A Ending → List Event → Type 0) → Rejects step → ((old : List Event) (it : A) (new : List Event) → step old (Ok it) new → IsQuiet [] old new) → KeepsFiles step
keeps-by step rejects quiet old (Ok it) new p path = (quiet old it new p).files path
keeps-by step rejects quiet old (Err ending) new p path = (rejects old ending new p).1.0 path

into-leaves : (form : CopyForm) (image : Image) (from : List ℕ) → LeavesFiles (CopiesInto form image from)
into-leaves form image from =
    then-leaves (FindsFiles form from) (λ files. Then (PutsFiles form from files.items image.bytes.items) (λ made. Then (TellsCopies form from files.items image.bytes.items) (λ lines. Stores image made.items lines.items)))
    (keeps-by (FindsFiles form from) (finds-reject form from) (λ old files new p. (chosen form from old files new p).1))
    (λ files. then-leaves (PutsFiles form from files.items image.bytes.items) (λ made. Then (TellsCopies form from files.items image.bytes.items) (λ lines. Stores image made.items lines.items))
    (keeps-by (PutsFiles form from files.items image.bytes.items) (puts-reject form from files.items image.bytes.items) (λ old made new p. still old new p.1))
    (λ made. then-leaves (TellsCopies form from files.items image.bytes.items) (λ lines. Stores image made.items lines.items)
    (keeps-by (TellsCopies form from files.items image.bytes.items) (tells-reject form from files.items image.bytes.items) (λ old lines new p. (has-lines form from files.items image.bytes.items old lines new p).1))
    (λ lines. stores-leaves image made.items lines.items)))

from-leaves : (is_one : Bool) (form : CopyForm) (image : Image) → LeavesFiles (CopiesFrom is_one form image)
from-leaves true form image = into-leaves form image image.bytes.items
from-leaves false form image = then-leaves (LooksAt form.image) (λ from. CopiesInto form image from.items) (looks-at-keeps form.image) (λ from. into-leaves form image from.items)

pub copies-leave : (form : CopyForm) → LeavesFiles (Copies form)
copies-leave form = then-leaves (Opens form.to) (λ image. CopiesFrom (is_one_image form.image form.to) form image) (opens-never form.to) (λ image. from-leaves (is_one_image form.image form.to) form image)

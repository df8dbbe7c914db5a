-- One word of an image that is put in place of another, and one volume of a disk that is made empty.
use Rattle.std.proofs.Common.{◌≡◌, ◌∙◌, ◌⊎◌, ℕ, Bool, true, false, Result, Ok, Err, List, [], ◌∷◌, ◌++◌, ap, refl, subst, inl, inr}
use Rattle.std.specs.Global.{Vec}
use Rattle.hosts.specs.Event.{Event, look_call, print_call}
use Rattle.hosts.specs.Streams.{output, read, changes_at}
use Rattle.block_words.specs.Patching.{Patches}
use Rattle.refusals.specs.declared.faults.SessionFault.TheVariants.{Memory}
use Rattle.outcome.specs.declared.endings.Ending.{Ending}
use Rattle.outcome.specs.declared.endings.Ending.TheVariants.{Line, Fault, Failure, Busy, NotWritten, FullOutput, Unreported, NoReader, Misuse}
use Rattle.program_reports.specs.Program.{program_line}
use Rattle.program_reports.specs.declared.programs.ProgramLine.TheVariants as line
use Rattle.program_tasks.specs.declared.forms.ImageForm.{ImageForm}
use Rattle.image_files.specs.Answers.{AreLines}
use Rattle.image_files.specs.Saving.{Stores}
use Rattle.image_files.specs.Work.{Then, Purely}
use Rattle.image_files.specs.declared.images.Image.{Image}
use Rattle.change_commands.specs.Patching.{GivesPatched, PatchesWord, fault_text, patched_text}
use Rattle.change_commands.specs.PatchRefusals.{EndsWith}
use Rattle.change_commands.specs.declared.patches.WordPatch.{WordPatch}
use Rattle.change_commands.specs.Creating.{CreatesVolume, IsBlankImage}
use Rattle.change_commands.specs.declared.creating.TheConstants.{DISK_BLOCKS}
use Rattle.keeper_laws.specs.Changed.{GetsVolume, IsOpened}
use Rattle.keeper_laws.specs.Changes.{HasChanged, HasEmptied, HasPatched}
use Rattle.keeper_laws.specs.Ended.{EndsAs, RefusesAloud, SaysNo}
use Rattle.keeper_laws.proofs.OpenLemmas.{FindsSaved, FindsUnsaved, HasOpened, has-opened, still}
use Rattle.keeper_laws.proofs.RefuseLemmas.{ends-so}
use Rattle.keeper_laws.proofs.PrepareLemmas.{Prepares, Rejects, nothing, opened-ends, opens-reject, prepared-after, prepared-ends, prepares-store, prepares-then, rejected-ends}

-- ## A change that reads its image alone

-- the new volume, and the lines that report it
record Gave {A : Type 0} (gives : List ℕ → A → Type 0) (image_of lines_of : A → List ℕ) (image : Image) (calls : List Event) (bytes lines : List ℕ) : Type 0 where
  made : A
  gave : gives image.bytes.items made
  calls_are : calls ≡ []
  bytes_are : bytes ≡ image_of made
  lines_are : lines ≡ lines_of made

has-changed : {A : Type 0} (gives : List ℕ → A → Type 0) (image_of lines_of : A → List ℕ) (form : ImageForm) (old new : List Event) (ok : Bool) (image : Image) (path was : List ℕ)
    → IsOpened form path was image old → (calls : List Event) (bytes lines : List ℕ) → Gave gives image_of lines_of image calls bytes lines → GetsVolume form image path was bytes old new
    → read new ≡ calls ++ (look_call path was ∷ read old) → output new ≡ (ok, lines) ∷ output old → HasChanged gives image_of lines_of form ok old new
has-changed gives image_of lines_of form old new ok image path was opened calls bytes lines g has reads prints = record {
  image = image;
  path = path;
  was = was;
  opened = opened;
  reads = subst (λ (c : List Event). read new ≡ c ++ (look_call path was ∷ read old)) g.calls_are reads;
  made = g.made;
  gave = g.gave;
  has = subst (λ (b : List ℕ). GetsVolume form image path was b old new) g.bytes_are has;
  prints = subst (λ (l : List ℕ). output new ≡ (ok, l) ∷ output old) g.lines_are prints;
}

-- ## An empty volume

abbrev Blank : Image → List Event → List ℕ → List ℕ → Type 0
Blank = Gave {A = Vec ℕ} (λ image made. IsBlankImage DISK_BLOCKS (Ok made)) (λ made. made.items) (λ made. program_line (line.Created DISK_BLOCKS))

blank-rejects : Rejects (Purely (IsBlankImage DISK_BLOCKS))
blank-rejects old ending new ((fault, is, creates), p) = (ends-so ending _ is refl, nothing old new p)

blank-prepares : (image : Image) → Prepares image (Blank image) (Then (Purely (IsBlankImage DISK_BLOCKS)) (λ made. Then (Purely (AreLines (program_line (line.Created DISK_BLOCKS)))) (λ lines. Stores image made.items lines.items)))
blank-prepares image = prepares-then image (Blank image) (Purely (IsBlankImage DISK_BLOCKS)) (λ made. Then (Purely (AreLines (program_line (line.Created DISK_BLOCKS)))) (λ lines. Stores image made.items lines.items))
    (λ made. []) (λ made. IsBlankImage DISK_BLOCKS (Ok made)) blank-rejects (λ old made new p. (p.0, still old new p.1))
    (λ made is. prepares-store image (λ calls bytes lines. Blank image (calls ++ []) bytes lines) made.items (program_line (line.Created DISK_BLOCKS))
    (record { made = made; gave = is; calls_are = refl; bytes_are = refl; lines_are = refl }))

-- what each ending means where a volume of a disk is made empty
pub empty-ends : FindsSaved → FindsUnsaved → (form : ImageForm) (old : List Event) (result : Result (Unit {0}) Ending) (new : List Event) → CreatesVolume form old result new → EndsAs form (HasEmptied form) result old new
empty-ends saves stays form old result new p =
    prepared-ends saves stays form (λ image. Then (Purely (IsBlankImage DISK_BLOCKS)) (λ made. Then (Purely (AreLines (program_line (line.Created DISK_BLOCKS)))) (λ lines. Stores image made.items lines.items))) Blank (HasEmptied form)
    blank-prepares old result new
    (has-changed {A = Vec ℕ} (λ image made. IsBlankImage DISK_BLOCKS (Ok made)) (λ made. made.items) (λ made. program_line (line.Created DISK_BLOCKS)) form old new) p

-- ## A word

abbrev Patched : WordPatch → Image → List Event → List ℕ → List ℕ → Type 0
Patched word = Gave {A = Vec ℕ} (λ image made. Patches image word.block word.number word.old word.new (Ok tt) made.items) (λ made. made.items) (λ made. patched_text word)

module _ (saves : FindsSaved) (stays : FindsUnsaved) (word : WordPatch) (form : ImageForm) (old : List Event)
  where
    abbrev Ended : Result (Unit {0}) Ending → List Event → Type 0
    Ended result new = EndsAs form (HasPatched word form) result old new ⊎ RefusesAloud result old new

    -- its refusal is printed
    says-no : (image : Image) (mid : List Event) → HasOpened form old image mid → (line : List ℕ) (ok : Bool) (number : ℕ) (new : List Event) → new ≡ print_call ok number line ∷ mid → SaysNo old new
    says-no image mid o line ok number new p = record {
      files = λ path. ap (λ (n : List Event). changes_at path n) p ∙ o.quiet.files path;
      ok = ok;
      line = line;
      prints = ap output p ∙ ap (λ (l : List (Bool × List ℕ)). (ok, line) ∷ l) o.quiet.prints;
    }

    aloud : (image : Image) (mid : List Event) → HasOpened form old image mid → (line : List ℕ) (ending : Ending) (new : List Event) → EndsWith line mid ending new → Ended (Err ending) new
    aloud image mid o line Failure new (inl p) = inr (says-no image mid o line true 0 new p)
    aloud image mid o line Failure new (inr p) = inr (says-no image mid o line false 1 new p)
    aloud image mid o line FullOutput new p = inr (says-no image mid o line false 0 new p)
    aloud image mid o line (Line it) new p = absurd p
    aloud image mid o line (Fault it) new p = absurd p
    aloud image mid o line (Busy it) new p = absurd p
    aloud image mid o line (NotWritten it left) new p = absurd p
    aloud image mid o line Unreported new p = absurd p
    aloud image mid o line NoReader new p = absurd p
    aloud image mid o line Misuse new p = absurd p

    want : (image : Image) (mid : List Event) → HasOpened form old image mid → (ending : Ending) (new : List Event) → ending ≡ Fault Memory → new ≡ mid → Ended (Err ending) new
    want image mid o ending new is p = inl (rejected-ends form (HasPatched word form) old ending new (ends-so ending _ is refl, (λ path. ap (λ (n : List Event). changes_at path n) p ∙ o.quiet.files path, ap output p ∙ o.quiet.prints)))

    given : (image : Image) (mid : List Event) → HasOpened form old image mid → (result : Result (Unit {0}) Ending) (new : List Event)
        → Then (GivesPatched word image.bytes.items) (λ bytes. Then (Purely (AreLines (patched_text word))) (λ line. Stores image bytes.items line.items)) mid result new → Ended result new
    given image mid o (Ok it) new (inl ends) = absurd ends
    given image mid o (Err ending) new (inl (inl (is, p))) = want image mid o ending new is p
    given image mid o (Err ending) new (inl (inr (fault, patches, inl p))) = aloud image mid o (fault_text fault) ending new p
    given image mid o (Err ending) new (inl (inr (fault, patches, inr (is, p)))) = want image mid o ending new is p
    given image mid o result new (inr it) = inl (opened-ends saves stays form (Patched word) (HasPatched word form) old mid image o result new
        (has-changed {A = Vec ℕ} (λ image made. Patches image word.block word.number word.old word.new (Ok tt) made.items) (λ made. made.items) (λ made. patched_text word) form old new)
        (prepared-after [] image (Patched word image) mid it.between result new (still mid it.between it.done.1)
        (prepares-store image (λ calls bytes lines. Patched word image (calls ++ []) bytes lines) it.given.items (patched_text word)
        (record { made = it.given; gave = it.done.0; calls_are = refl; bytes_are = refl; lines_are = refl }) it.between result new it.after)))

    -- what each ending of a patch means
    pub patch-ends : (result : Result (Unit {0}) Ending) (new : List Event) → PatchesWord word form old result new → Ended result new
    patch-ends (Ok it) new (inl ends) = absurd ends
    patch-ends (Err ending) new (inl ends) = inl (rejected-ends form (HasPatched word form) old ending new (opens-reject form old ending new ends))
    patch-ends result new (inr it) = given it.given it.between (has-opened form old it.given it.between it.done) result new it.after

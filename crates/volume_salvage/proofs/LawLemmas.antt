-- The files that a new volume has of those that a survey tells.
use Rattle.std.proofs.Common.{◌≡◌, ◌≢◌, ◌∙◌, ◌+◌, ℕ, map, refl, false, true≢false, Option, Some, None, List, [], ◌∷◌, sym, ap, subst, inl, inr}
use Rattle.std.specs.FinMap.{get}
use Rattle.std.proofs.lemmas.Bool.Decides.{eqb_tells}
use Rattle.os8_dir.specs.Entries.{AreDistinct, contains}
use Rattle.os8_dir.specs.Files.{Files, files_of}
use Rattle.os8_files.specs.Calls.{info_of}
use Rattle.os8_files.specs.Puts.{blocks_filled}
use Rattle.os8_dir.specs.Found.{FilePlace}
use Rattle.os8_dir.specs.Names.{with_end_zeros}
use Rattle.word12.specs.declared.sizes.TheConstants.{FIRST_FILE_BLOCK}
use Rattle.volume_salvage.specs.Rows.{Differ, HasNone, in_a_row}
use Rattle.volume_salvage.specs.RescueLaws.{AreThere, KeptAreThere, OthersAreNot}
use Rattle.volume_salvage.specs.Rescued.{AreJudged, files_to_keep}
use Rattle.volume_salvage.specs.declared.faults.Refusal.{Refusal}
use Rattle.volume_salvage.specs.declared.volumes.KeptFile.{KeptFile}
use Rattle.archive_survey.specs.declared.answers.FoundFile.{FoundFile}
use Rattle.archive_survey.specs.Findings.{findings, files_found}
use Rattle.archive_survey.specs.Laws.{EachSurveyIsSound, names_of_found}
use Rattle.volume_salvage.specs.Laws.{AreFilesThere, EachFileIsThere, FilesAreInOrder, OtherFilesAreNot, names_kept}
use Rattle.volume_salvage.specs.Salvaging.{AreFilesOf}

-- a name that is not among some is not the first of them, nor among the others
abbrev Apart : ℕ → ℕ → List ℕ → Type 0
Apart first name others = (first ≢ name) × (contains others name ≡ false)

apart : (first name : ℕ) (others : List ℕ) → contains (first ∷ others) name ≡ false → Apart first name others
apart first name others none = elim (eqb_tells first name) [
  | inl p ↦ absurd (true≢false (rw p.0 at none))
  | inr p ↦ (p.1, rw p.0 at none)
]

pub none-of-name : (name : ℕ) (blocks : List (List ℕ)) (found : List FoundFile) (kept : List KeptFile) (refusals : List (Option Refusal)) → AreFilesOf blocks found kept
    → contains (names_of_found found) name ≡ false → HasNone name (files_to_keep kept refusals)
none-of-name name blocks [] [] refusals of none = tt
none-of-name name blocks [] (k ∷ kept) refusals of none = absurd of
none-of-name name blocks (f ∷ found) [] refusals of none = absurd of
none-of-name name blocks (f ∷ found) (k ∷ kept) [] of none = tt
none-of-name name blocks (f ∷ found) (k ∷ kept) (None ∷ refusals) of none =
    let p = apart f.name name (names_of_found found) none in
    ((λ e. p.0 (sym of.0 ∙ e)), none-of-name name blocks found kept refusals of.3 p.1)
none-of-name name blocks (f ∷ found) (k ∷ kept) (Some refusal ∷ refusals) of none =
    none-of-name name blocks found kept refusals of.3 (apart f.name name (names_of_found found) none).1

pub kept-differ : (blocks : List (List ℕ)) (found : List FoundFile) (kept : List KeptFile) (refusals : List (Option Refusal)) → AreFilesOf blocks found kept
    → AreDistinct (names_of_found found) → Differ (files_to_keep kept refusals)
kept-differ blocks [] [] refusals of distinct = tt
kept-differ blocks [] (k ∷ kept) refusals of distinct = absurd of
kept-differ blocks (f ∷ found) [] refusals of distinct = absurd of
kept-differ blocks (f ∷ found) (k ∷ kept) [] of distinct = tt
kept-differ blocks (f ∷ found) (k ∷ kept) (None ∷ refusals) of distinct =
    (none-of-name k.name blocks found kept refusals of.3 (ap (contains (names_of_found found)) of.0 ∙ distinct.0), kept-differ blocks found kept refusals of.3 distinct.1)
kept-differ blocks (f ∷ found) (k ∷ kept) (Some refusal ∷ refusals) of distinct = kept-differ blocks found kept refusals of.3 distinct.1

pub found-are-there : (info start capacity place : ℕ) (there : Files) (blocks : List (List ℕ)) (before : List KeptFile) (found : List FoundFile) (kept : List KeptFile)
    (refusals : List (Option Refusal)) → AreFilesOf blocks found kept → AreJudged start capacity before place kept refusals → AreThere info there (files_to_keep kept refusals)
    → AreFilesThere info there blocks found refusals
found-are-there info start capacity place there blocks before [] kept refusals of judged are = tt
found-are-there info start capacity place there blocks before (f ∷ found) [] refusals of judged are = absurd of
found-are-there info start capacity place there blocks before (f ∷ found) (k ∷ kept) [] of judged are = absurd judged
found-are-there info start capacity place there blocks before (f ∷ found) (k ∷ kept) (None ∷ refusals) of judged are = (
  ap (get there) (sym of.0) ∙ are.0 ∙ ap (λ i. Some (with_end_zeros info i, k.words.items)) of.1 ∙ ap (λ w. Some (with_end_zeros info f.info, w)) of.2,
  found-are-there info start capacity _ there blocks _ found kept refusals of.3 judged are.1,
)
found-are-there info start capacity place there blocks before (f ∷ found) (k ∷ kept) (Some refusal ∷ refusals) of judged are =
    found-are-there info start capacity _ there blocks before found kept refusals of.3 judged.1 are

names-in-row : (info place : ℕ) (kept : List KeptFile) → map (λ (f : FilePlace). f.name) (in_a_row info place kept) ≡ map (λ (f : KeptFile). f.name) kept
names-in-row info place [] = refl
names-in-row info place (k ∷ kept) = ap (λ names. k.name ∷ names) (names-in-row info (place + blocks_filled k.words.items) kept)

names-to-keep : (blocks : List (List ℕ)) (found : List FoundFile) (kept : List KeptFile) (refusals : List (Option Refusal)) → AreFilesOf blocks found kept
    → map (λ (f : KeptFile). f.name) (files_to_keep kept refusals) ≡ names_kept found refusals
names-to-keep blocks [] [] refusals of = refl
names-to-keep blocks [] (k ∷ kept) refusals of = absurd of
names-to-keep blocks (f ∷ found) [] refusals of = absurd of
names-to-keep blocks (f ∷ found) (k ∷ kept) [] of = refl
names-to-keep blocks (f ∷ found) (k ∷ kept) (None ∷ refusals) of =
    ap (λ name. name ∷ map (λ (f : KeptFile). f.name) (files_to_keep kept refusals)) of.0 ∙ ap (λ names. f.name ∷ names) (names-to-keep blocks found kept refusals of.3)
names-to-keep blocks (f ∷ found) (k ∷ kept) (Some refusal ∷ refusals) of = names-to-keep blocks found kept refusals of.3

-- ## The laws

pub there-by : KeptAreThere → EachSurveyIsSound → EachFileIsThere
there-by kept sound image salvage s =
    let new = s.of_blocks.fitted.rescued in
    let refusals = s.of_blocks.volume.refusals.items in
    let found = files_found (findings s.blocks) in
    let differ = kept-differ s.blocks found s.of_blocks.kept refusals s.of_blocks.files (sound s.blocks).distinct in
    found-are-there (info_of new.blocks) s.of_blocks.fitted.info _ 0 (files_of new.blocks) s.blocks [] found s.of_blocks.kept refusals s.of_blocks.files s.of_blocks.fitted.judged
    (subst (λ (there : Files). AreThere (info_of new.blocks) there (files_to_keep s.of_blocks.kept refusals)) (sym new.files) (kept (info_of new.blocks) (files_to_keep s.of_blocks.kept refusals) differ))

pub none-by : OthersAreNot → OtherFilesAreNot
none-by others image salvage s name none =
    let new = s.of_blocks.fitted.rescued in
    let refusals = s.of_blocks.volume.refusals.items in
    ap (λ (there : Files). get there name) new.files
    ∙ others (info_of new.blocks) name (files_to_keep s.of_blocks.kept refusals) (none-of-name name s.blocks (files_found (findings s.blocks)) s.of_blocks.kept refusals s.of_blocks.files none)

pub order-by : EachSurveyIsSound → FilesAreInOrder
order-by sound image salvage s =
    let new = s.of_blocks.fitted.rescued in
    let refusals = s.of_blocks.volume.refusals.items in
    let found = files_found (findings s.blocks) in
    let kept = files_to_keep s.of_blocks.kept refusals in
    let differ = kept-differ s.blocks found s.of_blocks.kept refusals s.of_blocks.files (sound s.blocks).distinct in
    ap (map (λ (f : FilePlace). f.name)) (new.order differ) ∙ names-in-row (info_of new.blocks) FIRST_FILE_BLOCK kept ∙ names-to-keep s.blocks found s.of_blocks.kept refusals s.of_blocks.files

-- The index of images changes no file.
use Rattle.std.proofs.Common.{◌≡◌, ◌∙◌, ℕ, ◌+◌, Bool, true, false, not, Option, None, Result, Ok, Err, List, [], ◌∷◌, length, map, inl, inr}
use Rattle.std.specs.Global.{Vec}
use Rattle.hosts.specs.Event.{Event}
use Rattle.hosts.specs.Streams.{changes_at}
use Rattle.disk_layouts.specs.declared.layouts.Layout.{Layout}
use Rattle.program_reports.specs.Program.{program_line}
use Rattle.program_reports.specs.Prefixes.{with_prefixes}
use Rattle.outcome.specs.declared.endings.Ending.{Ending}
use Rattle.outcome.specs.declared.endings.Ending.TheVariants.{Line, Fault, Failure, Busy, NotWritten, FullOutput, Unreported, NoReader, Misuse}
use Rattle.volume_index.specs.declared.styles.IndexStyle.{IndexStyle}
use Rattle.image_files.specs.Ending.{TellsLine}
use Rattle.image_files.specs.Laws.{KeepsFiles}
use Rattle.image_files.specs.Leftovers.{ChoosesImages}
use Rattle.image_files.specs.declared.mending.ImageReading.{ImageReading}
use Rattle.image_files.specs.Reading.{LooksImage, file_named, reading_named}
use Rattle.image_files.specs.Saving.{Prints}
use Rattle.image_files.specs.Work.{After, Purely}
use Rattle.image_files.proofs.KeepLemmas.{after-keeps, purely-keeps, same, then-keeps, refuses-keeps as image-refused}
use Rattle.host_progress.specs.Progressing.{BeginsProgress, EndsProgress, TellsDone, TellsProgress}
use Rattle.index_commands.specs.Columns.{ChoosesColumns, Shows, lines_in}
use Rattle.index_commands.specs.declared.columns.Columns.{Columns}
use Rattle.index_commands.specs.declared.columns.LineShape.{LineShape}
use Rattle.index_commands.specs.Found.{FindsSame, IsFound, KeepsLines, ShowsSame, TakesLines}
use Rattle.index_commands.specs.declared.found.Found.{Found}
use Rattle.index_commands.specs.Indexing.{ChecksWord, EndsIndex, Indexes, IndexesAll, IndexesAmong, IndexesImage, IndexesImages, IndexesInColumns, IndexesNext, IndexesRead, IndexesVolume, IndexesVolumes, IndexesWith, ShowsIndex, ending_of_refusal, GivesIndex}
use Rattle.index_commands.specs.Refusing.{PassesOver, RefusesVolume, prefix_of}
use Rattle.index_commands.specs.Volumes.{body_of, layouts_in, number_of}

line-keeps : (path line : List ℕ) (old new : List Event) → TellsLine line old new → changes_at path new ≡ changes_at path old
line-keeps path line old new (inl (utf8, ok, p)) = same path p
line-keeps path line old new (inr p) = same path p.1

-- ## A volume

passes-keeps : (name : List ℕ) (number : Option ℕ) (ending : Ending) → KeepsFiles (PassesOver name number ending)
passes-keeps name number (Line line) old (Ok it) new p path = line-keeps path (with_prefixes (prefix_of name number) (program_line line)) old new p
passes-keeps name number (Line line) old (Err ended) new p path = same path p.1
passes-keeps name number (Fault fault) old (Ok it) new p path = absurd p
passes-keeps name number (Fault fault) old (Err ended) new p path = same path p.1
passes-keeps name number Failure old (Ok it) new p path = absurd p
passes-keeps name number Failure old (Err ended) new p path = same path p.1
passes-keeps name number (Busy content) old (Ok it) new p path = absurd p
passes-keeps name number (Busy content) old (Err ended) new p path = same path p.1
passes-keeps name number (NotWritten content left) old (Ok it) new p path = absurd p
passes-keeps name number (NotWritten content left) old (Err ended) new p path = same path p.1
passes-keeps name number FullOutput old (Ok it) new p path = absurd p
passes-keeps name number FullOutput old (Err ended) new p path = same path p.1
passes-keeps name number Unreported old (Ok it) new p path = absurd p
passes-keeps name number Unreported old (Err ended) new p path = same path p.1
passes-keeps name number NoReader old (Ok it) new p path = absurd p
passes-keeps name number NoReader old (Err ended) new p path = same path p.1
passes-keeps name number Misuse old (Ok it) new p path = absurd p
passes-keeps name number Misuse old (Err ended) new p path = same path p.1

refuses-keeps : (name : List ℕ) (number : Option ℕ) (ending : Ending) (kept : List ℕ) → KeepsFiles (RefusesVolume name number ending kept)
refuses-keeps name number ending kept = then-keeps (PassesOver name number ending) (λ it. Purely (IsFound true kept)) (passes-keeps name number ending) (λ it. purely-keeps (IsFound true kept))

-- what is printed, by what a print of the lower crate leaves as it was
abbrev PrintsKeep : Type 0
PrintsKeep = (bytes : List ℕ) → KeepsFiles (Prints bytes)

abbrev LooksKeep : Type 0
LooksKeep = (reading : ImageReading) (name : List ℕ) → KeepsFiles (LooksImage reading name)

shows-keeps : PrintsKeep → (columns : Columns) (lines : List ℕ) → KeepsFiles (Shows columns lines)
shows-keeps prints columns lines old (Ok it) new p path = prints (lines_in columns lines) old (Ok it) new p path
shows-keeps prints columns lines old (Err ending) new (inl p) path = prints (lines_in columns lines) old (Err ending) new p path
shows-keeps prints columns lines old (Err ending) new (inr p) path = same path p.1

takes-keeps : PrintsKeep → (is_same : Bool) (columns : Columns) (is_refused : Bool) (kept lines : List ℕ) → KeepsFiles (TakesLines is_same columns is_refused kept lines)
takes-keeps prints true columns is_refused kept lines = purely-keeps (KeepsLines is_refused kept lines)
takes-keeps prints false columns is_refused kept lines =
    then-keeps (After (not is_refused) (Shows columns lines)) (λ it. Purely (IsFound is_refused kept)) (after-keeps (not is_refused) (Shows columns lines) (shows-keeps prints columns lines)) (λ it. purely-keeps (IsFound is_refused kept))

index-keeps : PrintsKeep → (columns : Columns) (name : List ℕ) (number : Option ℕ) (lines : Result (Vec ℕ) Ending) (is_refused : Bool) (kept : List ℕ) → KeepsFiles (ShowsIndex columns name number lines is_refused kept)
index-keeps prints columns name number (Ok lines) is_refused kept = takes-keeps prints columns.shape.is_same columns is_refused kept lines.items
index-keeps prints columns name number (Err ending) is_refused kept = refuses-keeps name number ending kept

gives-keeps : (style : IndexStyle) (name bytes : List ℕ) (layout : Option Layout) → KeepsFiles (GivesIndex style name bytes layout)
gives-keeps style name bytes layout old (Ok lines) new (image, is, gives, p) path = same path p
gives-keeps style name bytes layout old (Err ending) new (inl (is, p)) path = same path p
gives-keeps style name bytes layout old (Err ending) new (inr (image, is, fault, gives, refuses)) path = image-refused path fault (length image) old ending new refuses

volume-keeps : PrintsKeep → (columns : Columns) (style : IndexStyle) (name bytes : List ℕ) (layout : Option Layout) (is_refused : Bool) (kept : List ℕ) → KeepsFiles (IndexesVolume columns style name bytes layout is_refused kept)
volume-keeps prints columns style name bytes layout is_refused kept old result new (lines, between, gives, p) path =
    index-keeps prints columns name (number_of layout) lines is_refused kept between result new p path ∙ gives-keeps style name bytes layout old lines between gives path

-- ## A file

volumes-keeps : PrintsKeep → (columns : Columns) (style : IndexStyle) (name bytes : List ℕ) (layouts : List (Option Layout)) (is_refused : Bool) (kept : List ℕ) → KeepsFiles (IndexesVolumes columns style name bytes layouts is_refused kept)
volumes-keeps prints columns style name bytes [] is_refused kept = purely-keeps (IsFound is_refused kept)
volumes-keeps prints columns style name bytes (layout ∷ layouts) is_refused kept =
    then-keeps (IndexesVolume columns style name bytes layout is_refused kept) (λ (found : Found). IndexesVolumes columns style name bytes layouts found.is_refused found.lines.items)
    (volume-keeps prints columns style name bytes layout is_refused kept) (λ (found : Found). volumes-keeps prints columns style name bytes layouts found.is_refused found.lines.items)

read-keeps : PrintsKeep → (columns : Columns) (style : IndexStyle) (layout : Option Layout) (is_plain : Bool) (name : List ℕ) (file : Result (Vec ℕ) Ending) (is_refused : Bool) (kept : List ℕ) → KeepsFiles (IndexesRead columns style layout is_plain name file is_refused kept)
read-keeps prints columns style layout is_plain name (Ok file) is_refused kept = volumes-keeps prints columns style name (body_of layout is_plain file.items) (layouts_in layout is_plain file.items) is_refused kept
read-keeps prints columns style layout is_plain name (Err ending) is_refused kept = refuses-keeps name None ending kept

image-keeps : LooksKeep → PrintsKeep → (columns : Columns) (style : IndexStyle) (reading : ImageReading) (name : List ℕ) (is_refused : Bool) (kept : List ℕ) → KeepsFiles (IndexesImage columns style reading name is_refused kept)
image-keeps looks prints columns style reading name is_refused kept old result new (file, between, looked, p) path =
    read-keeps prints columns style reading.layout reading.is_plain name file is_refused kept between result new p path ∙ looks reading name old file between looked path

-- ## All images

done-keeps : (path : List ℕ) (is_told : Bool) (done all : ℕ) (old new : List Event) → TellsDone is_told done all old new → changes_at path new ≡ changes_at path old
done-keeps path false done all old new p = same path p
done-keeps path true done all old new (passed, inl p) = same path p
done-keeps path true done all old new (passed, inr (ok, late, p)) = same path p

progress-keeps : (is_told : Bool) (done all : ℕ) → KeepsFiles (TellsProgress is_told done all)
progress-keeps is_told done all old result new p path = done-keeps path is_told done all old new p.1

begins-keeps : (path : List ℕ) (is_told : Bool) (old new : List Event) → BeginsProgress is_told old new → changes_at path new ≡ changes_at path old
begins-keeps path true old new p = same path p.1
begins-keeps path false old new (inl p) = same path p
begins-keeps path false old new (inr p) = same path p

ends-keeps : (path : List ℕ) (is_told : Bool) (old new : List Event) → EndsProgress is_told old new → changes_at path new ≡ changes_at path old
ends-keeps path false old new p = same path p
ends-keeps path true old new (ok, p) = same path p

images-keeps : LooksKeep → PrintsKeep → (columns : Columns) (style : IndexStyle) (reading : ImageReading) (is_told : Bool) (done all : ℕ) (names : List (List ℕ)) (is_refused : Bool) (kept : List ℕ)
    → KeepsFiles (IndexesImages columns style reading is_told done all names is_refused kept)
images-keeps looks prints columns style reading is_told done all [] is_refused kept = purely-keeps (IsFound is_refused kept)
images-keeps looks prints columns style reading is_told done all (name ∷ names) is_refused kept =
    then-keeps (IndexesNext columns style reading is_told done all name is_refused kept) (λ (found : Found). IndexesImages columns style reading is_told (done + 1) all names found.is_refused found.lines.items)
    (then-keeps (TellsProgress is_told done all) (λ it. IndexesImage columns style (reading_named reading name) (file_named reading name) is_refused kept) (progress-keeps is_told done all)
    (λ it. image-keeps looks prints columns style (reading_named reading name) (file_named reading name) is_refused kept))
    (λ (found : Found). images-keeps looks prints columns style reading is_told (done + 1) all names found.is_refused found.lines.items)

all-keeps : LooksKeep → PrintsKeep → (columns : Columns) (style : IndexStyle) (reading : ImageReading) (names : List (List ℕ)) → KeepsFiles (IndexesAll columns style reading names)
all-keeps looks prints columns style reading names old result new p path =
    ends-keeps path p.is_told p.done new p.ends
    ∙ images-keeps looks prints columns style reading p.is_told 0 (length names) names false [] p.begun result p.done p.works path
    ∙ begins-keeps path p.is_told old p.begun p.begins

groups-keep : PrintsKeep → (is_same : Bool) (columns : Columns) (lines : List ℕ) → KeepsFiles (ShowsSame is_same columns lines)
groups-keep prints true columns lines = then-keeps (Purely (FindsSame lines)) (λ (same : Vec ℕ). Shows columns same.items) (purely-keeps (FindsSame lines)) (λ (same : Vec ℕ). shows-keeps prints columns same.items)
groups-keep prints false columns lines = purely-keeps (λ (result : Result (Unit {0}) Ending). result ≡ Ok tt)

end-keeps : PrintsKeep → (columns : Columns) (is_refused : Bool) (kept : List ℕ) → KeepsFiles (EndsIndex columns is_refused kept)
end-keeps prints columns is_refused kept =
    then-keeps (After (not is_refused) (ShowsSame columns.shape.is_same columns kept)) (λ it. Purely (λ (result : Result (Unit {0}) Ending). result ≡ ending_of_refusal is_refused))
    (after-keeps (not is_refused) (ShowsSame columns.shape.is_same columns kept) (groups-keep prints columns.shape.is_same columns kept)) (λ it. purely-keeps (λ (result : Result (Unit {0}) Ending). result ≡ ending_of_refusal is_refused))

with-keeps : LooksKeep → PrintsKeep → (style : IndexStyle) (reading : ImageReading) (names : List (List ℕ)) (columns : Columns) → KeepsFiles (IndexesWith style reading names columns)
with-keeps looks prints style reading names columns =
    then-keeps (IndexesAll columns style reading names) (λ (found : Found). EndsIndex columns found.is_refused found.lines.items)
    (all-keeps looks prints columns style reading names) (λ (found : Found). end-keeps prints columns found.is_refused found.lines.items)

chooses-keeps : (shape : LineShape) (names : List (List ℕ)) → KeepsFiles (ChoosesColumns shape names)
chooses-keeps shape names old (Ok columns) new (is_terminal, p, is_shape, are, widths) path = same path p
chooses-keeps shape names old (Err ending) new (is_terminal, p, is) path = same path p

word-keeps : (word : List ℕ) → KeepsFiles (ChecksWord word)
word-keeps word old (Ok it) new p path = same path p.1
word-keeps word old (Err (Line line)) new p path = absurd p
word-keeps word old (Err (Fault fault)) new p path = absurd p
word-keeps word old (Err Failure) new p path = absurd p
word-keeps word old (Err (Busy content)) new p path = absurd p
word-keeps word old (Err (NotWritten content left)) new p path = absurd p
word-keeps word old (Err FullOutput) new p path = absurd p
word-keeps word old (Err Unreported) new p path = absurd p
word-keeps word old (Err NoReader) new p path = absurd p
word-keeps word old (Err Misuse) new (is, ok, p) path = same path p

pub indexes-keeps : LooksKeep → PrintsKeep → (style : IndexStyle) (shape : LineShape) (reading : ImageReading) (names : List (List ℕ)) → KeepsFiles (Indexes style shape reading names)
indexes-keeps looks prints style shape reading names =
    then-keeps (ChecksWord style.find.bytes.items) (λ it. IndexesAmong style shape reading names) (word-keeps style.find.bytes.items)
    (λ it. then-keeps (Purely (ChoosesImages names)) (λ images. IndexesInColumns style shape reading (map (λ image. image.bytes.items) images.items)) (purely-keeps (ChoosesImages names))
    (λ images. then-keeps (ChoosesColumns shape (map (λ image. image.bytes.items) images.items)) (IndexesWith style reading (map (λ image. image.bytes.items) images.items)) (chooses-keeps shape (map (λ image. image.bytes.items) images.items)) (with-keeps looks prints style reading (map (λ image. image.bytes.items) images.items))))

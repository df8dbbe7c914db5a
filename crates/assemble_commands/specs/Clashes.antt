-- Which words of the command would have two things written to one place, or one over a source (this project's profile).
use Rattle.std.specs.Prelude.{◌≡◌, ℕ, Bool, false, not, ◌&&◌, ◌||◌, if◌then◌else◌, Option, None, Some, is_some, option_map, String, codes, Result, Ok, Err, List, [], ◌∷◌}
use Rattle.std.specs.Global.{Global}
use Rattle.std.specs.Str.{bytes_eq}
use Rattle.hosts.specs.Event.{Event}
use Rattle.outcome.specs.Notes.{name_text}
use Rattle.outcome.specs.declared.notes.NameNote.{NameNote}
use Rattle.outcome.specs.declared.notes.NameNote.TheVariants.{OnePlace, OverSource}
use Rattle.outcome.specs.declared.endings.Ending.{Ending}
use Rattle.outcome.specs.declared.endings.Ending.TheVariants.{Misuse}
use Rattle.program_tasks.specs.declared.forms.ImageForm.{ImageForm}
use Rattle.program_tasks.specs.declared.tasks.AssembleForm.{AssembleForm}
use Rattle.image_files.specs.Work.{OrLacks, EndsTelling}

-- the name of a standard stream where a file's may stand
abbrev pub standard : List ℕ
standard = codes "-"

-- the name that is given, if one is
abbrev pub name_given : Option (String Global) → Option (List ℕ)
name_given = option_map (λ name. name.bytes.items)

-- where a tape goes that no volume gets
abbrev pub tape_place : Option (String Global) → List ℕ
tape_place None = standard
tape_place (Some name) = name.bytes.items

-- the listing is to be written to this place
abbrev pub is_listed_at : Option (String Global) → List ℕ → Bool
is_listed_at None place = false
is_listed_at (Some name) place = bytes_eq name.bytes.items place

-- the tape and the listing would be written to one place
abbrev pub is_one_place : AssembleForm → Bool
is_one_place form = not (is_some form.onto) && is_listed_at form.list (tape_place form.output)

-- one of these words is a name
abbrev pub is_among : List ℕ → List (String Global) → Bool
is_among name [] = false
is_among name (word ∷ words) = bytes_eq word.bytes.items name || is_among name words

-- what is written to a name, if one is given, would be written over one of these sources
abbrev pub is_over_source : Option (String Global) → List (String Global) → Bool
is_over_source None sources = false
is_over_source (Some name) sources = not (bytes_eq name.bytes.items standard) && is_among name.bytes.items sources

-- the same of the image that has them
abbrev pub is_over_image : Option (String Global) → ImageForm → Bool
is_over_image None image = false
is_over_image (Some name) image = bytes_eq image.file.bytes.items name.bytes.items

-- which file of the host that is a source would be written over
abbrev pub lost_file : AssembleForm → Option (List ℕ)
lost_file form =
    if is_over_source form.output form.sources.items then name_given form.output
    else if is_over_source form.list form.sources.items then name_given form.list else None

-- which source on the volume, or its image, would be written over
abbrev pub lost_member : AssembleForm → ImageForm → Option (List ℕ)
lost_member form image =
    if is_over_source form.onto form.sources.items then name_given form.onto
    else if is_over_image form.output image then name_given form.output
    else if is_over_image form.list image then name_given form.list else None

abbrev pub lost_source : AssembleForm → Option ImageForm → Option (List ℕ)
lost_source form None = lost_file form
lost_source form (Some image) = lost_member form image

abbrev pub over_source : Option (List ℕ) → Option (NameNote × List ℕ)
over_source None = None
over_source (Some name) = Some (OverSource, name)

-- The first clash of the words, as the note that is printed of it: one place for the tape and the listing, or a source that would be
-- written over. A volume's files are no files of the host.
abbrev pub clash_of : AssembleForm → Option (NameNote × List ℕ)
clash_of form = if is_one_place form then Some (OnePlace, tape_place form.output) else over_source (lost_source form form.from)

-- words that clash at a name are refused with a note, unless memory is wanted for that
abbrev pub IsRefusedAt : NameNote → List ℕ → List Event → Ending → List Event → Type 0
IsRefusedAt note name = OrLacks (EndsTelling Misuse (name_text note name))

abbrev pub IsRefused : Option (NameNote × List ℕ) → List Event → Ending → List Event → Type 0
IsRefused None old ending new = ⊥
IsRefused (Some clash) old ending new = IsRefusedAt clash.0 clash.1 old ending new

-- words that clash are refused, and nothing is read

abbrev pub RefusesClash : AssembleForm → List Event → Result (Unit {0}) Ending → List Event → Type 0
RefusesClash form old (Ok it) new = (clash_of form ≡ None) × (new ≡ old)
RefusesClash form old (Err ending) new = IsRefused (clash_of form) old ending new

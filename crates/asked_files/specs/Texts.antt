-- Which of several files are texts.
use Rattle.std.specs.Prelude.{◌≡◌, ◌⊎◌, ◌&&◌, ◌||◌, ℕ, Bool, false, true, not, nat_eq, length, if◌then◌else◌, Option, None, Some, Result, Ok, Err, List, ◌∷◌, map, slice_get}
use Rattle.hosts.specs.Event.{Event, tell_call}
use Rattle.archive_files.specs.declared.forms.GetForm.{GetForm}
use Rattle.archive_files.specs.declared.forms.GetForm.TheVariants as get_as
use Rattle.archive_files.specs.declared.forms.PutForm.{PutForm}
use Rattle.archive_files.specs.declared.forms.PutForm.TheVariants as put_as
use Rattle.archive_many.specs.Extensions.{is_text, AreLists, IsFirstBad}
use Rattle.archive_many.specs.Naming.{is_named}
use Rattle.archive_many.specs.declared.opened.VolumeFile.{VolumeFile}
use Rattle.outcome.specs.Notes.{name_text}
use Rattle.outcome.specs.declared.notes.NameNote.{NameNote}
use Rattle.outcome.specs.declared.notes.NameNote.TheVariants.{BadExtensions}
use Rattle.outcome.specs.declared.endings.Ending.{Ending}
use Rattle.outcome.specs.declared.endings.Ending.TheVariants.{Misuse}
use Rattle.program_tasks.specs.declared.forms.GetManyForm.{GetManyForm}
use Rattle.program_tasks.specs.declared.forms.TextsForm.{TextsForm}
use Rattle.image_files.specs.Work.{Lacks}

-- the lists of extensions that are given
abbrev pub lists_of : TextsForm → List (List ℕ)
lists_of texts = map (λ list. list.bytes.items) texts.extensions.items

-- some files are asked for as texts
abbrev pub are_asked : TextsForm → Bool
are_asked texts = texts.is_usual || not (nat_eq (length texts.extensions.items) 0)

-- a note says which word is no list, if it is known
abbrev pub TellsBadList : Option (List ℕ) → List Event → List Event → Type 0
TellsBadList None old new = new ≡ old
TellsBadList (Some list) old new = (ok : Bool) × (new ≡ tell_call ok (name_text BadExtensions list) ∷ old)

-- the words that are given are lists of extensions; the first that is none is printed, and ends the command
abbrev pub TakesLists : TextsForm → List Event → Result (Unit {0}) Ending → List Event → Type 0
TakesLists texts old (Ok it) new = AreLists (lists_of texts) × (new ≡ old)
TakesLists texts old (Err ending) new = ((ending ≡ Misuse) × (place : ℕ) × IsFirstBad (lists_of texts) place × TellsBadList (slice_get (lists_of texts) place) old new)
    ⊎ Lacks old ending new

-- a note says which file goes as frames, if one does where others are texts
abbrev pub TellsFrames : NameNote → Bool → List ℕ → List Event → List Event → Type 0
TellsFrames note false name old new = new ≡ old
TellsFrames note true name old new = (ok : Bool) × (new ≡ tell_call ok (name_text note name) ∷ old)

-- ## Files that are put

-- a file of the host is put as a text: all are, since all are named; or it has one of the extensions that are given
abbrev pub is_put_text : TextsForm → ℕ → Bool
is_put_text texts name = texts.is_usual || is_text name false (lists_of texts)

abbrev pub put_form : TextsForm → ℕ → PutForm
put_form texts name = if is_put_text texts name then put_as.Text else put_as.Frames

abbrev pub is_put_noted : TextsForm → ℕ → Bool
is_put_noted texts name = are_asked texts && not (is_put_text texts name)

-- ## Files that are got

-- a file of the volume is got as a text: by its extension, or since it is named, where texts are asked for
abbrev pub is_got_text : GetManyForm → VolumeFile → Bool
is_got_text form file = is_text file.name form.texts.is_usual (lists_of form.texts)
    || (form.texts.is_usual && is_named file (map (λ word. word.bytes.items) form.names.items) form.places.items)

abbrev pub get_form : GetManyForm → VolumeFile → GetForm
get_form form file = if is_got_text form file then get_as.Text else get_as.Frames

abbrev pub is_got_noted : GetManyForm → VolumeFile → Bool
is_got_noted form file = are_asked form.texts && not (is_got_text form file)

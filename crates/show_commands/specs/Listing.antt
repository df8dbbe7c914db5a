-- The command that lists those files of the volume in an image file whose names are like words.
use Rattle.std.specs.Prelude.{ℕ, Bool, true, false, Result, List, [], ◌∷◌, ◌++◌, is_some, not, length, map}
use Rattle.std.specs.Global.{Vec}
use Rattle.hosts.specs.Event.{Event}
use Rattle.archive_files.specs.declared.faults.ArchiveFault.{ArchiveFault}
use Rattle.archive_many.specs.Listing.{ListsLike}
use Rattle.archive_many.specs.Opened.{OpensVolume}
use Rattle.archive_many.specs.Wishing.{first_unfound}
use Rattle.archive_many.specs.declared.wishes.Wish.{Wish}
use Rattle.show_commands.specs.Dates.{ListsChosen}
use Rattle.outcome.specs.declared.endings.Ending.{Ending}
use Rattle.program_tasks.specs.declared.forms.ListForm.{ListForm}
use Rattle.image_files.specs.Work.{After, Then, Purely}
use Rattle.image_files.specs.Ending.{EndsSound}
use Rattle.image_files.specs.Reading.{LooksAt}
use Rattle.image_files.specs.Answers.{Answers, AreLines}
use Rattle.image_files.specs.Saving.{Prints}
use Rattle.asked_files.specs.UnfoundWords.{refusal_for}
use Rattle.asked_files.specs.Wishing.{AreWished}

-- ## Words of no file

-- the lines of the words that ask for no file
abbrev pub refusal_lines : List (List ℕ) → List Wish → List ℕ
refusal_lines words [] = []
refusal_lines words (one ∷ wishes) = refusal_for words one ++ refusal_lines words wishes

-- ## The list

abbrev pub words_in : ListForm → List (List ℕ)
words_in form = map (λ word. word.bytes.items) form.names.items

-- the list of those files of an image that the words choose, by name or in order of their blocks with dates
abbrev pub ListsIf : Bool → ListForm → List ℕ → Result (Vec ℕ) ArchiveFault → Type 0
ListsIf true form image = ListsChosen form.year (words_in form) image
ListsIf false form image = ListsLike (words_in form) image

abbrev pub ListsWords : ListForm → List ℕ → Result (Vec ℕ) ArchiveFault → Type 0
ListsWords form = ListsIf form.is_long form

-- the words that ask for no file are printed before the list; the command ends well where each word asks for one
abbrev pub ListsWished : ListForm → List ℕ → List Wish → List Event → Result (Unit {0}) Ending → List Event → Type 0
ListsWished form image wishes = Then (Answers (ListsWords form image) (length image)) (λ lines. Then (Purely (AreLines (refusal_lines (words_in form) wishes ++ lines.items)))
    (λ text. Then (After (not (is_some (first_unfound wishes))) (Prints text.items)) (λ it. Purely (EndsSound (not (is_some (first_unfound wishes)))))))

-- ## The command

-- An image file is looked at, and it is found what the words ask for. Then the words of no file are printed, and the files that are chosen.
abbrev pub ListsSome : ListForm → List Event → Result (Unit {0}) Ending → List Event → Type 0
ListsSome form = Then (LooksAt form.image) (λ image. Then (Answers (OpensVolume image.items) (length image.items)) (λ blocks.
    Then (Purely (AreWished (words_in form) blocks)) (λ wishes. ListsWished form image.items wishes.items)))

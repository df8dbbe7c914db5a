-- Which files of a volume are taken out: those of names and of first blocks, or where a pattern is among the words, those that they choose.
use Rattle.std.specs.Prelude.{◌≡◌, ◌⊎◌, ℕ, Bool, true, false, nat_lt, if◌then◌else◌, Option, None, Some, Result, Ok, Err, List, ◌∷◌, length, map, slice_get}
use Rattle.std.specs.Global.{Vec}
use Rattle.hosts.specs.Event.{Event, tell_call}
use Rattle.os8_dir.specs.declared.file_faults.FileFault.TheVariants.{BadName, NotFound}
use Rattle.name_spelling.specs.Patterns.{has_pattern}
use Rattle.refusals.specs.declared.faults.SessionFault.TheVariants.{File, Memory}
use Rattle.archive_files.specs.Asking.{Target, OfName, AtBlock, target_of}
use Rattle.archive_files.specs.declared.asking.Asked.{Asked}
use Rattle.archive_many.specs.Opened.{OpensVolume, files_on}
use Rattle.archive_many.specs.Wishing.{by_place, first_unfound, found_files, wishes_of}
use Rattle.archive_many.specs.declared.wishes.Wish.{Wish}
use Rattle.archive_many.specs.declared.wishes.Wish.TheVariants as wish
use Rattle.outcome.specs.Notes.{block_text, name_text}
use Rattle.outcome.specs.declared.notes.NameNote.TheVariants.{NotDeleted}
use Rattle.outcome.specs.declared.endings.Ending.{Ending}
use Rattle.outcome.specs.declared.endings.Ending.TheVariants.{Fault}
use Rattle.program_tasks.specs.declared.forms.DeleteForm.{DeleteForm}
use Rattle.image_files.specs.Work.{Then, Purely, Lacks}
use Rattle.image_files.specs.Answers.{Answers}
use Rattle.asked_files.specs.Asking.{AreNamed}

-- ## What is refused

-- the note on a file that is refused
abbrev pub refused_text : Target → List ℕ
refused_text (OfName name) = name_text NotDeleted name
refused_text (AtBlock place) = block_text place

-- the one at a place among several files, counted from 0; where one file alone is wanted nothing is said of it
abbrev pub one_of_several : List Target → ℕ → Option Target
one_of_several wanted place = if nat_lt (length wanted) 2 then None else slice_get wanted place

-- which file is refused is printed, where there are several
abbrev pub TellsRefused : Option Target → List Event → List Event → Type 0
TellsRefused None old new = new ≡ old
TellsRefused (Some wanted) old new = (ok : Bool) × (new ≡ tell_call ok (refused_text wanted) ∷ old)

-- ## The words of the command

abbrev pub words_in : DeleteForm → List (List ℕ)
words_in form = map (λ word. word.bytes.items) form.names.items

-- the word at a place
abbrev pub word_at : DeleteForm → ℕ → Option Target
word_at form place = slice_get (map (λ word. OfName word.bytes.items) form.names.items) place

-- what the words and blocks ask for of a volume, each file once, unless memory is wanted for that
abbrev pub AreWished : DeleteForm → List (List ℕ) → Result (Vec Wish) Ending → Type 0
AreWished form blocks (Ok wishes) = wishes.items ≡ wishes_of (files_on blocks) false (words_in form) form.places.items
AreWished form blocks (Err ending) = ending ≡ Fault Memory

-- a word or a block of no file is refused, and printed
abbrev pub RefusesWish : DeleteForm → Wish → List Event → Ending → List Event → Type 0
RefusesWish form (wish.File file) old ending new = ⊥
RefusesWish form (wish.BadWord place) old ending new = (ending ≡ Fault (File BadName)) × TellsRefused (word_at form place) old new
RefusesWish form (wish.NotFound place) old ending new = (ending ≡ Fault (File NotFound)) × TellsRefused (word_at form place) old new
RefusesWish form (wish.Block block) old ending new = (ending ≡ Fault (File NotFound)) × TellsRefused (Some (AtBlock block)) old new

-- the files that are asked for, where each is found; else the first that asks for none is refused, unless memory is wanted
abbrev pub FindsAll : DeleteForm → List Wish → List Event → Result (Vec Asked) Ending → List Event → Type 0
FindsAll form wishes old (Ok files) new = (first_unfound wishes ≡ None) × (map target_of files.items ≡ map by_place (found_files wishes)) × (new ≡ old)
FindsAll form wishes old (Err ending) new = ((one : Wish) × (first_unfound wishes ≡ Some one) × RefusesWish form one old ending new) ⊎ Lacks old ending new

-- ## Which files are meant

-- the files that the words choose of the volume in an image, which must be sound
abbrev pub Chooses : DeleteForm → List ℕ → List Event → Result (Vec Asked) Ending → List Event → Type 0
Chooses form image = Then (Answers (OpensVolume image) (length image)) (λ blocks. Then (Purely (AreWished form blocks)) (λ wishes. FindsAll form wishes.items))

abbrev pub MeansIf : Bool → DeleteForm → List ℕ → List Event → Result (Vec Asked) Ending → List Event → Type 0
MeansIf true form image = Chooses form image
MeansIf false form image = Purely (AreNamed form)

-- those that the words choose, if a pattern is among them; else those of the names and of the blocks
abbrev pub MeansFiles : DeleteForm → List ℕ → List Event → Result (Vec Asked) Ending → List Event → Type 0
MeansFiles form = MeansIf (has_pattern (words_in form)) form

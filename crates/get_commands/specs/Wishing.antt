-- What the words of a command that gets several files ask for.
use Rattle.std.specs.Prelude.{◌≡◌, ℕ, Result, Ok, Err, List, map}
use Rattle.std.specs.Global.{Vec}
use Rattle.refusals.specs.declared.faults.SessionFault.TheVariants.{Memory}
use Rattle.archive_many.specs.Wishing.{wishes_of}
use Rattle.archive_many.specs.declared.opened.VolumeFile.{VolumeFile}
use Rattle.archive_many.specs.declared.wishes.Wish.{Wish}
use Rattle.outcome.specs.declared.endings.Ending.{Ending}
use Rattle.outcome.specs.declared.endings.Ending.TheVariants.{Fault}
use Rattle.program_tasks.specs.declared.forms.GetManyForm.{GetManyForm}

-- the names that are given
abbrev pub words_of : GetManyForm → List (List ℕ)
words_of form = map (λ word. word.bytes.items) form.names.items

-- what is asked for, each file once, unless memory is wanted for that
abbrev pub AreWishes : GetManyForm → List VolumeFile → Result (Vec Wish) Ending → Type 0
AreWishes form files (Ok wishes) = wishes.items ≡ wishes_of files form.is_all (words_of form) form.places.items
AreWishes form files (Err ending) = ending ≡ Fault Memory

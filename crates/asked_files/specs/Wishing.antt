-- Which files of a volume the words of a command choose.
use Rattle.std.specs.Prelude.{◌≡◌, ℕ, false, Result, Ok, Err, List, []}
use Rattle.std.specs.Global.{Vec}
use Rattle.refusals.specs.declared.faults.SessionFault.TheVariants.{Memory}
use Rattle.archive_many.specs.Opened.{files_on}
use Rattle.archive_many.specs.Wishing.{wishes_of}
use Rattle.archive_many.specs.declared.wishes.Wish.{Wish}
use Rattle.outcome.specs.declared.endings.Ending.{Ending}
use Rattle.outcome.specs.declared.endings.Ending.TheVariants.{Fault}

-- what words ask for of a volume, each file once, unless memory is wanted for that
abbrev pub AreWished : List (List ℕ) → List (List ℕ) → Result (Vec Wish) Ending → Type 0
AreWished words blocks (Ok wishes) = wishes.items ≡ wishes_of (files_on blocks) false words []
AreWished words blocks (Err ending) = ending ≡ Fault Memory

-- What the names and the position of a source are by its statements so far, and how the next statement is answered.
use Rattle.std.specs.Prelude.{◌≡◌, ℕ, Bool, if◌then◌else◌, None, Result, Ok, Err}
use Rattle.std.specs.Ordering.{nat_cmp}
use Rattle.std.specs.BTreeSet.{contains}
use Rattle.pal8_grammar.specs.SourceNames.{names_of, own_value}
use Rattle.pal8_grammar.specs.declared.faults.GrammarFault.{GrammarFault}
use Rattle.pal8_grammar.specs.declared.faults.GrammarFault.TheVariants as grammar
use Rattle.pal8_values.specs.Sums.{Meanings}
use Rattle.pal8_places.specs.Places.{Standing}
use Rattle.pal8_places.specs.declared.faults.Code.{Code}
use Rattle.pal8_places.specs.declared.faults.Code.TheVariants as code
use Rattle.pal8_places.specs.declared.faults.Stop.{Stop}
use Rattle.pal8_places.specs.declared.faults.Stop.TheVariants.{At, Memory}
use Rattle.pal8_places.specs.declared.names.KnownNames.{KnownNames}
use Rattle.pal8_places.specs.declared.places.Position.{Position}

-- the last definition of a name is late
abbrev pub is_late : KnownNames → ℕ → Bool
is_late names n = contains nat_cmp names.late n

-- what a name stands for in a word by now
abbrev pub open_of : KnownNames → Meanings
open_of names n = if is_late names n then None else own_value names.table n

-- what names and a position are
abbrev pub standing : KnownNames → Position → Standing
standing names position = record { names = names_of names.table; late = is_late names; position = position }

-- why a statement isn't taken that the grammar refuses
abbrev pub stop_of : GrammarFault → Stop
stop_of grammar.IC = At code.IC
stop_of grammar.NU = At code.NU
stop_of grammar.SY = At code.SY
stop_of grammar.Memory = Memory

-- a statement is taken, or its fault is answered; or memory ran out
abbrev pub Passes : Result Standing Code → Result Position Stop → KnownNames → Type 0
Passes whole (Ok next) new = whole ≡ Ok (standing new next)
Passes whole (Err (At code)) new = whole ≡ Err code
Passes whole (Err Memory) new = Unit {0}

-- whether a condition is true is answered, or the fault of its value; or memory ran out
abbrev pub IsJudged : Result Bool Code → Result Bool Stop → Type 0
IsJudged whole (Ok holds) = whole ≡ Ok holds
IsJudged whole (Err (At code)) = whole ≡ Err code
IsJudged whole (Err Memory) = Unit {0}

-- The answer for a statement.
use Rattle.std.specs.Prelude.{◌≡◌, Result, Ok, Err}
use Rattle.pal8_grammar.specs.Values.{Reading}
use Rattle.pal8_grammar.specs.Bodies.{Phrase}
use Rattle.pal8_grammar.specs.declared.bodies.Body.{Body}
use Rattle.pal8_grammar.specs.declared.faults.GrammarFault.{GrammarFault}
use Rattle.pal8_grammar.specs.declared.faults.GrammarFault.TheVariants.{IC, NU, SY, Memory}

-- what a statement says was read, with its steps, or its fault; or memory ran out
abbrev pub Says : Result Phrase GrammarFault → Result Body GrammarFault → Reading → Type 0
Says said (Ok body) new = said ≡ Ok (body, new.steps)
Says said (Err IC) new = said ≡ Err IC
Says said (Err NU) new = said ≡ Err NU
Says said (Err SY) new = said ≡ Err SY
Says said (Err Memory) new = Unit {0}

use Rattle.std.proofs.Common.{◌≡◌, ◌-◌, ℕ, false, take, length}
use Rattle.pal_lex.specs.Text.{text_of}
use Rattle.pal_lex.specs.Statements.{statements}
use Rattle.pal_lex.specs.Reading.{HasRead}
use Rattle.source_places.specs.declared.places.Place.{Place}
use Rattle.host_sources.specs.Symbols.{meaning_in, Follows}
use Rattle.host_sources.specs.JudgeSteps.{faults_of_words}
use Rattle.host_sources.specs.Further as spec
use Rattle.host_sources.proofs.further.word_faults.Given as goal

abbrev pub invariant-loop-taken : goal.invariant-loop-taken
invariant-loop-taken l = record {
  told : (place : ℕ → Place) → faults_of_words place l.text l.found.items ≡ spec.word_faults place (meaning_in l.fn.last) (text_of (take l.taken l.text));
  follows : Follows l.names.symbols l.names.place (statements (text_of (take l.taken l.text)));
  read : HasRead l.lexer 0 (text_of (take l.taken l.text));
  may : l.lexer.may_pause ≡ false;
}

abbrev pub decreases-loop-taken : goal.decreases-loop-taken
decreases-loop-taken l = length l.text - l.taken

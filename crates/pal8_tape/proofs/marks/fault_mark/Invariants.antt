use Rattle.std.proofs.Common.{◌≡◌, ◌-◌, length, take}
use Rattle.pal_lex.specs.Text.{text_of}
use Rattle.pal8_lex.specs.Reading.{HasRead}
use Rattle.pal8_lex.specs.Statements.{statements}
use Rattle.pal8_tape.specs.Marks.{mark_in}
use Rattle.pal8_tape.proofs.marks.fault_mark.Given as goal

abbrev pub invariant-loop-taken : goal.invariant-loop-taken
invariant-loop-taken l = record {
  read : HasRead l.lexer (text_of (take l.taken l.source));
  mark : l.mark ≡ mark_in l.fn.code l.radix l.fn.start (statements (text_of (take l.taken l.source)));
}

abbrev pub decreases-loop-taken : goal.decreases-loop-taken
decreases-loop-taken l = length l.source - l.taken

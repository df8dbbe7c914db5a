use Rattle.std.proofs.Common.{◌≡◌, ◌-◌, length, take}
use Rattle.pal_lex.specs.Text.{text_of}
use Rattle.pal8_lex.specs.Reading.{HasRead}
use Rattle.pal8_asm.specs.Sources.{statements}
use Rattle.pal8_tape.specs.Mending.{harmless_in}
use Rattle.pal8_tape.specs.MendSteps.{text_in}
use Rattle.pal8_tape.proofs.mending.harmless.Given as goal

abbrev pub invariant-loop-taken : goal.invariant-loop-taken
invariant-loop-taken l = record {
  read : HasRead l.lexer (text_of (take l.taken l.text));
  found : text_in l.found ≡ harmless_in l.fn.is_passed l.text l.fn.start (statements (text_of (take l.taken l.text)));
}

abbrev pub decreases-loop-taken : goal.decreases-loop-taken
decreases-loop-taken l = length l.text - l.taken

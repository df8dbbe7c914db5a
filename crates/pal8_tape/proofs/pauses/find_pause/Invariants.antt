use Rattle.std.proofs.Common.{◌-◌, length, take}
use Rattle.pal_lex.specs.Text.{text_of}
use Rattle.pal8_asm.specs.Sources.{PassResult}
use Rattle.pal8_tape.specs.Passing.{Follows}
use Rattle.pal8_tape.specs.Steps.{IsPassing}
use Rattle.pal8_tape.proofs.pauses.find_pause.Given as goal

-- the bytes so far are passed
abbrev pub invariant-loop-taken : goal.invariant-loop-taken
invariant-loop-taken l = (left : PassResult) → Follows l.fn.pass left → IsPassing left (text_of (take l.taken l.text)) (text_of (take l.count l.text)) l.lexer l.pass

abbrev pub decreases-loop-taken : goal.decreases-loop-taken
decreases-loop-taken l = length l.text - l.taken

use Rattle.std.proofs.Common.{◌-◌, ℕ, Bool, false, List, length, take}
use Rattle.pal_lex.specs.Text.{text_from}
use Rattle.pal_asm.specs.Passing.{HasPassed}
use Rattle.pal_asm.proofs.passing.pass_text.Given as goal

-- as many characters were taken as the offset says
abbrev pub invariant-loop-offset : goal.invariant-loop-offset
invariant-loop-offset l = record {
  passed : (prefix here : List ℕ) (several : Bool) → HasPassed l.fn.pass prefix several (text_from here (take l.fn.offset l.text)) false
      → HasPassed l.pass prefix several (text_from here (take l.offset l.text)) false;
}

abbrev pub decreases-loop-offset : goal.decreases-loop-offset
decreases-loop-offset l = length l.text - l.offset

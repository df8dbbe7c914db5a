use Rattle.std.proofs.Common.{◌-◌, ℕ, Bool, false, List, length, take}
use Rattle.pal_lex.specs.Text.{text_from}
use Rattle.pal_asm.specs.Places.{Source}
use Rattle.pal_asm.specs.Passing.{HasMade, IsWithin}
use Rattle.pal_asm.proofs.making.make_text.Given as goal

-- as many characters were taken as the offset says
abbrev pub invariant-loop-offset : goal.invariant-loop-offset
invariant-loop-offset l = record {
  made : (whole : Source) (prefix here : List ℕ) (several : Bool) → HasMade whole l.fn.pass l.fn.pairs.items prefix several (text_from here (take l.fn.offset l.text)) false
      → IsWithin whole prefix several (text_from here l.text) → HasMade whole l.pass l.pairs.items prefix several (text_from here (take l.offset l.text)) false;
}

abbrev pub decreases-loop-offset : goal.decreases-loop-offset
decreases-loop-offset l = length l.text - l.offset

use Rattle.std.proofs.Common.{◌≡◌, ◌-◌, false, take, get_or, length}
use Rattle.pal_lex.specs.Text.{text_of}
use Rattle.pal_lex.specs.Reading.{HasRead}
use Rattle.source_listing.specs.SpotSteps.{no_spot}
use Rattle.source_listing.specs.References as spec
use Rattle.source_listing.proofs.references.mentions.Given as goal

abbrev pub invariant-loop-taken : goal.invariant-loop-taken
invariant-loop-taken l = record {
  names : l.found.items ≡ spec.mentions (λ at. get_or l.spots at no_spot) (text_of (take l.taken l.text));
  read : HasRead l.lexer 0 (text_of (take l.taken l.text));
  may : l.lexer.may_pause ≡ false;
}

abbrev pub decreases-loop-taken : goal.decreases-loop-taken
decreases-loop-taken l = length l.text - l.taken

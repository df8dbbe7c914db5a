use Rattle.std.proofs.Common.{arith, refl}
use Rattle.script8.specs.Replies.{printed_character}
use Rattle.script8.proofs.ReplyLemmas.{every_piece, more_pieces}
use Rattle.script8.proofs.reports.put_characters.Goals as goal

pub returns : goal.returns
returns c = record {
  ok = every_piece printed_character _ _ _ _ c.loop-character-test.false c.loop-character.invariant.text;
  err = tt;
  capacity = c.loop-character.invariant.capacity;
}

pub loop-character-preserved : goal.loop-character-preserved
loop-character-preserved c = record {
  text = more_pieces printed_character _ _ _ _ _ _ 0 c.loop-character-test.true refl c.loop-character.invariant.text c.in_ok-put_character.ensures.ok;
  capacity = omega (arith, c.loop-character.invariant.capacity, c.in_ok-put_character.ensures.capacity);
}

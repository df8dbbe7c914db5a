use Rattle.pointer_notes.proofs.NoteLemmas.{is_called, is_known}
use Rattle.pointer_notes.proofs.answers.answers_of.Goals as goal

pub returns : goal.returns
returns c = λ p is target. record {
  target = target;
  place = c.jump_place.ensures p is;
  call = is_called p c.args.cell c.call.result c.is_some.result c.is_some.ensures (c.call.ensures p is);
  known = is_known p c.args.cell c.known_word.result c.is_some-2.result c.is_some-2.ensures (c.known_word.ensures p is);
  writer = c.first_writer.ensures p is;
  returns = c.is_return.ensures p is;
  inline = c.inline_count.ensures p is;
}

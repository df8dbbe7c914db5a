use Rattle.std.proofs.Common.{length, ap, subst, arith, ◌∙◌}
use Rattle.pal_lex.specs.Reading.{ReadsOn}
use Rattle.pal_lex.proofs.RunLemmas.{left, read_further}
use Rattle.pal_lex.proofs.lexing.Lexer.take.Goals as goal

pub loop-taken-preserved : goal.loop-taken-preserved
loop-taken-preserved c = record {
  range = omega (arith, c.loop-taken.invariant.range, c.take_some-count.ensures.range, ap (λ l. length l) c.split_at.ensures.back, left c.args.bytes.now c.loop-taken.taken);
  state = c.take_some-count.ensures.state;
  setting = c.take_some-count.ensures.setting ∙ c.loop-taken.invariant.setting;
  read = λ seam text read.
      read_further seam text c.args.bytes.now c.loop-taken.taken c.take_some-count.result c.loop-taken.self c.take_some-count.new.self (c.loop-taken.invariant.read seam text read)
      (λ t is. subst (λ rest. ReadsOn seam t rest c.take_some-count.result c.take_some-count.new.self) c.split_at.ensures.back (c.take_some-count.ensures.read seam t is));
}

use Rattle.pal_asm.proofs.PassingLemmas.{source_ends}
use Rattle.pal_asm.proofs.passing.end_source.Goals as goal

pub returns-clause-ends : goal.returns-clause-ends
returns-clause-ends c = source_ends c.args.pass.now.lexer c.next_source.new.self c.args.last c.is_over-pass.result c.in_ok-next_source.ensures.paused c.in_ok-next_source.ensures.read c.is_over-pass.ensures

use Rattle.host_sources.proofs.ReadingLemmas.{ended_by}
use Rattle.host_sources.proofs.reading.statement_ended.Goals as goal

pub returns-in-Ok-clause-ended : goal.returns-in-Ok-clause-ended
returns-in-Ok-clause-ended c = λ text read may fine. ended_by text c.args.byte c.in-Ok.ended c.args.lexer.now c.push.new.self may (c.in-Ok.ensures.answers 0 text read)

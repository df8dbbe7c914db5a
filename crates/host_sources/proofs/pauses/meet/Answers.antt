use Rattle.std.proofs.Common.{Ok, sym, subst}
use Rattle.pal_lex.specs.Reading.{Answers}
use Rattle.host_sources.specs.Steps.{Meets}
use Rattle.host_sources.proofs.PauseLemmas.{met_nothing, met_statement, met_fault}
use Rattle.host_sources.proofs.pauses.meet.Goals as goal

pub returns-in-Ok-None-clause-meets : goal.returns-in-Ok-None-clause-meets
returns-in-Ok-None-clause-meets c = λ text read may fine.
    met_nothing text c.args.byte c.args.lexer.now c.push.new.self
    (subst (λ a. Answers 0 text c.args.byte (Ok a) c.args.lexer.now c.push.new.self) c.in-Ok-None.field-0-is (c.in-Ok-None.ensures.answers 0 text read))

pub returns-in-Ok-Some-clause-meets : goal.returns-in-Ok-Some-clause-meets
returns-in-Ok-Some-clause-meets c = λ text read may fine.
    subst (λ m. Meets text c.args.byte m c.push.new.self) (sym c.end_of_statement.ensures)
    (met_statement text c.args.byte c.in-Ok-Some.statement c.args.lexer.now c.push.new.self c.pause_is_bad.ensures fine
    (subst (λ a. Answers 0 text c.args.byte (Ok a) c.args.lexer.now c.push.new.self) c.in-Ok-Some.field-0-is (c.in-Ok-Some.ensures.answers 0 text read)))

pub returns-in_ok-unless_memory-in-Err-clause-meets : goal.returns-in_ok-unless_memory-in-Err-clause-meets
returns-in_ok-unless_memory-in-Err-clause-meets c = λ text read may fine.
    met_fault text c.args.byte c.in-Err.fault c.args.lexer.now c.push.new.self fine may c.in_ok-unless_memory-in-Err.ensures.other (c.in-Err.ensures.answers 0 text read)

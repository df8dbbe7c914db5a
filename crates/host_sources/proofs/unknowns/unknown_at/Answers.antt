use Rattle.std.proofs.Common.{Ok, subst, ◌∙◌}
use Rattle.pal_lex.specs.Statements.{statements}
use Rattle.pal_lex.specs.Reading.{Answers}
use Rattle.host_sources.proofs.UnknownLemmas.{ends_nothing, ends_one, told_refused}
use Rattle.host_sources.proofs.unknowns.unknown_at.Goals as goal

pub returns-in-Ok-None-clause-name : goal.returns-in-Ok-None-clause-name
returns-in-Ok-None-clause-name c = λ text standing read may lexical follows stands.
    ends_nothing standing text c.args.byte c.args.lexer.now c.push.new.self
    (subst (λ a. Answers 0 text c.args.byte (Ok a) c.args.lexer.now c.push.new.self) c.in-Ok-None.field-0-is (c.in-Ok-None.ensures.answers 0 text read))

pub returns-in_ok-name-in-Ok-Some-clause-name : goal.returns-in_ok-name-in-Ok-Some-clause-name
returns-in_ok-name-in-Ok-Some-clause-name c = λ text standing read may lexical follows stands.
    c.in_ok-name-in-Ok-Some.ensures (statements text) standing follows stands
    ∙ ends_one standing text c.args.byte c.in-Ok-Some.statement c.args.lexer.now c.push.new.self may
    (subst (λ a. Answers 0 text c.args.byte (Ok a) c.args.lexer.now c.push.new.self) c.in-Ok-Some.field-0-is (c.in-Ok-Some.ensures.answers 0 text read))

pub returns-in_ok-unless_memory-in-Err-clause-name : goal.returns-in_ok-unless_memory-in-Err-clause-name
returns-in_ok-unless_memory-in-Err-clause-name c = λ text standing read may lexical follows stands.
    told_refused standing text c.args.byte c.in-Err.fault c.args.lexer.now c.push.new.self lexical c.in_ok-unless_memory-in-Err.ensures.other (c.in-Err.ensures.answers 0 text read)

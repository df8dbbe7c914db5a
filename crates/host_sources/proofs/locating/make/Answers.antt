use Rattle.std.proofs.Common.{not, nat_eq, Ok, ◌∷◌, ◌++◌, refl, subst}
use Rattle.pal_lex.specs.Reading.{Answers, tokens_after}
use Rattle.pal_lex.specs.Statements.{statements}
use Rattle.host_sources.proofs.LocateLemmas.{handed, whole_after, make_none, make_ended, make_refused, make_told}
use Rattle.host_sources.proofs.locating.make.Goals as goal

pub returns-in-Ok-None-clause-makes : goal.returns-in-Ok-None-clause-makes
returns-in-Ok-None-clause-makes c = λ text later read may going second.
    make_none (statements (later ++ c.args.byte ∷ text)) text c.args.byte c.args.lexer.now c.push.new.self c.args.assembler.now going second
    (subst (λ a. Answers 0 text c.args.byte (Ok a) c.args.lexer.now c.push.new.self) c.in-Ok-None.field-0-is (c.in-Ok-None.ensures.answers 0 text read))

pub returns-in-Ok-clause-makes : goal.returns-in-Ok-clause-makes
returns-in-Ok-clause-makes c = λ text later read may going second.
    let whole = statements (later ++ c.args.byte ∷ text) in
    let statement = c.in-Ok-Some.statement in
    let answers = subst (λ a. Answers 0 text c.args.byte (Ok a) c.args.lexer.now c.push.new.self) c.in-Ok-Some.field-0-is (c.in-Ok-Some.ensures.answers 0 text read) in
    let more = whole_after text later c.args.byte statement c.args.lexer.now c.push.new.self c.statements_stay.ensures may answers in
    let quiet = (handed text c.args.byte statement c.args.lexer.now c.push.new.self may answers).0 in
    make_ended whole text c.args.byte statement (not (nat_eq c.args.byte 36)) c.args.lexer.now c.push.new.self c.second.new.self may answers refl
    (c.in-Ok.ensures.answers whole more.0 (statements text) (tokens_after text) quiet more.1 second).1

pub returns-in-Ok-Some-clause-makes : goal.returns-in-Ok-Some-clause-makes
returns-in-Ok-Some-clause-makes c = λ text later read may going second.
    let whole = statements (later ++ c.args.byte ∷ text) in
    let statement = c.in-Ok-Some.statement in
    let answers = subst (λ a. Answers 0 text c.args.byte (Ok a) c.args.lexer.now c.push.new.self) c.in-Ok-Some.field-0-is (c.in-Ok-Some.ensures.answers 0 text read) in
    let more = whole_after text later c.args.byte statement c.args.lexer.now c.push.new.self c.statements_stay.ensures may answers in
    let quiet = (handed text c.args.byte statement c.args.lexer.now c.push.new.self may answers).0 in
    make_refused whole text c.args.byte statement c.in-Err-second.field-0 c.args.lexer.now c.push.new.self c.args.assembler.now c.second.new.self may answers
    (c.in-Err-second.ensures.answers whole more.0 (statements text) (tokens_after text) quiet more.1 second)

pub returns-clause-makes : goal.returns-clause-makes
returns-clause-makes c = λ text later read may going second.
    make_told text later c.args.byte c.in-Err.fault c.args.lexer.now c.push.new.self c.statements_stay.ensures c.no_fault_before.ensures c.no_lexical_fault.ensures second.no_fault
    c.in_ok-unless_memory-in-Err.ensures.other (c.in-Err.ensures.answers 0 text read)

use Rattle.std.proofs.Common.{Ok, sym, subst}
use Rattle.pal_lex.specs.Reading.{Answers}
use Rattle.pal_lex.specs.Statements.{statements}
use Rattle.host_sources.specs.Steps.{PassesStatement, PassesByte}
use Rattle.host_sources.proofs.LocateLemmas.{pass_none, pass_ended, pass_refused}
use Rattle.host_sources.proofs.locating.pass.Goals as goal

pub returns-in-Ok-None-clause-passes : goal.returns-in-Ok-None-clause-passes
returns-in-Ok-None-clause-passes c = λ text read may going first.
    pass_none text c.args.byte c.args.lexer.now c.push.new.self c.args.assembler.now going first
    (subst (λ a. Answers 0 text c.args.byte (Ok a) c.args.lexer.now c.push.new.self) c.in-Ok-None.field-0-is (c.in-Ok-None.ensures.answers 0 text read))

pub returns-then-branch-clause-passes : goal.returns-then-branch-clause-passes
returns-then-branch-clause-passes c = λ text read may going first.
    let answers = subst (λ a. Answers 0 text c.args.byte (Ok a) c.args.lexer.now c.push.new.self) c.in-Ok-Some.field-0-is (c.in-Ok-Some.ensures.answers 0 text read) in
    subst (λ s. PassesByte text c.args.byte s c.push.new.self c.pass_statement.new.assembler) (sym c.step_after.ensures)
    (pass_ended text c.args.byte c.in-Ok-Some.statement c.args.lexer.now c.push.new.self c.pass_statement.new.assembler may answers
    (subst (λ fine. PassesStatement c.in-Ok-Some.statement (statements text) fine c.pass_statement.new.assembler) c.if-branch.true (c.in_ok-pass_statement-in-Ok-Some.ensures.passes (statements text) first)))

pub returns-else-branch-clause-passes : goal.returns-else-branch-clause-passes
returns-else-branch-clause-passes c = λ text read may going first.
    let answers = subst (λ a. Answers 0 text c.args.byte (Ok a) c.args.lexer.now c.push.new.self) c.in-Ok-Some.field-0-is (c.in-Ok-Some.ensures.answers 0 text read) in
    pass_refused text c.args.byte c.in-Ok-Some.statement c.args.lexer.now c.push.new.self c.pass_statement.new.assembler may answers
    (subst (λ fine. PassesStatement c.in-Ok-Some.statement (statements text) fine c.pass_statement.new.assembler) c.if-branch.false (c.in_ok-pass_statement-in-Ok-Some.ensures.passes (statements text) first))

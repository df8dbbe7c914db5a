use Rattle.std.proofs.Common.{Err, is_some, ap, subst}
use Rattle.pal_lex.specs.Reading.{with_tokens}
use Rattle.pal_asm.specs.Passes.{AnswersFirst}
use Rattle.host_sources.proofs.locating.pass_statement.Goals as goal

pub returns-in-Ok-clause-passes : goal.returns-in-Ok-clause-passes
returns-in-Ok-clause-passes c = λ older first tokens quiet. c.in-Ok.ensures.answers older tokens quiet first

pub returns-in-Err-At-clause-passes : goal.returns-in-Err-At-clause-passes
returns-in-Err-At-clause-passes c = λ older first tokens quiet.
    let told = subst (λ f. AnswersFirst older (with_tokens tokens c.args.statement.now) (Err f) c.args.assembler.now c.first.new.self) c.in-Err-At.field-0-is
    (c.in-Err-At.ensures.answers older tokens quiet first) in
    ap is_some told.0

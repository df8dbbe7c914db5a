use Rattle.std.proofs.lemmas.Result.{err_from_is_err_and}
use Rattle.pal_lex.specs.Joins.{join_of}
use Rattle.pal_asm.specs.Texts.{texts}
use Rattle.pal_asm.specs.TextSteps.{are_several}
use Rattle.pal_asm.proofs.TextLemmas.{turned}
use Rattle.pal_asm.proofs.SourceLemmas.{again_begins, second_fault}
use Rattle.pal_asm.proofs.texts.assemble_all.Goals as goal

pub second_pass-requires-clause-begins : goal.second_pass-requires-clause-begins
second_pass-requires-clause-begins c =
    let all = c.in_ok-first_pass.ensures.passed in
    again_begins (join_of (texts c.args.sources.now)) (are_several (texts c.args.sources.now)) c.lexer_of-lexer.result c.begin_second_pass.new.pass c.lexer_of-lexer.ensures.read c.lexer_of-lexer.ensures.several
    (c.in_ok-begin_second_pass.ensures.turns all.0 (join_of (texts c.args.sources.now)) all.1.0 all.1.1) c.in_ok-begin_second_pass.ensures.lexer

pub returns-clause-fault : goal.returns-clause-fault
returns-clause-fault c =
    let all = c.in_ok-first_pass.ensures.passed in
    second_fault (join_of (texts c.args.sources.now)) c.second_pass.result c.begin_second_pass.new.pass c.second_pass.ensures.fault
    (c.in_ok-begin_second_pass.ensures.turns all.0 (join_of (texts c.args.sources.now)) all.1.0 all.1.1)

pub returns-in_err-begin_second_pass-clause-fault : goal.returns-in_err-begin_second_pass-clause-fault
returns-in_err-begin_second_pass-clause-fault c =
    let all = c.in_ok-first_pass.ensures.passed in
    let p = err_from_is_err_and c.from_residual-in_err-begin_second_pass.result c.from_residual-in_err-begin_second_pass.ensures.1 in rw (p.1, p.2)
    (turned (join_of (texts c.args.sources.now)) _ c.begin_second_pass.new.pass (c.in_err-begin_second_pass.ensures.turns all.0 (join_of (texts c.args.sources.now)) all.1.0 all.1.1) all.1.1.no_fault)

use Rattle.std.proofs.Common.{not, ap, sym}
use Rattle.std.proofs.lemmas.Result.{err_from_is_err_and}
use Rattle.pal_asm.proofs.SourceLemmas.{goes_to, goes_not}
use Rattle.pal_asm.proofs.texts.go_on.Goals as goal

pub returns-clause-goes : goal.returns-clause-goes
returns-clause-goes c =
    goes_to c.args.others.now c.args.pass.now.lexer c.end_source.new.pass.lexer (not c.are_several.result) c.end_source.new.pass.is_at_end (sym c.if-is_empty.ensures) (ap not c.are_several.ensures) c.in_ok-end_source.ensures.ends

pub returns-in_err-end_source-clause-goes : goal.returns-in_err-end_source-clause-goes
returns-in_err-end_source-clause-goes c =
    let p = err_from_is_err_and c.from_residual.result c.from_residual.ensures.1 in rw (p.1, p.2)
    (goes_not c.args.others.now c.args.pass.now.lexer c.end_source.new.pass.lexer (not c.are_several.result) c.end_source.new.pass.is_at_end _ (sym c.if-is_empty.ensures) (ap not c.are_several.ensures) c.in_err-end_source.ensures.ends)

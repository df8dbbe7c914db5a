use Rattle.std.proofs.Common.{take, false, Err}
use Rattle.std.proofs.lemmas.Result.{err_from_is_err_and}
use Rattle.pal_lex.specs.Text.{text_from}
use Rattle.pal_asm.proofs.PassingLemmas.{settled_by, settle_in}
use Rattle.pal_asm.proofs.passing.pass_text.Goals as goal

pub loop-offset-preserved : goal.loop-offset-preserved
loop-offset-preserved c = record {
  passed = λ prefix here several has.
      c.in_ok-pass_statement.ensures.passes prefix here several
      (settled_by c.loop-offset.pass c.settle.new.pass prefix several (text_from here (take c.loop-offset.offset c.args.text.now)) false c.in_ok-settle.ensures.settles (c.loop-offset.invariant.passed prefix here several has));
}

pub returns-in_err-pass_statement-clause-passes : goal.returns-in_err-pass_statement-clause-passes
returns-in_err-pass_statement-clause-passes c = λ prefix here several has.
    let p = err_from_is_err_and c.from_residual-in_err-pass_statement.result c.from_residual-in_err-pass_statement.ensures.1 in rw (p.1, p.2)
    (c.in_err-pass_statement.ensures.passes prefix here several
    (settled_by c.loop-offset.pass c.settle.new.pass prefix several (text_from here (take c.loop-offset.offset c.args.text.now)) false c.in_ok-settle.ensures.settles (c.loop-offset.invariant.passed prefix here several has)))

pub returns-in_err-settle-clause-passes : goal.returns-in_err-settle-clause-passes
returns-in_err-settle-clause-passes c = λ prefix here several has.
    let p = err_from_is_err_and c.from_residual.result c.from_residual.ensures.1 in rw (p.1, p.2)
    (settle_in c.join_goes_on.ensures c.statements_stay.ensures c.loop-offset.pass c.settle.new.pass prefix several here c.args.text.now c.loop-offset.offset (Err _) c.in_err-settle.ensures.settles (c.loop-offset.invariant.passed prefix here several has))

pub returns-clause-passes : goal.returns-clause-passes
returns-clause-passes c = λ prefix here several has.
    settle_in c.join_goes_on.ensures c.statements_stay.ensures c.loop-offset.pass c.settle-2.new.pass prefix several here c.args.text.now c.loop-offset.offset c.settle-2.result c.settle-2.ensures.settles (c.loop-offset.invariant.passed prefix here several has)

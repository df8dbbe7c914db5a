use Rattle.std.proofs.Common.{false, refl}
use Rattle.std.proofs.lemmas.Result.{err_from_is_err_and}
use Rattle.pal_asm.specs.Passing.{StandsAfter}
use Rattle.pal_asm.proofs.PassingLemmas.{stands_read, passed_to, refused_in}
use Rattle.pal_asm.proofs.passing.pass_statement.Goals as goal

pub returns-in_err-pass_byte-clause-passes : goal.returns-in_err-pass_byte-clause-passes
returns-in_err-pass_byte-clause-passes c = λ prefix here several has.
    let now = stands_read c.args.pass.now.lexer c.read_on.new.lexer c.args.pass.now.is_at_end prefix several here c.args.text.now c.args.offset.now c.read_on.result false (λ s. StandsAfter c.args.pass.now.waiting c.args.pass.now.assembler s)
    c.read_on.ensures.range.0 c.read_on.ensures.read c.read_on.ensures.paused c.read_on.ensures.setting has in
    let p = err_from_is_err_and c.from_residual.result c.from_residual.ensures.1 in rw (p.1, p.2)
    (refused_in prefix several here c.args.text.now c.read_on.result _ c.pass_byte.new.pass _ c.if-offset-text.true refl (c.in_err-pass_byte.ensures prefix _ several now))

pub returns-in_ok-pass_byte-clause-passes : goal.returns-in_ok-pass_byte-clause-passes
returns-in_ok-pass_byte-clause-passes c = λ prefix here several has.
    let now = stands_read c.args.pass.now.lexer c.read_on.new.lexer c.args.pass.now.is_at_end prefix several here c.args.text.now c.args.offset.now c.read_on.result false (λ s. StandsAfter c.args.pass.now.waiting c.args.pass.now.assembler s)
    c.read_on.ensures.range.0 c.read_on.ensures.read c.read_on.ensures.paused c.read_on.ensures.setting has in
    passed_to prefix several here c.args.text.now c.read_on.result _ c.pass_byte.new.pass c.if-offset-text.true refl (c.in_ok-pass_byte.ensures prefix _ several now)

pub returns-else-offset-text-clause-passes : goal.returns-else-offset-text-clause-passes
returns-else-offset-text-clause-passes c = λ prefix here several has.
    stands_read c.args.pass.now.lexer c.read_on.new.lexer c.args.pass.now.is_at_end prefix several here c.args.text.now c.args.offset.now c.read_on.result false (λ s. StandsAfter c.args.pass.now.waiting c.args.pass.now.assembler s)
    c.read_on.ensures.range.0 c.read_on.ensures.read c.read_on.ensures.paused c.read_on.ensures.setting has

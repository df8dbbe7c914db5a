use Rattle.std.proofs.Common.{false, refl}
use Rattle.std.proofs.lemmas.Result.{err_from_is_err_and}
use Rattle.pal_asm.specs.Passing.{IsMade}
use Rattle.pal_asm.proofs.PassingLemmas.{stands_read}
use Rattle.pal_asm.proofs.MakingLemmas.{made_to, made_not_in, within_byte}
use Rattle.pal_asm.proofs.making.make_statement.Goals as goal

pub returns-in_err-make_byte-clause-makes : goal.returns-in_err-make_byte-clause-makes
returns-in_err-make_byte-clause-makes c = λ whole prefix here several has within.
    let now = stands_read c.args.pass.now.lexer c.read_on.new.lexer c.args.pass.now.is_at_end prefix several here c.args.text.now c.args.offset.now c.read_on.result false (λ s. IsMade whole c.args.pass.now c.args.pairs.now.items s)
    c.read_on.ensures.range.0 c.read_on.ensures.read c.read_on.ensures.paused c.read_on.ensures.setting has in
    let p = err_from_is_err_and c.from_residual.result c.from_residual.ensures.1 in rw (p.1, p.2)
    (made_not_in whole prefix several here c.args.text.now c.read_on.result _ c.make_byte.new.pass c.make_byte.new.pairs.items _ c.if-offset-text.true refl
    (c.in_err-make_byte.ensures whole prefix _ several now (within_byte whole prefix several here c.args.text.now c.read_on.result _ c.if-offset-text.true refl within)))

pub returns-in_ok-make_byte-clause-makes : goal.returns-in_ok-make_byte-clause-makes
returns-in_ok-make_byte-clause-makes c = λ whole prefix here several has within.
    let now = stands_read c.args.pass.now.lexer c.read_on.new.lexer c.args.pass.now.is_at_end prefix several here c.args.text.now c.args.offset.now c.read_on.result false (λ s. IsMade whole c.args.pass.now c.args.pairs.now.items s)
    c.read_on.ensures.range.0 c.read_on.ensures.read c.read_on.ensures.paused c.read_on.ensures.setting has in
    made_to whole prefix several here c.args.text.now c.read_on.result _ c.make_byte.new.pass c.make_byte.new.pairs.items c.if-offset-text.true refl
    (c.in_ok-make_byte.ensures whole prefix _ several now (within_byte whole prefix several here c.args.text.now c.read_on.result _ c.if-offset-text.true refl within))

pub returns-else-offset-text-clause-makes : goal.returns-else-offset-text-clause-makes
returns-else-offset-text-clause-makes c = λ whole prefix here several has within.
    stands_read c.args.pass.now.lexer c.read_on.new.lexer c.args.pass.now.is_at_end prefix several here c.args.text.now c.args.offset.now c.read_on.result false (λ s. IsMade whole c.args.pass.now c.args.pairs.now.items s)
    c.read_on.ensures.range.0 c.read_on.ensures.read c.read_on.ensures.paused c.read_on.ensures.setting has

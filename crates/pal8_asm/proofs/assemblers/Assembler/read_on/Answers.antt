use Rattle.std.proofs.Common.{arith, sym}
use Rattle.pal8_asm.proofs.SourceLemmas.{way_ends, way_fails, way_is_over}
use Rattle.pal8_asm.proofs.assemblers.Assembler.read_on.Goals as goal

pub returns-then-is_over : goal.returns-then-is_over
returns-then-is_over c = λ options whole begins.
    way_ends options whole c.loop-rest.rest.now c.loop-rest.lexer c.loop-rest.at c.loop-rest.self (sym (c.if-is_over.ensures {u = tt})) (c.loop-rest.invariant options whole begins)

pub returns-in-Err : goal.returns-in-Err
returns-in-Err c = λ options whole begins.
    let way = c.loop-rest.invariant options whole begins in
    way_fails options whole c.loop-rest.rest.now c.loop-rest.lexer c.take_first.new.lexer c.loop-rest.at c.loop-rest.self c.take_first.new.self
    c.in-len1-up.len_at_least way c.in-Err.fault (c.in-Err.ensures {u = tt} options way.here way.counts way.taken)

pub returns : goal.returns
returns c = λ options whole begins.
    way_is_over options whole c.loop-rest.rest.now c.loop-rest.lexer c.loop-rest.at c.loop-rest.self (omega (arith, c.in_default.len_below)) (c.loop-rest.invariant options whole begins)

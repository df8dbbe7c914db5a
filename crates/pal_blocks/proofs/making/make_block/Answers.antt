use Rattle.std.proofs.Common.{◌∙◌, true, false, arith}
use Rattle.std.proofs.lemmas.Result.{err_from_is_err_and}
use Rattle.pal_asm.specs.Passing.{IsMade}
use Rattle.pal_blocks.proofs.BeginLemmas.{lt_true, lt_false}
use Rattle.pal_blocks.proofs.BlockLemmas.{begins_block, ends_block, skips_block, block_not_made, within_block}
use Rattle.pal_blocks.proofs.making.make_block.Goals as goal

pub returns-then-pass-clause-makes : goal.returns-then-pass-clause-makes
returns-then-pass-clause-makes c = λ whole prefix given several has within.
    skips_block c.joined_text.ensures.characters c.joined_text.ensures.ended c.args.pass.now.lexer c.args.pass.now.is_at_end prefix several given c.args.block.now c.args.offset.now (λ s. IsMade whole c.args.pass.now c.args.pairs.now.items s) c.if-pass.true has

pub returns-then-count-lt-BLOCK_FRAMES-clause-makes : goal.returns-then-count-lt-BLOCK_FRAMES-clause-makes
returns-then-count-lt-BLOCK_FRAMES-clause-makes c = λ whole prefix given several has within.
    let is = c.split_at.ensures.front ∙ c.lay_characters-count.ensures.characters in
    let now = begins_block c.args.pass.now.lexer c.args.pass.now.is_at_end prefix several given c.args.block.now _ c.args.offset.now (λ s. IsMade whole c.args.pass.now c.args.pairs.now.items s) c.if-pass.false is has in
    ends_block c.joined_text.ensures.characters c.joined_text.ensures.ended c.make_text.new.pass.lexer c.make_text.new.pass.is_at_end prefix several given c.args.block.now _ c.make_text.new.offset true
    (λ s. IsMade whole c.make_text.new.pass c.make_text.new.pairs.items s) now.0 is c.in_ok-make_text.ensures.range (c.lay_characters-count.ensures.ended ∙ lt_true _ 384 c.if-count-lt-BLOCK_FRAMES.true)
    (c.in_ok-make_text.ensures.makes whole prefix _ several now.1 (within_block c.joined_text.ensures.characters whole prefix several given c.args.block.now _ now.0 is within))

pub returns-else-count-lt-BLOCK_FRAMES-clause-makes : goal.returns-else-count-lt-BLOCK_FRAMES-clause-makes
returns-else-count-lt-BLOCK_FRAMES-clause-makes c = λ whole prefix given several has within.
    let is = c.split_at.ensures.front ∙ c.lay_characters-count.ensures.characters in
    let now = begins_block c.args.pass.now.lexer c.args.pass.now.is_at_end prefix several given c.args.block.now _ c.args.offset.now (λ s. IsMade whole c.args.pass.now c.args.pairs.now.items s) c.if-pass.false is has in
    ends_block c.joined_text.ensures.characters c.joined_text.ensures.ended c.make_text.new.pass.lexer c.make_text.new.pass.is_at_end prefix several given c.args.block.now _ c.make_text.new.offset false
    (λ s. IsMade whole c.make_text.new.pass c.make_text.new.pairs.items s) now.0 is c.in_ok-make_text.ensures.range (c.lay_characters-count.ensures.ended ∙ lt_false _ 384 (omega (arith, c.if-count-lt-BLOCK_FRAMES.false)))
    (c.in_ok-make_text.ensures.makes whole prefix _ several now.1 (within_block c.joined_text.ensures.characters whole prefix several given c.args.block.now _ now.0 is within))

pub returns-in_err-make_text-clause-makes : goal.returns-in_err-make_text-clause-makes
returns-in_err-make_text-clause-makes c = λ whole prefix given several has within.
    let is = c.split_at.ensures.front ∙ c.lay_characters-count.ensures.characters in
    let now = begins_block c.args.pass.now.lexer c.args.pass.now.is_at_end prefix several given c.args.block.now _ c.args.offset.now (λ s. IsMade whole c.args.pass.now c.args.pairs.now.items s) c.if-pass.false is has in
    let p = err_from_is_err_and c.from_residual.result c.from_residual.ensures.1 in rw (p.1, p.2)
    (block_not_made c.joined_text.ensures.characters whole prefix several given c.args.block.now _ c.make_text.new.offset c.make_text.new.pass c.make_text.new.pairs.items _ now.0 is
    (c.in_err-make_text.ensures.makes whole prefix _ several now.1 (within_block c.joined_text.ensures.characters whole prefix several given c.args.block.now _ now.0 is within)))

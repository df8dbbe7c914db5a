use Rattle.std.proofs.Common.{◌≡◌, ◌∙◌, None, OnOk, true, false, subst, arith}
use Rattle.std.proofs.lemmas.Result.{err_from_is_err_and}
use Rattle.pal_asm.specs.Passing.{StandsAfter}
use Rattle.pal_blocks.proofs.BeginLemmas.{lt_true, lt_false}
use Rattle.pal_blocks.proofs.BlockLemmas.{begins_block, ends_block, block_skipped, block_refused}
use Rattle.pal_blocks.proofs.passing.pass_block.Goals as goal

pub returns-then-pass-clause-passes : goal.returns-then-pass-clause-passes
returns-then-pass-clause-passes c = λ prefix given several has.
    block_skipped c.joined_text.ensures.characters c.joined_text.ensures.ended c.args.pass.now c.settle.new.pass prefix several given c.args.block.now c.args.offset.now c.settle.result
    c.if-pass.true c.settle.ensures.stands (λ e. subst (λ r. OnOk r (c.settle.new.pass.waiting ≡ None)) e c.settle.ensures.none) has

pub returns-then-count-lt-BLOCK_FRAMES-clause-passes : goal.returns-then-count-lt-BLOCK_FRAMES-clause-passes
returns-then-count-lt-BLOCK_FRAMES-clause-passes c = λ prefix given several has.
    let is = c.split_at.ensures.front ∙ c.lay_characters-count.ensures.characters in
    let now = begins_block c.args.pass.now.lexer c.args.pass.now.is_at_end prefix several given c.args.block.now _ c.args.offset.now (λ s. StandsAfter c.args.pass.now.waiting c.args.pass.now.assembler s) c.if-pass.false is has in (
      ends_block c.joined_text.ensures.characters c.joined_text.ensures.ended c.pass_text.new.pass.lexer c.pass_text.new.pass.is_at_end prefix several given c.args.block.now _ c.pass_text.new.offset true
          (λ s. StandsAfter c.pass_text.new.pass.waiting c.pass_text.new.pass.assembler s) now.0 is c.in_ok-pass_text.ensures.none.1 (c.lay_characters-count.ensures.ended ∙ lt_true _ 384 c.if-count-lt-BLOCK_FRAMES.true)
          (c.in_ok-pass_text.ensures.passes prefix _ several now.1),
      c.in_ok-pass_text.ensures.none.0,
    )

pub returns-else-count-lt-BLOCK_FRAMES-clause-passes : goal.returns-else-count-lt-BLOCK_FRAMES-clause-passes
returns-else-count-lt-BLOCK_FRAMES-clause-passes c = λ prefix given several has.
    let is = c.split_at.ensures.front ∙ c.lay_characters-count.ensures.characters in
    let now = begins_block c.args.pass.now.lexer c.args.pass.now.is_at_end prefix several given c.args.block.now _ c.args.offset.now (λ s. StandsAfter c.args.pass.now.waiting c.args.pass.now.assembler s) c.if-pass.false is has in (
      ends_block c.joined_text.ensures.characters c.joined_text.ensures.ended c.pass_text.new.pass.lexer c.pass_text.new.pass.is_at_end prefix several given c.args.block.now _ c.pass_text.new.offset false
          (λ s. StandsAfter c.pass_text.new.pass.waiting c.pass_text.new.pass.assembler s) now.0 is c.in_ok-pass_text.ensures.none.1 (c.lay_characters-count.ensures.ended ∙ lt_false _ 384 (omega (arith, c.if-count-lt-BLOCK_FRAMES.false)))
          (c.in_ok-pass_text.ensures.passes prefix _ several now.1),
      c.in_ok-pass_text.ensures.none.0,
    )

pub returns-in_err-pass_text-clause-passes : goal.returns-in_err-pass_text-clause-passes
returns-in_err-pass_text-clause-passes c = λ prefix given several has.
    let is = c.split_at.ensures.front ∙ c.lay_characters-count.ensures.characters in
    let now = begins_block c.args.pass.now.lexer c.args.pass.now.is_at_end prefix several given c.args.block.now _ c.args.offset.now (λ s. StandsAfter c.args.pass.now.waiting c.args.pass.now.assembler s) c.if-pass.false is has in
    let p = err_from_is_err_and c.from_residual.result c.from_residual.ensures.1 in rw (p.1, p.2)
    (block_refused c.joined_text.ensures.characters prefix several given c.args.block.now _ c.pass_text.new.offset c.pass_text.new.pass _ now.0 is (c.in_err-pass_text.ensures.passes prefix _ several now.1))

use Rattle.std.proofs.Common.{◌∙◌, ap, sym, nat_lt, length, get_or, not}
use Rattle.std.proofs.lemmas.Result.{err_from_is_err_and}
use Rattle.pal_blocks.proofs.TurnLemmas.{first_on, first_not, first_next}
use Rattle.pal_blocks.proofs.LastBlockLemmas.{first_turn, fresh_lexer}
use Rattle.pal_blocks.proofs.assembling.Assembling.take_first.Goals as goal

pub returns-in_err-pass_block : goal.returns-in_err-pass_block
returns-in_err-pass_block c = λ sources left is more this.
    let p = err_from_is_err_and c.from_residual.result c.from_residual.ensures.1 in rw (p.1, p.2)
    (first_not c.joined_text.ensures.characters sources left c.args.self.now c.args.block.now c.pass_block.new.offset c.pass_block.new.pass _ is more c.requires.first this c.in_err-pass_block.ensures.passes c.in_err-pass_block.ensures.ended)

pub returns-then-follows : goal.returns-then-follows
returns-then-follows c = λ sources left is more this.
    first_on c.source_ends_join.ensures sources left c.args.self.now c.args.block.now c.pass_block.new.offset c.blocks_at.result c.pass_block.new.pass is more c.requires.first this
    (c.blocks_at.ensures ∙ ap (λ l. get_or l c.args.self.now.source 0) c.deref.ensures.value) (sym c.follows.ensures.follows ∙ c.if-follows.true) c.in_ok-pass_block.ensures.passes c.in_ok-pass_block.ensures.ended c.in_ok-pass_block.ensures.none

pub returns-then-follows-2 : goal.returns-then-follows-2
returns-then-follows-2 c = λ sources left is more this.
    first_next c.source_ends_join.ensures sources left c.args.self.now c.args.block.now c.pass_block.new.offset c.blocks_at.result c.count-sources.result c.pass_block.new.pass c.end_source.new.pass _ c.end_source.result is more c.requires.first this
    (c.blocks_at.ensures ∙ ap (λ l. get_or l c.args.self.now.source 0) c.deref.ensures.value) (sym c.follows.ensures.follows ∙ c.if-follows.false) (c.count-sources.ensures ∙ ap (λ l. length l) c.deref-2.ensures.value) (sym c.follows-2.ensures.follows ∙ c.if-follows-2.true)
    (ap not c.follows-then-follows-2.ensures.follows) c.in_ok-pass_block.ensures.passes c.in_ok-pass_block.ensures.ended c.in_ok-pass_block.ensures.none c.end_source.ensures.ends c.end_source.ensures.others.0 c.end_source.ensures.others.1

pub returns : goal.returns
returns c = λ sources left is more this.
    first_turn c.source_ends_join.ensures c.no_word_is_told.ensures sources left c.args.self.now c.args.block.now c.pass_block.new.offset c.blocks_at.result c.count-sources.result c.pass_block.new.pass c.begin_second_pass.new.pass c.begin_second_pass.result is more c.requires.first this
    (c.blocks_at.ensures ∙ ap (λ l. get_or l c.args.self.now.source 0) c.deref.ensures.value) (sym c.follows.ensures.follows ∙ c.if-follows.false) (c.count-sources.ensures ∙ ap (λ l. length l) c.deref-2.ensures.value) (sym c.follows-2.ensures.follows ∙ c.if-follows-2.false)
    c.in_ok-pass_block.ensures.passes c.in_ok-pass_block.ensures.ended c.in_ok-pass_block.ensures.none c.begin_second_pass.ensures.turns
    (fresh_lexer c.begin_second_pass.result c.lexer_of-lexer.result c.begin_second_pass.new.pass.lexer c.begin_second_pass.new.pass.is_at_end (length c.args.self.now.blocks.items) c.begin_second_pass.ensures.lexer c.lexer_of-lexer.ensures.read
    (c.lexer_of-lexer.ensures.several ∙ ap (λ l. nat_lt 1 (length l)) c.deref-3.ensures.value))

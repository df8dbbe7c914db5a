use Rattle.std.proofs.Common.{◌∙◌, ap, sym, get_or, length, not}
use Rattle.std.proofs.lemmas.Result.{err_from_is_err_and}
use Rattle.pal_blocks.proofs.AgainLemmas.{second_on, second_not, second_next, second_end}
use Rattle.pal_blocks.proofs.assembling.Assembling.take_again.Goals as goal

pub returns-in_err-make_block : goal.returns-in_err-make_block
returns-in_err-make_block c = λ sources left is more this.
    let p = err_from_is_err_and c.from_residual.result c.from_residual.ensures.1 in rw (p.1, p.2)
    (second_not c.joined_text.ensures.characters c.source_ends_join.ensures sources left c.args.self.now c.args.block.now c.make_block.new.offset c.make_block.new.pass c.make_block.new.pairs _ is more c.requires.second this c.in_err-make_block.ensures.makes c.in_err-make_block.ensures.ended)

pub returns-then-follows : goal.returns-then-follows
returns-then-follows c = λ sources left is more this.
    second_on c.joined_text.ensures.characters c.source_ends_join.ensures sources left c.args.self.now c.args.block.now c.make_block.new.offset c.blocks_at.result c.make_block.new.pass c.make_block.new.pairs is more c.requires.second this
    (c.blocks_at.ensures ∙ ap (λ l. get_or l c.args.self.now.source 0) c.deref.ensures.value) (sym c.follows.ensures.follows ∙ c.if-follows.true) c.in_ok-make_block.ensures.makes c.in_ok-make_block.ensures.ended

pub returns-then-follows-2 : goal.returns-then-follows-2
returns-then-follows-2 c = λ sources left is more this.
    second_next c.joined_text.ensures.characters c.source_ends_join.ensures sources left c.args.self.now c.args.block.now c.make_block.new.offset c.blocks_at.result c.count-sources.result c.make_block.new.pass c.end_source.new.pass c.make_block.new.pairs _ c.end_source.result is more c.requires.second this
    (c.blocks_at.ensures ∙ ap (λ l. get_or l c.args.self.now.source 0) c.deref.ensures.value) (sym c.follows.ensures.follows ∙ c.if-follows.false) (c.count-sources.ensures ∙ ap (λ l. length l) c.deref-2.ensures.value) (sym c.follows-2.ensures.follows ∙ c.if-follows-2.true)
    (ap not c.follows-then-follows-2.ensures.follows) c.in_ok-make_block.ensures.makes c.in_ok-make_block.ensures.ended c.end_source.ensures.ends c.end_source.ensures.others.0 c.end_source.ensures.others.1

pub returns : goal.returns
returns c = λ sources left is more this.
    second_end c.joined_text.ensures.characters c.source_ends_join.ensures sources left c.args.self.now c.args.block.now c.make_block.new.offset c.blocks_at.result c.count-sources.result c.make_block.new.pass c.make_block.new.pairs is more c.requires.second this
    (c.blocks_at.ensures ∙ ap (λ l. get_or l c.args.self.now.source 0) c.deref.ensures.value) (sym c.follows.ensures.follows ∙ c.if-follows.false) (c.count-sources.ensures ∙ ap (λ l. length l) c.deref-2.ensures.value) (sym c.follows-2.ensures.follows ∙ c.if-follows-2.false)
    c.in_ok-make_block.ensures.makes c.in_ok-make_block.ensures.ended

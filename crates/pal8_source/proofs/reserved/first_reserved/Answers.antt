use Rattle.tape_source.specs.Steps.{name_by}
use Rattle.pal8_source.specs.Sources.{is_word_of_pal8}
use Rattle.pal8_source.proofs.LowestLemmas.{lowest_is, one_more}
use Rattle.pal8_source.proofs.reserved.first_reserved.Goals as goal

pub loop-number-preserved : goal.loop-number-preserved
loop-number-preserved c =
    one_more (λ cell. is_word_of_pal8 (name_by c.args.table.now cell)) c.loop-number.number c.of-cell.result c.is_reserved_at.result c.loop-number.invariant
    c.of-cell.ensures.number c.is_reserved_at.ensures c.if-is_reserved_at.false

pub returns-then-is_reserved_at : goal.returns-then-is_reserved_at
returns-then-is_reserved_at c =
    lowest_is (λ cell. is_word_of_pal8 (name_by c.args.table.now cell)) c.loop-number.number c.of-cell.result c.is_reserved_at.result c.loop-number.invariant
    c.of-cell.ensures.number c.is_reserved_at.ensures c.if-is_reserved_at.true

use Rattle.std.proofs.Common.{◌∙◌, ◌++◌, ap}
use Rattle.pal8_grammar.specs.SourceNames.{own_value}
use Rattle.pal8_asm.specs.Sources.{with_values}
use Rattle.pal8_asm.specs.Steps.{late_of}
use Rattle.pal8_asm.proofs.MakingLemmas.{known_made, none_known}
use Rattle.pal8_asm.proofs.words.make_known.Goals as goal

pub returns : goal.returns
returns c = λ whole making.
    known_made (own_value c.args.names.now.table) (late_of c.args.late.now) c.args.source.head.now c.args.source.steps.now c.deref.result.now whole c.make_word-2.new.made.pools c.make_word-2.new.made.cells
    c.make_word-2.new.made.clash c.make_word-2.new.made.pairs.items c.make_word-2.result
    (c.deref.ensures.value ∙ c.put_known.ensures
    ∙ ap (λ l. l ++ with_values (late_of c.args.late.now) c.args.source.steps.now) (c.reserve.ensures.items ∙ c.clear.ensures.items))
    (c.make_word-2.ensures whole making)

pub returns-then-is_empty : goal.returns-then-is_empty
returns-then-is_empty c = λ whole making.
    known_made (own_value c.args.names.now.table) (late_of c.args.late.now) c.args.source.head.now c.args.source.steps.now c.args.source.steps.now whole c.make_word.new.made.pools c.make_word.new.made.cells
    c.make_word.new.made.clash c.make_word.new.made.pairs.items c.make_word.result
    (none_known (late_of c.args.late.now) (c.is_empty.ensures c.if-is_empty.true) c.args.source.steps.now) (c.make_word.ensures whole making)

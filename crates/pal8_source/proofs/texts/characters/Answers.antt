use Rattle.std.proofs.Common.{◌∙◌, ap, arith}
use Rattle.pal8_source.specs.Steps.{sheet_of}
use Rattle.pal8_source.specs.Texts.{word_at}
use Rattle.pal8_source.proofs.TextLemmas.{more_put}
use Rattle.pal8_source.proofs.texts.characters.Goals as goal

pub put_character-requires : goal.put_character-requires
put_character-requires c = omega (arith, c.number-number.ensures.range)

pub loop-k-preserved : goal.loop-k-preserved
loop-k-preserved c =
    c.loop-k.invariant
    ∙ more_put (sheet_of c.args.sheet.now) c.args.first c.loop-k.k c.args.count c.loop-k.text.items c.put_character.new.text.items c.put_character-in-loop-k.new.text.items
    c.number-number.result c.loop-k-test.true (c.number-number.ensures.value ∙ ap (word_at (sheet_of c.args.sheet.now)) c.of.ensures.number) c.in_ok-put_character.ensures
    c.in_ok-put_character-2.ensures

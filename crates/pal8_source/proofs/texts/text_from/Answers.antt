use Rattle.std.proofs.Common.{◌∙◌, ap, sym, arith}
use Rattle.pal8_source.specs.Steps.{sheet_of}
use Rattle.pal8_source.specs.Texts.{characters, delimiters, first_absent}
use Rattle.pal8_source.proofs.TextLemmas.{length_is, marked, too_short, unmarked}
use Rattle.pal8_source.proofs.texts.text_from.Goals as goal

pub returns-then-size-lt-FEWEST : goal.returns-then-size-lt-FEWEST
returns-then-size-lt-FEWEST c =
    too_short (sheet_of c.args.sheet.now) c.args.cell c.length_from-size.result
    (length_is (sheet_of c.args.sheet.now) c.args.cell c.index.result c.get.result c.length_from-size.result c.length_from-size.ensures.value c.index.ensures.value
    (c.get.ensures.value ∙ c.address.ensures.value))
    c.if-size-lt-FEWEST.true

pub returns-in-Some : goal.returns-in-Some
returns-in-Some c =
    let s = sheet_of c.args.sheet.now in
    let is =
    length_is s c.args.cell c.index.result c.get.result c.length_from-size.result c.length_from-size.ensures.value c.index.ensures.value
    (c.get.ensures.value ∙ c.address.ensures.value) in
    let large = c.if-size-lt-FEWEST.false in
    let text = c.in_ok-characters.ensures ∙ ap (λ f. characters s f c.length_from-size.result) c.index-2.ensures.value in
    let mark = sym (ap (first_absent delimiters) (c.deref.ensures.value ∙ text)) ∙ sym c.mark_of.ensures ∙ c.in-Some.is in
    (marked s c.args.cell c.length_from-size.result c.in-Some.mark is (omega (arith, large)) mark, omega (arith, large), text, mark)

pub returns-in-None : goal.returns-in-None
returns-in-None c =
    let s = sheet_of c.args.sheet.now in
    let is =
    length_is s c.args.cell c.index.result c.get.result c.length_from-size.result c.length_from-size.ensures.value c.index.ensures.value
    (c.get.ensures.value ∙ c.address.ensures.value) in
    let text = c.in_ok-characters.ensures ∙ ap (λ f. characters s f c.length_from-size.result) c.index-2.ensures.value in
    unmarked s c.args.cell c.length_from-size.result is (sym (ap (first_absent delimiters) (c.deref.ensures.value ∙ text)) ∙ sym c.mark_of.ensures ∙ c.in-None.is)

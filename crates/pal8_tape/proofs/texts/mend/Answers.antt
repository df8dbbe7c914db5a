use Rattle.std.proofs.Common.{ap, sym, ◌∙◌, arith}
use Rattle.pal8_tape.specs.Mending.{harmless}
use Rattle.pal8_tape.specs.MendSteps.{text_in}
use Rattle.pal8_tape.proofs.TextLemmas.{made_there, none_there, not_made}
use Rattle.pal8_tape.proofs.texts.mend.Goals as goal

pub returns-then-number-len : goal.returns-then-number-len
returns-then-number-len c = none_there c.args.passed c.args.start c.args.texts.now.items c.args.number (omega (arith, c.if-number-len.true, c.len.ensures))

pub returns-in-Some : goal.returns-in-Some
returns-in-Some c =
    made_there c.args.passed c.args.start c.args.texts.now.items c.args.number _ c.in-Some.next (omega (arith, c.if-number-len.false, c.len.ensures))
    (ap (harmless c.args.passed c.args.start) (sym (c.deref.ensures.value ∙ ap (λ v. v.items) c.index.ensures)) ∙ sym c.in_ok-next.ensures ∙ ap text_in c.in-Some.is)

pub returns-in-None : goal.returns-in-None
returns-in-None c =
    not_made c.args.passed c.args.start c.args.texts.now.items c.args.number _
    (ap (harmless c.args.passed c.args.start) (sym (c.deref.ensures.value ∙ ap (λ v. v.items) c.index.ensures)) ∙ sym c.in_ok-next.ensures ∙ ap text_in c.in-None.is)
    (omega (arith, c.if-number-len.false, c.len.ensures))

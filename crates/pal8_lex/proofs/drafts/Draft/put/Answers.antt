use Rattle.std.proofs.Common.{◌∙◌, ap}
use Rattle.pal8_lex.specs.Drafting.{Present}
use Rattle.pal8_lex.specs.Rules.{effect_of}
use Rattle.pal8_lex.proofs.DraftLemmas.{puts_character, puts_close}
use Rattle.pal8_lex.proofs.drafts.Draft.put.Goals as goal

pub returns-in-Closes-clause-put : goal.returns-in-Closes-clause-put
returns-in-Closes-clause-put c = λ before at place is.
    puts_close before c.args.byte at c.args.self.now c.close.new.self is
    (c.in-Closes.ensures ∙ ap (λ (p : Present). effect_of p.state p.head c.args.byte) c.self.view_is)
    (λ newest older e shape. c.close.ensures newest older at c.args.byte place e shape)

pub returns-in-Completes-clause-put : goal.returns-in-Completes-clause-put
returns-in-Completes-clause-put c = λ before at place is.
    puts_character before c.args.byte at c.args.self.now c.complete.new.self is c.in-Completes.character
    (c.in-Completes.ensures ∙ ap (λ (p : Present). effect_of p.state p.head c.args.byte) c.self.view_is)
    (λ newest older e shape. c.complete.ensures newest older at c.args.byte place e shape)

use Rattle.pal8_lex.proofs.LastLemmas.{changed_last}
use Rattle.pal8_lex.proofs.drafts.change_last.Goals as goal

pub returns-in-Some : goal.returns-in-Some
returns-in-Some c = λ before last e.
    changed_last c.args.tokens.now before last c.in-Some.last.now
    (λ t. record { kind = c.args.kind; is_spaced = t.is_spaced; start = t.start; end = c.args.end }) e c.in-Some.ensures.item.1

use Rattle.std.proofs.Common.{◌∙◌, refl}
use Rattle.std.proofs.lemmas.List.{with_items_is}
use Rattle.pal8_lex.proofs.DraftLemmas.{lengthens, next_limit}
use Rattle.pal8_lex.proofs.drafts.Draft.lengthen.Goals as goal

pub returns-in-Run : goal.returns-in-Run
returns-in-Run c = λ newest older at place is shape.
    rw (with_items_is c.self.inside.tokens c.change_last.new.tokens (c.change_last.auto.tokens ∙ c.deref_mut.ensures.len))
    (lengthens newest older c.args.byte at c.in-Run.weight c.saturating_add.result c.self.inside.tokens.items c.change_last.new.tokens
    c.self.inside.string.items c.self.inside.head c.head_again-self-inside.result c.longer-kind.result shape
    (rw (← c.in-Run.is) (c.self.view_is ∙ is))
    (λ before last e. c.longer-kind.ensures ∙ rw (c.last_kind.ensures before last (c.deref.ensures.value ∙ e)) refl)
    (λ before last e. c.change_last.ensures before last (c.deref_mut.ensures.value ∙ e))
    (c.saturating_add.ensures ∙ next_limit c.args.place at place) c.head_again-self-inside.ensures)

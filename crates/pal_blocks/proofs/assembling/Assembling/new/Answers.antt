use Rattle.std.proofs.Common.{◌∙◌, ap, refl, length, nat_lt}
use Rattle.pal_blocks.proofs.BeginLemmas.{begun}
use Rattle.pal_blocks.proofs.assembling.Assembling.new.Goals as goal

pub returns : goal.returns
returns c = λ sources some are each.
    begun sources _ some are each refl refl refl refl refl refl c.new-2.ensures.items c.lexer_of-lexer.ensures.read (c.lexer_of-lexer.ensures.several ∙ ap (λ l. nat_lt 1 (length l)) c.deref.ensures.value) c.new.ensures

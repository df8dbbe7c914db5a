use Rattle.std.proofs.Common.{refl, ap, sym, subst}
use Rattle.pal_lex.specs.Statements.{first_fault}
use Rattle.pal_asm.specs.Passes.{IsFirst}
use Rattle.pal_asm.proofs.TextLemmas.{nothing_read}
use Rattle.pal_asm.proofs.texts.begin.Goals as goal

pub returns : goal.returns
returns c = (
  refl,
  record {
    read = c.lexer_of.ensures.read;
    may_pause = c.lexer_of.ensures.several;
    clear = (refl, refl);
    fine = ap first_fault nothing_read;
    at = subst (λ s. IsFirst c.new.result s) (sym nothing_read) c.new.ensures;
  },
  refl,
)

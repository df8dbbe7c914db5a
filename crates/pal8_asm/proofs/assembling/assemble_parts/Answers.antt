use Rattle.pal_lex.specs.Text.{text_of}
use Rattle.pal8_asm.proofs.WholeLemmas.{parts_have}
use Rattle.pal8_asm.proofs.assembling.assemble_parts.Goals as goal

pub returns-in_ok-parts-in-Ok : goal.returns-in_ok-parts-in-Ok
returns-in_ok-parts-in-Ok c = parts_have c.args.options (text_of c.args.text.now) c.in-Ok.whole c.in_ok-parts-in-Ok.parts c.in-Ok.ensures c.in_ok-parts-in-Ok.ensures

use Rattle.pal_asm.proofs.SourceLemmas.{several_is}
use Rattle.pal_asm.proofs.texts.are_several.Goals as goal

pub returns : goal.returns
returns c = several_is c.args.sources.now

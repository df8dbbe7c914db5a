use Rattle.pal8_asm.proofs.SkippingLemmas.{skipped_is_nothing}
use Rattle.pal8_asm.proofs.laws.skipped_is_nothing.Goals as goal

pub returns : goal.returns
returns c = skipped_is_nothing

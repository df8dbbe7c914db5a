use Rattle.pal_asm.proofs.PassLemmas.{tags_then_body}
use Rattle.pal_asm.proofs.names.pass.Goals as goal

pub returns : goal.returns
returns c = tags_then_body _ _ _ _ _ _ _ c.in_ok-define_tags.ensures c.pass_body.ensures

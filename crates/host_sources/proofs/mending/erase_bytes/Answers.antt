use Rattle.std.proofs.Common.{◌++◌, ◌∷◌, [], get_or, refl, ap, ◌∙◌}
use Rattle.pal_lex.specs.Text.{text_of}
use Rattle.host_sources.proofs.MendLemmas.{erased_more}
use Rattle.host_sources.proofs.mending.erase_bytes.Goals as goal

pub loop-taken-preserved : goal.loop-taken-preserved
loop-taken-preserved c =
    let text = c.args.text.now in
    let taken = c.loop-taken.taken in
    let byte = get_or text taken 0 in
    ap text_of (c.in_ok-push.ensures.items ∙ ap (λ b. c.loop-taken.new.items ++ b ∷ []) c.erased_byte.ensures)
    ∙ erased_more text c.loop-taken.new.items taken c.args.from c.args.end byte c.loop-taken-test.true refl c.loop-taken.invariant

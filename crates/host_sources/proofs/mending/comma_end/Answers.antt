use Rattle.std.proofs.Common.{◌+◌, nat_eq, get_or, refl, ap, ◌∙◌, arith}
use Rattle.pal_lex.specs.Text.{is_end}
use Rattle.host_sources.specs.Mending.{up_to_comma}
use Rattle.host_sources.specs.MendSteps.{comma_by}
use Rattle.host_sources.proofs.TextLemmas.{comment_more, all_taken}
use Rattle.host_sources.proofs.MendLemmas.{first_part, comma_more}
use Rattle.host_sources.proofs.mending.comma_end.Goals as goal

pub loop-taken-preserved : goal.loop-taken-preserved
loop-taken-preserved c =
    let text = c.args.before.now in
    let taken = c.loop-taken.taken in
    let byte = get_or text taken 0 in
    let inside = c.loop-taken-test.true in
    let quiet = c.comment_after-comment.ensures ∙ comment_more text taken byte c.loop-taken.comment inside refl c.loop-taken.invariant.comment in
    record {
      comment = quiet;
      comma = ap (first_part text) (c.comma_after-comma.ensures ∙ ap (λ d. comma_by c.loop-taken.comma d (is_end byte) (nat_eq byte 0o54) (taken + 1)) c.is_dead-dead.ensures)
          ∙ comma_more text taken byte c.loop-taken.comma c.comment_after-comment.result inside refl quiet c.loop-taken.invariant.comma;
    }

pub returns : goal.returns
returns c =
    c.loop-taken.invariant.comma ∙ ap up_to_comma (all_taken c.args.before.now c.loop-taken.taken (omega (arith, c.loop-taken-test.false)))

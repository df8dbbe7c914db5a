use Rattle.std.proofs.Common.{◌||◌, get_or, refl, ap, ◌∙◌, arith}
use Rattle.pal_lex.specs.Text.{stretch, text_of, is_end, is_ignored}
use Rattle.std.proofs.Common.{take}
use Rattle.host_sources.specs.Runs as runs
use Rattle.host_sources.specs.RunSteps.{illegal_by}
use Rattle.host_sources.proofs.StartLemmas.{comment_more, all_taken}
use Rattle.host_sources.proofs.RunLemmas.{live_more, illegal_more}
use Rattle.host_sources.proofs.runs.first_illegal.Goals as goal

pub loop-taken-preserved : goal.loop-taken-preserved
loop-taken-preserved c =
    let text = c.args.before.now in
    let taken = c.loop-taken.taken in
    let byte = get_or text taken 0 in
    let inside = c.loop-taken-test.true in
    let live = stretch (text_of (take taken text)) in
    let dead = is_ignored byte || c.comment_after-comment.result in
    let quiet = c.comment_after-comment.ensures ∙ comment_more text taken byte c.loop-taken.comment inside refl c.loop-taken.invariant.comment in
    record {
      comment = quiet;
      found = c.illegal_after-found.ensures
          ∙ ap (λ d. illegal_by c.loop-taken.found d (is_end byte) byte taken) c.is_dead-dead.ensures
          ∙ ap (λ f. illegal_by f dead (is_end byte) byte taken) c.loop-taken.invariant.found
          ∙ illegal_more dead (is_end byte) byte taken live
          ∙ ap runs.first_illegal (live_more text taken byte c.comment_after-comment.result inside refl quiet);
    }

pub returns : goal.returns
returns c =
    c.loop-taken.invariant.found
    ∙ ap (λ t. runs.first_illegal (stretch t)) (all_taken c.args.before.now c.loop-taken.taken (omega (arith, c.loop-taken-test.false)))

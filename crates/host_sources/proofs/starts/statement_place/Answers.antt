use Rattle.std.proofs.Common.{get_or, refl, ◌∙◌, arith}
use Rattle.host_sources.proofs.StartLemmas.{comment_more, start_more, start_found}
use Rattle.host_sources.proofs.starts.statement_place.Goals as goal

pub loop-taken-preserved : goal.loop-taken-preserved
loop-taken-preserved c =
    let text = c.args.before.now in
    let taken = c.loop-taken.taken in
    let byte = get_or text taken 0 in
    let inside = c.loop-taken-test.true in
    let quiet = c.comment_after-comment.ensures ∙ comment_more text taken byte c.loop-taken.comment inside refl c.loop-taken.invariant.comment in
    record {
      comment = quiet;
      start = c.start_after-start.ensures
          ∙ start_more text taken byte c.loop-taken.start c.comment_after-comment.result inside refl quiet c.loop-taken.invariant.start;
    }

pub returns : goal.returns
returns c =
    c.unwrap_or.ensures
    ∙ start_found c.args.before.now c.loop-taken.taken c.loop-taken.start (omega (arith, c.loop-taken-test.false)) c.loop-taken.invariant.start

use Rattle.std.proofs.Common.{take, get_or, refl, ap, subst, ◌∙◌, arith}
use Rattle.pal_lex.specs.Text.{stretch, text_of, is_end}
use Rattle.pal_lex.specs.Cutting.{pieces}
use Rattle.host_sources.specs.Runs as runs
use Rattle.host_sources.specs.RunSteps.{is_wanted}
use Rattle.host_sources.specs.RunSteps.{IsSearch, with_live}
use Rattle.host_sources.proofs.StartLemmas.{comment_more, all_taken}
use Rattle.host_sources.proofs.RunLemmas.{live_more, closed_found, wants_none}
use Rattle.host_sources.proofs.runs.first_run.Goals as goal

pub loop-taken-preserved : goal.loop-taken-preserved
loop-taken-preserved c =
    let text = c.args.before.now in
    let taken = c.loop-taken.taken in
    let byte = get_or text taken 0 in
    let inside = c.loop-taken-test.true in
    let live = stretch (text_of (take taken text)) in
    let quiet = c.comment_after-comment.ensures ∙ comment_more text taken byte c.loop-taken.comment inside refl c.loop-taken.invariant.comment in
    record {
      comment = quiet;
      search = subst (λ l. IsSearch (is_wanted c.args.wanted.now) c.look.new.search (pieces l))
          (ap (λ d. with_live d (is_end byte) byte taken live) c.is_dead-dead.ensures
          ∙ live_more text taken byte c.comment_after-comment.result inside refl quiet)
          (c.in_ok-look.ensures live c.loop-taken.invariant.search);
    }

pub returns : goal.returns
returns c =
    let text = c.args.before.now in
    let taken = c.loop-taken.taken in
    let wanted = c.args.wanted.now in
    closed_found (is_wanted wanted) (pieces (stretch (text_of (take taken text)))) c.loop-taken.search c.close.new.search.first (wants_none wanted) c.loop-taken.invariant.search
    c.close.ensures.found
    ∙ ap (λ t. runs.first_run (is_wanted wanted) (pieces (stretch t))) (all_taken text taken (omega (arith, c.loop-taken-test.false)))

use Rattle.std.proofs.Common.{subst, ◌∙◌}
use Rattle.pal_lex.specs.Text.{text_of}
use Rattle.source_places.specs.Places.{place_in, place_by}
use Rattle.host_sources.specs.MendSteps.{Advances}
use Rattle.host_sources.proofs.MendLemmas.{advance_on, advance_end}
use Rattle.host_sources.proofs.lexical.lexical_further.Goals as goal

pub returns-then-not-branch-clause-faults : goal.returns-then-not-branch-clause-faults
returns-then-not-branch-clause-faults c =
    let sources = c.args.sources.now in
    let loop = c.loop-left in
    let new = c.advance.new in
    let goes = c.in_ok-advance.field-0 in
    advance_end (λ at. place_by sources (place_in c.args.join.counts.items at)) (text_of loop.text.items) (text_of new.text.items) loop.faults.items new.faults.items goes
    loop.left c.loop-left-test.true c.if-not-branch.true
    (subst (λ k. Advances (λ at. place_by sources (place_in k at)) (text_of loop.text.items) (text_of new.text.items) loop.faults.items new.faults.items goes)
    c.deref.ensures.value c.in_ok-advance.ensures.advances)
    ∙ loop.invariant

pub loop-left-preserved : goal.loop-left-preserved
loop-left-preserved c =
    let sources = c.args.sources.now in
    let loop = c.loop-left in
    let new = c.advance.new in
    let goes = c.in_ok-advance.field-0 in
    advance_on (λ at. place_by sources (place_in c.args.join.counts.items at)) (text_of loop.text.items) (text_of new.text.items) loop.faults.items new.faults.items goes
    loop.left c.loop-left-test.true c.if-not-branch.false
    (subst (λ k. Advances (λ at. place_by sources (place_in k at)) (text_of loop.text.items) (text_of new.text.items) loop.faults.items new.faults.items goes)
    c.deref.ensures.value c.in_ok-advance.ensures.advances)
    ∙ loop.invariant

use Rattle.std.proofs.Common.{sym, ◌∙◌}
use Rattle.pal_lex.specs.Text as spec
use Rattle.pal_lex.specs.Cutting.{pieces}
use Rattle.host_sources.specs.RunSteps.{is_wanted}
use Rattle.host_sources.proofs.RunLemmas.{closed_search, with_living, wants_none}
use Rattle.host_sources.proofs.runs.look.Goals as goal

pub returns-then-is_legal : goal.returns-then-is_legal
returns-then-is_legal c = λ live stands.
    let wanted = c.args.wanted.now in
    let b = c.args.byte in
    let place = c.args.place in
    let new = c.close.new.search in
    with_living (is_wanted wanted) c.args.dead (spec.is_end b) b place live new c.if-dead.false (sym c.is_end.ensures ∙ c.if-is_end.false)
    (closed_search (is_wanted wanted) b place (pieces live) c.args.search.now new (wants_none wanted) (sym c.is_coded.ensures ∙ c.if-is_coded.false)
    (sym c.is_legal.ensures ∙ c.if-is_legal.true) stands c.close.ensures.run c.close.ensures.start c.close.ensures.found)

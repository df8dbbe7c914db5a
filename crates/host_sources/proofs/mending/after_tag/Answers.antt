use Rattle.std.proofs.Common.{Bool, if◌then◌else◌, length, ap, sym, ◌∙◌}
use Rattle.pal_lex.specs.Text.{text_of}
use Rattle.host_sources.proofs.TextLemmas.{length_whole}
use Rattle.host_sources.proofs.MendLemmas.{tag_refused}
use Rattle.host_sources.proofs.mending.after_tag.Goals as goal

pub returns-then-branch-clause-place : goal.returns-then-branch-clause-place
returns-then-branch-clause-place c =
    let tag = c.args.tag.now in
    sym
    (ap (λ (b : Bool). if b then c.args.start else length (text_of tag))
    (tag_refused tag c.in_ok-alone.alone.items c.deref.result.now c.in_ok-is_refused.field-0 _ c.in_ok-alone.ensures c.deref.ensures.value c.in_ok-is_refused.ensures.refused
    c.if-branch.true))

pub returns-clause-place : goal.returns-clause-place
returns-clause-place c =
    let tag = c.args.tag.now in
    sym
    (ap (λ (b : Bool). if b then c.args.start else length (text_of tag))
    (tag_refused tag c.in_ok-alone.alone.items c.deref.result.now c.in_ok-is_refused.field-0 _ c.in_ok-alone.ensures c.deref.ensures.value c.in_ok-is_refused.ensures.refused
    c.if-branch.false)
    ∙ length_whole tag)

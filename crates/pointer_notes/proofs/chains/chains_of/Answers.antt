use Rattle.std.proofs.Common.{◌∙◌, refl}
use Rattle.word12.specs.declared.sizes.TheConstants.{CORE}
use Rattle.pointer_notes.specs.Steps.{view_in}
use Rattle.pointer_notes.specs.Tables.{names_by}
use Rattle.pointer_notes.proofs.ChainLemmas.{unlinked}
use Rattle.pointer_notes.proofs.NodeLemmas.{written}
use Rattle.pointer_notes.proofs.chains.chains_of.Goals as goal

pub link_all-requires-clause-first : goal.link_all-requires-clause-first
link_all-requires-clause-first c = unlinked 0o100000 CORE c.deref_mut.result.now refl (c.deref_mut.ensures.value ∙ c.in_ok-first.ensures)

pub link_all-requires-clause-next : goal.link_all-requires-clause-next
link_all-requires-clause-next c = unlinked 0o200000 0o200000 c.deref_mut-2.result.now refl (c.deref_mut-2.ensures.value ∙ c.in_ok-next.ensures)

pub returns : goal.returns
returns c =
    written (names_by c.args.kind (view_in c.args.views.now)) c.in_ok-first.first.len c.in_ok-next.next.len
    c.link_all.new.first c.link_all.new.next
    c.in_ok-first.first.items c.in_ok-next.next.items (c.link_all.auto.first ∙ c.deref_mut.ensures.len)
    (c.link_all.auto.next ∙ c.deref_mut-2.ensures.len) c.link_all.ensures

use Rattle.std.proofs.Common.{◌∙◌, refl}
use Rattle.flow8.specs.Flow.{word_in}
use Rattle.source_notes.specs.Notes.{is_flagged}
use Rattle.source_notes.specs.Tables.{names_by}
use Rattle.source_notes.proofs.ChainLemmas.{unlinked, written}
use Rattle.source_notes.proofs.chains.chains_of.Goals as goal

pub link_all-requires-clause-first : goal.link_all-requires-clause-first
link_all-requires-clause-first c = unlinked 0o100000 c.deref_mut.result.now refl (c.deref_mut.ensures.value ∙ c.in_ok-first.ensures)

pub link_all-requires-clause-next : goal.link_all-requires-clause-next
link_all-requires-clause-next c = unlinked 0o100000 c.deref_mut-2.result.now refl (c.deref_mut-2.ensures.value ∙ c.in_ok-next.ensures)

pub returns : goal.returns
returns c =
    written (names_by c.args.kind (word_in c.args.words.now) (is_flagged c.args.code.now)) c.in_ok-first.first.len c.in_ok-next.next.len
    c.link_all.new.first c.link_all.new.next
    c.in_ok-first.first.items c.in_ok-next.next.items (c.link_all.auto.first ∙ c.deref_mut.ensures.len)
    (c.link_all.auto.next ∙ c.deref_mut-2.ensures.len) c.link_all.ensures

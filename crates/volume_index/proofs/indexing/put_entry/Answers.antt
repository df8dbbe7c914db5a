use Rattle.volume_index.specs.Lines.{index_line}
use Rattle.volume_index.specs.Indexing.{block_bytes, entry_of}
use Rattle.volume_index.specs.IndexSteps.{IsLineAt}
use Rattle.volume_index.proofs.IndexLemmas.{entry-line, no-line, one-line, same-line}
use Rattle.volume_index.proofs.indexing.put_entry.Goals as goal

pub returns-then-not-branch-2 : goal.returns-then-not-branch-2
returns-then-not-branch-2 c =
    no-line (IsLineAt c.args.style.now c.args.name.now c.args.number c.args.last c.args.image.now c.args.volume.now.blocks c.args.place c.args.entry.now) c.in_ok-holds_wanted-in-File.field-0
    (index_line c.args.name.now (entry_of c.args.number (record { name = c.in-File.title; info = c.in-File.info; place = c.args.place; size = c.in-File.length }) c.in_ok-kind-in-File.kind) c.args.last (block_bytes c.args.image.now c.args.place c.in-File.length)) c.args.out.now.items
    (entry-line c.args.style.now c.args.name.now c.args.number c.args.last c.args.image.now c.args.volume.now.blocks c.args.place c.in-File.title c.in-File.info c.in-File.length c.args.entry.now c.as_bytes.result.now c.in_ok-words-in-File.words.items c.deref.result.now c.deref-in-File.result.now c.in_ok-kind-in-File.kind c.in_ok-is_chosen-in-File.field-0 c.in_ok-holds_wanted-in-File.field-0 c.in-File.is c.as_bytes.ensures.value c.in_ok-is_chosen-in-File.ensures c.if-not-branch.false c.in_ok-words-in-File.ensures c.deref.ensures.value c.in_ok-kind-in-File.ensures c.deref-in-File.ensures.value c.in_ok-holds_wanted-in-File.ensures)
    c.if-not-branch-2.true

pub returns-else-not-branch-2 : goal.returns-else-not-branch-2
returns-else-not-branch-2 c =
    one-line (IsLineAt c.args.style.now c.args.name.now c.args.number c.args.last c.args.image.now c.args.volume.now.blocks c.args.place c.args.entry.now) c.in_ok-holds_wanted-in-File.field-0
    (index_line c.args.name.now (entry_of c.args.number (record { name = c.in-File.title; info = c.in-File.info; place = c.args.place; size = c.in-File.length }) c.in_ok-kind-in-File.kind) c.args.last (block_bytes c.args.image.now c.args.place c.in-File.length)) _ c.args.out.now.items c.put_index.new.text.items c.put_index.result
    (entry-line c.args.style.now c.args.name.now c.args.number c.args.last c.args.image.now c.args.volume.now.blocks c.args.place c.in-File.title c.in-File.info c.in-File.length c.args.entry.now c.as_bytes.result.now c.in_ok-words-in-File.words.items c.deref.result.now c.deref-in-File.result.now c.in_ok-kind-in-File.kind c.in_ok-is_chosen-in-File.field-0 c.in_ok-holds_wanted-in-File.field-0 c.in-File.is c.as_bytes.ensures.value c.in_ok-is_chosen-in-File.ensures c.if-not-branch.false c.in_ok-words-in-File.ensures c.deref.ensures.value c.in_ok-kind-in-File.ensures c.deref-in-File.ensures.value c.in_ok-holds_wanted-in-File.ensures)
    c.if-not-branch-2.false
    (same-line c.args.name.now c.args.number c.args.last c.args.image.now c.args.place c.in-File.title c.date_in.result c.in-File.info c.in-File.length c.in_ok-kind-in-File.kind c.block_bytes.result.now c.date_in.ensures c.block_bytes.ensures)
    c.put_index.ensures

use Rattle.source_notes.proofs.CommentLemmas.{no_line, one_line}
use Rattle.source_notes.proofs.chains.put_chain.Goals as goal

pub returns-then-is_none : goal.returns-then-is_none
returns-then-is_none c = λ cells chain. no_line c.args.next.now c.args.first c.args.text.now.items c.args.words.now cells c.if-is_none.ensures chain

pub returns : goal.returns
returns c = λ cells chain.
    one_line c.args.next.now c.args.first c.args.text.now.items c.push.new.self.items c.extend_from_slice.new.self.items c.put_cells.new.text.items
    c.extend_from_slice-2.new.self.items c.args.words.now cells c.if-is_none.ensures c.in_ok-push.ensures.items
    c.in_ok-extend_from_slice.ensures.items
    (c.in_ok-put_cells.ensures cells chain) c.in_ok-extend_from_slice-2.ensures.items chain

use Rattle.pointer_notes.proofs.CommentLemmas.{no_line, one_line}
use Rattle.pointer_notes.proofs.chains.put_chain.Goals as goal

pub returns-then-is_none : goal.returns-then-is_none
returns-then-is_none c = λ nodes chain. no_line c.args.next.now c.args.first c.args.text.now.items c.args.words.now nodes c.if-is_none.ensures chain

pub returns : goal.returns
returns c = λ nodes chain.
    one_line c.args.next.now c.args.first c.args.text.now.items c.push.new.self.items c.extend_from_slice.new.self.items c.put_nodes.new.text.items
    c.extend_from_slice-2.new.self.items c.args.words.now nodes c.if-is_none.ensures c.in_ok-push.ensures.items
    c.in_ok-extend_from_slice.ensures.items
    (c.in_ok-put_nodes.ensures nodes chain) c.in_ok-extend_from_slice-2.ensures.items chain

use Rattle.pointer_notes.proofs.CommentLemmas.{line_at}
use Rattle.pointer_notes.proofs.chains.Chains.put_line.Goals as goal

pub returns : goal.returns
returns c = λ names are.
    line_at names c.args.self.now.first.items c.args.self.now.next.items c.deref-2.result.now c.deref.result.now c.args.cell c.first_of.result
    c.args.text.now.items c.put_chain.new.text.items c.args.words.now are c.deref-2.ensures.value c.deref.ensures.value c.first_of.ensures.range
    c.first_of.ensures.value c.in_ok-put_chain.ensures

use Rattle.std.proofs.Common.{arith}
use Rattle.show_commands.proofs.DumpLemmas.{dump-whole}
use Rattle.show_commands.proofs.dumps.dump_of.Goals as goal

pub returns : goal.returns
returns c =
    dump-whole c.args.form c.args.image.now _ c.span_or-first.result c.in_ok-files.files c.put_blocks.new.text c.span_or-first.ensures.value (omega (arith, c.if-last-count.false)) c.in_ok-files.ensures
    (rw c.new-text.ensures.items at (rw c.deref.ensures.value at c.in_ok-put_blocks.ensures))

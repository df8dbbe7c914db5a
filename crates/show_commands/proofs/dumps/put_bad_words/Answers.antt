use Rattle.std.proofs.Common.{◌∙◌, ◌++◌, ap}
use Rattle.show_commands.specs.Dumping.{bad_line}
use Rattle.show_commands.proofs.DumpLemmas.{bad-more}
use Rattle.show_commands.proofs.dumps.put_bad_words.Goals as goal

pub loop-k-preserved : goal.loop-k-preserved
loop-k-preserved c =
    c.in_ok-put_bad_word.ensures ∙ ap (λ l. l ++ bad_line c.word_at.result c.loop-k.k) c.loop-k.invariant
    ∙ bad-more c.args.image.now c.args.text.now.items c.args.block c.loop-k.k c.word_at.result c.word_at.ensures

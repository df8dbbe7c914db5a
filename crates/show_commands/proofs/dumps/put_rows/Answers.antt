use Rattle.show_commands.proofs.DumpLemmas.{rows-of}
use Rattle.show_commands.proofs.dumps.put_rows.Goals as goal

pub returns : goal.returns
returns c =
    rows-of c.args.form c.args.image.now c.args.block c.in_ok-words.words.items c.deref.result.now c.put_words.result c.args.text.now.items c.put_words.new.text.items c.deref.ensures.value
    c.in_ok-words.ensures.words c.put_words.ensures

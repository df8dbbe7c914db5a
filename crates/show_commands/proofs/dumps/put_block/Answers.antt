use Rattle.show_commands.proofs.DumpLemmas.{block-joined}
use Rattle.show_commands.proofs.dumps.put_block.Goals as goal

pub returns : goal.returns
returns c =
    block-joined c.args.form c.args.files.now c.args.image.now c.args.block c.args.text.now.items c.put_heading.new.text.items c.put_bad_words.new.text.items c.put_rows.new.text.items
    c.in_ok-put_heading.ensures c.in_ok-put_bad_words.ensures c.in_ok-put_rows.ensures

use Rattle.std.proofs.Common.{map}
use Rattle.show_commands.proofs.DateLemmas.{list-lines}
use Rattle.show_commands.proofs.dated_lists.put_list.Goals as goal

pub returns : goal.returns
returns c =
    list-lines c.args.last (map (λ word. word.bytes.items) c.args.words.now) c.args.directory.now c.information_words-info.result c.first_block-first.result c.free.result c.entries.result.now c.args.out.now.items c.put_files.new.out.items c.put_free.new.out.items
    c.information_words-info.ensures.value c.first_block-first.ensures.value c.entries.ensures.list c.free.ensures.empties c.entries.ensures.neat c.in_ok-put_files.ensures c.in_ok-put_free.ensures

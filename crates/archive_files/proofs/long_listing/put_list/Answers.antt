use Rattle.archive_files.proofs.LongLemmas.{list-lines}
use Rattle.archive_files.proofs.long_listing.put_list.Goals as goal

pub returns : goal.returns
returns c =
    list-lines c.args.directory.now c.information_words-info.result c.first_block-first.result c.free.result c.entries.result.now c.args.out.now.items c.put_files.new.out.items c.put_free.new.out.items
    c.information_words-info.ensures.value c.first_block-first.ensures.value c.entries.ensures.list c.free.ensures.empties c.entries.ensures.neat c.in_ok-put_files.ensures c.in_ok-put_free.ensures

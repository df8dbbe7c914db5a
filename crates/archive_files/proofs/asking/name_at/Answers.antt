use Rattle.archive_files.proofs.AskLemmas.{name-found, named-found}
use Rattle.archive_files.proofs.asking.name_at.Goals as goal

pub returns : goal.returns
returns c =
    let is = c.requires in
    record {
      name = name-found is.0 c.args.place c.first_block.result c.args.directory.now c.entries.result.now c.name_among.result is.1 c.first_block.ensures.value c.entries.ensures.list c.name_among.ensures;
      named = named-found is.0 c.args.place c.first_block.result c.args.directory.now c.entries.result.now c.name_among.result is.1 c.first_block.ensures.value c.entries.ensures.list c.name_among.ensures;
    }

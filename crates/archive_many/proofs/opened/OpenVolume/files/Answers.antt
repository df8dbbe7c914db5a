use Rattle.std.proofs.Common.{◌∙◌, ap}
use Rattle.archive_many.specs.Opened.{files_on}
use Rattle.archive_many.proofs.FileLemmas.{list-files}
use Rattle.archive_many.proofs.opened.OpenVolume.files.Goals as goal

pub returns : goal.returns
returns c =
    list-files c.self.inside.volume.blocks c.self.inside.directory c.first_block.result c.entries.result.now c.new-files.result.items c.put_files.new.files.items c.self.invariant
    c.first_block.ensures.value c.entries.ensures.list c.entries.ensures.neat c.new-files.ensures.items c.in_ok-put_files.ensures
    ∙ ap files_on c.self.view_is

use Rattle.std.proofs.Common.{◌≡◌, ap, ◌∙◌}
use Rattle.os8_dir.specs.Found.{free_blocks}
use Rattle.os8_dir.proofs.FoundLemmas.{used_blocks-free}
use Rattle.os8_dir.proofs.directory.Directory.free.Goals as goal

pub returns-clause-files : goal.returns-clause-files
returns-clause-files c =
    let free : c.free_blocks.result ≡ free_blocks c.self.inside.entries.items = c.free_blocks.ensures ∙ ap free_blocks c.as_slice.ensures.value in
    rw (← c.self.view_is, free) (used_blocks-free c.self.inside.first c.self.inside.entries.items)

use Rattle.std.proofs.Common.{◌∙◌, length}
use Rattle.archive_files.specs.Laws.{extents}
use Rattle.archive_files.proofs.ExtentLemmas.{follow-extents, lines-extents, one-has}
use Rattle.archive_files.proofs.laws.each_block_is_told.Goals as goal

pub returns : goal.returns
returns c = λ image text is.
    let directory = c.sound_directory.ensures is.blocks is.directory is.read in
    let follow = follow-extents (length is.blocks) is.directory directory in
    record {
      blocks = is.blocks;
      is_image = is.is_image;
      directory = is.directory;
      read = is.read;
      lines = is.lines ∙ lines-extents is.blocks is.directory;
      follow = follow;
      once = λ block least most. one-has block 7 (length is.blocks) (extents (length is.blocks) is.directory) follow least most;
    }

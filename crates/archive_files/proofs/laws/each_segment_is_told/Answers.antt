use Rattle.std.proofs.Common.{◌∙◌, ◌++◌, ap, length}
use Rattle.archive_files.specs.Checking.{blocks_line}
use Rattle.archive_files.specs.Laws.{extents, extent_lines}
use Rattle.archive_files.proofs.ExtentLemmas.{lines-extents}
use Rattle.archive_files.proofs.SegmentLemmas.{whole}
use Rattle.archive_files.proofs.laws.each_segment_is_told.Goals as goal

pub returns : goal.returns
returns c = λ image text is.
    let read = whole is.blocks is.directory is.read in
    record {
      blocks = is.blocks;
      is_image = is.is_image;
      directory = is.directory;
      read = is.read;
      numbers = read.segments.numbers;
      linked = read.segments.linked;
      distinct = read.segments.distinct;
      head = read.head;
      begun = read.begun;
      read_of = read.segments.read_on_is;
      lines = is.lines ∙ lines-extents is.blocks is.directory
          ∙ ap (λ l. blocks_line (length is.blocks) ++ l ++ extent_lines (extents (length is.blocks) is.directory)) read.segments.lines;
    }

use Rattle.std.proofs.Common.{rules}
use Rattle.volume_salvage.proofs.RowLemmas.{in-order}
use Rattle.volume_salvage.proofs.volumes.volume_of_files.Goals as goal

pub returns : goal.returns
returns c =
    let blocks = c.keep_files.new.service.blocks in
    record {
      blocks = blocks;
      is_image = search rules;
      files = search rules;
      order = λ differ. in-order blocks c.args.files.now (c.in_ok-keep_files.ensures.2 c.in_ok-service.ensures.3 differ);
    }

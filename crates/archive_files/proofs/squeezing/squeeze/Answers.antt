use Rattle.std.proofs.Common.{subst, List, ℕ, arith}
use Rattle.volume_image.specs.Image.{IsImageOf}
use Rattle.archive_files.proofs.SqueezeLemmas.{moved-files, moved-above, moved-capacity, moved-info}
use Rattle.archive_files.proofs.squeezing.squeeze.Goals as goal

pub returns : goal.returns
returns c =
    let before = c.in_ok-files.files in
    let after = c.move_all-moved.new.files in
    let is = c.in-Ok.ensures in
    let turns = c.in-Ok.moved in
    let sum = moved-above turns before after is.0 in
    record {
      before = before;
      after = after;
      mounted = c.in_ok-files.ensures.files;
      moved = is.0;
      count = omega (arith, sum, is.1);
      files = moved-files turns before after is.0;
      tight = is.1;
      capacity = moved-capacity turns before after is.0;
      info = moved-info turns before after is.0;
      is_image = subst (λ (blocks : List (List ℕ)). IsImageOf c.in_ok-bytes-in-Ok.bytes.items blocks) c.into_store-volume.ensures.blocks c.in_ok-bytes-in-Ok.ensures;
    }

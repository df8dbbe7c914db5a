use Rattle.std.proofs.Common.{subst, List, ℕ}
use Rattle.volume_image.specs.Image.{IsImageOf}
use Rattle.archive_files.proofs.DeleteLemmas.{deleted-files, deleted-places, deleted-blocks}
use Rattle.archive_files.proofs.deleting.delete.Goals as goal

pub returns : goal.returns
returns c =
    let before = c.in_ok-files.files in
    let after = c.delete_all-deleted.new.files in
    let names = c.delete_all-deleted.new.names.items in
    let is = c.in-Ok.ensures in
    record {
      before = before;
      after = after;
      mounted = c.in_ok-files.ensures.files;
      named = is.0;
      deleted = is.1;
      files = deleted-files names before after is.1;
      places = deleted-places names before after is.1;
      blocks = deleted-blocks names before after is.1;
      is_image = subst (λ (blocks : List (List ℕ)). IsImageOf c.in_ok-bytes-in-Ok.bytes.items blocks) c.into_store-volume.ensures.blocks c.in_ok-bytes-in-Ok.ensures;
    }

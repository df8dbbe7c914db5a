use Rattle.std.proofs.Common.{◌∙◌, ◌++◌, ap, subst, List, ℕ, map}
use Rattle.std.specs.Option.{option_copied}
use Rattle.volume_image.specs.Image.{IsImageOf}
use Rattle.os8_dir.specs.Reading.{directory_of}
use Rattle.archive_many.specs.Putting.{blocks_in}
use Rattle.archive_many.proofs.PutLemmas.{sound-list, uncovered-all}
use Rattle.archive_many.proofs.putting.put_all.Goals as goal

pub returns : goal.returns
returns c =
    let before = c.in_ok-service.service in
    let after = c.put_files-put.new.service in
    let mounted = c.in_ok-service.ensures.files in
    let is = c.in-Ok.ensures in
    let read = sound-list (directory_of before.blocks) mounted.opened.sound in
    record {
      before = before;
      after = after;
      mounted = mounted;
      put = is.0;
      directory = read.0;
      read = read.1;
      uncovered = uncovered-all c.rooms.ensures.fitting c.directory_numbers.ensures.capacity read.0 before after (option_copied c.args.info) c.args.files.now read.1 is.0;
      is_image = subst (λ (blocks : List (List ℕ)). IsImageOf c.in_ok-bytes-in-Ok.bytes.items blocks) c.into_store-volume.ensures.blocks c.in_ok-bytes-in-Ok.ensures;
      blocks_are = is.1 ∙ ap (λ l. l ++ map blocks_in c.args.files.now) c.new-blocks.ensures.items;
    }

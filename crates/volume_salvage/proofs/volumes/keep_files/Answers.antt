use Rattle.std.proofs.Common.{[], ◌∷◌, ◌++◌, ◌-◌, length, take, drop, ◌∙◌}
use Rattle.std.proofs.lemmas.Result.{err_from_is_err_and}
use Rattle.os8_files.specs.Calls.{info_of}
use Rattle.archive_files.proofs.ListLemmas.{first-and-others}
use Rattle.volume_salvage.proofs.RescueLemmas.{files-left, one-at, one-longer, one-more, ready-again}
use Rattle.volume_salvage.proofs.RowLemmas.{differ-init, row-more}
use Rattle.volume_salvage.proofs.volumes.keep_files.Goals as goal

pub returns-in_err-keep_file : goal.returns-in_err-keep_file
returns-in_err-keep_file c =
    let p = err_from_is_err_and c.from_residual.result c.from_residual.ensures.1 in
    let is = first-and-others c.loop-rest.rest.now c.file-item.result c.in-len1-up.len_at_least c.file-item.is in
    let done = c.loop-rest.invariant.done in
    rw (p.1, p.2)
    record {
      place = c.loop-rest.place;
      at = record {
        before = done.0;
        file = c.file-item.result;
        after = take (length c.loop-rest.rest.now - 1) (drop 1 c.loop-rest.rest.now);
        split = one-at c.args.files.now done.0 c.loop-rest.rest.now _ c.file-item.result done.1 is;
        place_is = done.2;
        is = record { old = c.loop-rest.service; new = c.keep_file.new.service; why = c.in_err-keep_file.ensures };
      };
    }

pub loop-rest-preserved : goal.loop-rest-preserved
loop-rest-preserved c =
    let are = c.in_ok-keep_file.ensures.0 in
    let put = c.in_ok-keep_file.ensures.1 in
    let is = first-and-others c.loop-rest.rest.now c.file-item.result c.in-len1-up.len_at_least c.file-item.is in
    let done = c.loop-rest.invariant.done in
    let others = take (length c.loop-rest.rest.now - 1) (drop 1 c.loop-rest.rest.now) in
    record {
      ready = ready-again c.loop-rest.service c.keep_file.new.service c.file-item.result put;
      info = put.info ∙ c.loop-rest.invariant.info;
      files =
          files-left (info_of c.args.service.now.blocks) c.loop-rest.service c.keep_file.new.service c.file-item.result c.loop-rest.rest.now others _ put
          c.loop-rest.invariant.info is c.loop-rest.invariant.files;
      done = (
        done.0 ++ c.file-item.result ∷ [],
        one-more c.args.files.now done.0 c.loop-rest.rest.now others c.file-item.result done.1 is,
        one-longer done.0 c.file-item.result c.loop-rest.place done.2,
        λ empty differ. let before = differ-init done.0 c.file-item.result differ in row-more c.loop-rest.service c.keep_file.new.service c.file-item.result done.0 (done.3 empty before.0) before.1 are.some put,
      );
    }

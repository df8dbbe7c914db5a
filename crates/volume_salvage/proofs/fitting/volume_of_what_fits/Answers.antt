use Rattle.std.proofs.Common.{[], subst, rules}
use Rattle.std.proofs.lemmas.Result.{err_from_is_err_and}
use Rattle.os8_files.specs.Calls.{info_of}
use Rattle.volume_salvage.specs.Rescued.{AreJudged, files_to_keep}
use Rattle.volume_salvage.proofs.FitLemmas.{failed-fits}
use Rattle.volume_salvage.proofs.RowLemmas.{in-order}
use Rattle.volume_salvage.proofs.fitting.volume_of_what_fits.Goals as goal

pub returns-in_err-refusals : goal.returns-in_err-refusals
returns-in_err-refusals c =
    let p = err_from_is_err_and c.from_residual-in_err-refusals.result c.from_residual-in_err-refusals.ensures.1 in
    rw (p.1, p.2) (failed-fits c.in_ok-service.service c.keep_what_fits.new.service c.args.blocks _ c.args.files.now c.in_err-refusals.field-0.0 c.in_ok-volume.ensures.0 c.in_err-refusals.ensures)

pub returns : goal.returns
returns c =
    let blocks = c.keep_what_fits.new.service.blocks in
    record {
      info = info_of c.in_ok-service.service.blocks;
      rescued = record {
        blocks = blocks;
        is_image = search rules;
        files = search rules;
        order = λ differ. in-order blocks (files_to_keep c.args.files.now c.in_ok-refusals.refusals.items) (c.in_ok-refusals.ensures.3 c.in_ok-service.ensures.3 differ);
      };
      judged =
          subst (λ capacity. AreJudged (info_of c.in_ok-service.service.blocks) capacity [] 0 c.args.files.now c.in_ok-refusals.refusals.items) c.in_ok-service.ensures.2 c.in_ok-refusals.ensures.2;
    }

use Rattle.std.proofs.Common.{[], ◌∷◌, ◌++◌, ◌-◌, length, take, drop, refl, arith}
use Rattle.std.proofs.lemmas.Result.{err_from_is_err_and}
use Rattle.archive_files.proofs.ListLemmas.{first-and-others, nothing}
use Rattle.volume_salvage.proofs.FitLemmas.{none-so-far, one-fitted, all-fitted}
use Rattle.volume_salvage.proofs.RescueLemmas.{one-at, one-longer, one-more}
use Rattle.volume_salvage.proofs.fitting.keep_what_fits.Goals as goal

pub loop-rest-init : goal.loop-rest-init
loop-rest-init c = record {
  so = rw c.new-refusals.ensures.items (none-so-far c.args.service.now c.args.files.now c.requires.ready c.requires.none);
  done = ([], refl, refl);
  count = omega arith;
}

pub loop-rest-preserved : goal.loop-rest-preserved
loop-rest-preserved c =
    let l = c.loop-rest in
    let is = first-and-others l.rest.now c.file-item.result c.in-len1-up.len_at_least c.file-item.is in
    let others = take (length l.rest.now - 1) (drop 1 l.rest.now) in
    record {
      so = one-fitted c.args.service.now l.service c.fit_file.new.service c.args.files.now l.rest.now others c.file-item.result l.place l.refusals.items _ c.in_ok-refusal.refusal
          l.invariant.so is c.in_ok-refusal.ensures c.in_ok-add_refusal.ensures;
      done = (
        l.invariant.done.0 ++ c.file-item.result ∷ [],
        one-more c.args.files.now l.invariant.done.0 l.rest.now others c.file-item.result l.invariant.done.1 is,
        one-longer l.invariant.done.0 c.file-item.result l.place l.invariant.done.2,
      );
      count = omega (arith, l.invariant.count, c.in-len1-up.len_at_least);
    }

pub returns-in_err-refusal : goal.returns-in_err-refusal
returns-in_err-refusal c =
    let l = c.loop-rest in
    let p = err_from_is_err_and c.from_residual.result c.from_residual.ensures.1 in
    let is = first-and-others l.rest.now c.file-item.result c.in-len1-up.len_at_least c.file-item.is in
    rw (p.1, p.2)
    record {
      place = l.place;
      failed = c.in_err-refusal.ensures.0;
      at = record {
        before = l.invariant.done.0;
        file = c.file-item.result;
        after = take (length l.rest.now - 1) (drop 1 l.rest.now);
        split = one-at c.args.files.now l.invariant.done.0 l.rest.now _ c.file-item.result l.invariant.done.1 is;
        place_is = l.invariant.done.2;
        is = record { old = l.service; new = c.fit_file.new.service; why = c.in_err-refusal.ensures.1 };
      };
    }

pub returns : goal.returns
returns c =
    let l = c.loop-rest in
    all-fitted c.args.service.now l.service c.args.files.now l.rest.now l.place l.refusals.items l.invariant.so (nothing l.rest.now (omega (arith, c.in_default.len_below)))

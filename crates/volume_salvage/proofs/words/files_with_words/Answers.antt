use Rattle.std.proofs.Common.{◌-◌, length, take, drop, refl, arith}
use Rattle.archive_files.proofs.ListLemmas.{first-and-others, nothing}
use Rattle.volume_salvage.proofs.WordLemmas.{others-inside, one-kept, all-kept}
use Rattle.volume_salvage.proofs.words.files_with_words.Goals as goal

pub loop-rest-init : goal.loop-rest-init
loop-rest-init c = record {
  so = rw c.new-kept.ensures.items (λ more of. of);
  inside = c.requires;
}

pub loop-rest-preserved : goal.loop-rest-preserved
loop-rest-preserved c =
    let l = c.loop-rest in
    let is = first-and-others l.rest.now c.file-item.result c.in-len1-up.len_at_least c.file-item.is in
    let others = take (length l.rest.now - 1) (drop 1 l.rest.now) in
    record {
      so = one-kept c.args.volume.now.blocks c.args.files.now l.rest.now others c.file-item.result _ l.kept.items _ l.invariant.so is refl refl c.in_ok-words.ensures c.in_ok-push.ensures.items;
      inside = others-inside _ c.file-item.result l.rest.now others is l.invariant.inside;
    }

pub returns : goal.returns
returns c =
    let l = c.loop-rest in
    all-kept c.args.volume.now.blocks c.args.files.now l.rest.now l.kept.items l.invariant.so (nothing l.rest.now (omega (arith, c.in_default.len_below)))

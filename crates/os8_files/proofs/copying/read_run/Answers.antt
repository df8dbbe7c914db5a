use Rattle.std.proofs.Common.{◌≡◌, suc, ◌+◌, drop, get_or, [], ap, sym, ◌∙◌, arith}
use Rattle.std.proofs.lemmas.Result.{err_from_is_err_and}
use Rattle.std.proofs.Math.ListN.{length-set}
use Rattle.std.proofs.lemmas.List.{get_or-drop, length-drop}
use Rattle.std.proofs.lemmas.Option.{get_or_from_slice_get}
use Rattle.volume_image.specs.Volume.{next_count}
use Rattle.os8_files.specs.Calls.{counted_more}
use Rattle.os8_files.proofs.RunLemmas.{read-more}
use Rattle.os8_files.proofs.SegmentLemmas.{counted-few, counted_more-few}
use Rattle.os8_files.proofs.copying.read_run.Goals as goal

pub loop-k-preserved : goal.loop-k-preserved
loop-k-preserved g c =
    let old = g.S.BlockStore.contents c.args.store.now in
    let i = c.loop-k.invariant in
    let next : suc c.loop-k.k ≡ c.loop-k.k + 1 = omega arith in
    let at : get_or (drop c.args.place old) c.loop-k.k [] ≡ c.read.new.words = get_or-drop c.args.place old c.loop-k.k [] ∙ ap (λ bs. get_or bs (c.args.place + c.loop-k.k) []) (sym i.contents) ∙ get_or_from_slice_get (g.S.BlockStore.contents c.loop-k.store) (c.args.place + c.loop-k.k) c.read.new.words [] c.in_ok-read.ensures.ok in
    record {
      size = length-set c.loop-k.run c.loop-k.k c.read.new.words ∙ i.size;
      kept = read-more c.loop-k.run (drop c.args.place old) c.loop-k.k c.read.new.words (omega (arith, c.loop-k-test.true, i.size)) (omega (arith, c.loop-k-test.true, i.size, length-drop c.args.place old, c.requires)) i.kept at;
      contents = c.in_ok-read.ensures.same ∙ i.contents;
      reads = c.in_ok-read.ensures.reads ∙ ap next_count i.reads ∙ ap (λ n. counted_more n (g.S.BlockStore.reads c.args.store.now)) next;
      failed_reads = c.in_ok-read.ensures.failed_reads ∙ i.failed_reads;
      writes = c.in_ok-read.ensures.writes ∙ i.writes;
      failed_writes = c.in_ok-read.ensures.failed_writes ∙ i.failed_writes;
    }

pub returns-in_err-read-clause-few : goal.returns-in_err-read-clause-few
returns-in_err-read-clause-few g c =
    let i = c.loop-k.invariant in
    omega (arith, c.in_err-read.ensures.reads, counted-few (g.S.BlockStore.reads c.loop-k.store), i.reads, counted_more-few c.loop-k.k (g.S.BlockStore.reads c.args.store.now), c.loop-k-test.true, i.size)

pub returns-clause-few : goal.returns-clause-few
returns-clause-few g c =
    let i = c.loop-k.invariant in
    omega (arith, i.reads, counted_more-few c.loop-k.k (g.S.BlockStore.reads c.args.store.now), c.loop-k.auto, i.size)

pub returns-in_err-read-clause-missed : goal.returns-in_err-read-clause-missed
returns-in_err-read-clause-missed g c =
    let i = c.loop-k.invariant in
    let p = err_from_is_err_and c.from_residual.result c.from_residual.ensures.1 in
    let next : suc c.loop-k.k ≡ c.loop-k.k + 1 = omega arith in
    rw p.1 (record {
      number = c.loop-k.k + 1;
      some = omega arith;
      few = omega (arith, c.loop-k-test.true, i.size);
      rise = c.in_err-read.ensures.reads ∙ ap next_count i.reads ∙ ap (λ n. counted_more n (g.S.BlockStore.reads c.args.store.now)) next;
    })

use Rattle.std.proofs.Common.{◌≡◌, suc, ◌+◌, List, ℕ, length, take, get_or, slice_set, [], ap, sym, ◌∙◌, arith}
use Rattle.std.proofs.lemmas.Result.{err_from_is_err_and}
use Rattle.std.proofs.lemmas.List.{get_or_default}
use Rattle.volume_image.specs.Volume.{next_count}
use Rattle.os8_files.specs.Calls.{counted_more}
use Rattle.os8_files.specs.WriteSteps.{with_run}
use Rattle.os8_files.proofs.RunLemmas.{length-with_run, write-more, broken-off}
use Rattle.os8_files.proofs.copying.write_run.Goals as goal

pub write-written-requires : goal.write-written-requires
write-written-requires g c =
    let old = g.S.BlockStore.contents c.args.store.now in
    omega (arith, c.requires, c.loop-k-test.true, ap (λ (bs : List (List ℕ)). length bs) c.loop-k.invariant.contents, length-with_run old c.args.place (take c.loop-k.k c.args.run.now))

pub loop-k-preserved : goal.loop-k-preserved
loop-k-preserved g c =
    let old = g.S.BlockStore.contents c.args.store.now in
    let i = c.loop-k.invariant in
    let at : c.index-run-k.result ≡ get_or c.args.run.now c.loop-k.k [] = c.index-run-k.is ∙ get_or_default c.args.run.now c.loop-k.k c.index-run-k.result [] c.loop-k-test.true in
    let next : suc c.loop-k.k ≡ c.loop-k.k + 1 = omega arith in
    record {
      writes = c.in_ok-written.ensures.writes ∙ ap next_count i.writes ∙ ap (λ n. counted_more n (g.S.BlockStore.writes c.args.store.now)) next;
      contents = c.in_ok-written.ensures.ok ∙ ap (λ bs. slice_set bs (c.args.place + c.loop-k.k) c.index-run-k.result) i.contents ∙ ap (λ w. slice_set (with_run old c.args.place (take c.loop-k.k c.args.run.now)) (c.args.place + c.loop-k.k) w) at ∙ sym (write-more old c.args.place c.loop-k.k c.args.run.now c.loop-k-test.true);
      volume = c.blocks-blocks-in-loop-k.ensures.volume;
      reads = c.in_ok-written.ensures.reads ∙ i.reads;
      failed_reads = c.in_ok-written.ensures.failed_reads ∙ i.failed_reads;
      failed_writes = c.in_ok-written.ensures.failed_writes ∙ i.failed_writes;
    }

pub returns-in_err-written-clause-err : goal.returns-in_err-written-clause-err
returns-in_err-written-clause-err g c =
    let p = err_from_is_err_and c.from_residual.result c.from_residual.ensures.1 in
    rw p.1 (broken-off (g.S.BlockStore.contents c.args.store.now) (g.S.BlockStore.contents c.loop-k.store) (g.S.BlockStore.contents c.write-written.new.self) c.args.place c.loop-k.k (g.S.BlockStore.writes c.args.store.now) (g.S.BlockStore.writes c.write-written.new.self) c.args.run.now c.in_err-written.ensures.err.words
    c.loop-k-test.true c.loop-k.invariant.contents c.in_err-written.ensures.err.rest (c.in_err-written.ensures.writes ∙ ap next_count c.loop-k.invariant.writes))

use Rattle.std.proofs.Common.{arith}
use Rattle.std.proofs.lemmas.Result.{err_from_is_err_and}
use Rattle.archive_files.specs.Asking.{target_of}
use Rattle.archive_files.proofs.DeleteLemmas.{delete-step, refuse-step, refuse-here, delete-end, one-longer, ready-again, free-again}
use Rattle.archive_files.proofs.deleting.delete_all.Goals as goal

pub returns-in_err-name : goal.returns-in_err-name
returns-in_err-name c =
    let p = err_from_is_err_and c.from_residual.result c.from_residual.ensures.1 in
    let so_far = c.loop-one.invariant in
    rw (p.1, p.2)
    (refuse-here target_of c.args.asked.now c.loop-one.one-index c.one-item.result c.args.files.now c.loop-one.files c.delete_one.new.files c.loop-one.names.items _
    c.loop-one-test.true c.one-item.is so_far.count so_far.refused (c.in_err-name.ensures c.args.files.now.blocks c.requires.directory))

pub loop-one-preserved : goal.loop-one-preserved
loop-one-preserved c =
    let so_far = c.loop-one.invariant in
    let is = c.in_ok-name.ensures c.args.files.now.blocks c.requires.directory in
    let name = c.in_ok-name.name in
    let names = c.loop-one.names.items in
    let more = c.in_ok-keep.ensures in
    record {
      ready = ready-again c.loop-one.files c.delete_one.new.files name is.1;
      free = free-again c.loop-one.files c.delete_one.new.files name is.1 so_far.free;
      count = one-longer names c.keep.new.names.items name c.loop-one.one-index more so_far.count;
      done = rw more (delete-step target_of c.args.asked.now c.loop-one.one-index c.one-item.result c.args.files.now c.loop-one.files c.delete_one.new.files name names
          c.loop-one-test.true c.one-item.is is.0 is.1 so_far.done);
      refused = refuse-step target_of c.args.asked.now c.loop-one.one-index c.one-item.result c.args.files.now c.loop-one.files c.delete_one.new.files name
          c.loop-one-test.true c.one-item.is is.0 is.1 so_far.refused;
    }

pub returns : goal.returns
returns c =
    let so_far = c.loop-one.invariant in
    delete-end target_of c.args.asked.now c.loop-one.one-index c.args.files.now c.loop-one.files c.loop-one.names.items (omega (arith, c.loop-one-test.false)) so_far.done

use Rattle.std.proofs.Common.{◌<◌, arith}
use Rattle.disk_layouts.proofs.CopyLemmas.{tape_volume_more, tape_others_more}
use Rattle.disk_layouts.proofs.copies.put_tape.Goals as goal

pub loop-number-preserved : goal.loop-number-preserved
loop-number-preserved c =
    let number = c.loop-number.number in
    let few : number < 1474 = omega arith in
    record {
      volume = tape_volume_more number c.loop-number.file c.copy_at.new.file c.args.image.now c.copy_at.ensures.part c.copy_at.ensures.before c.loop-number.invariant.volume;
      others = tape_others_more number c.loop-number.file c.copy_at.new.file c.args.file.now few c.copy_at.ensures.before c.copy_at.ensures.following c.loop-number.invariant.others;
    }

use Rattle.std.proofs.Common.{arith}
use Rattle.archive_survey.proofs.ReadingLemmas.{read_more, blocks_more}
use Rattle.archive_survey.proofs.reading.put_entries.Goals as goal

pub loop-left-preserved : goal.loop-left-preserved
loop-left-preserved c =
    let l = c.loop-left in
    record {
      entries = read_more l.left c.args.info l.place c.blocks_of-size.result l.rest.now c.in-Some.following.now c.in-Some.entry l.out.items c.push_item-in-Some.new.items.items _
          c.loop-left-test.true c.in-Some.ensures.entry c.blocks_of-size.ensures c.in_ok-push_item-in-Some.ensures l.invariant.entries;
      sizes = blocks_more l.left c.args.info l.place c.blocks_of-size.result _ l.rest.now c.in-Some.following.now c.in-Some.entry
          c.loop-left-test.true c.in-Some.ensures.entry c.blocks_of-size.ensures l.invariant.sizes;
      range = omega (arith, c.in-Some.ensures.range, c.blocks_of-size.ensures, l.invariant.range);
    }

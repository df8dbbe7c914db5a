use Rattle.std.proofs.Common.{◌∙◌}
use Rattle.pal8_asm.proofs.MakingLemmas.{others_fit}
use Rattle.pal8_asm.proofs.MarkLemmas.{marks_go_on}
use Rattle.pal8_asm.proofs.marks.marks_of.Goals as goal

pub loop-heads-preserved : goal.loop-heads-preserved
loop-heads-preserved c =
    let l = c.loop-heads in
    record {
      same =
          marks_go_on l.heads.now c.head-item.result l.steps.now _ _ l.marks.items c.put_mark.new.marks.items c.in-len1-up.len_at_least c.head-item.is c.split_at.ensures.front
          c.split_at.ensures.back (c.in_ok-put_mark.ensures {u = tt})
          ∙ l.invariant.same;
      fits = others_fit l.heads.now c.head-item.result l.steps.now _ c.in-len1-up.len_at_least c.head-item.is c.split_at.ensures.back l.invariant.fits;
    }

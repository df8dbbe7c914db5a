use Rattle.std.proofs.Common.{◌∙◌}
use Rattle.pal8_grammar.specs.SourceNames.{own_value}
use Rattle.pal8_places.specs.Passing.{is_late}
use Rattle.pal8_asm.specs.Steps.{late_of}
use Rattle.pal8_asm.proofs.MakingLemmas.{late_goes_on, others_fit}
use Rattle.pal8_asm.proofs.late.LateValues.find.Goals as goal

pub loop-heads-preserved : goal.loop-heads-preserved
loop-heads-preserved c =
    let l = c.loop-heads in
    record {
      same =
          late_goes_on (own_value c.args.names.now.table) (is_late c.args.names.now) l.heads.now c.head-item.result l.steps.now _ _ (late_of l.self) (late_of c.put_last.new.self)
          c.in-len1-up.len_at_least c.head-item.is c.split_at.ensures.front c.split_at.ensures.back (c.in_ok-put_last.ensures {u = tt})
          ∙ l.invariant.same;
      fits = others_fit l.heads.now c.head-item.result l.steps.now _ c.in-len1-up.len_at_least c.head-item.is c.split_at.ensures.back l.invariant.fits;
    }

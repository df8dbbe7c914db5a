use Rattle.std.proofs.Common.{◌∙◌, Err, ap, subst}
use Rattle.pal8_grammar.specs.SourceNames.{own_value}
use Rattle.pal8_asm.specs.Kept.{entry_of}
use Rattle.pal8_asm.specs.Making.{IsMaking}
use Rattle.pal8_asm.specs.Steps.{Makes, late_of}
use Rattle.pal8_asm.specs.Tapes.{late_after, with_entry}
use Rattle.pal8_asm.proofs.MakingLemmas.{entry_fails, entry_made, first_one, following, others_fit}
use Rattle.pal8_asm.proofs.words.make_all.Goals as goal

pub returns-in-Err : goal.returns-in-Err
returns-in-Err c = λ whole making.
    let way = c.loop-heads.invariant.way whole making in
    entry_fails (own_value c.args.names.now.table) (late_of c.loop-heads.late) _ c.loop-heads.heads.now c.head-item.result c.loop-heads.steps.now c.loop-heads.made.pools c.make_one.new.made.pools
    c.loop-heads.made.cells c.make_one.new.made.cells c.loop-heads.made.clash c.make_one.new.made.clash
    c.loop-heads.made.pairs.items c.make_one.new.made.pairs.items c.in-Err.fault c.in-len1-up.len_at_least c.head-item.is way
    (subst (λ l. Makes (with_entry (own_value c.args.names.now.table) (late_of c.loop-heads.late) (entry_of c.head-item.result l) way.so_far) (Err c.in-Err.fault)
    c.make_one.new.made.pools c.make_one.new.made.cells c.make_one.new.made.clash c.make_one.new.made.pairs.items)
    c.split_at.ensures.front (c.in-Err.ensures.made way.so_far way.making))

pub loop-heads-preserved : goal.loop-heads-preserved
loop-heads-preserved c =
    let l = c.loop-heads in
    record {
      way = λ whole making.
          let way = l.invariant.way whole making in
          entry_made (own_value c.args.names.now.table) (late_of l.late) (late_of c.make_one.new.late) _ l.heads.now (following l.heads.now) c.head-item.result l.steps.now _
          l.made.pools c.make_one.new.made.pools l.made.cells c.make_one.new.made.cells l.made.clash c.make_one.new.made.clash l.made.pairs.items c.make_one.new.made.pairs.items
          (first_one l.heads.now c.head-item.result c.in-len1-up.len_at_least c.head-item.is) c.split_at.ensures.back
          (c.in-Ok.ensures.late ∙ ap (λ s. late_after (own_value c.args.names.now.table) (entry_of c.head-item.result s) (late_of l.late)) c.split_at.ensures.front) way
          (subst (λ s. IsMaking (with_entry (own_value c.args.names.now.table) (late_of l.late) (entry_of c.head-item.result s) way.so_far)
          c.make_one.new.made.pools c.make_one.new.made.cells c.make_one.new.made.clash c.make_one.new.made.pairs.items)
          c.split_at.ensures.front (c.in-Ok.ensures.made way.so_far way.making));
      fits = others_fit l.heads.now c.head-item.result l.steps.now _ c.in-len1-up.len_at_least c.head-item.is c.split_at.ensures.back l.invariant.fits;
    }

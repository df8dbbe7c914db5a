use Rattle.std.proofs.Common.{◌∙◌, arith}
use Rattle.pal_lex.specs.Runs.{base}
use Rattle.pal_lex.proofs.DraftLemmas.{base_least}
use Rattle.pal_lex.proofs.GrowthLemmas.{run_begun}
use Rattle.pal_lex.proofs.RunLemmas.{begun_run, longer_run}
use Rattle.pal_lex.proofs.growing.run_of.Goals as goal

pub loop-more-init : goal.loop-more-init
loop-more-init c = record {
  run = λ at there.
      begun_run (base c.args.radix) c.args.first c.args.others.now at c.args.place c.saturating_add.result c.first_kind.result (c.first_kind.ensures ∙ run_begun (base c.args.radix) c.args.first) there c.saturating_add.ensures;
  range = omega arith;
}

pub loop-more-preserved : goal.loop-more-preserved
loop-more-preserved c = record {
  run = λ at there.
      longer_run (base c.args.radix) c.args.first c.args.others.now at record { token = c.loop-more.token; more = c.loop-more.more; weight = c.loop-more.weight }
      c.grown-token.result c.saturating_add-in-loop-more.result (base_least c.args.radix) (c.loop-more.invariant.run at there) c.loop-more-test.true
      c.if-is_coded.ensures c.grown-token.ensures c.saturating_add-in-loop-more.ensures;
  range = omega (arith, c.loop-more-test.true);
}

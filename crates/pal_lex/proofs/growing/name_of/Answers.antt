use Rattle.std.proofs.Common.{ap, ◌∙◌, arith}
use Rattle.pal_lex.specs.Runs.{base}
use Rattle.pal_lex.specs.GrowthSteps.{longer_name}
use Rattle.pal_lex.specs.declared.pieces.Kind.TheVariants.{Term}
use Rattle.pal_lex.specs.declared.pieces.Term.TheVariants.{Name}
use Rattle.pal_lex.proofs.DraftLemmas.{base_least}
use Rattle.pal_lex.proofs.GrowthLemmas.{letter_begun}
use Rattle.pal_lex.proofs.RunLemmas.{begun_run, longer_run}
use Rattle.pal_lex.proofs.growing.name_of.Goals as goal

pub loop-more-init : goal.loop-more-init
loop-more-init c = record {
  run = λ radix at there.
      begun_run (base radix) c.args.first c.args.others.now at c.args.place c.saturating_add-end.result (Term (Name c.longer_name-name.result)) (ap (λ n. Term (Name n)) c.longer_name-name.ensures ∙ ap (λ z. Term (Name (longer_name z 1073741824 c.args.first))) c.from_number.ensures ∙ letter_begun (base radix) c.args.first c.requires) there c.saturating_add-end.ensures;
  range = omega arith;
}

pub loop-more-preserved : goal.loop-more-preserved
loop-more-preserved c = record {
  run = λ radix at there.
      longer_run (base radix) c.args.first c.args.others.now at
      record { token = record { kind = Term (Name c.loop-more.name); start = c.args.place; end = c.loop-more.end }; more = c.loop-more.more; weight = c.loop-more.weight }
      (Term (Name c.longer_name-name-in-loop-more.result)) c.saturating_add-end-in-loop-more.result (base_least radix) (c.loop-more.invariant.run radix at there) c.loop-more-test.true
      c.if-is_coded.ensures (ap (λ n. Term (Name n)) c.longer_name-name-in-loop-more.ensures) c.saturating_add-end-in-loop-more.ensures;
  range = omega (arith, c.loop-more-test.true);
}

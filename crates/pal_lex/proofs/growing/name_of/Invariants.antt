use Rattle.std.proofs.Common.{◌≡◌, ℕ, ◌-◌, ◌≤◌, length}
use Rattle.pal_lex.specs.Text.{limit}
use Rattle.pal_lex.specs.Runs.{base}
use Rattle.pal_lex.specs.GrowthSteps.{IsRun}
use Rattle.pal_lex.specs.declared.pieces.Kind.TheVariants.{Term}
use Rattle.pal_lex.specs.declared.pieces.Term.TheVariants.{Name}
use Rattle.pal_lex.specs.declared.runs.Radix.{Radix}
use Rattle.pal_lex.proofs.growing.name_of.Given as goal

abbrev pub invariant-loop-more : goal.invariant-loop-more
invariant-loop-more l = record {
  run : (radix : Radix) (at : ℕ) → l.fn.place ≡ limit at
      → IsRun (base radix) l.fn.first l.fn.others at record { token = record { kind = Term (Name l.name); start = l.fn.place; end = l.end }; more = l.more; weight = l.weight };
  range : l.more ≤ length l.others;
}

abbrev pub decreases-loop-more : goal.decreases-loop-more
decreases-loop-more l = length l.others - l.more

use Rattle.std.proofs.Common.{◌≡◌, ℕ, ◌-◌, ◌≤◌, length}
use Rattle.pal_lex.specs.Text.{limit}
use Rattle.pal_lex.specs.Runs.{base}
use Rattle.pal_lex.specs.GrowthSteps.{IsRun}
use Rattle.pal_lex.proofs.growing.run_of.Given as goal

abbrev pub invariant-loop-more : goal.invariant-loop-more
invariant-loop-more l = record {
  run : (at : ℕ) → l.fn.place ≡ limit at → IsRun (base l.fn.radix) l.fn.first l.fn.others at record { token = l.token; more = l.more; weight = l.weight };
  range : l.more ≤ length l.others;
}

abbrev pub decreases-loop-more : goal.decreases-loop-more
decreases-loop-more l = length l.others - l.more

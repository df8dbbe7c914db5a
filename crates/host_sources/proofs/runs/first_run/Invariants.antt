use Rattle.std.proofs.Common.{◌≡◌, ◌-◌, length, take}
use Rattle.pal_lex.specs.Text.{in_comment, stretch, text_of}
use Rattle.pal_lex.specs.Cutting.{pieces}
use Rattle.host_sources.specs.RunSteps.{is_wanted}
use Rattle.host_sources.specs.RunSteps.{IsSearch}
use Rattle.host_sources.proofs.runs.first_run.Given as goal

abbrev pub invariant-loop-taken : goal.invariant-loop-taken
invariant-loop-taken l = record {
  comment : l.comment ≡ in_comment (text_of (take l.taken l.before));
  search : IsSearch (is_wanted l.fn.wanted) l.search (pieces (stretch (text_of (take l.taken l.before))));
}

abbrev pub decreases-loop-taken : goal.decreases-loop-taken
decreases-loop-taken l = length l.before - l.taken

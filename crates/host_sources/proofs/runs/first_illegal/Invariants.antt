use Rattle.std.proofs.Common.{◌≡◌, ◌-◌, length, take}
use Rattle.pal_lex.specs.Text.{in_comment, stretch, text_of}
use Rattle.host_sources.specs.Runs as runs
use Rattle.host_sources.proofs.runs.first_illegal.Given as goal

abbrev pub invariant-loop-taken : goal.invariant-loop-taken
invariant-loop-taken l = record {
  comment : l.comment ≡ in_comment (text_of (take l.taken l.before));
  found : l.found ≡ runs.first_illegal (stretch (text_of (take l.taken l.before)));
}

abbrev pub decreases-loop-taken : goal.decreases-loop-taken
decreases-loop-taken l = length l.before - l.taken

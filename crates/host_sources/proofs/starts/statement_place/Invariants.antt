use Rattle.std.proofs.Common.{◌≡◌, ◌-◌, length, take}
use Rattle.pal_lex.specs.Text.{in_comment, stretch, text_of}
use Rattle.host_sources.specs.Starts.{first_solid}
use Rattle.host_sources.proofs.starts.statement_place.Given as goal

abbrev pub invariant-loop-taken : goal.invariant-loop-taken
invariant-loop-taken l = record {
  comment : l.comment ≡ in_comment (text_of (take l.taken l.before));
  start : l.start ≡ first_solid (stretch (text_of (take l.taken l.before)));
}

abbrev pub decreases-loop-taken : goal.decreases-loop-taken
decreases-loop-taken l = length l.before - l.taken

use Rattle.std.proofs.Common.{◌≡◌, ◌-◌, length, take}
use Rattle.pal_lex.specs.Text.{in_comment, text_of}
use Rattle.host_sources.specs.Mending.{up_to_comma}
use Rattle.host_sources.proofs.MendLemmas.{first_part}
use Rattle.host_sources.proofs.mending.comma_end.Given as goal

abbrev pub invariant-loop-taken : goal.invariant-loop-taken
invariant-loop-taken l = record {
  comment : l.comment ≡ in_comment (text_of (take l.taken l.before));
  comma : first_part l.before l.comma ≡ up_to_comma (text_of (take l.taken l.before));
}

abbrev pub decreases-loop-taken : goal.decreases-loop-taken
decreases-loop-taken l = length l.before - l.taken

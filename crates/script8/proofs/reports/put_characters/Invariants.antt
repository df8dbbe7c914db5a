use Rattle.std.proofs.Common.{◌≡◌, take, ◌++◌, ◌≤◌}
use Rattle.std.specs.Prelude.{vec_capacity}
use Rattle.script8.specs.Replies.{printed_text}
use Rattle.script8.proofs.reports.put_characters.Given as goal

-- the characters so far are appended
abbrev pub invariant-loop-character : goal.invariant-loop-character
invariant-loop-character l = record {
  text : l.out.items ≡ l.fn.out.items ++ printed_text (take l.character-index l.characters);
  capacity : vec_capacity l.fn.out ≤ vec_capacity l.out;
}

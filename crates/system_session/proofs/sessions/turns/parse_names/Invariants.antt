use Rattle.std.proofs.Common.{◌≡◌, Some, take, length}
use Rattle.system_session.specs.Files.{parsed_names}
use Rattle.system_session.proofs.sessions.turns.parse_names.Given as goal

-- the first names are parsed
abbrev pub invariant-loop-place : goal.invariant-loop-place
invariant-loop-place l = record {
  size : length l.names ≡ 8;
  names : parsed_names (take l.place l.from) ≡ Some (take l.place l.names);
}

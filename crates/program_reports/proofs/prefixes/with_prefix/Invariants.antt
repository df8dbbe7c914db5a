use Rattle.std.proofs.Common.{◌≡◌, ◌++◌, drop}
use Rattle.program_reports.specs.Prefixes.{with_prefixes, with_prefix_from}
use Rattle.program_reports.proofs.prefixes.with_prefix.Given as goal

-- the lines so far, and what the other bytes become, are all
abbrev pub invariant-loop-byte : goal.invariant-loop-byte
invariant-loop-byte l = l.lines.items ++ with_prefix_from l.prefix l.begins (drop l.byte-index l.text) ≡ with_prefixes l.prefix l.text

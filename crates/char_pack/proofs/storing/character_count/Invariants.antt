use Rattle.std.proofs.Common.{◌≡◌, ◌+◌, ◌*◌, ◌≤◌, drop, length}
use Rattle.char_pack.specs.Texts.{host_text}
use Rattle.char_pack.proofs.storing.character_count.Given as goal

abbrev pub invariant-loop-byte : goal.invariant-loop-byte
invariant-loop-byte l =
    record {
      counted : l.count + length (host_text (drop l.byte-index l.host)) ≡ length (host_text l.host);
      bound : l.count ≤ 2 * l.byte-index;
    }

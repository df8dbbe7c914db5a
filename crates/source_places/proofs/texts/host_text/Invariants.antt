use Rattle.std.proofs.Common.{◌≡◌, ◌++◌, drop}
use Rattle.char_pack.specs.Texts as spec
use Rattle.source_places.proofs.texts.host_text.Given as goal

abbrev pub invariant-loop-byte : goal.invariant-loop-byte
invariant-loop-byte l = l.text.items ++ spec.host_text (drop l.byte-index l.host) ≡ spec.host_text l.host

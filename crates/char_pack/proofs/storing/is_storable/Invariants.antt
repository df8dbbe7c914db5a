use Rattle.std.proofs.Common.{◌≡◌, ◌&&◌, not, drop}
use Rattle.char_pack.specs.Texts.{is_storable}
use Rattle.char_pack.proofs.storing.is_storable.Given as goal

abbrev pub invariant-loop-byte : goal.invariant-loop-byte
invariant-loop-byte l = (not l.refused && is_storable (drop l.byte-index l.host)) ≡ is_storable l.host

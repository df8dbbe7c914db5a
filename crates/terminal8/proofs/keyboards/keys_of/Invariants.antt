use Rattle.std.proofs.Common.{◌≡◌, ◌++◌, drop}
use Rattle.terminal8.specs.Keys.{keys_from, keys_of}
use Rattle.terminal8.proofs.keyboards.keys_of.Given as goal

-- the keys so far, and those of the other bytes, are all
abbrev pub invariant-loop-byte : goal.invariant-loop-byte
invariant-loop-byte l = l.keys.items ++ keys_from l.keyboard (drop l.byte-index l.bytes) ≡ keys_of l.fn.form l.bytes

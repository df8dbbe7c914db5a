use Rattle.std.proofs.Common.{◌≡◌, ℕ, List, ◌++◌, length}
use Rattle.std.specs.Fmt.{HasWritten, IsPlainFormatter}
use Rattle.shown_text.specs.Showing.{shown_text}
use Rattle.shown_text.proofs.texts.write_bytes.Given as goal

abbrev pub invariant-bytes : goal.invariant-bytes
invariant-bytes g l =
    IsPlainFormatter l.fn.f
    → (done : List ℕ) × HasWritten g.W.Write.write_str_gives l.fn.f done l.f
    × (done ++ shown_text l.rest ≡ shown_text l.fn.bytes)

abbrev pub decreases-bytes : goal.decreases-bytes
decreases-bytes g l = length l.rest

use Rattle.std.proofs.Common.{◌≡◌, ◌++◌, length, map}
use Rattle.show_commands.specs.Listing.{refusal_lines}
use Rattle.show_commands.proofs.listing.put_refusals.Given as goal

abbrev pub invariant-loop-rest : goal.invariant-loop-rest
invariant-loop-rest l = l.out.items ++ refusal_lines (map (λ word. word.bytes.items) l.words) l.rest ≡ l.fn.out.items ++ refusal_lines (map (λ word. word.bytes.items) l.words) l.wishes

abbrev pub decreases-loop-rest : goal.decreases-loop-rest
decreases-loop-rest l = length l.rest

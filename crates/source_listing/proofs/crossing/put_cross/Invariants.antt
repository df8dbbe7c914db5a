use Rattle.std.proofs.Common.{◌≡◌, ◌++◌, None, length}
use Rattle.host_sources.specs.Symbols.{meaning_in}
use Rattle.source_listing.specs.References.{cross_text}
use Rattle.source_listing.proofs.crossing.put_cross.Given as goal

abbrev pub invariant-loop-rest : goal.invariant-loop-rest
invariant-loop-rest l =
    l.text.items ++ cross_text l.several (meaning_in l.symbols) l.before l.rest ≡ l.initial.text.items ++ cross_text l.several (meaning_in l.symbols) None l.mentions

abbrev pub decreases-loop-rest : goal.decreases-loop-rest
decreases-loop-rest l = length l.rest

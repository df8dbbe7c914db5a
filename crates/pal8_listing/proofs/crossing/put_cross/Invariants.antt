use Rattle.std.proofs.Common.{◌≡◌, ◌++◌, List, filter}
use Rattle.pal8_listing.specs.Steps.{AreByName}
use Rattle.pal8_listing.specs.Uses.{cross_text, is_of}
use Rattle.pal8_listing.specs.declared.mentions.Mention.{Mention}
use Rattle.pal8_listing.proofs.crossing.put_cross.Given as goal

abbrev pub invariant-loop-name : goal.invariant-loop-name
invariant-loop-name l =
    (whole : List Mention) → AreByName whole l.found
    → l.text.items ++ cross_text l.starts (λ n. filter (is_of n) whole) l.name-iterator
    ≡ l.initial.text.items ++ cross_text l.starts (λ n. filter (is_of n) whole) l.names.entries

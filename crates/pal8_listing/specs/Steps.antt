-- What the small steps of a cross reference give, for private clauses.
use Rattle.std.specs.Prelude.{List}
use Rattle.std.specs.Ordering.{nat_cmp}
use Rattle.std.specs.List.Sorted.{IsSortedByKey, IsStableByKey}
use Rattle.pal8_listing.specs.declared.mentions.Mention.{Mention}

-- These are the same mentions by their names, those of one name in the order that they had.
pub record AreByName (mentions by_name : List Mention) : Type 0 where
  pub sorted : IsSortedByKey (λ (mention : Mention). mention.name) nat_cmp by_name
  pub stable : IsStableByKey (λ (mention : Mention). mention.name) nat_cmp mentions by_name

use Rattle.std.proofs.Common.{rules}
use Rattle.std.proofs.lemmas.List.Sorted.{answers_always}
use Rattle.pal8_listing.specs.declared.mentions.Mention.{Mention}
use Rattle.pal8_listing.proofs.uses.sort.Goals as goal

pub returns : goal.returns
returns c = record {
  sorted = c.in_ok-sort_by_key.ensures.sorted (λ (mention : Mention). mention.name) (answers_always _ _ _ (λ f a r q k. search rules));
  stable = c.in_ok-sort_by_key.ensures.stable (λ (mention : Mention). mention.name) (answers_always _ _ _ (λ f a r q k. search rules));
}

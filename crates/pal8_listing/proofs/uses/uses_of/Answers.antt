use Rattle.std.proofs.Common.{rules, of_calls, nat_eq, nat_lt}
use Rattle.std.proofs.lemmas.Fn.{always_returns_same}
use Rattle.pal8_listing.specs.declared.mentions.Mention.{Mention}
use Rattle.pal8_listing.proofs.UseLemmas.{lower_first, same_first, uses_are}
use Rattle.pal8_listing.proofs.uses.uses_of.Goals as goal

pub returns : goal.returns
returns c = λ whole by.
    let xs = c.args.found.now in
    let rest = c.split.result.1.now in
    let name = c.args.name in
    let first = c.partition_point-first.result in
    let count = c.partition_point-count.result in
    let point = c.partition_point-first.ensures.partitioned (λ (m : Mention). nat_lt m.name name) (always_returns_same _ _ _ (λ a r f k. search (rules, of_calls)))
    (lower_first name whole xs rest first count by c.split.ensures.others c.partition_point-first.ensures.bound) in
    uses_are name whole xs rest first count by c.split.ensures.others c.partition_point-first.ensures.bound point c.split-2.result.0.now c.split-2.ensures.first
    c.partition_point-count.ensures.bound
    (c.partition_point-count.ensures.partitioned (λ (m : Mention). nat_eq m.name name) (always_returns_same _ _ _ (λ a r f k. search (rules, of_calls)))
    (same_first name whole xs rest first count by c.split.ensures.others c.partition_point-first.ensures.bound point))

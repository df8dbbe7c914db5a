use Rattle.std.proofs.Common.{rules, refl, ◌≡◌, ◌≤◌, subst, sym, true, None, is_some, map}
use Rattle.command_refusals.specs.Refusals.{input_count}
use Rattle.command_table.specs.Values.{values_in}
use Rattle.command_line.proofs.SourceLemmas.{as_many, has_volume}
use Rattle.command_line.proofs.tapes.assemble.Goals as goal

pub returns : goal.returns
returns c =
    let values = values_in c.args.found.now in
    let count = as_many values c.in_ok-sources.sources.items c.in_ok-sources.ensures in
    let once : c.in_ok-from.from ≡ None → input_count (map (λ file. file.bytes.items) c.in_ok-sources.sources.items) ≤ 1 = search rules in
    let listed : c.flag.result ≡ true → is_some c.in_ok-list.list ≡ true = search rules in (
      (
        refl,
        c.in_ok-sources.ensures,
        c.in_ok-from.ensures,
        c.in_ok-onto.ensures,
        c.in_ok-output.ensures,
        c.in_ok-list.ensures,
        c.flag.ensures,
        c.flag-2.ensures,
        search rules,
        search rules,
        search rules,
        search rules,
        search rules,
      ),
      (
        subst (λ n. 1 ≤ n) (sym count) c.requires.0.0.1,
        subst (λ n. n ≤ 8) (sym count) c.requires.0.0.2,
        once,
        listed,
        has_volume values c.in_ok-from.from c.in_ok-onto.onto c.requires.2 c.in_ok-from.ensures c.in_ok-onto.ensures,
      ),
    )

use Rattle.std.proofs.Common.{◌≡◌, ◌++◌, ap, sym, ◌∙◌, arith, refl}
use Rattle.os8_dir.specs.Entries.{total, tidy}
use Rattle.os8_dir.specs.Changes.{with_file_lower}
use Rattle.os8_dir.proofs.TidyLemmas.{total-append}
use Rattle.os8_dir.proofs.ChangeLemmas.{parts-sum, parts-tidy, tidied-neat, tidied-total}
use Rattle.os8_dir.proofs.changes.entries_with_file_lower.Goals as goal

pub append_all-requires-clause-fits : goal.append_all-requires-clause-fits
append_all-requires-clause-fits c =
    let all = parts-sum c.gap_place.result c.args.entries.now c.split_at.result.0.now c.split_at.result.1.now c.split_at-2.result.0.now c.split_at-2.result.1.now c.split_at-3.result.0.now c.split_at-3.result.1.now c.split_at.ensures.front c.split_at.ensures.back c.split_at-2.ensures.front c.split_at-2.ensures.back c.split_at-3.ensures.front c.split_at-3.ensures.back in
    omega (arith, all, ap total c.new-kept.ensures.items, c.requires.fits)

pub append_all-requires-2-clause-neat : goal.append_all-requires-2-clause-neat
append_all-requires-2-clause-neat c = tidied-neat c.append_all.new.entries.items (c.new-kept.result.items ++ c.split_at.result.0.now) c.in_ok-append_all.ensures

pub append_all-requires-2-clause-fits : goal.append_all-requires-2-clause-fits
append_all-requires-2-clause-fits c =
    let all = parts-sum c.gap_place.result c.args.entries.now c.split_at.result.0.now c.split_at.result.1.now c.split_at-2.result.0.now c.split_at-2.result.1.now c.split_at-3.result.0.now c.split_at-3.result.1.now c.split_at.ensures.front c.split_at.ensures.back c.split_at-2.ensures.front c.split_at-2.ensures.back c.split_at-3.ensures.front c.split_at-3.ensures.back in
    let one = tidied-total c.append_all.new.entries.items (c.new-kept.result.items ++ c.split_at.result.0.now) c.in_ok-append_all.ensures in
    omega (arith, all, ap total c.new-kept.ensures.items, c.requires.fits, one, total-append c.new-kept.result.items c.split_at.result.0.now)

pub append_all-requires-3-clause-neat : goal.append_all-requires-3-clause-neat
append_all-requires-3-clause-neat c = tidied-neat c.append_all-2.new.entries.items (c.append_all.new.entries.items ++ c.split_at-3.result.0.now) c.in_ok-append_all-2.ensures

pub append_all-requires-3-clause-fits : goal.append_all-requires-3-clause-fits
append_all-requires-3-clause-fits c =
    let all = parts-sum c.gap_place.result c.args.entries.now c.split_at.result.0.now c.split_at.result.1.now c.split_at-2.result.0.now c.split_at-2.result.1.now c.split_at-3.result.0.now c.split_at-3.result.1.now c.split_at.ensures.front c.split_at.ensures.back c.split_at-2.ensures.front c.split_at-2.ensures.back c.split_at-3.ensures.front c.split_at-3.ensures.back in
    let one = tidied-total c.append_all.new.entries.items (c.new-kept.result.items ++ c.split_at.result.0.now) c.in_ok-append_all.ensures in
    let two = tidied-total c.append_all-2.new.entries.items (c.append_all.new.entries.items ++ c.split_at-3.result.0.now) c.in_ok-append_all-2.ensures in
    omega (arith, all, ap total c.new-kept.ensures.items, c.requires.fits, one, two, total-append c.new-kept.result.items c.split_at.result.0.now, total-append c.append_all.new.entries.items c.split_at-3.result.0.now)

pub append_all-requires-4-clause-neat : goal.append_all-requires-4-clause-neat
append_all-requires-4-clause-neat c = tidied-neat c.append_all-3.new.entries.items (c.append_all-2.new.entries.items ++ c.split_at-2.result.0.now) c.in_ok-append_all-3.ensures

pub append_all-requires-4-clause-fits : goal.append_all-requires-4-clause-fits
append_all-requires-4-clause-fits c =
    let all = parts-sum c.gap_place.result c.args.entries.now c.split_at.result.0.now c.split_at.result.1.now c.split_at-2.result.0.now c.split_at-2.result.1.now c.split_at-3.result.0.now c.split_at-3.result.1.now c.split_at.ensures.front c.split_at.ensures.back c.split_at-2.ensures.front c.split_at-2.ensures.back c.split_at-3.ensures.front c.split_at-3.ensures.back in
    let one = tidied-total c.append_all.new.entries.items (c.new-kept.result.items ++ c.split_at.result.0.now) c.in_ok-append_all.ensures in
    let two = tidied-total c.append_all-2.new.entries.items (c.append_all.new.entries.items ++ c.split_at-3.result.0.now) c.in_ok-append_all-2.ensures in
    let three = tidied-total c.append_all-3.new.entries.items (c.append_all-2.new.entries.items ++ c.split_at-2.result.0.now) c.in_ok-append_all-3.ensures in
    omega (arith, all, ap total c.new-kept.ensures.items, c.requires.fits, one, two, three, total-append c.new-kept.result.items c.split_at.result.0.now, total-append c.append_all.new.entries.items c.split_at-3.result.0.now, total-append c.append_all-2.new.entries.items c.split_at-2.result.0.now)

pub returns : goal.returns
returns c =
    let prefix = c.split_at.result.0.now in
    let gap = c.split_at-2.result.0.now in
    let file = c.split_at-3.result.0.now in
    let rest = c.split_at-3.result.1.now in
    let same : with_file_lower c.args.name c.args.entries.now ≡ prefix ++ (file ++ (gap ++ rest)) = c.gap_place.ensures.list ∙ rw (c.split_at-3.ensures.front, c.split_at-3.ensures.back, c.split_at-2.ensures.front, c.split_at-2.ensures.back, c.split_at.ensures.front, c.split_at.ensures.back) refl in
    parts-tidy c.new-kept.result.items c.append_all.new.entries.items c.append_all-2.new.entries.items c.append_all-3.new.entries.items c.append_all-4.new.entries.items prefix file gap rest c.new-kept.ensures.items c.in_ok-append_all.ensures c.in_ok-append_all-2.ensures c.in_ok-append_all-3.ensures c.in_ok-append_all-4.ensures ∙ ap tidy (sym same)

use Rattle.std.proofs.Common.{sym, ap, Some, ◌∙◌}
use Rattle.std.proofs.lemmas.List.{get_or_default}
use Rattle.pal_sym.specs.Entries.{no_entry}
use Rattle.pal_sym.specs.Values.{defined_value}
use Rattle.pal_sym.proofs.PlaceLemmas.{found_at, found_in_gap}
use Rattle.pal_sym.proofs.entries.find.Goals as goal

pub returns-in-Ok-clause-value : goal.returns-in-Ok-clause-value
returns-in-Ok-clause-value c =
    ap (λ entry. Some entry.1.value) (get_or_default _ _ c.index-entries-place.result no_entry c.in-Ok.ensures.found.in_range)
    ∙ ap defined_value (sym (found_at c.args.entries.now c.requires c.args.name c.in-Ok.place c.in-Ok.ensures.found))

pub returns-in-Err-clause-value : goal.returns-in-Err-clause-value
returns-in-Err-clause-value c = ap defined_value (sym (found_in_gap c.args.entries.now c.args.name _ c.in-Err.ensures.absent))

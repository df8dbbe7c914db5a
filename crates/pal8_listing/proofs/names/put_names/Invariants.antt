use Rattle.std.proofs.Common.{◌≡◌, ◌++◌}
use Rattle.pal8_listing.specs.Texts.{names_text}
use Rattle.pal8_listing.proofs.names.put_names.Given as goal

abbrev pub invariant-loop-name : goal.invariant-loop-name
invariant-loop-name l = l.text.items ++ names_text l.name-iterator ≡ l.initial.text.items ++ names_text l.names.entries

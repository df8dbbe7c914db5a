-- How the words that are to be made lie: their heads, and the steps of them all, one after the other.
use Rattle.std.specs.Prelude.{ℕ, ◌+◌, take, drop, List, [], ◌∷◌}
use Rattle.pal8_grammar.specs.declared.steps.Step.{Step}
use Rattle.pal8_asm.specs.Sources.{Entry}
use Rattle.pal8_asm.specs.declared.entries.Head.{Head}

-- how many steps heads have
abbrev pub total : List Head → ℕ
total [] = 0
total (h ∷ others) = h.count + total others

abbrev pub entry_of : Head → List Step → Entry
entry_of h steps = record {
  late = h.late;
  place = h.place;
  cell = h.cell;
  here = h.here;
  is_punched = h.is_punched;
  may_link = h.may_link;
  zero_stay = h.zero_stay;
  page_stay = h.page_stay;
  steps = steps;
}

-- each head with its own steps
abbrev pub cut : List Head → List Step → List Entry
cut [] steps = []
cut (h ∷ others) steps = entry_of h (take h.count steps) ∷ cut others (drop h.count steps)

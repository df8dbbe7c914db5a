use Rattle.std.proofs.Common.{◌≡◌, ℕ, length}
use Rattle.pal_asm.specs.Places.{with_tags as tag_values}
use Rattle.host_sources.specs.Symbols.{with_tags, meaning_in}
use Rattle.host_sources.proofs.names.set_tags.Given as goal

abbrev pub invariant-loop-rest : goal.invariant-loop-rest
invariant-loop-rest l = record {
  values : (n : ℕ) → tag_values l.rest l.place (meaning_in l.symbols) n ≡ tag_values l.fn.tags l.place (meaning_in l.initial.symbols) n;
  entries : with_tags l.symbols.entries l.rest l.place ≡ with_tags l.initial.symbols.entries l.fn.tags l.place;
}

abbrev pub decreases-loop-rest : goal.decreases-loop-rest
decreases-loop-rest l = length l.rest

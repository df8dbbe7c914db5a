use Rattle.std.proofs.Common.{◌≡◌, ◌≤◌, ◌+◌, ◌||◌, ℕ, length}
use Rattle.pal_sym.specs.Values.{symbol_value, is_fixed}
use Rattle.pal_asm.specs.Places.{with_tags, is_among}
use Rattle.pal_asm.specs.Faults.{tags_fault}
use Rattle.pal_asm.proofs.names.define_tags.Given as goal

abbrev pub invariant-loop-rest : goal.invariant-loop-rest
invariant-loop-rest l = record {
  values : (n : ℕ) → with_tags l.rest l.fn.location (symbol_value l.symbols) n ≡ with_tags l.fn.tags l.fn.location (symbol_value l.fn.symbols) n;
  fixed : (n : ℕ) → (is_among l.rest n || is_fixed l.symbols n) ≡ (is_among l.fn.tags n || is_fixed l.fn.symbols n);
  fault : tags_fault (symbol_value l.symbols) l.fn.location l.rest ≡ tags_fault (symbol_value l.fn.symbols) l.fn.location l.fn.tags;
  enough : length l.rest ≤ l.symbols.room;
  room : l.fn.symbols.room + length l.rest ≤ l.symbols.room + length l.fn.tags;
}

abbrev pub decreases-loop-rest : goal.decreases-loop-rest
decreases-loop-rest l = length l.rest

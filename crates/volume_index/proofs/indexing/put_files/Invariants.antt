use Rattle.std.proofs.Common.{◌≡◌, ℕ, List, ◌+◌, ◌++◌, length}
use Rattle.os8_dir.specs.Entries.{total}
use Rattle.volume_index.specs.IndexSteps.{AreLinesAt}
use Rattle.volume_index.proofs.indexing.put_files.Given as goal

-- the lines of the entries that are left make the whole index, after what is written
abbrev pub invariant-loop-rest : goal.invariant-loop-rest
invariant-loop-rest l = record {
  lines : (more : List ℕ) → AreLinesAt l.fn.style l.fn.name l.fn.number l.fn.last l.fn.image l.fn.volume.blocks l.place l.rest more
      → (whole : List ℕ) × AreLinesAt l.fn.style l.fn.name l.fn.number l.fn.last l.fn.image l.fn.volume.blocks l.fn.first l.fn.entries whole × (l.out.items ++ more ≡ l.fn.out.items ++ whole);
  blocks : l.place + total l.rest ≡ l.fn.first + total l.fn.entries;
}

abbrev pub decreases-loop-rest : goal.decreases-loop-rest
decreases-loop-rest l = length l.rest

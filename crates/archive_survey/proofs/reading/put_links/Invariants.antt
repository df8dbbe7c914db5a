use Rattle.std.proofs.Common.{◌≡◌, ℕ, ◌<◌, false, get_or, List, [], ◌∷◌, ◌++◌, length}
use Rattle.os8_dir.specs.Entries.{contains}
use Rattle.archive_survey.specs.Findings.{later_segments}
use Rattle.archive_survey.proofs.reading.put_links.Given as goal

abbrev pub invariant-loop-left : goal.invariant-loop-left
invariant-loop-left l = record {
  marks : length l.seen ≡ 7;
  read : (read : List ℕ)
      × ((k : ℕ) → k < 7 → get_or l.seen k false ≡ contains read k)
      × (l.out.items ++ later_segments l.left l.volume.blocks l.info read l.from l.end l.link ≡ l.fn.out.items ++ later_segments 5 l.volume.blocks l.info (1 ∷ []) 1 l.first_end l.first_link);
}

abbrev pub decreases-loop-left : goal.decreases-loop-left
decreases-loop-left l = l.left

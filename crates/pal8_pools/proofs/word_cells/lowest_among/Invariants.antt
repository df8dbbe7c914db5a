use Rattle.std.proofs.Common.{◌≡◌, ℕ, ◌-◌, ◌<◌, ◌≤◌, false, List}
use Rattle.pal8_pools.specs.Asks.{Ask}
use Rattle.pal8_pools.specs.Pooled.{Holds}
use Rattle.pal8_pools.specs.Clashes.{AreMarks}
use Rattle.pal8_pools.specs.ClashSteps.{is_clash}
use Rattle.pal8_pools.proofs.word_cells.lowest_among.Given as goal

-- none of the cells so far is a word's and a pool's
abbrev pub invariant-loop-at : goal.invariant-loop-at
invariant-loop-at l = record {
  none : (words : List (ℕ × ℕ)) (asks punched : List Ask) → AreMarks l.fn.marks words → Holds l.fn.pools asks punched → (c : ℕ) → l.fn.first ≤ c → c < l.at → is_clash words asks c ≡ false;
  low : l.fn.first ≤ l.at;
}

abbrev pub decreases-loop-at : goal.decreases-loop-at
decreases-loop-at l = l.fn.end - l.at

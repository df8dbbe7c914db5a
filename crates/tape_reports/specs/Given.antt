-- Which cells a tape gives a word.
use Rattle.std.specs.Prelude.{◌≡◌, ℕ, ◌<◌, Bool, false, is_some, List, length, slice_index_or}
use Rattle.word12.specs.declared.sizes.TheConstants.{CORE}
use Rattle.bin_tape.specs.Items.{Item, tape_map}
use Rattle.bin_tape.specs.Tape.{IsTape}

-- the frames are a tape, and these flags, one for each cell of core, say to which it gives a word
pub record AreGiven (frames : List ℕ) (flags : List Bool) : Type 0 where
  pub items : List Item
  pub is_tape : IsTape frames items
  pub size : length flags ≡ CORE
  pub cells : (cell : ℕ) → cell < CORE → slice_index_or flags cell false ≡ is_some (tape_map items cell)

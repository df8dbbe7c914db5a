-- The steps of reading a tape into a map, for private clauses.
use Rattle.std.specs.Prelude.{◌≡◌, ℕ, ◌<◌, ◌%◌, slice_index_or, true, Option, None, List, [], ◌++◌}
use Rattle.word12.specs.declared.sizes.TheConstants.{CORE}
use Rattle.bin_tape.specs.Frames.{heeded_frames, ignore_count}
use Rattle.bin_tape.specs.Items.{Item, frames_of_items, has_origin, words_but_last}
use Rattle.bin_tape.specs.Prefix.{ReadsItems}
use Rattle.bin_tape.specs.Pairs.{last_word}
use Rattle.bin_tape.specs.Progress.{Progress}
use Rattle.bin_tape.specs.Reading.{HasRead}
use Rattle.bin_tape.specs.declared.prefixes.Prefix.{Prefix}

-- ## Up to a frame

-- each cell of core has the word of the last pair there
abbrev pub HoldsWords : List (Option ℕ) → List (ℕ × ℕ) → Type 0
HoldsWords words pairs = (cell : ℕ) → cell < CORE → slice_index_or words cell None ≡ last_word pairs cell

-- Of these frames a reader was given all but the rest, and each cell has the last word that it handed out.
pub record HasReadTo (frames rest : List ℕ) (reader : Progress) (words : List (Option ℕ)) : Type 0 where
  pub before : List ℕ
  pub split : frames ≡ before ++ rest
  pub out : List (ℕ × ℕ)
  pub read : HasRead reader before out
  pub holds : HoldsWords words out

-- Of these frames all but the rest are whole items, an origin among them, in no stretch that is ignored. The prefix is
-- that of these items. Each cell has its last word among the words before the newest one.
pub record ReadsTo (frames rest : List ℕ) (prefix : Prefix) (words : List (Option ℕ)) : Type 0 where
  pub before : List ℕ
  pub split : frames ≡ before ++ rest
  pub even : ignore_count before % 2 ≡ 0
  pub items : List Item
  pub reads : ReadsItems prefix items []
  pub origin : has_origin items ≡ true
  pub kept_is : heeded_frames before ≡ frames_of_items items
  pub holds : HoldsWords words (words_but_last items)

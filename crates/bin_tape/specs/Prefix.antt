-- What a reader keeps of the items so far, and what it makes of one more frame.
use Rattle.std.specs.Prelude.{◌≡◌, ℕ, ◌+◌, ◌*◌, Option, Some, None, List, [], ◌∷◌, ◌++◌}
use Rattle.bin_tape.specs.Items.{Item, Leader, Field, Origin, Word, frames_of_items, has_origin, ends_in_word, IsPrefix, cell_after, check_sum, words_but_last}
use Rattle.bin_tape.specs.Tape.{IsPart}
use Rattle.bin_tape.specs.declared.prefixes.Prefix.{Prefix}
use Rattle.bin_tape.specs.declared.prefixes.LastWord.{LastWord}

-- the last word item, with the sum of the items before it
abbrev pub IsLast : Option LastWord → List Item → Type 0
IsLast None [] = Unit {0}
IsLast (Some last) [] = ⊥
IsLast None (Word high low ∷ older) = ⊥
IsLast (Some last) (Word high low ∷ older) = (last.cell ≡ cell_after older) × (last.word ≡ 0o100 * high + low) × (last.sum ≡ check_sum older)
IsLast last (Leader f ∷ older) = IsLast last older
IsLast last (Field n ∷ older) = IsLast last older
IsLast last (Origin high low ∷ older) = IsLast last older

abbrev pub part_of : Option ℕ → List ℕ
part_of None = []
part_of (Some p) = p ∷ []

-- the prefix is that of these items, and perhaps of a first frame of a pair
pub record ReadsItems (prefix : Prefix) (items : List Item) (part : List ℕ) : Type 0 where
  pub next : prefix.next ≡ cell_after items
  pub sum : prefix.sum ≡ check_sum items
  pub origin : prefix.has_origin ≡ has_origin items
  pub word : prefix.ends_in_word ≡ ends_in_word items
  pub last : IsLast prefix.last items
  pub first : part_of prefix.first ≡ part
  pub is_prefix : IsPrefix items
  pub begun : IsPart items part

-- the prefix is that of these frames, after which these words were handed out
pub record KeepsFrames (prefix : Prefix) (kept_frames : List ℕ) (out : List (ℕ × ℕ)) : Type 0 where
  pub items : List Item
  pub part : List ℕ
  pub reads : ReadsItems prefix items part
  pub frames : kept_frames ≡ frames_of_items items ++ part
  pub words : out ≡ words_but_last items

-- Which call of a store fails, where one is to fail after a number of calls that pass (this project's profile).
use Rattle.std.specs.Prelude.{◌≡◌, ◌↔◌, IsTrue, ℕ, zero, suc, Bool, true, false, List, Option, Some, None, slice_set, All}
use Rattle.volume_image.specs.Volume.{IsBlock, next_count}
use Rattle.volume_image.specs.Stores.{InMemory}

-- the next call fails
abbrev pub fails_next : Option ℕ → Bool
fails_next None = false
fails_next (Some zero) = true
fails_next (Some (suc left)) = false

-- how many calls pass after the next one until one fails
abbrev pub calls_left : Option ℕ → Option ℕ
calls_left None = None
calls_left (Some zero) = None
calls_left (Some (suc left)) = Some left

-- one block has the words 5252, and the others are as before
pub record IsSpoilt (old new : InMemory) (number : ℕ) : Type 0 where
  pub words : List ℕ
  pub block : IsBlock words
  pub each : All (λ word. word ≡ 2730) words
  pub rest : new ≡ record old { blocks = slice_set old.blocks number words; writes = next_count old.writes }

-- how many calls pass from then on until one fails, after so many calls
abbrev pub left_after_calls : ℕ → Option ℕ → Option ℕ
left_after_calls zero left = left
left_after_calls (suc calls) left = left_after_calls calls (calls_left left)

-- of all calls just one fails, the one before which as many passed as were to pass
abbrev pub OneCallFails : Type 0
OneCallFails = (calls passes : ℕ) → IsTrue (fails_next (left_after_calls calls (Some passes))) ↔ (calls ≡ passes)

-- where none is to fail, none does
abbrev pub NoCallFails : Type 0
NoCallFails = (calls : ℕ) → fails_next (left_after_calls calls None) ≡ false

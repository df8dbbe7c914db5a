-- A token stays that of the file that is being written.
use Rattle.std.proofs.Common.{◌≡◌, ℕ, ◌+◌, List, Option, Some, None, ap, sym, ◌∙◌}
use Rattle.os8_files.specs.Mounted.{MountState, NewFile}
use Rattle.os8_files.specs.Calls.{HasEntered, HasWritten, IsOf}

abbrev or_else : {A : Type 0} → Option A → A → A
or_else None d = d
or_else (Some x) d = x

some-same : {A : Type 0} (x y : A) → Some x ≡ Some y → x ≡ y
some-same x y e = ap (λ o. or_else o x) e

pub entered-of : (old new : MountState) (name wish token : ℕ) → HasEntered old name wish token new → IsOf new token
entered-of old new name wish token done = (
  record { name = name; place = done.place; room = done.room; blocks_written = 0 },
  ap (λ (m : MountState). m.tentative) done.others,
  sym done.token,
)

pub written-of : (old new : MountState) (words : List ℕ) (token : ℕ) → HasWritten old words new → IsOf old token → IsOf new token
written-of old new words token done of = (
  record { name = done.begun.name; place = done.begun.place; room = done.begun.room; blocks_written = done.begun.blocks_written + 1 },
  ap (λ (m : MountState). m.tentative) done.others,
  ap (λ (b : NewFile). b.name) (some-same done.begun of.0 (sym done.was ∙ of.1)) ∙ of.2,
)

-- Runs of the 8/E, and of the 8/I beside it. The printer ends its character before each step that finds it busy.
use Rattle.std.specs.Prelude.{ℕ, zero, suc, ◌<◌, true, if◌then◌else◌, Option, Some, None}
use Rattle.cpu8.specs.State.{State}
use Rattle.cpu8.specs.State as State8i
use Rattle.cpu8.specs.Go as Go8i
use Rattle.cpu8.specs.declared.outcomes.Stepped.{Stepped}
use Rattle.cpu8e.specs.State.{State8e, key_struck, printer_done}
use Rattle.cpu8e.specs.Step.{step}
use Rattle.cpu8e.specs.Common.{MeetsCommon}

-- a step, before which the printer ends its character where it is busy
abbrev pub printing_step : State8e → State8e × Stepped
printing_step s = step (if s.base.teletype.busy then printer_done s else s)

-- ## Runs. Before step k, from 0 on, the key of k is struck, if it has one.

abbrev pub with_key : Option ℕ → State8e → State8e
with_key (Some key) s = key_struck s key
with_key None s = s

unfoldable pub after_keys : (ℕ → Option ℕ) → ℕ → State8e → State8e
after_keys keys zero s = s
after_keys keys (suc k) s = (printing_step (with_key (keys k) (after_keys keys k s))).0

abbrev pub answer_with_keys : (ℕ → Option ℕ) → ℕ → State8e → Stepped
answer_with_keys keys k s = (printing_step (with_key (keys k) (after_keys keys k s))).1

-- the machine after so many steps without a key
abbrev pub after : ℕ → State8e → State8e
after k s = after_keys (λ _. None) k s

-- what the step after the first k did
abbrev pub answer : ℕ → State8e → Stepped
answer k s = answer_with_keys (λ _. None) k s

-- ## The same on the 8/I

abbrev pub with_key_8i : Option ℕ → State → State
with_key_8i (Some key) s = State8i.key_struck s key
with_key_8i None s = s

unfoldable pub after_keys_8i : (ℕ → Option ℕ) → ℕ → State → State
after_keys_8i keys zero s = s
after_keys_8i keys (suc k) s = (Go8i.printing_step true (with_key_8i (keys k) (after_keys_8i keys k s))).0

abbrev pub answer_with_keys_8i : (ℕ → Option ℕ) → ℕ → State → Stepped
answer_with_keys_8i keys k s = (Go8i.printing_step true (with_key_8i (keys k) (after_keys_8i keys k s))).1

-- the next step meets a common word, if any, once the printer has ended its character
abbrev pub PrintingMeetsCommon : State → Type 0
PrintingMeetsCommon s = MeetsCommon (if s.teletype.busy then State8i.printer_done s else s)

-- the first k steps of an 8/I meet only common words
abbrev pub MeetsOnlyCommon : (ℕ → Option ℕ) → ℕ → State → Type 0
MeetsOnlyCommon keys k s = (m : ℕ) → m < k → PrintingMeetsCommon (with_key_8i (keys m) (after_keys_8i keys m s))

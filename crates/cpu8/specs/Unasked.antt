-- Steps in which a program asks for no key, and for no device that isn't there (Small Computer Handbook). The printer is quick: it ends its character before the next
-- step.
use Rattle.std.specs.Prelude.{◌≡◌, ℕ, ◌<◌, ◌/◌, Bool, true, false, ◌&&◌, not, nat_eq, None}
use Rattle.tty8.specs.Bits.{has}
use Rattle.cpu8.specs.State.{State}
use Rattle.cpu8.specs.Decoding.{is_absent}
use Rattle.cpu8.specs.Step.{next_word}
use Rattle.cpu8.specs.Go.{after, answer}
use Rattle.cpu8.specs.declared.outcomes.Stepped.TheVariants.{Ran}

-- pulse 1 of a keyboard instruction: KSF (6031), or KSF with others (6033, 6035, 6037)
abbrev pub is_ksf : ℕ → Bool
is_ksf word = nat_eq (word / 0o10) 0o603 && has word 1

-- the next instruction is a KSF, and the keyboard flag is clear
abbrev pub finds_no_key : State → Bool
finds_no_key s = not s.teletype.keyboard_flag && is_ksf (next_word s)

-- The step after the first m does an instruction that prints nothing and goes on. It is no KSF that finds the keyboard flag clear, and no IOT
-- of a device that isn't there. Interrupts are as at first, on or off.
pub record IsUnasked (s : State) (m : ℕ) : Type 0 where
  pub answer : answer true m s ≡ Ran None
  pub finds : finds_no_key (after true m s) ≡ false
  pub there : is_absent (next_word (after true m s)) ≡ false
  pub interrupts : (after true m s).interrupts_on ≡ s.interrupts_on

-- each of the first k steps is such
abbrev pub AreUnasked : State → ℕ → Type 0
AreUnasked s k = (m : ℕ) → m < k → IsUnasked s m

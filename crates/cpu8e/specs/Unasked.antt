-- Steps of the 8/E in which a program asks for no key (Small Computer Handbook). The printer is quick: it ends its character before the
-- next step.
use Rattle.std.specs.Prelude.{◌≡◌, ℕ, ◌+◌, ◌/◌, ◌%◌, ◌<◌, Bool, true, false, ◌&&◌, ◌||◌, not, nat_eq, nat_le, if◌then◌else◌, None, slice_index}
use Rattle.cpu8.specs.State.{place}
use Rattle.cpu8.specs.Decoding.{is_group_1, is_group_2, has_hlt}
use Rattle.cpu8.specs.Reference.{after_fetch, direct_address}
use Rattle.cpu8.specs.declared.outcomes.Stepped.TheVariants.{Ran}
use Rattle.cpu8e.specs.State.{State8e}
use Rattle.cpu8e.specs.Step.{is_jump, is_transfer, next_word}
use Rattle.cpu8e.specs.Runs.{after, answer}

-- ## Words that such steps have

-- CDF, CIF or both, 62N1 to 62N3
abbrev pub changes_fields : ℕ → Bool
changes_fields w = nat_eq (w / 0o100) 0o62 && (nat_le 1 (w % 8) && nat_le (w % 8) 3)

-- of the IOTs KSF (6031), TSF (6041), RDF (6214), RIF (6224), CDF and CIF
abbrev pub is_quick_transfer : ℕ → Bool
is_quick_transfer w = nat_eq w 0o6031 || (nat_eq w 0o6041 || (nat_eq w 0o6214 || (nat_eq w 0o6224 || changes_fields w)))

-- all operates but those of group 2 with HLT
abbrev pub is_quick_operate : ℕ → Bool
is_quick_operate w = is_group_1 w || not (is_group_2 w && has_hlt w)

-- all references to memory and jumps, and those above
abbrev pub is_quick : ℕ → Bool
is_quick w = if is_jump w then true else if is_transfer w then is_quick_transfer w else is_quick_operate w

-- ## Steps

-- the next instruction is KSF, and the keyboard flag is clear
abbrev pub finds_no_key : State8e → Bool
finds_no_key s = not s.base.teletype.keyboard_flag && nat_eq (next_word s) 0o6031

-- the word after that of the next instruction
abbrev pub word_after : State8e → ℕ
word_after s = slice_index s.base.core (place s.base.instruction_field ((s.base.pc + 1) % 0o10000))

-- it is a direct JMP, 5000 to 5377, back to the next instruction
abbrev pub jumps_back : State8e → Bool
jumps_back s = nat_eq (word_after s / 0o400) 0o12 && nat_eq (direct_address (after_fetch s.base) (word_after s)) s.base.pc

-- The program may ask for a key here. It waits for one, in a KSF that finds none and a JMP back to it. Or looks count, and it looks for one,
-- by any KSF that finds none.
abbrev pub may_ask : Bool → State8e → Bool
may_ask looks s = finds_no_key s && (looks || jumps_back s)

-- The step after the first m does an instruction of such a word, which prints nothing, goes on, and may ask for no key. Interrupts are on or
-- off, and the console's are enabled or not, as at first.
pub record IsUnasked (looks : Bool) (s : State8e) (m : ℕ) : Type 0 where
  pub answer : answer m s ≡ Ran None
  pub word : is_quick (next_word (after m s)) ≡ true
  pub asks : may_ask looks (after m s) ≡ false
  pub interrupts : (after m s).base.interrupts_on ≡ s.base.interrupts_on
  pub console : (after m s).console_enabled ≡ s.console_enabled

-- each of the first k steps is such
abbrev pub AreUnasked : Bool → State8e → ℕ → Type 0
AreUnasked looks s k = (m : ℕ) → m < k → IsUnasked looks s m

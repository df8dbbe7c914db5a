-- What is done with a machine in the hands of a debugger, a change at a time (this project's profile).
use Rattle.std.specs.Prelude.{ℕ, Bool, ◌&&◌, if◌then◌else◌, List, []}
use Rattle.cpu8.specs.State.{State, after_start, switches_set, after_deposit, key_struck, printer_done}
use Rattle.cpu8.specs.Go.{printing_step, character_of}

pub data Change : Type 0 where
  -- a step; before it a quick printer ends its character
  Step : (quick : Bool) → Change
  -- a key of this character is struck
  Key : (character : ℕ) → Change
  -- a cell is given a word, as by DEP at the console
  Deposit : (cell word : ℕ) → Change
  -- the switches are set
  Switches : (word : ℕ) → Change
  -- the machine is started at a cell
  Start : (cell : ℕ) → Change

-- the state after a change
abbrev pub after_change : Change → State → State
after_change (Step quick) s = (printing_step quick s).0
after_change (Key character) s = key_struck s character
after_change (Deposit cell word) s = after_deposit s cell word
after_change (Switches word) s = switches_set s word
after_change (Start cell) s = after_start s cell

-- the characters that a change prints: at most one, and only a step prints
abbrev pub characters_of_change : Change → State → List ℕ
characters_of_change (Step quick) s = character_of (printing_step quick s).1
characters_of_change (Key character) s = []
characters_of_change (Deposit cell word) s = []
characters_of_change (Switches word) s = []
characters_of_change (Start cell) s = []

-- the state in which a step is made, once a quick printer ended its character
abbrev pub ready : Bool → State → State
ready quick s = if quick && s.teletype.busy then printer_done s else s

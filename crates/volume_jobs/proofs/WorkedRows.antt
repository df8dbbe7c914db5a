-- Worked rows: at which turn a job meets what.
use Rattle.std.proofs.Common.{◌≡◌, ℕ, Some, None, List, [], ◌∷◌, refl, inl, arith, suc, zero}
use Rattle.char_pack.specs.Packing.{block_words}
use Rattle.char_pack.specs.Texts.{words_of_text}
use Rattle.pal_lex.specs.Statements.{statements}
use Rattle.pal_faults.specs.declared.assembling.AsmFault.TheVariants.{At}
use Rattle.pal_faults.specs.declared.assembling.Code.TheVariants.{NE, UA}
use Rattle.pal_sym.specs.Permanent.{permanent}
use Rattle.bin_tape.specs.declared.faults.TapeFault.TheVariants.{BadFrame}
use Rattle.pal_blocks.specs.Blocks.{turn_of, assembling_turns}
use Rattle.pal_blocks.specs.Schedule.{fault_at_turn}
use Rattle.volume_jobs.specs.Schedule.{IsMet, loading_turns}

-- a source of one block: three turns, and no fault
turns : turn_of (assembling_turns 1) 3 ≡ 1
turns = refl

last_turn : turn_of (assembling_turns 1) 1 ≡ 3
last_turn = refl

loading_turn : turn_of (loading_turns 1) 2 ≡ 1
loading_turn = refl

-- `1;$`
first_turn : fault_at_turn 1 (words_of_text (49 ∷ 59 ∷ 36 ∷ 10 ∷ []) ∷ []) ≡ None
unfolding block_words statements
first_turn = refl

second_turn : fault_at_turn 2 (words_of_text (49 ∷ 59 ∷ 36 ∷ 10 ∷ []) ∷ []) ≡ None
unfolding block_words statements
second_turn = refl

-- `1` alone: no `$`, known at the first turn
no_end_turn : fault_at_turn 1 (words_of_text (49 ∷ 10 ∷ []) ∷ []) ≡ Some (At NE 2)
unfolding block_words statements
no_end_turn = refl

-- `Q`, `$`: known at the second turn
undefined_first : fault_at_turn 1 (words_of_text (81 ∷ 10 ∷ 36 ∷ 10 ∷ []) ∷ []) ≡ None
unfolding block_words statements
undefined_first = refl

undefined_turn : fault_at_turn 2 (words_of_text (81 ∷ 10 ∷ 36 ∷ 10 ∷ []) ∷ []) ≡ Some (At UA 1)
unfolding block_words statements permanent
undefined_turn = refl

-- the file that a STORE of no line makes is no tape: its first frame is 0232
empty_met : IsMet (words_of_text []) 1 (BadFrame 0)
unfolding block_words
empty_met = record {
  before = [];
  frame = 154;
  after = _;
  items = [];
  part = [];
  split = refl;
  not_ignore = λ e. absurd (omega (arith, e));
  not_ignored = refl;
  is_open = record { frames = refl; is_prefix = tt; begun = tt };
  refused = (refl, inl (omega arith, inl (omega arith)));
}

-- the source of a small program: no fault is known at its two reading turns
program : List ℕ
program = 42 ∷ 50 ∷ 48 ∷ 48 ∷ 59 ∷ 67 ∷ 76 ∷ 76 ∷ 32 ∷ 83 ∷ 84 ∷ 65 ∷ 59 ∷ 84 ∷ 65 ∷ 68 ∷ 32 ∷ 79 ∷ 78 ∷ 69 ∷ 59 ∷ 72 ∷ 76 ∷ 84 ∷ 59 ∷ 79 ∷ 78 ∷ 69 ∷ 44 ∷ 32 ∷ 49 ∷ 10 ∷ 36 ∷ 10 ∷ []

program_first : fault_at_turn 1 (words_of_text program ∷ []) ≡ None
unfolding block_words statements permanent program
program_first = refl

program_second : fault_at_turn 2 (words_of_text program ∷ []) ≡ None
unfolding block_words statements permanent program
program_second = refl

-- 600 lines `/`: five blocks, and no `$` is known at the fifth turn
slashes : ℕ → List ℕ
slashes zero = []
slashes (suc k) = 47 ∷ 10 ∷ slashes k

long_fourth : fault_at_turn 4 (words_of_text (slashes 600) ∷ []) ≡ None
unfolding block_words statements permanent slashes
long_fourth = refl

long_fifth : fault_at_turn 5 (words_of_text (slashes 600) ∷ []) ≡ Some (At NE 601)
unfolding block_words statements permanent slashes
long_fifth = refl

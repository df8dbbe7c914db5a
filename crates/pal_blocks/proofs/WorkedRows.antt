-- Worked rows: at which turn which fault is known. The sources are stored host texts.
use Rattle.std.proofs.Common.{◌≡◌, ℕ, Some, None, List, [], ◌∷◌, ◌++◌, codes, refl, suc, zero}
use Rattle.char_pack.specs.Packing.{block_words}
use Rattle.char_pack.specs.Texts.{words_of_text}
use Rattle.pal_lex.specs.Statements.{statements}
use Rattle.pal_faults.specs.declared.assembling.AsmFault.TheVariants.{At}
use Rattle.pal_faults.specs.declared.assembling.Code.TheVariants.{IR, NE, NU, NW, SY, UA}
use Rattle.pal_sym.specs.Permanent.{permanent}
use Rattle.pal_blocks.specs.Blocks.{turn_of, assembling_turns}
use Rattle.pal_blocks.specs.Schedule.{fault_at_turn}

lf : List ℕ
lf = 10 ∷ []

-- a source of one block: three turns, and no fault
turns : turn_of (assembling_turns 1) 3 ≡ 1
turns = refl

last_turn : turn_of (assembling_turns 1) 1 ≡ 3
last_turn = refl

first_turn : fault_at_turn 1 (words_of_text (codes "1;$" ++ lf) ∷ []) ≡ None
unfolding block_words statements lf
first_turn = refl

second_turn : fault_at_turn 2 (words_of_text (codes "1;$" ++ lf) ∷ []) ≡ None
unfolding block_words statements lf
second_turn = refl

-- no `$`, known at the first turn
no_end_turn : fault_at_turn 1 (words_of_text (codes "1" ++ lf) ∷ []) ≡ Some (At NE 2)
unfolding block_words statements lf
no_end_turn = refl

-- no line at all
no_line_turn : fault_at_turn 1 (words_of_text [] ∷ []) ≡ Some (At NE 1)
unfolding block_words statements
no_line_turn = refl

-- no word, known at the last turn that reads a block for the first time
no_word_turn : fault_at_turn 1 (words_of_text (codes "$" ++ lf) ∷ []) ≡ Some (At NW 1)
unfolding block_words statements lf
no_word_turn = refl

-- a bad number, known at the first turn
bad_number_turn : fault_at_turn 1 (words_of_text (codes "8" ++ lf ++ codes "$" ++ lf) ∷ []) ≡ Some (At NU 1)
unfolding block_words statements lf
bad_number_turn = refl

-- an undefined name, known when its block is read again
undefined_first : fault_at_turn 1 (words_of_text (codes "Q" ++ lf ++ codes "$" ++ lf) ∷ []) ≡ None
unfolding block_words statements permanent lf
undefined_first = refl

undefined_turn : fault_at_turn 2 (words_of_text (codes "Q" ++ lf ++ codes "$" ++ lf) ∷ []) ≡ Some (At UA 1)
unfolding block_words statements permanent lf
undefined_turn = refl

-- an address out of reach, too
reach_first : fault_at_turn 1 (words_of_text (codes "*200" ++ lf ++ codes "TAD A" ++ lf ++ codes "HLT" ++ lf ++ codes "*400" ++ lf ++ codes "A, 1" ++ lf ++ codes "$" ++ lf) ∷ []) ≡ None
unfolding block_words statements permanent lf
reach_first = refl

reach_turn : fault_at_turn 2 (words_of_text (codes "*200" ++ lf ++ codes "TAD A" ++ lf ++ codes "HLT" ++ lf ++ codes "*400" ++ lf ++ codes "A, 1" ++ lf ++ codes "$" ++ lf) ∷ []) ≡ Some (At IR 2)
unfolding block_words statements permanent lf
reach_turn = refl

-- 600 lines `/`: five blocks, and at the fifth turn it is known that there is no `$`
slashes : ℕ → List ℕ
slashes zero = []
slashes (suc k) = 47 ∷ 10 ∷ slashes k

long_fourth : fault_at_turn 4 (words_of_text (slashes 600) ∷ []) ≡ None
unfolding block_words statements permanent slashes
long_fourth = refl

long_fifth : fault_at_turn 5 (words_of_text (slashes 600) ∷ []) ≡ Some (At NE 601)
unfolding block_words statements permanent slashes
long_fifth = refl

-- ## Two sources, the first of which pauses

paused : List ℕ
unfolding block_words lf
paused = words_of_text (codes "A=1" ++ lf ++ codes "PAUSE" ++ lf ++ codes "THIS IS IGNORED" ++ lf)

ending : List ℕ
unfolding block_words lf
ending = words_of_text (codes "A" ++ lf ++ codes "$" ++ lf)

join_first : fault_at_turn 1 (paused ∷ ending ∷ []) ≡ None
unfolding block_words statements permanent lf paused ending
join_first = refl

join_second : fault_at_turn 2 (paused ∷ ending ∷ []) ≡ None
unfolding block_words statements permanent lf paused ending
join_second = refl

join_third : fault_at_turn 3 (paused ∷ ending ∷ []) ≡ None
unfolding block_words statements permanent lf paused ending
join_third = refl

join_fourth : fault_at_turn 4 (paused ∷ ending ∷ []) ≡ None
unfolding block_words statements permanent lf paused ending
join_fourth = refl

-- after a `$` no source says anything: the name is undefined, known when its block is read again
over_second : fault_at_turn 2 (ending ∷ paused ∷ []) ≡ None
unfolding block_words statements permanent lf paused ending
over_second = refl

over_third : fault_at_turn 3 (ending ∷ paused ∷ []) ≡ Some (At UA 1)
unfolding block_words statements permanent lf paused ending
over_third = refl

-- PAUSE in the last source is a bad statement
alone : fault_at_turn 1 (paused ∷ []) ≡ Some (At SY 2)
unfolding block_words statements permanent lf paused
alone = refl

twice_first : fault_at_turn 1 (paused ∷ paused ∷ []) ≡ None
unfolding block_words statements permanent lf paused
twice_first = refl

twice : fault_at_turn 2 (paused ∷ paused ∷ []) ≡ Some (At SY 3)
unfolding block_words statements permanent lf paused
twice = refl

-- a bad number in the second source
eight : fault_at_turn 2 (paused ∷ words_of_text (codes "8" ++ lf ++ codes "$" ++ lf) ∷ []) ≡ Some (At NU 2)
unfolding block_words statements permanent lf paused
eight = refl

-- a first source with neither PAUSE nor `$`: that is known at its end, and not at that of the second
unended : List ℕ
unfolding block_words lf
unended = words_of_text (codes "1" ++ lf)

unended_first : fault_at_turn 1 (unended ∷ ending ∷ []) ≡ Some (At NE 2)
unfolding block_words statements permanent lf unended ending
unended_first = refl

-- the second source stands without `$`: that is known at its end
unended_second : fault_at_turn 1 (paused ∷ unended ∷ []) ≡ None
unfolding block_words statements permanent lf unended paused
unended_second = refl

unended_late : fault_at_turn 2 (paused ∷ unended ∷ []) ≡ Some (At NE 3)
unfolding block_words statements permanent lf unended paused
unended_late = refl

-- Files in blocks of 256 words, and the turns in which all their blocks are read twice.
use Rattle.std.specs.Prelude.{◌≡◌, ℕ, ◌+◌, ◌-◌, ◌*◌, ◌/◌, ◌<◌, List, [], ◌∷◌, length, take, drop}
use Rattle.word12.specs.declared.sizes.TheConstants.{BLOCK}

-- how many blocks words fill
abbrev pub blocks_in : List ℕ → ℕ
blocks_in words = length words / BLOCK

-- how many blocks several files have
abbrev pub blocks_among : List (List ℕ) → ℕ
blocks_among [] = 0
blocks_among (words ∷ others) = blocks_in words + blocks_among others

-- how many blocks each of several files has
abbrev pub blocks_of_each : List (List ℕ) → List ℕ
blocks_of_each [] = []
blocks_of_each (words ∷ others) = blocks_in words ∷ blocks_of_each others

-- the words of so many first blocks of a file
abbrev pub first_blocks : ℕ → List ℕ → List ℕ
first_blocks count words = take (BLOCK * count) words

-- the first blocks of several files, file after file
abbrev pub first_among : ℕ → List (List ℕ) → List (List ℕ)
first_among count [] = []
first_among count (words ∷ others) = first_blocks count words ∷ first_among (count - blocks_in words) others

-- the words of block k of a file, counted from 0
abbrev pub block_at : ℕ → List ℕ → List ℕ
block_at k words = take BLOCK (drop (BLOCK * k) words)

-- files of whole blocks, at least one each
abbrev pub AreFiles : List (List ℕ) → Type 0
AreFiles [] = Unit {0}
AreFiles (words ∷ others) = (BLOCK * blocks_in words ≡ length words) × (0 < blocks_in words) × AreFiles others

-- the turns in which so many blocks are assembled: each reads one, all of them twice, and the last writes the target
abbrev pub assembling_turns : ℕ → ℕ
assembling_turns blocks = 2 * blocks + 1

-- the number of the turn that is taken now, by how many turns there are in all and how many are left
abbrev pub turn_of : ℕ → ℕ → ℕ
turn_of turns left = turns + 1 - left

-- The programs among blocks: core images, BIN tapes and RIM tapes, by their content alone (this project's profile).
use Rattle.std.specs.Prelude.{◌≡◌, ◌⊎◌, ℕ, ◌+◌, ◌-◌, ◌*◌, ◌/◌, ◌<◌, ◌≤◌, nat_eq, ◌||◌, ◌&&◌, Bool, true, false, List, [], ◌∷◌, length, take, drop}
use Rattle.word12.specs.declared.sizes.TheConstants.{BLOCK}
use Rattle.char_pack.specs.Packing.{frames}
use Rattle.char_pack.specs.declared.packing.TheConstants.{BLOCK_FRAMES}
use Rattle.core_image.specs.Fault.{IsSomeImage}
use Rattle.rim_tape.specs.Fault.{IsSomeRim}
use Rattle.file_kind.specs.Kinds.{IsSomeTape}
use Rattle.block_scan.specs.declared.programs.Program.{Program}
use Rattle.block_scan.specs.declared.kinds.ProgramKind.{ProgramKind}
use Rattle.block_scan.specs.declared.kinds.ProgramKind.TheVariants.{Core, Bin, Rim}

-- these words, of which these are the frames, are a program of this kind
abbrev pub IsProgram : ProgramKind → List ℕ → List ℕ → Type 0
IsProgram Core words all = IsSomeImage words
IsProgram Bin words all = IsSomeTape all
IsProgram Rim words all = IsSomeRim all

-- so many blocks at the head are one
abbrev pub Heads : ProgramKind → List ℕ → List ℕ → ℕ → Type 0
Heads kind words all size = IsProgram kind (take (BLOCK * size) words) (take (BLOCK_FRAMES * size) all)

-- no number of blocks at the head, of so many, is one
abbrev pub HeadsNone : List ℕ → List ℕ → ℕ → ProgramKind → Type 0
HeadsNone words all left kind = (n : ℕ) → 0 < n → n ≤ left → Heads kind words all n → ⊥

-- this is the least number of blocks at the head, of so many, that are one
pub record IsFewest (words all : List ℕ) (left : ℕ) (kind : ProgramKind) (size : ℕ) : Type 0 where
  pub some : 0 < size
  pub inside : size ≤ left
  pub heads : Heads kind words all size
  pub fewest : (n : ℕ) → 0 < n → Heads kind words all n → size ≤ n

-- ## What begins at a block

-- a frame of a tape's leader
abbrev pub is_leader : ℕ → Bool
is_leader frame = nat_eq frame 0 || nat_eq frame 0o200

abbrev pub are_leader : List ℕ → Bool
are_leader [] = true
are_leader (frame ∷ others) = is_leader frame && are_leader others

-- the first block has nothing but leader
abbrev pub is_blank : List ℕ → Bool
is_blank all = are_leader (take BLOCK_FRAMES all)

-- nothing begins with the first of so many blocks, or it has nothing but leader
abbrev pub BeginsNone : List ℕ → List ℕ → ℕ → Type 0
BeginsNone words all left = (is_blank all ≡ true) ⊎ (HeadsNone words all left Core × HeadsNone words all left Bin × HeadsNone words all left Rim)

-- no program of the kinds that are looked for before this one begins
abbrev pub IsFirstKind : List ℕ → List ℕ → ℕ → ProgramKind → Type 0
IsFirstKind words all left Core = Unit {0}
IsFirstKind words all left Bin = HeadsNone words all left Core
IsFirstKind words all left Rim = HeadsNone words all left Core × HeadsNone words all left Bin

-- a program of this kind and of this size begins with the first of so many blocks
pub record Begins (words all : List ℕ) (left : ℕ) (kind : ProgramKind) (size : ℕ) : Type 0 where
  pub not_blank : is_blank all ≡ false
  pub first : IsFirstKind words all left kind
  pub fewest : IsFewest words all left kind size

-- ## Those of all blocks

-- the words and the frames of a volume from a block on
abbrev pub words_from : List ℕ → ℕ → List ℕ
words_from words place = drop (BLOCK * place) words

abbrev pub frames_from : List ℕ → ℕ → List ℕ
frames_from words place = drop (BLOCK_FRAMES * place) (frames words)

-- of so many blocks nothing begins at one from this on and before another
abbrev pub BeginsNoneIn : List ℕ → ℕ → ℕ → ℕ → Type 0
BeginsNoneIn words count from to = (place : ℕ) → from ≤ place → place < to → BeginsNone (words_from words place) (frames_from words place) (count - place)

-- a program begins at the block that is given for it
abbrev pub BeginsAt : List ℕ → ℕ → Program → Type 0
BeginsAt words count program = Begins (words_from words program.place) (frames_from words program.place) (count - program.place) program.kind program.size

-- the programs that begin at a block or after it: where one ends, the next is looked for
abbrev pub AreProgramsFrom : List ℕ → ℕ → ℕ → List Program → Type 0
AreProgramsFrom words count block [] = BeginsNoneIn words count block count
AreProgramsFrom words count block (program ∷ programs) =
    (block ≤ program.place) × BeginsNoneIn words count block program.place × BeginsAt words count program × AreProgramsFrom words count (program.place + program.size) programs

-- the programs of a volume
abbrev pub AreProgramsOf : List ℕ → List Program → Type 0
AreProgramsOf words programs = AreProgramsFrom words (length words / BLOCK) 0 programs

-- Texts in words: the text of a file (OS/8 Software Support Manual), and the file of a host text (this project's
-- profile).
use Rattle.std.specs.Prelude.{ℕ, ◌+◌, ◌%◌, Bool, true, false, ◌&&◌, not, nat_eq, nat_lt, if◌then◌else◌, List, [], ◌∷◌, ◌++◌, map}
use Rattle.std.specs.List.{list_all}
use Rattle.char_pack.specs.Packing.{frames, packed_blocks}

-- control Z, which ends a text
abbrev pub control_z : ℕ
control_z = 0o32

-- the characters of frames: each without its top bit, up to the first control Z or the end
abbrev pub characters : List ℕ → List ℕ
characters [] = []
characters (frame ∷ others) =
    if nat_eq (frame % 0o200) control_z then [] else (frame % 0o200) ∷ characters others

-- whether a control Z stands in frames
abbrev pub is_ended : List ℕ → Bool
is_ended [] = false
is_ended (frame ∷ others) = if nat_eq (frame % 0o200) control_z then true else is_ended others

-- the text of words
abbrev pub text : List ℕ → List ℕ
text words = characters (frames words)

-- what a host byte becomes in a text: CR is dropped, LF becomes CR and LF
abbrev pub line_ends : ℕ → List ℕ
line_ends byte = if nat_eq byte 0o15 then [] else (if nat_eq byte 0o12 then 0o15 ∷ 0o12 ∷ [] else byte ∷ [])

-- the text that a host text becomes
abbrev pub host_text : List ℕ → List ℕ
host_text [] = []
host_text (byte ∷ host) = line_ends byte ++ host_text host

-- a host byte that may stand in a text: it has seven bits and is no control Z
abbrev pub may_stand : ℕ → Bool
may_stand byte = nat_lt byte 0o200 && not (nat_eq byte control_z)

-- a host text that can be stored
abbrev pub is_storable : List ℕ → Bool
is_storable host = list_all may_stand host

-- the frames of a text in a file: its characters, then control Z, each with the top bit set
abbrev pub text_frames : List ℕ → List ℕ
text_frames chars = map (λ character. 0o200 + character) chars ++ (0o200 + control_z) ∷ []

-- the words of a host text in a file
abbrev pub words_of_text : List ℕ → List ℕ
words_of_text host = packed_blocks (text_frames (host_text host))

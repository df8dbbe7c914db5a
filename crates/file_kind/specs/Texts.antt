-- When frames are a text (OS/8 Software Support Manual; which characters may stand in one is this project's profile).
use Rattle.std.specs.Prelude.{ℕ, ◌%◌, nat_eq, nat_le, nat_lt, Bool, true, false, ◌&&◌, ◌||◌, if◌then◌else◌, List, [], ◌∷◌}

-- a character that is seen
abbrev pub is_graphic : ℕ → Bool
is_graphic character = nat_le 0o41 character && nat_le character 0o176

-- what may stand in a text: what is seen, blanks and rubouts, BEL, TAB, LF, VT, FF and CR
abbrev pub is_text_character : ℕ → Bool
is_text_character character =
    nat_eq character 7 || ((nat_le 0o11 character && nat_le character 0o15) || (nat_le 0o40 character && nat_le character 0o177))

-- a control Z with the top bit or without
abbrev pub is_end : ℕ → Bool
is_end frame = nat_eq (frame % 0o200) 0o32

-- all frames are 0
abbrev pub all_zero : List ℕ → Bool
all_zero [] = true
all_zero (frame ∷ others) = if nat_eq frame 0 then all_zero others else false

-- up to the first control Z, or zeros to the end, each frame is that of a character that may stand in a text
abbrev pub all_stand : List ℕ → Bool
all_stand [] = true
all_stand (frame ∷ others) =
    if is_end frame then true else if nat_eq frame 0 then all_zero others else if is_text_character (frame % 0o200) then all_stand others else false

-- up to there one frame is that of a character that is seen
abbrev pub has_graphic : List ℕ → Bool
has_graphic [] = false
has_graphic (frame ∷ others) = if is_end frame then false else if is_graphic (frame % 0o200) then true else has_graphic others

abbrev pub is_text : List ℕ → Bool
is_text frames = all_stand frames && has_graphic frames

-- up to there each frame has the top bit
abbrev pub are_marked : List ℕ → Bool
are_marked [] = true
are_marked (frame ∷ others) = if nat_eq frame 0o232 then true else if nat_lt frame 0o200 then false else are_marked others

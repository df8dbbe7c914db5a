-- A host text as it is packed, its prefix already in words, for private clauses.
use Rattle.std.specs.Prelude.{ℕ, Bool, ◌&&◌, not, nat_eq, List, [], ◌∷◌, ◌++◌}
use Rattle.char_pack.specs.Packing.{words_of_bytes}
use Rattle.char_pack.specs.Texts.{host_text, text_frames}
use Rattle.char_pack.specs.declared.storing.Held.{Held}
use Rattle.char_pack.specs.declared.storing.Held.TheVariants.{Nothing, One, Two}

-- the frames of a group that are held back
abbrev pub held_bytes : Held → List ℕ
held_bytes Nothing = []
held_bytes (One first) = first ∷ []
held_bytes (Two first second) = first ∷ second ∷ []

-- the words of what is held, of a host text after it, and of control Z
abbrev pub packed_text : Held → List ℕ → List ℕ
packed_text held host = words_of_bytes (held_bytes held ++ text_frames (host_text host))

-- neither CR nor LF
abbrev pub is_plain : ℕ → Bool
is_plain byte = not (nat_eq byte 0o15) && not (nat_eq byte 0o12)

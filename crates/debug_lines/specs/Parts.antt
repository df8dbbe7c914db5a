-- Parts of a line, and what refuses it there.
use Rattle.std.specs.Prelude.{ℕ, Bool, ◌+◌, ◌-◌, nat_le, if◌then◌else◌, List, take, drop, Result, Ok, Err}
use Rattle.std.specs.Str.{bytes_eq}
use Rattle.debug_lines.specs.declared.parts.Part.{Part}
use Rattle.debug_lines.specs.declared.faults.Refusal.{Refusal}
use Rattle.debug_lines.specs.declared.faults.Refused.{Refused}

-- the bytes from one place to another
abbrev pub part : ℕ → ℕ → Part
part start end = record { start = start; end = end }

-- the bytes of a part
abbrev pub text_of : List ℕ → Part → List ℕ
text_of line part = take (part.end - part.start) (drop part.start line)

-- the place after so many bytes of a part, at most its end
abbrev pub place_after : ℕ → Part → ℕ
place_after count part = if nat_le count (part.end - part.start) then part.start + count else part.end

-- so many bytes of a part, and those that follow them
abbrev pub first_bytes : ℕ → Part → Part
first_bytes count whole = part whole.start (place_after count whole)

abbrev pub following_bytes : ℕ → Part → Part
following_bytes count whole = part (place_after count whole) whole.end

-- a part has just these bytes
abbrev pub is_word : List ℕ → List ℕ → Part → Bool
is_word word line part = bytes_eq (text_of line part) word

-- a line is refused at a place
abbrev pub refusal_of : Refused → ℕ → Refusal
refusal_of why place = record { why = why; place = place }

-- what is made of what was read, if that was not refused
abbrev pub if_read : {A B E : Type 0} → Result A E → (A → Result B E) → Result B E
if_read (Ok it) next = next it
if_read (Err why) next = Err why

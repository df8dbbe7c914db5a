-- How many bytes some lines of a text have, and the first part of a text, for private clauses.
use Rattle.std.specs.Prelude.{◌≡◌, ℕ, ◌+◌, ◌<◌, ◌≤◌, ◌==◌, Bool, true, false, if◌then◌else◌, Ok, Err, List, [], ◌∷◌, ◌++◌, length, take, drop, Result}
use Rattle.script8.specs.Lines.{says}
use Rattle.refusals.specs.declared.faults.SessionFault.{SessionFault}
use Rattle.script8.specs.declared.lines.Line.{Line}
use Rattle.script8.specs.Items.{lines_of, ended_lines, text_of}

-- what stands between parts
abbrev pub is_mark : ℕ → ℕ → Bool
is_mark mark b = b == mark

-- the first of the parts of a text
abbrev pub part_of : ℕ → List ℕ → List ℕ
part_of mark [] = []
part_of mark (b ∷ bs) = if b == mark then [] else b ∷ part_of mark bs

-- a text after bytes of a line, or after none, with an LF at its end
abbrev pub with_line_end_after : Bool → List ℕ → List ℕ
with_line_end_after begun [] = if begun then 0o12 ∷ [] else []
with_line_end_after begun (b ∷ bs) = if b == 0o12 then b ∷ with_line_end_after false bs else b ∷ with_line_end_after true bs

-- a text with an LF at its end
abbrev pub with_line_end : List ℕ → List ℕ
with_line_end text = with_line_end_after false text

-- the lines of a text that goes on begin with these, and those of the rest come after them, whatever follows
pub record HasPrefix (text : List ℕ) (prefix : List (List ℕ)) (rest : List ℕ) : Type 0 where
  pub script : (more : List ℕ) → lines_of (text ++ more) ≡ prefix ++ lines_of (rest ++ more)
  pub whole : (more : List ℕ) → ended_lines (text ++ more) ≡ prefix ++ ended_lines (rest ++ more)

-- so many lines of a text have so many bytes; where it goes on, an LF ends each
pub record Cuts (text : List ℕ) (is_end : Bool) (count bytes : ℕ) : Type 0 where
  pub prefix : List (List ℕ)
  pub within : bytes ≤ length text
  pub size : length prefix ≡ count
  pub content : text_of prefix ≡ with_line_end (take bytes text)
  pub script : lines_of text ≡ prefix ++ lines_of (drop bytes text)
  pub on : is_end ≡ false → HasPrefix text prefix (drop bytes text)

-- the first line of a text has so many bytes, and says this
pub record FirstLineSays (text : List ℕ) (is_end : Bool) (meaning : Result Line SessionFault) (bytes : ℕ) : Type 0 where
  pub line : List ℕ
  pub meaning_is : says line ≡ meaning
  pub some : 0 < bytes
  pub within : bytes ≤ length text
  pub script : lines_of text ≡ line ∷ lines_of (drop bytes text)
  pub on : is_end ≡ false → HasPrefix text (line ∷ []) (drop bytes text)

-- a text has fewer lines; where it goes on, so many more must be ended
abbrev pub TooFew : List ℕ → Bool → ℕ → ℕ → Type 0
TooFew text true count missing = (length (lines_of text) < count) × (0 < missing) × (missing ≤ count)
TooFew text false count missing = (0 < missing) × (length (ended_lines text) + missing ≡ count)

-- How many bytes so many lines have, where a text has them.
abbrev pub Cut : List ℕ → Bool → ℕ → Result ℕ ℕ → Type 0
Cut text is_end count (Err missing) = TooFew text is_end count missing
Cut text is_end count (Ok bytes) = Cuts text is_end count bytes

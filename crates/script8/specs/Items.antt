-- The items of a script (this project's profile).
use Rattle.std.specs.Prelude.{◌≡◌, ℕ, zero, suc, ◌-◌, ◌<◌, ◌≤◌, ◌==◌, nat_lt, Bool, true, false, if◌then◌else◌, List, [], ◌∷◌, ◌++◌, length, take, drop, Result, Ok, Err}
use Rattle.script8.specs.Lines.{says, HasName, onto_first}
use Rattle.script8.specs.declared.entries.Entry.TheVariants as entry
use Rattle.script8.specs.declared.entries.FileEntry.TheVariants as files
use Rattle.refusals.specs.declared.faults.SessionFault.{SessionFault}
use Rattle.refusals.specs.declared.faults.SessionFault.TheVariants.{BadLine, Memory}
use Rattle.script8.specs.declared.lines.Line.{Line}
use Rattle.script8.specs.declared.lines.Line.TheVariants as line
use Rattle.script8.specs.declared.items.Item.{Item}
use Rattle.script8.specs.declared.items.Item.TheVariants.{Do, Finish, Refused}
use Rattle.script8.specs.declared.items.Next.{Next}
use Rattle.script8.specs.declared.items.Next.TheVariants as next

-- the lines of a text: each is ended by LF, but that the last may lack it, and then isn't empty
abbrev pub lines_of : List ℕ → List (List ℕ)
lines_of [] = []
lines_of (b ∷ bs) = if b == 0o12 then [] ∷ lines_of bs else onto_first b (lines_of bs)

-- a byte before the first of some lines that are ended; where there are none, it belongs to none
abbrev pub onto_ended : ℕ → List (List ℕ) → List (List ℕ)
onto_ended b [] = []
onto_ended b (line ∷ lines) = (b ∷ line) ∷ lines

-- the lines of a text that an LF ends
abbrev pub ended_lines : List ℕ → List (List ℕ)
ended_lines [] = []
ended_lines (b ∷ bs) = if b == 0o12 then [] ∷ ended_lines bs else onto_ended b (ended_lines bs)

-- the text of lines, each followed by LF
abbrev pub text_of : List (List ℕ) → List ℕ
text_of [] = []
text_of (line ∷ lines) = line ++ 0o12 ∷ text_of lines

-- the items that a line gives, with the lines after it; a STORE whose lines are not all there gives `cut`
abbrev pub items_of_line : List Item → Result Line SessionFault → List (List ℕ) → List Item
items_of_line cut (Ok line.Empty) lines = []
items_of_line cut (Ok line.Finish) lines = Finish ∷ []
items_of_line cut (Ok (line.Store name count)) lines =
    if nat_lt (length lines) count then cut
    else Do (entry.Files (files.Store name (text_of (take count lines)))) ∷ []
items_of_line cut (Ok (line.Whole entry)) lines = Do entry ∷ []
items_of_line cut (Err fault) lines = Refused fault ∷ []

-- how many lines after a line belong to it
abbrev pub lines_taken : Result Line SessionFault → ℕ
lines_taken (Ok line.Empty) = 0
lines_taken (Ok line.Finish) = 0
lines_taken (Ok (line.Store name count)) = count
lines_taken (Ok (line.Whole entry)) = 0
lines_taken (Err fault) = 0

-- the items of lines, of which the first belong, so many, to a STORE above them
abbrev pub items_of : List Item → ℕ → List (List ℕ) → List Item
items_of cut above [] = []
items_of cut zero (line ∷ lines) =
    items_of_line cut (says line) lines ++ items_of cut (lines_taken (says line)) lines
items_of cut (suc above) (line ∷ lines) = items_of cut above lines

-- the items of a script: a STORE that its end cuts off is refused
unfoldable pub script_of : List ℕ → List Item
script_of text = items_of (Refused BadLine ∷ []) 0 (lines_of text)

-- the items of a text that goes on: those whose last line is ended
unfoldable pub whole_of : List ℕ → List Item
whole_of text = items_of [] 0 (ended_lines text)

-- the items of a text that goes on begin with these, and those of the rest come after them, whatever follows
pub record LeadsWith (text : List ℕ) (items : List Item) (rest : List ℕ) : Type 0 where
  pub script : (more : List ℕ) → script_of (text ++ more) ≡ items ++ script_of (rest ++ more)
  pub whole : (more : List ℕ) → whole_of (text ++ more) ≡ items ++ whole_of (rest ++ more)

-- a text gives these items and then those of what stands after so many bytes; where it goes on, whatever follows
pub record GivesItems (text : List ℕ) (is_end : Bool) (items : List Item) (bytes : ℕ) : Type 0 where
  pub some : 0 < bytes
  pub within : bytes ≤ length text
  pub script : script_of text ≡ items ++ script_of (drop bytes text)
  pub on : is_end ≡ false → LeadsWith text items (drop bytes text)

-- how many lines must yet be ended before the first line, with those that belong to it, is whole
abbrev pub lines_wanted : List (List ℕ) → ℕ
lines_wanted [] = 1
lines_wanted (line ∷ lines) = lines_taken (says line) - length lines

-- a text that goes on has no whole item before so many more lines are ended
abbrev pub WaitsForLines : List ℕ → ℕ → Type 0
WaitsForLines text lines = (more : List ℕ) → length (ended_lines more) < lines → whole_of (text ++ more) ≡ []

-- a text that is a script's end has no item, or one that goes on has none that is whole, and wants so many more lines
abbrev pub HasNoItem : List ℕ → Bool → ℕ → Type 0
HasNoItem text true lines = (script_of text ≡ []) × (lines ≡ 1)
HasNoItem text false lines = (0 < lines) × (lines ≡ lines_wanted (ended_lines text)) × WaitsForLines text lines

-- the first line of a text has a name, which is kept
abbrev pub BeginsWithName : List ℕ → Type 0
BeginsWithName text =
    (line : List ℕ) × (lines : List (List ℕ)) × (lines_of text ≡ line ∷ lines) × HasName (says line)

-- What a text begins with, where it is a script's end or goes on.
abbrev pub BeginsWith : List ℕ → Bool → Result Next SessionFault → Type 0
BeginsWith text is_end (Ok (next.End lines)) = HasNoItem text is_end lines
BeginsWith text is_end (Ok (next.Blank bytes)) = GivesItems text is_end [] bytes
BeginsWith text is_end (Ok (next.Item item bytes)) = GivesItems text is_end (item ∷ []) bytes
BeginsWith text is_end (Err fault) = (fault ≡ Memory) × BeginsWithName text

-- The snapshot of a machine: its registers and flags as compact JSON (RFC 8259), in this project's profile.
use Rattle.std.specs.Prelude.{ℕ, ◌/◌, Bool, true, false, List, [], ◌∷◌, ◌++◌, codes}
use Rattle.word12.specs.Octal.{octal_digit, octal4}
use Rattle.cpu8.specs.State.{State}

-- the last octal digit of a number, the last two, and the last three
abbrev pub octal1 : ℕ → List ℕ
octal1 n = octal_digit n ∷ []

abbrev pub octal2 : ℕ → List ℕ
octal2 n = octal_digit (n / 8) ∷ octal1 n

abbrev pub octal3 : ℕ → List ℕ
octal3 n = octal_digit (n / 64) ∷ octal2 n

-- What a key has: a text of octal digits, or a truth value.
pub data KeyValue : Type 0 where
  digits : List ℕ → KeyValue
  truth : Bool → KeyValue

-- the keys in their order, with what each has
abbrev pub members : State → List (List ℕ × KeyValue)
members s =
    (codes "ac", digits (octal4 s.ac))
    ∷ (codes "busy", truth s.teletype.busy)
    ∷ (codes "df", digits (octal1 s.data_field))
    ∷ (codes "held", truth s.held_off)
    ∷ (codes "ib", digits (octal1 s.instruction_buffer))
    ∷ (codes "if", digits (octal1 s.instruction_field))
    ∷ (codes "ion", truth s.interrupts_on)
    ∷ (codes "kbd", truth s.teletype.keyboard_flag)
    ∷ (codes "key", digits (octal3 s.teletype.buffer))
    ∷ (codes "l", digits (octal1 s.l))
    ∷ (codes "pc", digits (octal4 s.pc))
    ∷ (codes "printer", truth s.teletype.printer_flag)
    ∷ (codes "run", truth s.running)
    ∷ (codes "sf", digits (octal2 s.save_field))
    ∷ (codes "switches", digits (octal4 s.switches))
    ∷ (codes "wait", truth s.waiting)
    ∷ []

abbrev pub shown_text : KeyValue → List ℕ
shown_text (digits ds) = codes "\"" ++ (ds ++ codes "\"")
shown_text (truth true) = codes "true"
shown_text (truth false) = codes "false"

-- a key, a colon and what it has
abbrev pub member_text : List ℕ × KeyValue → List ℕ
member_text m = codes "\"" ++ (m.0 ++ (codes "\":" ++ shown_text m.1))

-- members after the first, each with a comma before it
abbrev pub later_text : List (List ℕ × KeyValue) → List ℕ
later_text [] = []
later_text (m ∷ ms) = codes "," ++ (member_text m ++ later_text ms)

-- an object of members, with no space
abbrev pub object_text : List (List ℕ × KeyValue) → List ℕ
object_text [] = codes "{}"
object_text (m ∷ ms) = codes "{" ++ (member_text m ++ (later_text ms ++ codes "}"))

-- the snapshot, byte for byte
unfoldable pub snapshot : State → List ℕ
snapshot s = object_text (members s)

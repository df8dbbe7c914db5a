-- What is read of lines is what they say.
use Rattle.std.proofs.Common.{◌≡◌, ℕ, ◌+◌, nat_eq, Bool, true, false, ◌&&◌, ◌||◌, not, if◌then◌else◌, Option, Some, None, Result, Ok, Err, List, [], ◌∷◌, ◌++◌, length, reverse, append-nil, append_assoc, refl, ap, sym, subst, ◌∙◌, arith}
use Rattle.std.proofs.lemmas.List.{reverse-append}
use Rattle.source_names.specs.Names.{AreNames, cell_in, lines_from, name_at, name_in, names_cell, names_number, Reading, read_of, says_nothing, short_name, six_places, why_refused, why_taken, with_entry, with_line, with_lines}
use Rattle.source_names.specs.Said.{AreSaid, AreTaken, is_this, IsFirstRefused, refusal_after, name_said, say_either, why_after}
use Rattle.pal_faults.specs.declared.names.LineRefusal.{LineRefusal}
use Rattle.source_names.specs.declared.faults.NamesFault.{NamesFault}
use Rattle.source_names.specs.declared.faults.NamesFault.TheVariants.{At, Memory}
use Rattle.source_names.proofs.NameLemmas.{number_is, sticks}

-- what was read tells what lines say, the newest first
record Tells (read : Reading) (older : List (List ℕ)) : Type 0 where
  count : read.lines ≡ length older
  given : (cell number : ℕ) → (names_number read.entries number || names_cell read.entries cell) ≡ say_either older cell number
  names : (cell : ℕ) → name_at read.entries cell ≡ name_said older cell

-- ## One line

-- what a line more comes to
abbrev Judges : (ℕ → Option ℕ) → List (List ℕ) → List ℕ → Result Reading NamesFault → Type 0
Judges words older line (Ok now) = (refusal_after words older line ≡ None) × Tells now (line ∷ older)
Judges words older line (Err (At number why)) = (refusal_after words older line ≡ Some why) × (number ≡ length older + 1)
Judges words older line (Err Memory) = ⊥

-- the same by what the line is made of
abbrev judged_by : (ℕ → Option ℕ) → List (List ℕ) → Bool → Option ℕ → List ℕ → Option ℕ → Option LineRefusal
judged_by words older nothing cell name number = if nothing then None else why_after words older cell name number

abbrev either_by : Bool → Option ℕ → Option ℕ → ℕ → ℕ → Bool
either_by nothing cell number c n = (not nothing && is_this number n) || (not nothing && is_this cell c)

record TellsBy (nothing : Bool) (cell : Option ℕ) (name : List ℕ) (number : Option ℕ) (now : Reading) (older : List (List ℕ)) : Type 0 where
  count : now.lines ≡ length older + 1
  given : (c n : ℕ) → (names_number now.entries n || names_cell now.entries c) ≡ (either_by nothing cell number c n || say_either older c n)
  names : (c : ℕ) → name_at now.entries c ≡ (if not nothing && is_this cell c then Some (six_places name) else name_said older c)

abbrev JudgesBy : (ℕ → Option ℕ) → List (List ℕ) → Bool → Option ℕ → List ℕ → Option ℕ → Result Reading NamesFault → Type 0
JudgesBy words older nothing cell name number (Ok now) =
    (judged_by words older nothing cell name number ≡ None) × TellsBy nothing cell name number now older
JudgesBy words older nothing cell name number (Err (At place why)) =
    (judged_by words older nothing cell name number ≡ Some why) × (place ≡ length older + 1)
JudgesBy words older nothing cell name number (Err Memory) = ⊥

shuffled : (a b c d : Bool) → ((a || b) || (c || d)) ≡ ((a || c) || (b || d))
shuffled true b c d = refl
shuffled false true true d = refl
shuffled false true false d = refl
shuffled false false c d = refl

given_one : (words : ℕ → Option ℕ) (read : Reading) (older : List (List ℕ)) (cell number : ℕ) (name : List ℕ) → Tells read older
    → short_name name ≡ Some number → (found : Option LineRefusal) → why_taken (words cell) (say_either older cell number) name number ≡ found
    → JudgesBy words older false (Some cell) name (Some number) (with_entry read (Some cell) name found)
given_one words read older cell number name tells short (Some why) found = (found, ap (λ n. n + 1) tells.count)
given_one words read older cell number name tells short None found = (
  found,
  record {
    count = ap (λ n. n + 1) tells.count;
    given = λ c n.
        ap (λ m. (nat_eq m n || names_number read.entries n) || (nat_eq cell c || names_cell read.entries c)) (sym (number_is name number short))
        ∙ shuffled (nat_eq number n) (names_number read.entries n) (nat_eq cell c) (names_cell read.entries c)
        ∙ ap (λ b. (nat_eq number n || nat_eq cell c) || b) (tells.given c n);
    names = λ c. ap (λ o. if nat_eq cell c then Some (six_places name) else o) (tells.names c);
  },
)

judges_by : (words : ℕ → Option ℕ) (read : Reading) (older : List (List ℕ)) (nothing : Bool) (cell : Option ℕ) (name : List ℕ) (number : Option ℕ)
    → Tells read older → short_name name ≡ number
    → JudgesBy words older nothing cell name number
    (if nothing then Ok (record read { lines = read.lines + 1 }) else with_entry read cell name (why_refused words read.entries cell name number))
judges_by words read older true cell name number tells short =
    (refl, record { count = ap (λ n. n + 1) tells.count; given = tells.given; names = tells.names })
judges_by words read older false None name number tells short = (refl, ap (λ n. n + 1) tells.count)
judges_by words read older false (Some cell) name None tells short = (refl, ap (λ n. n + 1) tells.count)
judges_by words read older false (Some cell) name (Some number) tells short =
    subst (λ g. JudgesBy words older false (Some cell) name (Some number) (with_entry read (Some cell) name (why_taken (words cell) g name number)))
    (sym (tells.given cell number)) (given_one words read older cell number name tells short _ refl)

judges : (words : ℕ → Option ℕ) (read : Reading) (older : List (List ℕ)) (line : List ℕ) → Tells read older
    → Judges words older line (with_line words read line)
judges words read older line tells =
    whole (with_line words read line) (judges_by words read older (says_nothing line) (cell_in line) (name_in line) (short_name (name_in line)) tells refl)
  where
    whole : (result : Result Reading NamesFault)
        → JudgesBy words older (says_nothing line) (cell_in line) (name_in line) (short_name (name_in line)) result → Judges words older line result
    whole (Ok now) by = (by.0, record { count = by.1.count ∙ omega arith; given = by.1.given; names = by.1.names })
    whole (Err (At number why)) by = by
    whole (Err Memory) by = by

-- ## All lines

-- what lines come to after others
abbrev Reads : (ℕ → Option ℕ) → List (List ℕ) → Result Reading NamesFault → Type 0
Reads words lines (Ok now) = (all : List (List ℕ)) × (lines ≡ reverse all) × AreTaken words all × Tells now all
Reads words lines (Err (At number why)) = IsFirstRefused words lines number why
Reads words lines (Err Memory) = ⊥

next_line : (older lines : List (List ℕ)) (line : List ℕ) → reverse older ++ line ∷ lines ≡ reverse (line ∷ older) ++ lines
next_line older lines line =
    sym (append_assoc (reverse older) (line ∷ []) lines) ∙ ap (λ l. l ++ lines) (sym (reverse-append (line ∷ []) older))

reads : (words : ℕ → Option ℕ) (read : Reading) (older lines : List (List ℕ)) → Tells read older → AreTaken words older
    → Reads words (reverse older ++ lines) (with_lines words (Ok read) lines)
reads words read older [] tells taken = (older, append-nil (reverse older), taken, tells)
reads words read older (line ∷ lines) tells taken =
    by_result (with_line words read line) (judges words read older line tells)
    (λ now is_none told.
    subst (λ l. Reads words l (with_lines words (Ok now) lines)) (sym (next_line older lines line))
    (reads words now (line ∷ older) lines told (is_none, taken)))
  where
    by_result : (result : Result Reading NamesFault) → Judges words older line result
        → ((now : Reading) → refusal_after words older line ≡ None → Tells now (line ∷ older)
        → Reads words (reverse older ++ line ∷ lines) (with_lines words (Ok now) lines))
        → Reads words (reverse older ++ line ∷ lines) (with_lines words result lines)
    by_result (Ok now) is more = more now is.0 is.1
    by_result (Err (At number why)) is more =
        subst (Reads words (reverse older ++ line ∷ lines)) (sym (sticks words (At number why) lines))
        (record { older = older; line = line; later = lines; are = refl; taken = taken; refused = is.0; count = is.1 })
    by_result (Err Memory) is more = absurd is

abbrev start : Reading
start = record { lines = 0; entries = [] }

text_reads : (words : ℕ → Option ℕ) (text : List ℕ) → Reads words (lines_from [] text) (read_of words text)
text_reads words text = reads words start [] (lines_from [] text) (record { count = refl; given = λ cell number. refl; names = λ cell. refl }) tt

pub are_said : (words : ℕ → Option ℕ) (text : List ℕ) (table : List (Option (List ℕ))) → AreNames words text table
    → AreSaid words (lines_from [] text) table
are_said words text table names =
    let is = subst (Reads words (lines_from [] text)) names.is (text_reads words text) in
    record { newest_first = is.0; are = is.1; taken = is.2; names = λ cell small. names.names cell small ∙ is.3.names cell }

pub first_refused : (words : ℕ → Option ℕ) (text : List ℕ) (number : ℕ) (why : LineRefusal) → read_of words text ≡ Err (At number why)
    → IsFirstRefused words (lines_from [] text) number why
first_refused words text number why is = subst (Reads words (lines_from [] text)) is (text_reads words text)

-- Each statement that is shown is its word.
use Rattle.std.proofs.Common.{◌≡◌, ◌≢◌, ℕ, ◌+◌, ◌*◌, ◌/◌, ◌%◌, ◌<◌, nat_eq, Bool, true, false, true≢false, if◌then◌else◌, Option, None, inl, inr, length, reverse, List, [], ◌∷◌, ◌++◌, refl, ap, sym, ◌∙◌, arith}
use Rattle.std.specs.Prelude.{codes}
use Rattle.std.proofs.lemmas.Bool.Decides.{eqb_tells}
use Rattle.bin_tape.specs.Items.{Item, IsPrefix, tape_map}
use Rattle.bin_tape.specs.Pairs.{ArePairs, last_word}
use Rattle.bin_tape.specs.Writing.{next_field, is_next, newest_cell}
use Rattle.word12.specs.Octal.{octal4}
use Rattle.tape_source.specs.Patterns.{patterns, patterns_of, names}
use Rattle.flow8.specs.Exits.{address_of_reference, referred_cell}
use Rattle.tape_source.specs.References.{operation_name, is_reference}
use Rattle.source_notes.specs.Notes.{note_lines}
use Rattle.tape_source.specs.Looks.{Look, AreNotes, is_tagged, IsNaming}
use Rattle.tape_source.specs.Saying.{SameLook}
use Rattle.tape_source.specs.Statements.{datum, instruction_by, reference, is_named, statement}
use Rattle.tape_source.specs.Lines.{with_lead, line_end, field_line, origin_line, comment, tag_part, word_line, cell_lines, lines_of, source_with}
use Rattle.tape_source.specs.Sources.{IsReadAs, Says, words_of_tape}
use Rattle.tape_source.proofs.ReferenceLemmas.{referred_inside, shown_reference}
use Rattle.tape_source.proofs.NameLemmas.{shown_names}
use Rattle.tape_source.proofs.DatumLemmas.{shown_number, inside_field, shown_datum}
use Rattle.tape_source.proofs.TapeLemmas.{last_of_tape, below_pairs}
use Rattle.tape_source.proofs.SourceLemmas.{IsShown, AreShown}
use Rattle.tape_source.proofs.WholeLemmas.{source_read}

shown : (look : Look) (tagged : ℕ → Bool) (cell word : ℕ) → IsNaming look.name → cell < 32768 → word < 4096 → IsShown look tagged cell word (statement look tagged cell word)
shown look tagged cell word naming inside small = by_cell (look.is_code cell) refl
  where
    second_kind : (n : Bool) → look.is_code cell ≡ true → is_reference (cell % 4096) word ≡ false → is_named word ≡ n
        → IsShown look tagged cell word (if n then names (patterns_of word patterns) else octal4 word ∷ [])
    second_kind true code apart e = shown_names look tagged cell word code apart e
    second_kind false code apart e =
        shown_number look tagged cell word record { reference = λ c r g. absurd (true≢false (sym r ∙ apart)); datum = λ d n g. absurd (true≢false (sym code ∙ d)) } small

    first_kind : (r : Bool) → look.is_code cell ≡ true → is_reference (cell % 4096) word ≡ r
        → IsShown look tagged cell word (if r then reference look.name tagged cell word else (if is_named word then names (patterns_of word patterns) else octal4 word ∷ []))
    first_kind true code e = shown_reference look tagged cell word naming inside code e
    first_kind false code e = second_kind (is_named word) code e refl

    by_cell : (b : Bool) → look.is_code cell ≡ b → IsShown look tagged cell word (if b then instruction_by look.name tagged cell word else datum look.name tagged cell word)
    by_cell true e = first_kind (is_reference (cell % 4096) word) e refl
    by_cell false e = shown_datum look tagged cell word naming inside small e

pub are_shown : (look : Look) (tagged : ℕ → Bool) (pairs : List (ℕ × ℕ)) → IsNaming look.name → ArePairs pairs → AreShown look tagged pairs
are_shown look tagged [] naming all = tt
are_shown look tagged (pair ∷ pairs) naming all = (all.0, shown look tagged pair.0 pair.1 naming all.0 all.1, are_shown look tagged pairs naming all.2)

pub reads_back : (look : Look) (pairs : List (ℕ × ℕ)) → AreNotes look → IsNaming look.name → ArePairs pairs → 0 < length pairs
    → IsReadAs (source_with look pairs) (reverse pairs)
reads_back look [] notes naming all some = absurd (omega (arith, some))
reads_back look (pair ∷ pairs) notes naming all some =
    source_read look pair pairs notes naming (are_shown look (is_tagged look (pair ∷ pairs)) (pair ∷ pairs) naming all)

-- ## The same instructions, and the same cells tagged

-- what two names or two numbers are
same_name : (c d : Look) (f g : ℕ → Bool) → SameLook c d → ((cell : ℕ) → cell < 32768 → f cell ≡ g cell) → (cell : ℕ) (other : List ℕ) → cell < 32768
    → (if f cell then c.name cell else other) ≡ (if g cell then d.name cell else other)
same_name c d f g look same cell other small =
    ap (λ (b : Bool). if b then c.name cell else other) (same cell small) ∙ ap (λ l. if g cell then l else other) (look.names cell small)

same_instruction : (c d : Look) (f g : ℕ → Bool) → SameLook c d → ((cell : ℕ) → cell < 32768 → f cell ≡ g cell) → (cell word : ℕ) → cell < 32768
    → instruction_by c.name f cell word ≡ instruction_by d.name g cell word
same_instruction c d f g look same cell word small =
    ap (λ (a : List ℕ). if is_reference (cell % 4096) word then operation_name (word / 512) ∷ (if nat_eq (word / 256 % 2) 1 then codes "I" ∷ [] else []) ++ a ∷ []
    else (if is_named word then names (patterns_of word patterns) else octal4 word ∷ []))
    (same_name c d f g look same (referred_cell cell word) (octal4 (address_of_reference (cell % 4096) word)) (referred_inside cell word small))

same_statement : (c d : Look) (f g : ℕ → Bool) → SameLook c d → ((cell : ℕ) → cell < 32768 → f cell ≡ g cell) → (cell word : ℕ) → cell < 32768
    → word < 4096 → statement c f cell word ≡ statement d g cell word
same_statement c d f g look same cell word small low =
    ap (λ (b : Bool). if b then instruction_by c.name f cell word else datum c.name f cell word) (look.code cell small)
    ∙ ap (λ l. if d.is_code cell then l else datum c.name f cell word) (same_instruction c d f g look same cell word small)
    ∙ ap (λ l. if d.is_code cell then instruction_by d.name g cell word else (if nat_eq word 0 then octal4 word else l) ∷ [])
    (same_name c d f g look same (4096 * (cell / 4096) + word) (octal4 word) (inside_field cell word small low))

same_word_line : (c d : Look) (f g : ℕ → Bool) → SameLook c d → ((cell : ℕ) → cell < 32768 → f cell ≡ g cell) → (cell word : ℕ) → cell < 32768
    → word < 4096 → word_line c f cell word ≡ word_line d g cell word
same_word_line c d f g look same cell word small low =
    let end = 9 ∷ comment cell word in
    ap (λ (b : Bool). (if b then c.name cell ++ 44 ∷ [] else []) ++ with_lead 9 (statement c f cell word) ++ end ++ c.remark cell ++ line_end) (same cell small)
    ∙ ap (λ l. (if g cell then l ++ 44 ∷ [] else []) ++ with_lead 9 (statement c f cell word) ++ end ++ c.remark cell ++ line_end) (look.names cell small)
    ∙ ap (λ s. tag_part d.name g cell ++ with_lead 9 s ++ end ++ c.remark cell ++ line_end) (same_statement c d f g look same cell word small low)
    ∙ ap (λ r. tag_part d.name g cell ++ with_lead 9 (statement d g cell word) ++ end ++ r ++ line_end) (look.remark cell small)

same_cell_lines : (c d : Look) (f g : ℕ → Bool) → SameLook c d → ((cell : ℕ) → cell < 32768 → f cell ≡ g cell) → (before : Option ℕ) (cell word : ℕ) → cell < 32768
    → word < 4096 → cell_lines c f before cell word ≡ cell_lines d g before cell word
same_cell_lines c d f g look same before cell word small low =
    let prefix = (if nat_eq (cell / 4096) (next_field before) then [] else field_line cell) ++ (if is_next before cell then [] else origin_line cell) in
    ap (λ n. prefix ++ note_lines n ++ word_line c f cell word ++ (if c.has_gap cell then line_end else [])) (look.above cell small)
    ∙ ap (λ l. prefix ++ note_lines (d.above cell) ++ l ++ (if c.has_gap cell then line_end else [])) (same_word_line c d f g look same cell word small low)
    ∙ ap (λ (b : Bool). prefix ++ note_lines (d.above cell) ++ word_line d g cell word ++ (if b then line_end else [])) (look.gaps cell small)

-- looks that tell the same leave the same lines
pub same_lines : (c d : Look) (f g : ℕ → Bool) → SameLook c d → ((cell : ℕ) → cell < 32768 → f cell ≡ g cell) → (pairs : List (ℕ × ℕ)) → ArePairs pairs
    → lines_of c f pairs ≡ lines_of d g pairs
same_lines c d f g look same [] all = refl
same_lines c d f g look same (pair ∷ older) all =
    ap (λ l. l ++ cell_lines c f (newest_cell older) pair.0 pair.1) (same_lines c d f g look same older all.2)
    ∙ ap (λ l. lines_of d g older ++ l) (same_cell_lines c d f g look same (newest_cell older) pair.0 pair.1 all.0 all.1)

-- ## The source of a tape

nothing_after : (a b : List ℕ) → a ++ b ≡ [] → b ≡ []
nothing_after [] b e = e
nothing_after (x ∷ a) b e = absurd cc

not_nothing : (x : ℕ) (l : List ℕ) → x ∷ l ≡ [] → ⊥
not_nothing x l e = cc

nothing_before : (a b : List ℕ) → a ++ b ≡ [] → a ≡ []
nothing_before [] b e = refl
nothing_before (x ∷ a) b e = absurd (not_nothing x (a ++ b) e)

some_line : (before line gap : List ℕ) → before ++ (line ++ 13 ∷ 10 ∷ []) ++ gap ≡ [] → ⊥
some_line before line gap e =
    not_nothing 13 (10 ∷ []) (nothing_after line (13 ∷ 10 ∷ []) (nothing_after before (line ++ 13 ∷ 10 ∷ []) (nothing_before (before ++ (line ++ 13 ∷ 10 ∷ [])) gap e)))

no_lines : (look : Look) (tagged : ℕ → Bool) (pairs : List (ℕ × ℕ)) → lines_of look tagged pairs ≡ [] → pairs ≡ []
no_lines look tagged [] e = refl
no_lines look tagged (pair ∷ older) e =
    absurd (some_line _ (tag_part look.name tagged pair.0 ++ with_lead 9 (statement look tagged pair.0 pair.1) ++ 9 ∷ comment pair.0 pair.1 ++ look.remark pair.0) _
    (nothing_after (lines_of look tagged older) (cell_lines look tagged (newest_cell older) pair.0 pair.1) e))

some_pair : (look : Look) (tagged : ℕ → Bool) (pairs : List (ℕ × ℕ)) → lines_of look tagged pairs ≢ [] → 0 < length pairs
some_pair look tagged [] some = absurd (some refl)
some_pair look tagged (pair ∷ pairs) some = omega arith

-- the source of a tape that gives a word says what the tape says
pub source_says : (look : Look) (items : List Item) → AreNotes look → IsNaming look.name → IsPrefix items → lines_of look (is_tagged look (words_of_tape items)) (words_of_tape items) ≢ []
    → Says (source_with look (words_of_tape items)) items
source_says look items notes naming prefix some =
    let words = words_of_tape items in
    let read = reads_back look words notes naming (below_pairs items 32768 prefix) (some_pair look (is_tagged look words) words some) in
    record {
      no_fault = read.no_fault;
      pairs = read.pairs_are;
      map = λ cell. ap (λ p. last_word p cell) read.pairs_are ∙ last_of_tape 32768 items (omega arith) prefix cell;
    }

-- a tape with no line gives no word
pub gives_none : (look : Look) (tagged : ℕ → Bool) (items : List Item) → IsPrefix items → lines_of look tagged (words_of_tape items) ≡ []
    → (cell : ℕ) → tape_map items cell ≡ None
gives_none look tagged items prefix none cell =
    sym (last_of_tape 32768 items (omega arith) prefix cell) ∙ ap (λ p. last_word (reverse p) cell) (no_lines look tagged (words_of_tape items) none)

true_not : false ≡ true → ⊥
true_not e = cc

is_zero : (n : ℕ) → nat_eq n 0 ≡ true → n ≡ 0
is_zero n e = elim (eqb_tells n 0) [ inl same ↦ same.1 | inr other ↦ absurd (true_not (sym other.0 ∙ e)) ]

pub no_bytes : (bytes : List ℕ) (count : ℕ) → count ≡ length bytes → nat_eq count 0 ≡ true → bytes ≡ []
no_bytes [] count many e = refl
no_bytes (b ∷ bytes) count many e = let none = is_zero count e in absurd (omega (arith, many, none))

pub some_bytes : (bytes : List ℕ) (count : ℕ) → count ≡ length bytes → nat_eq count 0 ≡ false → bytes ≢ []
some_bytes bytes count many e nothing = true_not (sym e ∙ ap (λ n. nat_eq n 0) (many ∙ ap length nothing))

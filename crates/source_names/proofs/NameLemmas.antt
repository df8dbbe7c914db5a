-- What lines give.
use Rattle.std.proofs.Common.{◌≡◌, ◌⊎◌, inl, inr, ℕ, zero, suc, ◌+◌, ◌<◌, ◌≤◌, nat_eq, nat_le, Bool, true, false, true≢false, ◌||◌, if◌then◌else◌, Option, Some, None, is_some, Result, Ok, Err, OnOk, IfErr, List, [], ◌∷◌, ◌++◌, length, replicate, take, drop, get_or, slice_index_or, append-nil, append_assoc, refl, ap, sym, ◌∙◌, arith}
use Rattle.std.proofs.lemmas.Bool.{cases_lt}
use Rattle.std.proofs.Math.Seq.{take-append_seam}
use Rattle.std.proofs.lemmas.Bool.Decides.{eqb_tells}
use Rattle.std.proofs.lemmas.List.{get_or-replicate, get_or_default, get_or_past, length-replicate, take_all, take_more, take-append-drop}
use Rattle.word12.specs.declared.sizes.TheConstants.{CORE}
use Rattle.pal_lex.specs.Language.{is_reserved}
use Rattle.pal_sym.specs.Names.{is_name, name_number}
use Rattle.pal_sym.specs.Permanent.{permanent}
use Rattle.pal_sym.specs.SymbolTable.{SymbolTable}
use Rattle.pal_sym.specs.Values.{if_none, symbol_value}
use Rattle.flow8.specs.Flow.{word_in}
use Rattle.source_names.specs.Names.{AreNames, cell_in, Entry, has_tag_form, is_taken, IsFault, last_line, lines_from, name_at, name_in, names_cell, names_number, Reading, read_of, says_nothing, short_name, six_places, why_refused, why_taken, with_entry, with_line, with_lines, without_return}
use Rattle.source_names.specs.Steps.{Holds, line_length, TakesLine, TakesText}
use Rattle.pal_faults.specs.declared.names.LineRefusal.{LineRefusal}
use Rattle.pal_faults.specs.declared.names.LineRefusal.TheVariants.{Permanent, Tag, Twice, NoCell}
use Rattle.source_names.specs.declared.faults.NamesFault.{NamesFault}
use Rattle.source_names.specs.declared.faults.NamesFault.TheVariants.{At, Memory}

-- ## The CR at a line's end

last_byte : (before : List ℕ) (last : ℕ) → without_return (before ++ last ∷ []) ≡ (if nat_eq last 0o15 then before else before ++ last ∷ [])
last_byte [] last = refl
last_byte (first ∷ []) last = pushed first [] (last ∷ []) (nat_eq last 0o15)
  where
    pushed : (first : ℕ) (xs ys : List ℕ) (b : Bool) → first ∷ (if b then xs else ys) ≡ (if b then first ∷ xs else first ∷ ys)
    pushed first xs ys true = refl
    pushed first xs ys false = refl
last_byte (first ∷ second ∷ before) last =
    ap (λ l. first ∷ l) (last_byte (second ∷ before) last) ∙ pushed first (second ∷ before) (second ∷ before ++ last ∷ []) (nat_eq last 0o15)
  where
    pushed : (first : ℕ) (xs ys : List ℕ) (b : Bool) → first ∷ (if b then xs else ys) ≡ (if b then first ∷ xs else first ∷ ys)
    pushed first xs ys true = refl
    pushed first xs ys false = refl

whole_line : (line : List ℕ) (count last : ℕ) → count + 1 ≡ length line → last ≡ get_or line count 0 → line ≡ take count line ++ last ∷ []
whole_line line count last size is =
    sym (take_all (count + 1) line (omega (arith, size)))
    ∙ take_more line count 0 (omega (arith, size))
    ∙ ap (λ b. take count line ++ b ∷ []) (sym is)

pub return_goes : (line : List ℕ) (count last : ℕ) → count + 1 ≡ length line → last ≡ get_or line count 0 → last ≡ 0o15
    → take count line ≡ without_return line
return_goes line count last size is return =
    sym (ap without_return (whole_line line count last size is) ∙ last_byte (take count line) last ∙ rw return refl)

pub others_stay : (line : List ℕ) (count last : ℕ) → count + 1 ≡ length line → last ≡ get_or line count 0 → (last ≡ 0o15 → ⊥)
    → line ≡ without_return line
others_stay line count last size is apart =
    elim (eqb_tells last 0o15) [
      | inl same ↦ absurd (apart same.1)
      | inr other ↦
          whole_line line count last size is
          ∙ sym (last_byte (take count line) last ∙ ap (λ (b : Bool). if b then take count line else take count line ++ last ∷ []) other.0)
          ∙ sym (ap without_return (whole_line line count last size is))
    ]

-- ## Judging a line

-- a cell was given where it has a name
cell_given : (entries : List Entry) (cell : ℕ) → is_some (name_at entries cell) ≡ names_cell entries cell
cell_given [] cell = refl
cell_given (entry ∷ older) cell = split (nat_eq entry.cell cell) (cell_given older cell)
  where
    split : (b : Bool) → is_some (name_at older cell) ≡ names_cell older cell
        → is_some (if b then Some (six_places entry.name) else name_at older cell) ≡ (b || names_cell older cell)
    split true others = refl
    split false others = others

number_given : (given : SymbolTable) (entries : List Entry) (number : ℕ)
    → symbol_value given number ≡ if_none (permanent number) (if names_number entries number then Some 0 else None) → permanent number ≡ None
    → is_some (symbol_value given number) ≡ names_number entries number
number_given given entries number is none =
    ap (λ o. is_some o) (is ∙ ap (λ o. if_none o (if names_number entries number then Some 0 else None)) none) ∙ split (names_number entries number)
  where
    split : (b : Bool) → is_some {T = ℕ} (if b then Some 0 else None) ≡ b
    split true = refl
    split false = refl

same_why : (word : Option ℕ) (a b : Bool) (name : List ℕ) (number : ℕ) → (permanent number ≡ None → a ≡ b)
    → why_taken word a name number ≡ why_taken word b name number
same_why word a b name number same = by_value (permanent number) refl
  where
    by_value : (o : Option ℕ) → permanent number ≡ o → why_taken word a name number ≡ why_taken word b name number
    by_value None is = ap (λ g. why_taken word g name number) (same is)
    by_value (Some value) is = taken a ∙ sym (taken b)
      where
        taken : (g : Bool) → why_taken word g name number ≡ Some Permanent
        taken g =
            ap (λ o. if is_some o || is_reserved number then Some Permanent
            else (if has_tag_form name then Some Tag else (if g then Some Twice else (if is_some word then None else Some NoCell)))) is

pub judged : (words : ℕ → Option ℕ) (read : Reading) (table : List (Option (List ℕ))) (given : SymbolTable) (line name : List ℕ) (cell number : ℕ)
    (is_given : Bool)
    (word : Option ℕ) → Holds table given read.entries → says_nothing line ≡ false → cell_in line ≡ Some cell → name ≡ name_in line
    → short_name name ≡ Some number
    → words cell ≡ word → is_given ≡ (is_some (symbol_value given number) || is_some (slice_index_or table cell None))
    → with_line words read line ≡ with_entry read (Some cell) name (why_taken word is_given name number)
judged words read table given line name cell number is_given word holds says cell_is name_is number_is word_is given_is =
    ap (λ (b : Bool). if b then Ok (record read { lines = read.lines + 1 })
    else with_entry read (cell_in line) (name_in line) (why_refused words read.entries (cell_in line) (name_in line) (short_name (name_in line))))
    says
    ∙ ap (λ n. with_entry read (cell_in line) n (why_refused words read.entries (cell_in line) n (short_name n))) (sym name_is)
    ∙ ap (λ o. with_entry read o name (why_refused words read.entries o name (short_name name))) cell_is
    ∙ ap (λ o. with_entry read (Some cell) name (why_refused words read.entries (Some cell) name o)) number_is
    ∙ ap (λ w. with_entry read (Some cell) name (why_taken w (names_number read.entries number || names_cell read.entries cell) name number)) word_is
    ∙ ap (λ w. with_entry read (Some cell) name w) (sym (same_why word is_given (names_number read.entries number || names_cell read.entries cell)
    name number same))
  where
    same : permanent number ≡ None → is_given ≡ (names_number read.entries number || names_cell read.entries cell)
    same none =
        given_is
        ∙ ap (λ b. b || is_some (slice_index_or table cell None)) (number_given given read.entries number (holds.numbers number) none)
        ∙ ap (λ b. names_number read.entries number || b) (ap (λ o. is_some o) (holds.names cell) ∙ cell_given read.entries cell)

-- a line that says nothing
pub nothing_said : (words : ℕ → Option ℕ) (read : Reading) (line : List ℕ) → says_nothing line ≡ true
    → with_line words read line ≡ Ok (record read { lines = read.lines + 1 })
nothing_said words read line says =
    ap (λ (b : Bool). if b then Ok (record read { lines = read.lines + 1 })
    else with_entry read (cell_in line) (name_in line) (why_refused words read.entries (cell_in line) (name_in line) (short_name (name_in line))))
    says

-- one that is refused
pub refused : (words : ℕ → Option ℕ) (read : Reading) (line name : List ℕ) (cell number : ℕ) (found : Option LineRefusal) (why : LineRefusal) → number ≡ read.lines + 1
    → with_line words read line ≡ with_entry read (Some cell) name found → found ≡ Some why → with_line words read line ≡ Err (At number why)
refused words read line name cell number found why same is judged =
    is ∙ ap (λ o. with_entry read (Some cell) name o) judged ∙ ap (λ n. Err (At n why)) (sym same)

-- one that gives a name
pub gives : (words : ℕ → Option ℕ) (read : Reading) (line name : List ℕ) (cell : ℕ) (found : Option LineRefusal) (table : List (Option (List ℕ)))
    (given : SymbolTable)
    (result : Result (Unit {0}) NamesFault) → with_line words read line ≡ with_entry read (Some cell) name found → found ≡ None
    → OnOk result (Holds table given (record { cell = cell; name = name } ∷ read.entries)) → IfErr result (λ fault. fault ≡ Memory)
    → TakesLine words read line table given result
gives words read line name cell found table given (Ok done) is none ok err = (
  record { lines = read.lines + 1; entries = record { cell = cell; name = name } ∷ read.entries },
  is ∙ ap
      (λ o. with_entry read (Some cell) name o) none,
  ok,
)
gives words read line name cell found table given (Err (At number why)) is none ok err = absurd cc
gives words read line name cell found table given (Err Memory) is none ok err = tt

-- the number of a short name
pub number_is : (name : List ℕ) (number : ℕ) → short_name name ≡ Some number → number ≡ name_number name
number_is name number is = split (nat_le (length name) 6) (is_name name) is
  where
    split : (a b : Bool) → (if a then (if b then Some (name_number name) else None) else None) ≡ Some number → number ≡ name_number name
    split true true is = cc
    split true false is = absurd cc
    split false b is = absurd cc

-- a name that isn't refused is new
pub is_new : (word : Option ℕ) (name : List ℕ) (number : ℕ) (a : Option ℕ) (b : Bool) → why_taken word (is_some a || b) name number ≡ None → a ≡ None
is_new word name number None b none = refl
is_new word name number (Some value) b none = absurd (split (is_taken number) (has_tag_form name) none)
  where
    split : (taken tag : Bool) → (if taken then Some Permanent else (if tag then Some Tag else Some Twice)) ≡ None → ⊥
    split true tag is = cc
    split false true is = cc
    split false false is = cc

-- ## What is read in place

pub read_word : (words : List (Option ℕ)) (index cell : ℕ) (word : Option ℕ) → length words ≡ CORE → word ≡ slice_index_or words index word
    → index ≡ cell
    → index < CORE → word_in words cell ≡ word
read_word words index cell word size is same inside =
    ap (word_in words) (sym same) ∙ sym (is ∙ get_or_default words index word None (omega (arith, size, inside)))

-- ## The lines of a text

-- what the lines so far came to, before those that are left
pub record TakesTo (words : ℕ → Option ℕ) (text rest : List ℕ) (number : ℕ) (table : List (Option (List ℕ))) (given : SymbolTable) : Type 0 where
  pub read : Reading
  pub count : number ≡ read.lines
  pub is : read_of words text ≡ with_lines words (Ok read) (lines_from [] rest)
  pub holds : Holds table given read.entries

-- a line, and what stands after its LF
cut : (before rest : List ℕ) (first : ℕ) (others : List ℕ) → drop (line_length rest) rest ≡ first ∷ others
    → lines_from before rest ≡ without_return (before ++ take (line_length rest) rest) ∷ lines_from [] others
cut before [] first others is = absurd cc
cut before (byte ∷ bytes) first others is = split (nat_eq byte 0o12) is (cut (before ++ byte ∷ []) bytes first others)
  where
    split : (b : Bool) → drop (if b then 0 else suc (line_length bytes)) (byte ∷ bytes) ≡ first ∷ others
        → (drop (line_length bytes) bytes ≡ first ∷ others
        → lines_from (before ++ byte ∷ []) bytes ≡ without_return ((before ++ byte ∷ []) ++ take (line_length bytes) bytes) ∷ lines_from [] others)
        → (if b then without_return before ∷ lines_from [] bytes else lines_from (before ++ byte ∷ []) bytes)
        ≡ without_return (before ++ take (if b then 0 else suc (line_length bytes)) (byte ∷ bytes)) ∷ lines_from [] others
    split true is more =
        let same : bytes ≡ others = cc in
        ap (λ l. without_return before ∷ lines_from [] l) same ∙ ap (λ l. without_return l ∷ lines_from [] others) (sym (append-nil before))
    split false is more =
        more is ∙ ap (λ l. without_return l ∷ lines_from [] others) (append_assoc before (byte ∷ []) (take (line_length bytes) bytes))

-- the last line, which no LF ends
end : (before rest : List ℕ) → drop (line_length rest) rest ≡ [] → lines_from before rest ≡ last_line (before ++ take (line_length rest) rest)
end before [] is = ap last_line (sym (append-nil before))
end before (byte ∷ bytes) is = split (nat_eq byte 0o12) is (end (before ++ byte ∷ []) bytes)
  where
    split : (b : Bool) → drop (if b then 0 else suc (line_length bytes)) (byte ∷ bytes) ≡ []
        → (drop (line_length bytes) bytes ≡ [] → lines_from (before ++ byte ∷ []) bytes ≡ last_line
        ((before ++ byte ∷ []) ++ take (line_length bytes) bytes))
        → (if b then without_return before ∷ lines_from [] bytes else lines_from (before ++ byte ∷ []) bytes)
        ≡ last_line (before ++ take (if b then 0 else suc (line_length bytes)) (byte ∷ bytes))
    split true is more = absurd cc
    split false is more = more is ∙ ap last_line (append_assoc before (byte ∷ []) (take (line_length bytes) bytes))

-- the first line of what is left, and the rest
lines_split : (rest : List ℕ) → 0 < length rest
    → lines_from [] rest ≡ without_return (take (line_length rest) rest) ∷ lines_from [] (drop 1 (drop (line_length rest) rest))
lines_split [] some = absurd (omega (arith, some))
lines_split (byte ∷ bytes) some = by_end (drop (line_length (byte ∷ bytes)) (byte ∷ bytes)) refl
  where
    count : ℕ
    count = line_length (byte ∷ bytes)

    line : List ℕ
    line = take (line_length (byte ∷ bytes)) (byte ∷ bytes)

    empty : byte ∷ bytes ≡ [] → ⊥
    empty is = cc

    last : (l : List ℕ) → (l ≡ [] → ⊥) → last_line l ≡ without_return l ∷ []
    last [] some = absurd (some refl)
    last (b ∷ l) some = refl

    by_end : (following : List ℕ) → drop (line_length (byte ∷ bytes)) (byte ∷ bytes) ≡ following
        → lines_from [] (byte ∷ bytes) ≡ without_return line ∷ lines_from [] (drop 1 following)
    by_end [] is =
        end [] (byte ∷ bytes) is
        ∙ last line (λ none. empty (sym (take-append-drop count (byte ∷ bytes)) ∙ ap (λ l. l ++ drop count (byte ∷ bytes)) none ∙ is))
    by_end (first ∷ others) is = cut [] (byte ∷ bytes) first others is

-- where one is refused the text is
pub sticks : (words : ℕ → Option ℕ) (fault : NamesFault) (lines : List (List ℕ)) → with_lines words (Err fault) lines ≡ Err fault
sticks words fault [] = refl
sticks words fault (line ∷ lines) = refl

abbrev told : Reading → Result Reading NamesFault
told read = Ok read

-- a line more is counted
counted : (words : ℕ → Option ℕ) (read now : Reading) (line : List ℕ) → with_line words read line ≡ Ok now → now.lines ≡ read.lines + 1
counted words read now line is =
    split (says_nothing line) (cell_in line) (name_in line) (why_refused words read.entries (cell_in line) (name_in line)
    (short_name (name_in line))) is
  where
    same : (r : Reading) → r.lines ≡ read.lines + 1 → told r ≡ told now → now.lines ≡ read.lines + 1
    same r lines is = let e : r ≡ now = cc in sym (ap (λ (x : Reading). x.lines) e) ∙ lines

    split : (nothing : Bool) (cell : Option ℕ) (name : List ℕ) (why : Option LineRefusal)
        → (if nothing then Ok (record read { lines = read.lines + 1 }) else with_entry read cell name why) ≡ Ok now → now.lines ≡ read.lines + 1
    split true cell name why is = same (record read { lines = read.lines + 1 }) refl is
    split false None name None is = same (record read { lines = read.lines + 1 }) refl is
    split false (Some cell) name None is =
        same (record { lines = read.lines + 1; entries = record { cell = cell; name = name } ∷ read.entries }) refl is
    split false None name (Some why) is = absurd cc
    split false (Some cell) name (Some why) is = absurd cc

pub takes_none : (words : ℕ → Option ℕ) (text : List ℕ) (table : List (Option (List ℕ))) (given : SymbolTable) → Holds table given []
    → TakesTo words text text 0 table given
takes_none words text table given holds = record { read = record { lines = 0; entries = [] }; count = refl; is = refl; holds = holds }

-- the lines that are left begin with this one
next_line : (words : ℕ → Option ℕ) (text rest line following : List ℕ) (read : Reading)
    → read_of words text ≡ with_lines words (Ok read) (lines_from [] rest) → 0 < length rest
    → line ≡ without_return (take (line_length rest) rest) → following ≡ drop 1 (drop (line_length rest) rest)
    → read_of words text ≡ with_lines words (with_line words read line) (lines_from [] following)
next_line words text rest line following read is some line_is following_is =
    is
    ∙ ap (with_lines words (Ok read)) (lines_split rest some)
    ∙ ap (λ l. with_lines words (with_line words read l) (lines_from [] (drop 1 (drop (line_length rest) rest)))) (sym line_is)
    ∙ ap (λ l. with_lines words (with_line words read line) (lines_from [] l)) (sym following_is)

pub takes_more : (words : ℕ → Option ℕ) (text rest line following : List ℕ) (number number' : ℕ) (table table' : List (Option (List ℕ)))
    (given given' : SymbolTable)
    → 0 < length rest → line ≡ without_return (take (line_length rest) rest) → following ≡ drop 1 (drop (line_length rest) rest) → number' ≡ number + 1
    → TakesTo words text rest number table given
    → ((read : Reading) → number' ≡ read.lines + 1 → Holds table given read.entries → (now : Reading) × (with_line words read line ≡ Ok now) × Holds
    table' given' now.entries)
    → TakesTo words text following number' table' given'
takes_more words text rest line following number number' table table' given given' some line_is following_is next so_far takes =
    let counts = next ∙ ap (λ n. n + 1) so_far.count in
    let more = takes so_far.read counts so_far.holds in
    record {
      read = more.0;
      count = counts ∙ sym (counted words so_far.read more.0 line more.1);
      is =
          next_line words text rest line following so_far.read so_far.is some line_is following_is
          ∙ ap (λ r. with_lines words r (lines_from [] following)) more.1;
      holds = more.2;
    }

-- a line is refused
pub stops : (words : ℕ → Option ℕ) (text rest line : List ℕ) (number number' : ℕ) (table table' : List (Option (List ℕ))) (given given' : SymbolTable)
    (fault : NamesFault) → 0 < length rest → line ≡ without_return (take (line_length rest) rest) → number' ≡ number + 1
    → TakesTo words text rest number table given
    → ((read : Reading) → number' ≡ read.lines + 1 → Holds table given read.entries → TakesLine words read line table' given' (Err fault))
    → IsFault words text fault
stops words text rest line number number' table table' given given' Memory some line_is next so_far takes = tt
stops words text rest line number number' table table' given given' (At place why) some line_is next so_far takes =
    let counts = next ∙ ap (λ n. n + 1) so_far.count in
    next_line words text rest line (drop 1 (drop (line_length rest) rest)) so_far.read so_far.is some line_is refl
    ∙ ap (λ r. with_lines words r (lines_from [] (drop 1 (drop (line_length rest) rest)))) (takes so_far.read counts so_far.holds)
    ∙ sticks words (At place why) (lines_from [] (drop 1 (drop (line_length rest) rest)))

-- none is left
pub taken_all : (words : ℕ → Option ℕ) (text rest : List ℕ) (number : ℕ) (table : List (Option (List ℕ))) (given : SymbolTable) → length rest ≡ 0
    → TakesTo words text rest number table given → TakesText words text table given
taken_all words text [] number table given none so_far = record { read = so_far.read; is = so_far.is; holds = so_far.holds }
taken_all words text (byte ∷ bytes) number table given none so_far = absurd (omega (arith, none))

-- the table is the names'
pub are_names : (words : ℕ → Option ℕ) (text : List ℕ) (table : List (Option (List ℕ))) (given : SymbolTable) → TakesText words text table given
    → AreNames words text table
are_names words text table given takes = record { read = takes.read; is = takes.is; names = λ cell small. takes.holds.names cell }

-- ## What the loop reads

pub is_left : (n : ℕ) → false ≡ nat_eq n 0 → 0 < n
is_left zero is = absurd (true≢false (sym is))
is_left (suc n) is = omega arith

pub line_before : (rest front line : List ℕ) (count : ℕ) → count ≡ line_length rest → front ≡ take count rest → line ≡ without_return front
    → line ≡ without_return (take (line_length rest) rest)
line_before rest front line count size front_is line_is = line_is ∙ ap without_return (front_is ∙ ap (λ n. take n rest) size)

pub line_following : (rest back following : List ℕ) (count : ℕ) → count ≡ line_length rest → back ≡ drop count rest → following ≡ drop 1 back
    → following ≡ drop 1 (drop (line_length rest) rest)
line_following rest back following count size back_is following_is = following_is ∙ ap (λ l. drop 1 l) (back_is ∙ ap (λ n. drop n rest) size)

-- ## The table

all_same : (count cell : ℕ) (none : Option (List ℕ)) → slice_index_or (replicate count none) cell none ≡ none
all_same count cell none = at (cases_lt cell count)
  where
    at : (cell < count) ⊎ (count ≤ cell) → slice_index_or (replicate count none) cell none ≡ none
    at (inl within) = get_or-replicate count cell none none within
    at (inr beyond) = get_or_past (replicate count none) cell none (omega (arith, beyond, length-replicate count none))

-- no name is given yet
pub holds_none : (count : ℕ) (table : List (Option (List ℕ))) (given : SymbolTable) → CORE ≡ count → table ≡ replicate count None
    → ((number : ℕ) → symbol_value given number ≡ permanent number) → Holds table given []
holds_none count table given size is values = record {
  size = ap (λ l. length l) is ∙ length-replicate count None ∙ sym size;
  names = λ cell. ap (λ l. slice_index_or l cell None) is ∙ all_same count cell None;
  numbers = λ number. values number ∙ or_none (permanent number);
}
  where
    or_none : (o : Option ℕ) → o ≡ if_none o None
    or_none None = refl
    or_none (Some value) = refl

-- what a slice of a whole vector leaves of it
pub whole_written : (count : ℕ) (new old : List (Option (List ℕ))) → length new ≡ count → take count (new ++ drop (length new) old) ≡ new
whole_written count new old size = rw (sym size) (take-append_seam new (drop (length new) old))

pub whole_size : (all count : ℕ) (new old : List (Option (List ℕ))) → CORE ≡ all → length new ≡ count → length new ≡ all
    → length (take count (new ++ drop (length new) old)) ≡ CORE
whole_size all count new old is size sizes = ap (λ l. length l) (whole_written count new old size) ∙ sizes ∙ sym is

pub all_none : (count : ℕ) (table : List (Option (List ℕ))) → table ≡ replicate count None → length table ≡ count
all_none count table is = ap (λ l. length l) is ∙ length-replicate count None

-- The names of a text are names of their own.
use Rattle.std.proofs.Common.{◌≡◌, ℕ, zero, suc, ◌+◌, ◌-◌, ◌≤◌, inl, inr, nat_eq, nat_le, Bool, true, false, true≢false, ◌||◌, if◌then◌else◌, Option, Some, None, is_some, Result, Ok, Err, List, [], ◌∷◌, length, refl, ap, sym, subst, ◌∙◌, arith}
use Rattle.std.proofs.lemmas.Bool.{and_from, and_parts, leb-true}
use Rattle.std.proofs.lemmas.Bool.Decides.{eqb_tells}
use Rattle.word12.specs.Sixbit.{is_digit, is_letter, sixbit_code}
use Rattle.pal_sym.specs.Names.{all_coded, is_name, name_number}
use Rattle.source_names.specs.Laws.{AreDifferent, AreGiven, IsGiven, visible_name}
use Rattle.source_names.specs.Names.{AreNames, cell_in, Entry, has_tag_form, is_taken, lines_from, name_at, name_in, names_cell, names_number, Reading, says_nothing, short_name, six_places, why_refused, why_taken, with_entry, with_line, with_lines}
use Rattle.pal_faults.specs.declared.names.LineRefusal.{LineRefusal}
use Rattle.pal_faults.specs.declared.names.LineRefusal.TheVariants.{Permanent, Tag, Twice, NoCell}
use Rattle.source_names.specs.declared.faults.NamesFault.{NamesFault}
use Rattle.source_names.proofs.NameLemmas.{number_is}

-- ## Six places

abbrev places : ℕ → List ℕ → List ℕ
places zero name = []
places (suc count) [] = 0 ∷ places count []
places (suc count) (byte ∷ others) = byte ∷ places count others

are_places : (name : List ℕ) → six_places name ≡ places 6 name
are_places [] = refl
are_places (a ∷ []) = refl
are_places (a ∷ b ∷ []) = refl
are_places (a ∷ b ∷ c ∷ []) = refl
are_places (a ∷ b ∷ c ∷ d ∷ []) = refl
are_places (a ∷ b ∷ c ∷ d ∷ e ∷ []) = refl
are_places (a ∷ b ∷ c ∷ d ∷ e ∷ f ∷ others) = refl

-- a letter or a digit isn't 0
some_byte : (byte : ℕ) → is_some (sixbit_code byte) ≡ true → nat_eq byte 0 ≡ false
some_byte byte coded = elim (eqb_tells byte 0) [
  | inl same ↦ absurd (true≢false (sym coded ∙ ap (λ b. is_some (sixbit_code b)) same.1))
  | inr other ↦ other.0
]

shows : (count : ℕ) (name : List ℕ) → all_coded name ≡ true → length name ≤ count → visible_name (places count name) ≡ name
shows zero [] coded short = refl
shows (suc count) [] coded short = refl
shows zero (byte ∷ others) coded short = absurd (omega (arith, short))
shows (suc count) (byte ∷ others) coded short =
    let parts = and_parts (is_some (sixbit_code byte)) (all_coded others) coded in
    ap (λ (b : Bool). if b then [] else byte ∷ visible_name (places count others)) (some_byte byte parts.0)
    ∙ ap (λ l. byte ∷ l) (shows count others parts.1 (omega (arith, short)))

-- a name's characters are letters and digits
pub coded : (name : List ℕ) → is_name name ≡ true → all_coded name ≡ true
coded [] is = absurd (true≢false (sym is))
coded (first ∷ others) is =
    let parts = and_parts (is_letter first) (all_coded others) is in
    and_from (is_some (sixbit_code first)) (all_coded others) (letter (is_letter first) parts.0) parts.1
  where
    letter : (b : Bool) → b ≡ true → is_some (if b then Some (first - 0o100) else (if is_digit first then Some first else None)) ≡ true
    letter true is = refl
    letter false is = absurd (true≢false (sym is))

-- a short name is shown as it is
pub six_show : (name : List ℕ) (number : ℕ) → short_name name ≡ Some number → visible_name (six_places name) ≡ name
six_show name number is = ap visible_name (are_places name) ∙ split (nat_le (length name) 6) refl (is_name name) refl is
  where
    split : (a : Bool) → nat_le (length name) 6 ≡ a → (b : Bool) → is_name name ≡ b
        → (if a then (if b then Some (name_number name) else None) else None) ≡ Some number → visible_name (places 6 name) ≡ name
    split true short true named is = shows 6 name (coded name named) (leb-true (length name) 6 short)
    split true short false named is = absurd cc
    split false short b named is = absurd cc

-- ## What lines give

-- each was free when it was given
abbrev pub AreSound : (ℕ → Option ℕ) → List Entry → Type 0
AreSound words [] = Unit {0}
AreSound words (entry ∷ older) =
    IsGiven words entry.cell entry.name × (names_number older (name_number entry.name) ≡ false) × AreSound words older

-- a name that isn't refused
free : (word : Option ℕ) (given : Bool) (name : List ℕ) (number : ℕ) → why_taken word given name number ≡ None
    → (is_taken number ≡ false) × (has_tag_form name ≡ false) × (given ≡ false) × (is_some word ≡ true)
free word given name number none = split (is_taken number) (has_tag_form name) given word none
  where
    split : (taken tag given : Bool) (word : Option ℕ)
        → (if taken then Some Permanent else (if tag then Some Tag else
        (if given then Some Twice else (if is_some word then None else Some NoCell)))) ≡ None
        → (taken ≡ false) × (tag ≡ false) × (given ≡ false) × (is_some word ≡ true)
    split true tag given word none = absurd cc
    split false true given word none = absurd cc
    split false false true word none = absurd cc
    split false false false None none = absurd cc
    split false false false (Some value) none = (refl, refl, refl, refl)

abbrev told : Reading → Result Reading NamesFault
told read = Ok read

-- the entries of what is told
same_entries : (words : ℕ → Option ℕ) (a b : Reading) → told a ≡ told b → AreSound words a.entries → AreSound words b.entries
same_entries words a b is sound = let e : a ≡ b = cc in subst (λ (r : Reading). AreSound words r.entries) e sound

sound_line : (words : ℕ → Option ℕ) (read now : Reading) (line : List ℕ) → AreSound words read.entries → with_line words read line ≡ told now
    → AreSound words now.entries
sound_line words read now line sound is = split (says_nothing line) (cell_in line) (name_in line) (short_name (name_in line)) refl is
  where
    gives : (cell number : ℕ) (name : List ℕ) → short_name name ≡ Some number → (found : Option LineRefusal)
        → why_taken (words cell) (names_number read.entries number || names_cell read.entries cell) name number ≡ found
        → with_entry read (Some cell) name found ≡ told now → AreSound words now.entries
    gives cell number name short (Some why) why_is is = absurd cc
    gives cell number name short None why_is is =
        let own = free (words cell) (names_number read.entries number || names_cell read.entries cell) name number why_is in
        let same = number_is name number short in
        same_entries words (record { lines = read.lines + 1; entries = record { cell = cell; name = name } ∷ read.entries }) now is (
          record {
            own = record {
              is_name = short ∙ ap (λ n. Some n) same;
              not_taken = ap is_taken (sym same) ∙ own.0;
              no_tag = own.1;
            };
            word = own.3;
          },
          ap (names_number read.entries) (sym same) ∙ neither (names_number read.entries number) (names_cell read.entries cell) own.2,
          sound,
        )
      where
        neither : (a b : Bool) → (a || b) ≡ false → a ≡ false
        neither true b is = absurd (true≢false is)
        neither false b is = refl

    split : (nothing : Bool) (cell : Option ℕ) (name : List ℕ) (number : Option ℕ) → short_name name ≡ number
        → (if nothing then Ok (record read { lines = read.lines + 1 }) else with_entry read cell name
        (why_refused words read.entries cell name number)) ≡ told now
        → AreSound words now.entries
    split true cell name number short is = same_entries words (record read { lines = read.lines + 1 }) now is sound
    split false None name number short is = absurd cc
    split false (Some cell) name None short is = absurd cc
    split false (Some cell) name (Some number) short is = gives cell number name short _ refl is

sound_lines : (words : ℕ → Option ℕ) (result : Result Reading NamesFault) (now : Reading) (lines : List (List ℕ))
    → ((read : Reading) → result ≡ told read → AreSound words read.entries) → with_lines words result lines ≡ told now → AreSound words now.entries
sound_lines words result now [] sound is = sound now is
sound_lines words (Err fault) now (line ∷ lines) sound is = absurd cc
sound_lines words (Ok read) now (line ∷ lines) sound is =
    sound_lines words (with_line words read line) now lines (λ next told_is. sound_line words read next line (sound read refl) told_is) is

pub sound_text : (words : ℕ → Option ℕ) (text : List ℕ) (table : List (Option (List ℕ))) (names : AreNames words text table)
    → AreSound words names.read.entries
sound_text words text table names =
    sound_lines words (told start) names.read (lines_from [] text) (λ read is. same_entries words start read is tt) names.is
  where
    start : Reading
    start = record { lines = 0; entries = [] }

-- ## What a cell is given

-- the name of a cell, before it is put in six places
pub record IsNamed (words : ℕ → Option ℕ) (entries : List Entry) (cell : ℕ) (six : List ℕ) : Type 0 where
  pub name : List ℕ
  pub is : visible_name six ≡ name
  pub given : IsGiven words cell name
  pub among : names_number entries (name_number name) ≡ true

either_number : (a b : Bool) → b ≡ true → (a || b) ≡ true
either_number true b is = refl
either_number false b is = is

same_number : (number : ℕ) → nat_eq number number ≡ true
same_number number = elim (eqb_tells number number) [ inl same ↦ same.0 | inr other ↦ absurd (other.1 refl) ]

named : (words : ℕ → Option ℕ) (entries : List Entry) (cell : ℕ) (six : List ℕ) → AreSound words entries → name_at entries cell ≡ Some six
    → IsNamed words entries cell six
named words [] cell six sound is = absurd cc
named words (entry ∷ older) cell six sound is =
    elim (eqb_tells entry.cell cell) [
      | inl same ↦
          let six_is : Some (six_places entry.name) ≡ Some six =
          sym (ap (λ (b : Bool). if b then Some (six_places entry.name) else name_at older cell) same.0) ∙ is in
          let six_same : six ≡ six_places entry.name = cc in
          record {
            name = entry.name;
            is = ap visible_name six_same ∙ six_show entry.name (name_number entry.name) sound.0.own.is_name;
            given = subst (λ c. IsGiven words c entry.name) same.1 sound.0;
            among = ap (λ (b : Bool). b || names_number older (name_number entry.name)) (same_number (name_number entry.name));
          }
      | inr other ↦
          let found =
          named words older cell six sound.2 (sym (ap (λ (b : Bool). if b then Some (six_places entry.name) else name_at older cell) other.0) ∙ is) in
          record {
            name = found.name;
            is = found.is;
            given = found.given;
            among =
                either_number (nat_eq (name_number entry.name) (name_number found.name)) (names_number older (name_number found.name)) found.among;
          }
    ]

-- two cells with the same name are one
pub one_cell : (words : ℕ → Option ℕ) (entries : List Entry) (a b : ℕ) (six other : List ℕ) → AreSound words entries → name_at entries a ≡ Some six
    → name_at entries b ≡ Some other → name_number (visible_name six) ≡ name_number (visible_name other) → a ≡ b
one_cell words [] a b six other sound is is' same = absurd cc
one_cell words (entry ∷ older) a b six other sound is is' same =
    elim (eqb_tells entry.cell a) [
      | inl first ↦ elim (eqb_tells entry.cell b) [
        | inl second ↦ sym first.1 ∙ second.1
        | inr apart ↦ absurd (never six other (at_first a six first.0 is) (named words older b other sound.2 (following b other apart.0 is')) same)
      ]
      | inr apart ↦ elim (eqb_tells entry.cell b) [
        | inl second ↦ absurd (never other six (at_first b other second.0 is') (named words older a six sound.2 (following a six apart.0 is)) (sym same))
        | inr apart' ↦ one_cell words older a b six other sound.2 (following a six apart.0 is) (following b other apart'.0 is') same
      ]
    ]
  where
    following : (cell : ℕ) (six : List ℕ) → nat_eq entry.cell cell ≡ false → name_at (entry ∷ older) cell ≡ Some six → name_at older cell ≡ Some six
    following cell six apart is = sym (ap (λ (b : Bool). if b then Some (six_places entry.name) else name_at older cell) apart) ∙ is

    at_first : (cell : ℕ) (six : List ℕ) → nat_eq entry.cell cell ≡ true → name_at (entry ∷ older) cell ≡ Some six → visible_name six ≡ entry.name
    at_first cell six here is =
        let six_is : Some (six_places entry.name) ≡ Some six =
        sym (ap (λ (b : Bool). if b then Some (six_places entry.name) else name_at older cell) here) ∙ is in
        let six_same : six ≡ six_places entry.name = cc in
        ap visible_name six_same ∙ six_show entry.name (name_number entry.name) sound.0.own.is_name

    never : (six other : List ℕ) → visible_name six ≡ entry.name → {cell : ℕ} → IsNamed words older cell other
        → name_number (visible_name six) ≡ name_number (visible_name other) → ⊥
    never six other first found same =
        let number : name_number found.name ≡ name_number entry.name = ap name_number (sym found.is) ∙ sym same ∙ ap name_number first in
        true≢false (sym found.among ∙ ap (names_number older) number ∙ sound.1)

pub are_given : (words : ℕ → Option ℕ) (text : List ℕ) (table : List (Option (List ℕ))) → AreNames words text table → AreGiven words table
are_given words text table names cell six small is =
    let found = named words names.read.entries cell six (sound_text words text table names) (sym (names.names cell small) ∙ is) in
    subst (IsGiven words cell) (sym found.is) found.given

pub are_different : (words : ℕ → Option ℕ) (text : List ℕ) (table : List (Option (List ℕ))) → AreNames words text table → AreDifferent table
are_different words text table names a b six other small small' is is' same =
    one_cell words names.read.entries a b six other (sound_text words text table names) (sym (names.names a small) ∙ is)
    (sym (names.names b small') ∙ is') same

-- The names that a text gives are names of their own, and have not the form of tags.
use Rattle.std.proofs.Common.{◌≡◌, ℕ, ◌-◌, ◌%◌, ◌<◌, nat_le, Bool, true, false, true≢false, ◌&&◌, ◌||◌, if◌then◌else◌, Option, Some, None, is_some, List, [], ◌∷◌, length, slice_index_or, refl, ap, sym, subst, ◌∙◌}
use Rattle.word12.specs.declared.sizes.TheConstants.{CORE, FIELD}
use Rattle.word12.specs.Sixbit.{is_digit, is_letter, name_number, sixbit_code}
use Rattle.pal_lex.specs.Cutting.{are_coded, is_coded}
use Rattle.pal_lex.specs.Language.{is_reserved}
use Rattle.pal_lex.specs.Statements.{statements}
use Rattle.pal_lex.specs.Text.{text_of}
use Rattle.pal_asm.specs.Places.{values}
use Rattle.bin_tape.specs.Items.{Item, tape_map}
use Rattle.pal_sym.specs.Names as sym_names
use Rattle.pal_sym.specs.Names.{all_coded}
use Rattle.pal_sym.specs.Permanent.{permanent}
use Rattle.source_names.specs.Laws.{AreDifferent, AreGiven, IsOwnName, visible_name}
use Rattle.source_names.specs.Names.{has_tag_form, short_name}
use Rattle.tape_source.specs.Tags.{is_referred, tag}
use Rattle.tape_source.specs.Defined.{DefinesNames, DefinesTags}
use Rattle.tape_source.specs.Lines.{source_with}
use Rattle.tape_source.specs.Looks.{AreOwnNames, as_shown, names_in, is_name, Look, or_tag, with_names}
use Rattle.tape_source.specs.Sources.{words_of_tape}
use Rattle.tape_source.proofs.ByteLemmas.{neither}
use Rattle.tape_source.proofs.FlowLemmas.{none_is}
use Rattle.tape_source.proofs.FormLemmas.{tag_form}
use Rattle.tape_source.proofs.MarkLemmas.{given_below}
use Rattle.tape_source.proofs.TagLemmas.{tag_is_name}

-- ## Names of six characters

coded_same : (byte : ℕ) → is_some (sixbit_code byte) ≡ is_coded byte
coded_same byte = split (is_letter byte) (is_digit byte)
  where
    split : (a b : Bool) → is_some (if a then Some (byte - 0o100) else (if b then Some byte else None)) ≡ (a || b)
    split true b = refl
    split false true = refl
    split false false = refl

all_same : (bytes : List ℕ) → all_coded bytes ≡ are_coded bytes
all_same [] = refl
all_same (byte ∷ bytes) = ap (λ b. b && all_coded bytes) (coded_same byte) ∙ ap (λ b. is_coded byte && b) (all_same bytes)

name_same : (name : List ℕ) → sym_names.is_name name ≡ is_name name
name_same [] = refl
name_same (first ∷ others) = ap (λ b. is_letter first && b) (all_same others)

tag_short : (cell : ℕ) → short_name (tag cell) ≡ Some (name_number (tag cell))
tag_short cell = ap (λ (b : Bool). if b then Some (name_number (tag cell)) else None) (name_same (tag cell) ∙ tag_is_name cell)

short_is_name : (name : List ℕ) (number : ℕ) → short_name name ≡ Some number → is_name name ≡ true
short_is_name name number is = sym (name_same name) ∙ split (nat_le (length name) 6) (sym_names.is_name name) refl is
  where
    split : (a b : Bool) → sym_names.is_name name ≡ b → (if a then (if b then Some (name_number name) else None) else None) ≡ Some number
        → sym_names.is_name name ≡ true
    split true true e is = e
    split true false e is = absurd cc
    split false b e is = absurd cc

-- ## The names of a table

-- a name that is shown is one of the table
record IsShownAs (found : Option (List ℕ)) (name : List ℕ) : Type 0 where
  six : List ℕ
  is : found ≡ Some six
  same : visible_name six ≡ name

shown_as : (found : Option (List ℕ)) (name : List ℕ) → as_shown found ≡ Some name → IsShownAs found name
shown_as None name e = absurd cc
shown_as (Some six) name e = record { six = six; is = refl; same = cc }

own_name : (words : ℕ → Option ℕ) (table : List (Option (List ℕ))) → AreGiven words table → (cell : ℕ) (name : List ℕ) → cell < CORE → names_in table cell ≡ Some name
    → IsOwnName name
own_name words table given cell name small e =
    let found = shown_as (slice_index_or table cell None) name e in subst IsOwnName found.same (given cell found.six small found.is).own

pub own_names : (words : ℕ → Option ℕ) (table : List (Option (List ℕ))) → AreGiven words table → AreDifferent table
    → ((x y : List ℕ) (number : ℕ) → short_name x ≡ Some number → short_name y ≡ Some number → x ≡ y) → AreOwnNames (names_in table)
own_names words table given different spelled = record {
  are_names = λ cell name small e. short_is_name name (name_number name) (own_name words table given cell name small e).is_name;
  differ = λ a b name other small little e f same.
      let first = shown_as (slice_index_or table a None) name e in
      let second = shown_as (slice_index_or table b None) other f in
      different a b first.six second.six small little first.is second.is (ap name_number first.same ∙ same ∙ sym (ap name_number second.same));
  not_permanent = λ cell name small e.
      none_is (permanent (name_number name))
      (neither (is_some (permanent (name_number name))) (is_reserved (name_number name)) (own_name words table given cell name small e).not_taken).0;
  not_reserved = λ cell name small e.
      (neither (is_some (permanent (name_number name))) (is_reserved (name_number name)) (own_name words table given cell name small e).not_taken).1;
  no_tags = λ cell other name small little e same.
      let own = own_name words table given cell name small e in
      let is = spelled name (tag other) (name_number name) own.is_name (tag_short other ∙ ap (λ n. Some n) (sym same)) in
      true≢false (sym (tag_form other) ∙ ap has_tag_form (sym is) ∙ own.no_tag);
}

-- ## They are defined

pub names_defined : (table : List (Option (List ℕ))) (look : Look) (items : List Item) → AreGiven (tape_map items) table
    → DefinesTags (with_names table look) (source_with (with_names table look) (words_of_tape items)) (words_of_tape items)
    → DefinesNames (source_with (with_names table look) (words_of_tape items)) table
names_defined table look items given defined cell name small e =
    let pairs = words_of_tape items in
    let text = source_with (with_names table look) pairs in
    let found = shown_as (slice_index_or table cell None) name e in
    let word = given_below items 32768 cell small ∙ (given cell found.six small found.is).word in
    ap (λ o. values (statements (text_of text)) (name_number (or_tag o cell))) (sym e)
    ∙ defined.values_are cell small
    ∙ ap (λ (b : Bool). if b && (is_some (names_in table cell) || is_referred look.is_code pairs cell) then Some (cell % FIELD) else None) word
    ∙ ap (λ o. if is_some o || is_referred look.is_code pairs cell then Some (cell % FIELD) else None) e

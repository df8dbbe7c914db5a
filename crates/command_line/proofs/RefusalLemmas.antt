-- What arguments that are not refused have.
use Rattle.command_table.proofs.Names.{both, length-map, ◌≡◌, ◌∙◌, ◌||◌, ◌≤◌, ◌+◌, Bool, true, false, true≢false, not, if◌then◌else◌, arith, ap, map, option_map, refl, subst, sym, codes, is_some, length, List, [], ◌∷◌, Option, None, Some, find, option_and_then, slice_get, unwrap_or, bytes_eq, Row, Text, first_of}
use Rattle.command_refusals.specs.declared.reasons.What.{What}
use Rattle.command_refusals.specs.declared.reasons.What.TheVariants as what
use Rattle.command_table.specs.declared.table.Kind.{Kind}
use Rattle.command_table.specs.declared.table.Verb.{Verb}
use Rattle.command_table.specs.declared.table.Verb.TheVariants as verb
use Rattle.command_table.specs.Found.{capitals, has, is_set, names_in, number_in, place_of, values_of}
use Rattle.command_line.specs.Steps.{AllHold, IsWhole, Needs}
use Rattle.command_table.specs.Values.{Has, kind_at}
use Rattle.command_refusals.specs.Refusals.{Bad, Saying, bad_block, blocks_missing, blocks_word, both_given, first_bad, input_twice, is_alone, missing, missing_of, moved_missing, names_input_twice, names_one, names_some, prints_texts, or_else, refusal_of, saying_of_bad, together, unexpected, extra_argument}
use Rattle.command_table.specs.Tables.{Entry, entry_named, rows_for}
use Rattle.command_line.specs.Tasks.{after}
use Rattle.command_line.proofs.FoundLemmas.{all_well}
use Rattle.command_table.proofs.OptionLemmas.{some_eq}

-- ## What is not refused

or_first : (a b : Option Saying) → or_else a b ≡ None → a ≡ None
or_first None b none = refl
or_first (Some said) b none = none

or_second : (a b : Option Saying) → or_else a b ≡ None → b ≡ None
or_second None b none = none
or_second (Some said) b none = absurd (cc)

map_none : {X : Type 0} (f : X → Saying) (o : Option X) → option_map f o ≡ None → o ≡ None
map_none f None none = refl
map_none f (Some x) none = absurd (cc)

once : (is_twice : Bool) → (if is_twice then Some input_twice else None) ≡ None → is_twice ≡ false
once true none = absurd (cc)
once false none = refl

-- a subcommand whose arguments are not refused has what it needs
pub entry_needs : (name : Text) (values : List Row) (entry : Entry) → entry_named name ≡ Some entry → IsWhole name values → refusal_of entry.verb values ≡ None
    → Needs entry.verb values
entry_needs name values entry is whole none =
    let which = entry.verb in
    let same : whole.0 ≡ entry = some_eq whole.0 entry (sym whole.1 ∙ is) in
    let one = or_second (option_map (λ pair. together pair.0 pair.1) (both_given which values)) _ none in
    let two = or_second (option_map missing (missing_of which values)) _ one in
    let three = or_second (if names_input_twice values then Some input_twice else None) _ two in
    let four = or_second (option_map unexpected (extra_argument values)) _ three in (
      subst (λ (e : Entry). AllHold (rows_for e.verb) values) same whole.2,
      all_well (rows_for which) values (map_none saying_of_bad (first_bad (rows_for which) values) (or_first (option_map saying_of_bad (first_bad (rows_for which) values)) _ four)),
      map_none missing (missing_of which values) (or_first (option_map missing (missing_of which values)) _ one),
      once (names_input_twice values) (or_first (if names_input_twice values then Some input_twice else None) _ two),
      map_none saying_of_bad (bad_block values) (or_second (option_map saying_of_bad (first_bad (rows_for which) values)) _ four),
    )

-- ## Tests that were passed

-- a test after which something is refused
passed : {X : Type 0} (b : Bool) (x : X) (later : Option X) → (if not b then Some x else later) ≡ None → (b ≡ true) × (later ≡ None)
passed true x later none = (refl, none)
passed false x later none = absurd (cc)

-- the last of several
met : {X : Type 0} (b : Bool) (x : X) → (if b then None else Some x) ≡ None → b ≡ true
met true x none = refl
met false x none = absurd (cc)

middle_true : (x y z : Bool) → (x || y || z) ≡ true → x ≡ false → z ≡ false → y ≡ true
middle_true true y z is left right = absurd (true≢false left)
middle_true false true z is left right = refl
middle_true false false true is left right = absurd (true≢false right)
middle_true false false false is left right = absurd (true≢false (sym is))

-- ## What words have with nothing missing

-- one file to be got has a name where `--at` does not give it
pub one_named : (values : List Row) → missing_of verb.Get values ≡ None → is_set (codes "blocks") values ≡ false → has (codes "into") values ≡ false
    → prints_texts values ≡ false → has (codes "at") values ≡ false → Has (codes "NAME") values
one_named values none no_blocks one no_texts free =
    named (is_alone (codes "NAME") (codes "at") values) refl (both _ _ (both _ _ (both _ _ (both _ _ (both _ _ (middle_true _ _ _ (met _ _ (passed _ _ _ (got _ no_blocks none)).1) one no_texts)).0).0).0).0).0
  where
    got : (blocks : Bool) → blocks ≡ false → (if blocks then blocks_missing values
        else if not (names_some values) then Some what.Name else if has (codes "into") values || names_one values || prints_texts values then None else Some what.Into) ≡ None
        → (if not (names_some values) then Some what.Name else if has (codes "into") values || names_one values || prints_texts values then None else Some what.Into) ≡ None
    got true is none = absurd (true≢false is)
    got false is none = none

    named : (alone : Bool) → is_alone (codes "NAME") (codes "at") values ≡ alone → (alone || is_alone (codes "at") (codes "NAME") values) ≡ true
        → Has (codes "NAME") values
    named true alone is = (both _ _ (both _ _ alone).0).0
    named false alone is = absurd (true≢false (sym (both _ _ (both _ _ is).0).0 ∙ free))

moved_parts : (id : Text) (one both : What) (values : List Row) → moved_missing id one both values ≡ None
    → Has (codes "NAME") values × ((if has (codes "at") values || has id values then None else Some one) ≡ None)
moved_parts id one both values none = go (has (codes "NAME") values) (has (codes "at") values) none
  where
    go : (name at : Bool) → (if not name then (if at then Some one else Some both) else if has (codes "at") values || has id values then None else Some one) ≡ None
        → (name ≡ true) × ((if has (codes "at") values || has id values then None else Some one) ≡ None)
    go true at none = (refl, none)
    go false true none = absurd (cc)
    go false false none = absurd (cc)

-- a file that is named anew or copied has a name where `--at` does not give it
pub moved_named : (id : Text) (one both : What) (values : List Row) → moved_missing id one both values ≡ None → Has (codes "NAME") values
moved_named id one both values none = (moved_parts id one both values none).0

-- and the argument after it is there
pub moved_after : (id : Text) (one both : What) (values : List Row) → moved_missing id one both values ≡ None
    → Has (after (codes "NAME") id values) values
moved_after id one both values none = go (has (codes "at") values) (met _ _ parts.1)
  where
    parts : Has (codes "NAME") values × ((if has (codes "at") values || has id values then None else Some one) ≡ None)
    parts = moved_parts id one both values none

    go : (at : Bool) → (at || has id values) ≡ true → is_some (first_of (if at then codes "NAME" else id) values) ≡ true
    go true is = parts.0
    go false is = is

-- of a file that is copied alone nothing is missing either
pub copied_alone : (values : List Row) → missing_of verb.Copy values ≡ None → has (codes "to") values ≡ false
    → moved_missing (codes "TO") what.To what.NameAndTo values ≡ None
copied_alone values none one = go (has (codes "to") values) one none
  where
    go : (to : Bool) → to ≡ false → (if to then (if has (codes "NAME") values then None else Some what.Name) else moved_missing (codes "TO") what.To what.NameAndTo values) ≡ None
        → moved_missing (codes "TO") what.To what.NameAndTo values ≡ None
    go true is none = absurd (true≢false is)
    go false is none = none

-- the first value of an argument is the first of its values
pub some_values : (id : Text) (values : List Row) → has id values ≡ true → 1 ≤ length (values_of id values)
some_values id values is = go (find (λ r. bytes_eq r.id id) values) is
  where
    by_values : (vs : List Text) → is_some (slice_get vs 0) ≡ true → 1 ≤ length vs
    by_values [] is = absurd (true≢false (sym is))
    by_values (v ∷ vs) is = omega arith

    go : (o : Option Row) → is_some (option_and_then (λ (r : Row). slice_get r.values 0) o) ≡ true
        → 1 ≤ length (unwrap_or (option_map (λ (r : Row). r.values) o) [])
    go None is = absurd (true≢false (sym is))
    go (Some r) is = by_values r.values is

-- at least one file is taken out
pub some_deleted : {X Y : Type 0} (values : List Row) (names : List X) (places : List Y) (text_of : X → Text) (read : Text → Option Y)
    → missing_of verb.Delete values ≡ None → names_in (codes "NAME") values ≡ map text_of names
    → map read (values_of (codes "at") values) ≡ map (λ place. Some place) places → 1 ≤ length names + length places
some_deleted values names places text_of read none named placed = go (has (codes "NAME") values) refl (met _ _ none)
  where
    named_count : length (values_of (codes "NAME") values) ≡ length names
    named_count = sym (length-map (values_of (codes "NAME") values) capitals) ∙ (ap length named ∙ length-map names text_of)

    placed_count : length (values_of (codes "at") values) ≡ length places
    placed_count = sym (length-map (values_of (codes "at") values) read) ∙ (ap length placed ∙ length-map places (λ place. Some place))

    go : (a : Bool) → has (codes "NAME") values ≡ a → (a || has (codes "at") values) ≡ true → 1 ≤ length names + length places
    go true is some = omega (arith, some_values (codes "NAME") values is, named_count)
    go false is some = omega (arith, some_values (codes "at") values some, placed_count)

-- the argument after a file takes a text
pub after_takes : (takes : Option Kind → Bool) (which : Verb) (moved own : Text) (values : List Row) → takes (kind_at moved (rows_for which)) ≡ true
    → takes (kind_at own (rows_for which)) ≡ true → takes (kind_at (after moved own values) (rows_for which)) ≡ true
after_takes takes which moved own values one other =
    elim (has (codes "at") values) as (λ at. takes (kind_at (if at then moved else own) (rows_for which)) ≡ true) [ true ↦ one | false ↦ other ]

-- the two numbers of blocks are some
pub blocks_read : (values : List Row) → is_set (codes "blocks") values ≡ true → bad_block values ≡ None
    → (is_some (number_in 0 4094 (blocks_word 0 values)) ≡ true) × (is_some (number_in 1 4095 (blocks_word 1 values)) ≡ true)
blocks_read values blocks none =
    let first = passed _ _ _ (got (is_set (codes "blocks") values) _ blocks none) in
    (first.0, (passed _ _ _ first.1).0)
  where
    got : (b : Bool) (later : Option Bad) → b ≡ true → (if not b then None else later) ≡ None → later ≡ None
    got true later is none = none
    got false later is none = absurd (true≢false (sym is))

-- what gives no block was not given
pub not_placed : (o : Option Text) → option_map place_of o ≡ None → is_some o ≡ false
not_placed None is = refl
not_placed (Some text) is = absurd (cc)

-- The value that is read of an argument is of its kind, where all of its values are.
use Rattle.command_table.proofs.Names.{◌≡◌, Bool, cond, true, false, refl, List, [], ◌∷◌, Option, Some, None, find, option_and_then, option_map, slice_get, unwrap_or, option_map_or, bytes_eq, Row, Text}
use Rattle.command_table.specs.declared.table.Form.{Form}
use Rattle.command_table.specs.Tables.{Argument}
use Rattle.command_table.specs.Found.{first_not, form_of, passes, values_of}
use Rattle.command_line.specs.Steps.{AllWell}
use Rattle.command_table.specs.Values.{IsFirst, IsWell}
use Rattle.command_refusals.specs.Refusals.{bad_or, first_bad}

first_well : (form : Form) (id : Text) (rows : List Row) → IsWell form id rows → IsFirst form id rows
first_well form id rows well = go (find (λ r. bytes_eq r.id id) rows) well
  where
    test : (b : Bool) (v : Text) (vs : List Text) → cond b (first_not form vs) (Some v) ≡ None → b ≡ true
    test true v vs none = refl
    test false v vs none = absurd (cc)

    by_values : (vs : List Text) → first_not form vs ≡ None → option_map_or (passes form) (slice_get vs 0) true ≡ true
    by_values [] none = refl
    by_values (v ∷ vs) none = test (passes form v) v vs none

    go : (o : Option Row) → first_not form (unwrap_or (option_map (λ (r : Row). r.values) o) []) ≡ None
        → option_map_or (passes form) (option_and_then (λ (r : Row). slice_get r.values 0) o) true ≡ true
    go None none = refl
    go (Some r) none = by_values r.values none

pub all_well : (rows : List Argument) (values : List Row) → first_bad rows values ≡ None → AllWell rows values
all_well [] values none = tt
all_well (row ∷ rows) values none = go (λ later. all_well rows values later) (first_not (form_of row.kind) (values_of row.id values)) refl none
  where
    go : (first_bad rows values ≡ None → AllWell rows values) → (o : Option Text) → first_not (form_of row.kind) (values_of row.id values) ≡ o
        → bad_or row o (first_bad rows values) ≡ None → AllWell (row ∷ rows) values
    go later None is none = (is, first_well (form_of row.kind) row.id values is, later none)
    go later (Some text) is none = absurd (cc)

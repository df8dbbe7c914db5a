-- A subcommand of the table that is entered: what it takes the program takes, and finds the same.
use Rattle.command_table.proofs.Names.{◌≡◌, ◌∙◌, ◌&&◌, Bool, codes, true, false, refl, ap, ap₂, map, List, [], ◌∷◌, Option, Some, None, find, if◌then◌else◌, option_and_then, option_map, bytes_eq, answers_to, Shape, built, label_of, Row, Text}
use Rattle.command_line.specs.Plain.{AreTaken, EachIsTaken, IsTaken, IsTakenBy, Use, only_gives, words_of}
use Rattle.command_table.specs.Tables.{Entry, entry_named, leaf_shape, pdp8, table}
use Rattle.command_line.proofs.EnterLemmas.{Finds, asks_no_more, enter_met, enter_takes}
use Rattle.command_line.proofs.LeafLemmas.{below}
use Rattle.command_table.proofs.NumberLemmas.{none_some}
use Rattle.command_line.proofs.TaskLemmas.{found_entry, is_plain, pdp8_subs, sound, subs_found}
use Rattle.command_line.proofs.UseLemmas.{level_taken, rows_taken}

no_more : asks_no_more (built pdp8) ≡ true
no_more = refl

-- what the subcommand of a name finds in the words, where it takes them
abbrev pub found_by : Text → List Use → Option (List Row)
found_by word uses = option_and_then (λ entry. if bytes_eq word (codes "help") then None else rows_taken (below (leaf_shape entry)) uses) (entry_named word)

-- what the subcommand takes, the program takes, and finds the same
pub taken : (word : Text) (uses : List Use) → found_by word uses ≡ Some (only_gives word uses) → IsTaken word uses
taken word uses is plain name = go (entry_named word) refl is
  where
    go : (o : Option Entry) → entry_named word ≡ o
        → option_and_then (λ entry. if bytes_eq word (codes "help") then None else rows_taken (below (leaf_shape entry)) uses) o ≡ Some (only_gives word uses)
        → IsTakenBy name word uses
    go None named is = absurd (none_some (only_gives word uses) is)
    go (Some entry) named is = by_name (bytes_eq word (codes "help")) refl is
      where
        s : Shape
        s = below (leaf_shape entry)

        by_name : (b : Bool) → bytes_eq word (codes "help") ≡ b → (if b then None else rows_taken s uses) ≡ Some (only_gives word uses) → IsTakenBy name word uses
        by_name true help is = absurd (none_some (only_gives word uses) is)
        by_name false no_help is =
            let level = level_taken s uses (only_gives word uses) plain is in (
              ap₂ (λ (a b : Bool). a && b) is_plain (enter_takes (built pdp8) word s (words_of uses) found no_more level.0),
              enter_met (built pdp8) word s (words_of uses) found
                  ∙ ap₂ (λ (n : Text) (rows : List Row). let met : Text × List Row = (n, rows) in Some met) found.name level.1,
            )
          where
            found : Finds (built pdp8) word s
            found = record {
              found = ap (find (λ x. answers_to word (label_of x))) pdp8_subs ∙ (subs_found word table no_help ∙ ap (option_map (λ entry. below (leaf_shape entry))) named);
              name = (found_entry word table entry sound named).0;
              no_help = no_help;
            }

cons_eq : {X : Type 0} (x y : X) (xs ys : List X) → x ∷ xs ≡ y ∷ ys → (x ≡ y) × (xs ≡ ys)
cons_eq x y xs ys is = (cc, cc)

-- and so with several lines
pub all_taken : (word : Text) (lines : List (List Use)) → map (found_by word) lines ≡ map (λ uses. Some (only_gives word uses)) lines → AreTaken word lines
all_taken word lines is = record { each = go lines is }
  where
    go : (lines : List (List Use)) → map (found_by word) lines ≡ map (λ uses. Some (only_gives word uses)) lines → EachIsTaken word lines
    go [] is = tt
    go (uses ∷ rest) is =
        let parts = cons_eq (found_by word uses) (Some (only_gives word uses)) (map (found_by word) rest) (map (λ uses. Some (only_gives word uses)) rest) is in
        (taken word uses parts.0, go rest parts.1)

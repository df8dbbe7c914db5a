-- What is shown of the words of a tape.
use Rattle.std.proofs.Common.{◌≡◌, ℕ, ◌<◌, Bool, ◌&&◌, not, Option, List, refl, ap, ◌∙◌}
use Rattle.bin_tape.specs.Items.{Item}
use Rattle.source_notes.specs.Notes.{Notes, is_flagged}
use Rattle.tape_source.specs.Looks.{Look}
use Rattle.tape_source.specs.Sources.{words_of_tape}
use Rattle.tape_source.specs.Steps.{HoldsFlags, HoldsMap, HoldsNames, above_of, gap_of, look_with, remark_of, tagged_below}
use Rattle.pal8_source.specs.Pools.{is_pooled}
use Rattle.pal8_source.specs.Sources.{IsShown, notes_of}
use Rattle.pal8_source.specs.Steps.{sheet_of}

pub shown_is : (words : List (Option ℕ)) (code exempt pools shown marked flags : List Bool) (table : Option (List (Option (List ℕ)))) (notes : Option Notes) (has_starts : Bool)
    → ((cell : ℕ) → cell < 32768 → is_flagged pools cell ≡ is_pooled (record { words = words; code = code; exempt = exempt }) cell)
    → ((cell : ℕ) → cell < 32768 → is_flagged shown cell ≡ (is_flagged code cell && not (is_flagged pools cell)))
    → ((look : Look) (items : List Item) → HoldsMap items words → HoldsFlags look.is_code shown → HoldsNames look.has_name table
    → HoldsFlags (tagged_below look items 32768) marked)
    → ((cell : ℕ) → cell < 32768 → is_flagged flags cell ≡ (is_flagged marked cell && not (is_flagged pools cell)))
    → notes ≡ notes_of words code has_starts → (items : List Item) → HoldsMap items words
    → IsShown (record { words = words; code = code; exempt = exempt }) table has_starts (words_of_tape items)
    (sheet_of (record { words = words; pools = pools; code = shown; flags = flags; names = table; notes = notes; has_starts = has_starts }))
shown_is words code exempt pools shown marked flags table notes has_starts pools_are shown_are marked_are flags_are notes_are items held =
    let look = look_with table notes (is_flagged shown) in
    record {
      words = refl;
      pools = pools_are;
      names = refl;
      named = λ cell. refl;
      code = shown_are;
      above = λ cell. ap (λ n. above_of n cell) notes_are;
      remark = λ cell. ap (λ n. remark_of n cell) notes_are;
      gaps = λ cell. ap (λ n. gap_of n cell) notes_are;
      tags = λ cell small.
          flags_are cell small
          ∙ ap (λ (t : Bool). t && not (is_flagged pools cell)) (marked_are look items held (λ other low. refl) (λ other low. refl) cell small);
      starts = refl;
    }

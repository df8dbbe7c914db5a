-- The notes of a tape's words.
use Rattle.std.proofs.Common.{◌≡◌, ℕ, ◌<◌, Bool, true, Option, Some, None, List, refl, ap, ◌∙◌}
use Rattle.flow8.specs.Flow.{word_in}
use Rattle.source_notes.specs.Notes as notes
use Rattle.source_notes.specs.Notes.{Notes, is_flagged}
use Rattle.tape_source.specs.Looks.{AreNotes, Look, with_notes, plain, with_names}
use Rattle.tape_source.specs.Steps.{look_with}
use Rattle.tape_source.specs.Saying.{SameLook}

-- notes of a list of words tell the same as those of what it holds
pub same_notes : (n : Notes) (words : List (Option ℕ)) (code : List Bool) (map : ℕ → Option ℕ) → n.words ≡ words → n.code ≡ code → ((cell : ℕ) → word_in words cell ≡ map cell)
    → SameLook (look_with None (Some n) (is_flagged code)) (with_notes map (is_flagged code))
same_notes n words code map words_are code_is same =
    let map_is : word_in n.words ≡ map = ap word_in words_are ∙ (λ i. λ cell. same cell i) in
    record {
      names = λ cell small. refl;
      named = λ cell small. refl;
      code = λ cell small. refl;
      above = λ cell small. ap (λ m. notes.above m (is_flagged n.code) cell) map_is ∙ ap (λ l. notes.above map (is_flagged l) cell) code_is;
      remark = λ cell small. ap (λ m. notes.remark m (is_flagged n.code) cell) map_is ∙ ap (λ l. notes.remark map (is_flagged l) cell) code_is;
      gaps = λ cell small. ap (λ m. notes.has_gap m (is_flagged n.code) cell) map_is ∙ ap (λ l. notes.has_gap map (is_flagged l) cell) code_is;
    }

-- all words are instructions, and nothing is told beside them
pub same_plain : (code : List Bool) → ((cell : ℕ) → cell < 32768 → is_flagged code cell ≡ true) → SameLook (look_with None None (is_flagged code)) plain
same_plain code all = record {
  names = λ cell small. refl;
  named = λ cell small. refl;
  code = all;
  above = λ cell small. refl;
  remark = λ cell small. refl;
  gaps = λ cell small. refl;
}

pub plain_notes : AreNotes plain
plain_notes = record { above = λ cell small. refl; remark = λ cell small. refl }

-- with names both tell the same
pub same_named : (table : List (Option (List ℕ))) (n : Option Notes) (is_code : ℕ → Bool) (look : Look) → SameLook (look_with None n is_code) look
    → SameLook (look_with (Some table) n is_code) (with_names table look)
same_named table n is_code look same = record {
  names = λ cell small. refl;
  named = λ cell small. refl;
  code = same.code;
  above = same.above;
  remark = same.remark;
  gaps = same.gaps;
}

pub named_notes : (table : List (Option (List ℕ))) (look : Look) → AreNotes look → AreNotes (with_names table look)
named_notes table look notes = record { above = notes.above; remark = notes.remark }

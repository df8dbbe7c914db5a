-- Where no cell is given a name a source looks as without names.
use Rattle.std.proofs.Common.{◌≡◌, ℕ, Bool, false, ◌&&◌, ◌||◌, Option, Result, Ok, is_some, List, [], ◌∷◌, ◌++◌, refl, ap, sym, ◌∙◌}
use Rattle.bin_tape.specs.Items.{IsPrefix, Item}
use Rattle.source_names.specs.Names.{AreNames, name_at, Reading}
use Rattle.source_names.specs.declared.faults.NamesFault.{NamesFault}
use Rattle.tape_source.specs.Lines.{line_end, source_with}
use Rattle.tape_source.specs.Looks.{AreNotes, GivesNoName, Look, as_shown, is_tagged, or_tag, with_names}
use Rattle.tape_source.specs.Sources.{words_of_tape}
use Rattle.tape_source.specs.Saying.{SameLook}
use Rattle.tape_source.specs.Tags.{is_given, is_referred, tag}
use Rattle.tape_source.proofs.ShownLemmas.{same_lines}
use Rattle.tape_source.proofs.TapeLemmas.{below_pairs}

unnamed_look : (table : List (Option (List ℕ))) (look : Look) → GivesNoName table → look.name ≡ tag → look.has_name ≡ (λ cell. false)
    → SameLook (with_names table look) look
unnamed_look table look none name named = record {
  names = λ cell small. ap (λ o. or_tag (as_shown o) cell) (none cell small) ∙ ap (λ (f : ℕ → List ℕ). f cell) (sym name);
  named = λ cell small. ap (λ o. is_some (as_shown o)) (none cell small) ∙ ap (λ (f : ℕ → Bool). f cell) (sym named);
  code = λ cell small. refl;
  above = λ cell small. refl;
  remark = λ cell small. refl;
  gaps = λ cell small. refl;
}

pub unnamed_source : (table : List (Option (List ℕ))) (look : Look) (items : List Item) → GivesNoName table → look.name ≡ tag → look.has_name ≡ (λ cell. false)
    → IsPrefix items → source_with (with_names table look) (words_of_tape items) ≡ source_with look (words_of_tape items)
unnamed_source table look items none name named prefix =
    let pairs = words_of_tape items in
    let same = unnamed_look table look none name named in
    ap (λ l. l ++ 0o44 ∷ line_end)
    (same_lines (with_names table look) look (is_tagged (with_names table look) pairs) (is_tagged look pairs) same
    (λ cell small. ap (λ b. is_given pairs cell && (b || is_referred look.is_code pairs cell)) (same.named cell small))
    pairs (below_pairs items 32768 prefix))

pub unnamed_notes : (table : List (Option (List ℕ))) (look : Look) → AreNotes (with_names table look) → AreNotes look
unnamed_notes table look notes = record { above = notes.above; remark = notes.remark }

abbrev told : Reading → Result Reading NamesFault
told read = Ok read

-- an empty text gives no name
pub empty_text : (words : ℕ → Option ℕ) (table : List (Option (List ℕ))) → AreNames words [] table → GivesNoName table
empty_text words table names cell small =
    names.names cell small ∙ ap (λ entries. name_at entries cell) (same (record { lines = 0; entries = [] }) names.read names.is)
  where
    same : (a b : Reading) → told a ≡ told b → b.entries ≡ a.entries
    same a b is = cc

use Rattle.std.proofs.Common.{◌≡◌, ℕ, Bool, None, Ok, List, String, map, subst}
use Rattle.std.specs.Global.{Global, Vec}
use Rattle.archive_files.specs.Asking.{OfName}
use Rattle.archive_files.proofs.AgainLemmas.{got_again}
use Rattle.archive_many.specs.Copying.{CopiesAll}
use Rattle.archive_many.specs.declared.opened.VolumeFile.{VolumeFile}
use Rattle.program_tasks.specs.declared.forms.CopyChoice.{CopyChoice}
use Rattle.program_tasks.specs.declared.forms.CopyChoice.TheVariants.{Like}
use Rattle.change_commands.specs.Copying.{may_replace, new_name}
use Rattle.keeper_laws.specs.Copied.{AreChosen, AreLike}
use Rattle.keeper_laws.proofs.BackLemmas.{is-printed}
use Rattle.keeper_laws.proofs.ManyBackLemmas.{copied-file, older-file}
use Rattle.keeper_laws.proofs.laws.copies_come_back.Goals as goal

like-of : (choice : CopyChoice) (words : Vec (String Global)) (is_forced : Bool) (from : List ℕ) (files : List VolumeFile) → choice ≡ Like words is_forced → AreChosen choice from files
    → AreLike (map (λ word. word.bytes.items) words.items) from files
like-of choice words is_forced from files is chosen = subst (λ (c : CopyChoice). AreChosen c from files) is chosen

all-of : (choice : CopyChoice) (words : Vec (String Global)) (is_forced : Bool) (from to : List ℕ) (files : List VolumeFile) (made : Vec ℕ) → choice ≡ Like words is_forced
    → CopiesAll from to (new_name choice) files (may_replace choice) (Ok made) → CopiesAll from to None files is_forced (Ok made)
all-of choice words is_forced from to files made is copies = subst (λ (c : CopyChoice). CopiesAll from to (new_name c) files (may_replace c) (Ok made)) is copies

pub returns-clause-copies : goal.returns-clause-copies
returns-clause-copies c form words is_forced ok old new copied name number how before is named like gets =
    is-printed form.to copied.has.file copied.made.items name before.items how copied.has.found
    (λ answer again. got_again c.image_round_trip.ensures.written_is_read_back c.longer_tape.ensures c.no_fault.ensures copied.made.items (OfName name) gets.0 before.items how answer
    (copied-file c.image_round_trip.ensures.written_is_read_back c.copied_file.ensures.same c.chosen_are_copied.ensures copied.from copied.image.bytes.items (map (λ word. word.bytes.items) words.items) copied.files is_forced
    copied.made (like-of form.files words is_forced copied.from copied.files is copied.chosen) (all-of form.files words is_forced copied.from copied.image.bytes.items copied.files copied.made is copied.copies)
    name number named gets.0 like gets.1) gets.2 again)

pub returns-clause-others : goal.returns-clause-others
returns-clause-others c form words is_forced ok old new copied name number how before is named unlike gets =
    is-printed form.to copied.has.file copied.made.items name before.items how copied.has.found
    (λ answer again. got_again c.image_round_trip.ensures.written_is_read_back c.longer_tape.ensures c.no_fault.ensures copied.made.items (OfName name) gets.0 before.items how answer
    (older-file c.image_round_trip.ensures.written_is_read_back c.copied_file.ensures.same c.chosen_are_copied.ensures copied.from copied.image.bytes.items (map (λ word. word.bytes.items) words.items) copied.files is_forced
    copied.made (like-of form.files words is_forced copied.from copied.files is copied.chosen) (all-of form.files words is_forced copied.from copied.image.bytes.items copied.files copied.made is copied.copies)
    name number named gets.0 unlike gets.1) gets.2 again)

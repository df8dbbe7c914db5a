use Rattle.std.proofs.Common.{◌≡◌, ℕ, Option, List, String, subst}
use Rattle.std.specs.Global.{Global}
use Rattle.archive_files.specs.Asking.{OfName, target_of}
use Rattle.archive_files.specs.declared.asking.Asked.{Asked}
use Rattle.archive_many.specs.declared.opened.VolumeFile.{VolumeFile}
use Rattle.program_tasks.specs.declared.forms.CopyChoice.{CopyChoice}
use Rattle.program_tasks.specs.declared.forms.CopyChoice.TheVariants.{One}
use Rattle.change_commands.specs.Copying.{may_replace, new_name}
use Rattle.archive_files.proofs.AgainLemmas.{got_again}
use Rattle.keeper_laws.specs.Copied.{AreChosen, IsOne}
use Rattle.keeper_laws.proofs.AgainLemmas.{copied-alone, name-kept, name-typed, others-alone}
use Rattle.keeper_laws.proofs.BackLemmas.{is-printed}
use Rattle.keeper_laws.proofs.laws.copy_comes_back.Goals as goal

one-of : (choice : CopyChoice) (file : Asked) (other : Option (String Global)) (from : List ℕ) (files : List VolumeFile) → choice ≡ One file other → AreChosen choice from files → IsOne (target_of file) from files
one-of choice file other from files is chosen = subst (λ (c : CopyChoice). AreChosen c from files) is chosen

pub returns-clause-copies : goal.returns-clause-copies
returns-clause-copies c form file other ok old new copied name how before is named gets =
    is-printed form.to copied.has.file copied.made.items name before.items how copied.has.found
    (λ answer again. got_again c.image_round_trip.ensures.written_is_read_back c.longer_tape.ensures c.no_fault.ensures copied.made.items (OfName name) gets.0 before.items how answer
    (copied-alone c.image_round_trip.ensures.written_is_read_back c.sound_directory.ensures copied.from copied.image.bytes.items (target_of file) (new_name form.files) copied.files (may_replace form.files) copied.made
    (one-of form.files file other copied.from copied.files is copied.chosen) copied.copies name gets.0 named c.copied_file.ensures.same gets.1) gets.2 again)

pub returns-clause-typed : goal.returns-clause-typed
returns-clause-typed c form file other ok old new copied name is typed =
    name-typed c.image_round_trip.ensures.written_is_read_back c.sound_directory.ensures copied.from copied.image.bytes.items (target_of file) (new_name form.files) copied.files (may_replace form.files) copied.made
    (one-of form.files file other copied.from copied.files is copied.chosen) copied.copies name typed

pub returns-clause-kept : goal.returns-clause-kept
returns-clause-kept c form file other ok old new copied name is none meant =
    name-kept c.image_round_trip.ensures.written_is_read_back c.sound_directory.ensures copied.from copied.image.bytes.items (target_of file) (new_name form.files) copied.files (may_replace form.files) copied.made
    (one-of form.files file other copied.from copied.files is copied.chosen) copied.copies name none meant

pub returns-clause-others : goal.returns-clause-others
returns-clause-others c form file other ok old new copied name how before is differ gets =
    is-printed form.to copied.has.file copied.made.items name before.items how copied.has.found
    (λ answer again. got_again c.image_round_trip.ensures.written_is_read_back c.longer_tape.ensures c.no_fault.ensures copied.made.items (OfName name) gets.0 before.items how answer
    (others-alone c.image_round_trip.ensures.written_is_read_back c.sound_directory.ensures copied.from copied.image.bytes.items (target_of file) (new_name form.files) copied.files (may_replace form.files) copied.made
    (one-of form.files file other copied.from copied.files is copied.chosen) copied.copies name gets.0 differ c.copied_file.ensures.others gets.1) gets.2 again)

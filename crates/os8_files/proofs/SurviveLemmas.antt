-- What a write that fails leaves of the files, whatever the call.
use Rattle.std.proofs.Common.{◌≡◌, ℕ, ◌<◌, List, Result, Ok, Err, ap, sym, subst, ◌∙◌, arith, inl, inr}
use Rattle.std.specs.FinMap.{get}
use Rattle.os8_dir.specs.Entries.{DirectoryState}
use Rattle.os8_dir.specs.Reading.{directory_of}
use Rattle.os8_dir.specs.Files.{files_of}
use Rattle.os8_dir.specs.Changes.{moved_down}
use Rattle.os8_files.specs.Mounted.{MountState}
use Rattle.os8_files.specs.Failed.{extent_or, with_list, lowest_or, KeepsDirectory, StandInFull, IsWrittenInPart, Survives}
use Rattle.os8_files.specs.Calls.{WritesBlock, ClosesFile, DeletesFile, Squeezes}
use Rattle.os8_dir.specs.declared.file_faults.FileFault.{FileFault}
use Rattle.os8_dir.specs.declared.file_faults.FileFault.TheVariants.{NotFound, NoRoom, DirectoryFull, Busy, BadName, TooLong, TentativeOpen, Device, Stopped, Memory, NothingWritten}
use Rattle.os8_files.specs.declared.tokens.Squeezed.{Squeezed}
use Rattle.os8_files.specs.declared.tokens.Squeezed.TheVariants.{Moved, Nothing}

pub none-failed : (old new : MountState) → new.failed_writes ≡ old.failed_writes → old.failed_writes < new.failed_writes → Survives old.blocks new.blocks
none-failed old new same more = absurd (omega (arith, same, more))

pub same-failed : (old new : MountState) → new ≡ old → old.failed_writes < new.failed_writes → Survives old.blocks new.blocks
same-failed old new same more = none-failed old new (ap (λ (m : MountState). m.failed_writes) same) more

pub writes-survive : (old new : MountState) (words : List ℕ) (result : Result (Unit {0}) FileFault) → WritesBlock old words result new → old.failed_writes < new.failed_writes → Survives old.blocks new.blocks
writes-survive old new words (Ok done) is more = none-failed old new (ap (λ (m : MountState). m.failed_writes) is.others) more
writes-survive old new words (Err NotFound) is more = absurd is
writes-survive old new words (Err (NoRoom n)) is more = absurd is
writes-survive old new words (Err DirectoryFull) is more = absurd is
writes-survive old new words (Err (Busy n)) is more = absurd is
writes-survive old new words (Err BadName) is more = absurd is
writes-survive old new words (Err TooLong) is more = none-failed old new (ap (λ (m : MountState). m.failed_writes) is.4) more
writes-survive old new words (Err TentativeOpen) is more = absurd is
writes-survive old new words (Err Device) is more = inl is.files
writes-survive old new words (Err Stopped) is more = none-failed old new (ap (λ (m : MountState). m.failed_writes) is.1) more
writes-survive old new words (Err Memory) is more = absurd is
writes-survive old new words (Err NothingWritten) is more = absurd is

pub deletes-survive : (old new : MountState) (name : ℕ) (result : Result (Unit {0}) FileFault) → DeletesFile old name result new → old.failed_writes < new.failed_writes → Survives old.blocks new.blocks
deletes-survive old new name (Ok done) is more = none-failed old new (ap (λ (m : MountState). m.failed_writes) is.others) more
deletes-survive old new name (Err NotFound) is more = none-failed old new (ap (λ (m : MountState). m.failed_writes) is.2) more
deletes-survive old new name (Err (NoRoom n)) is more = absurd is
deletes-survive old new name (Err DirectoryFull) is more = none-failed old new (ap (λ (m : MountState). m.failed_writes) is.5) more
deletes-survive old new name (Err (Busy n)) is more = none-failed old new (ap (λ (m : MountState). m.failed_writes) is.4) more
deletes-survive old new name (Err BadName) is more = absurd is
deletes-survive old new name (Err TooLong) is more = absurd is
deletes-survive old new name (Err TentativeOpen) is more = none-failed old new (ap (λ (m : MountState). m.failed_writes) is.3) more
deletes-survive old new name (Err Device) is more = inr (inr (inl (record { files = is.files; directory = is.written.0; part = is.written.2.part })))
deletes-survive old new name (Err Stopped) is more = none-failed old new (ap (λ (m : MountState). m.failed_writes) is.1) more
deletes-survive old new name (Err Memory) is more = none-failed old new (ap (λ (m : MountState). m.failed_writes) is.3) more
deletes-survive old new name (Err NothingWritten) is more = absurd is

pub closes-survive : (old new : MountState) (name : ℕ) (info : List ℕ) (result : Result (Unit {0}) FileFault) → ClosesFile old name info result new → old.failed_writes < new.failed_writes → Survives old.blocks new.blocks
closes-survive old new name info (Ok done) is more = none-failed old new (ap (λ (m : MountState). m.failed_writes) is.others) more
closes-survive old new name info (Err NotFound) is more = absurd is
closes-survive old new name info (Err (NoRoom n)) is more = absurd is
closes-survive old new name info (Err DirectoryFull) is more = none-failed old new (ap (λ (m : MountState). m.failed_writes) is.6) more
closes-survive old new name info (Err (Busy n)) is more = none-failed old new (ap (λ (m : MountState). m.failed_writes) is.5) more
closes-survive old new name info (Err BadName) is more = absurd is
closes-survive old new name info (Err TooLong) is more = absurd is
closes-survive old new name info (Err TentativeOpen) is more = absurd is
closes-survive old new name info (Err Device) is more = inr (inr (inl (record { files = is.3.older; directory = is.3.written.0; part = is.3.written.2.part })))
closes-survive old new name info (Err Stopped) is more = none-failed old new (ap (λ (m : MountState). m.failed_writes) is.1) more
closes-survive old new name info (Err Memory) is more = none-failed old new (ap (λ (m : MountState). m.failed_writes) is.4) more
closes-survive old new name info (Err NothingWritten) is more = none-failed old new (ap (λ (m : MountState). m.failed_writes) is.3) more

pub squeezes-survive : (old new : MountState) (result : Result Squeezed FileFault) → Squeezes old result new → old.failed_writes < new.failed_writes → Survives old.blocks new.blocks
squeezes-survive old new (Ok (Moved name)) is more = none-failed old new (ap (λ (m : MountState). m.failed_writes) is.others) more
squeezes-survive old new (Ok Nothing) is more = none-failed old new (ap (λ (m : MountState). m.failed_writes) is.2) more
squeezes-survive old new (Err NotFound) is more = absurd is
squeezes-survive old new (Err (NoRoom n)) is more = absurd is
squeezes-survive old new (Err DirectoryFull) is more = none-failed old new (ap (λ (m : MountState). m.failed_writes) is.7) more
squeezes-survive old new (Err (Busy n)) is more = absurd is
squeezes-survive old new (Err BadName) is more = absurd is
squeezes-survive old new (Err TooLong) is more = absurd is
squeezes-survive old new (Err TentativeOpen) is more = none-failed old new (ap (λ (m : MountState). m.failed_writes) is.3) more
squeezes-survive old new (Err Device) is more = elim is [
  | inl missed ↦ none-failed old new (ap (λ (m : MountState). m.failed_writes) missed.1) more
  | inr failed ↦ elim failed.files [
    | inl found ↦ inr (inl (record { name = failed.name; gap = failed.gap; lowest = failed.lowest; place = failed.place; size = failed.size; was = failed.was; found = found.0 }))
    | inr stand ↦ inr (inr (inr (record { name = failed.name; gap = failed.gap; lowest = failed.lowest; files = stand.0; directory = stand.1; list = stand.2; part = stand.3.part })))
  ]
]
squeezes-survive old new (Err Stopped) is more = none-failed old new (ap (λ (m : MountState). m.failed_writes) is.1) more
squeezes-survive old new (Err Memory) is more = none-failed old new (ap (λ (m : MountState). m.failed_writes) is.2) more
squeezes-survive old new (Err NothingWritten) is more = absurd is

-- What a failed write leaves, where no block of the directory and no file was changed before.
pub keeps-trans : (old mid new : List (List ℕ)) → KeepsDirectory old mid → KeepsDirectory mid new → KeepsDirectory old new
keeps-trans old mid new one two = record {
  count = two.count ∙ one.count;
  segments = λ k low high. two.segments k low high ∙ one.segments k low high;
  directory = two.directory ∙ one.directory;
}

part-from : (old mid new : List (List ℕ)) (directory : DirectoryState) → KeepsDirectory old mid → IsWrittenInPart mid new directory → IsWrittenInPart old new directory
part-from old mid new directory kept part = record {
  number = part.number;
  taken = part.taken;
  low = part.low;
  below = part.below;
  above = λ k high few. part.above k high few ∙ kept.segments k (omega (arith, high)) few;
}

pub survives-from : (old mid new : List (List ℕ)) → KeepsDirectory old mid → files_of mid ≡ files_of old → Survives mid new → Survives old new
survives-from old mid new kept files left = elim left [
  | inl found ↦ inl (record { kept = keeps-trans old mid new kept found.kept; files = found.files ∙ files })
  | inr rest ↦ elim rest [
    | inl part ↦ inr (inl (record {
      name = part.name;
      gap = part.gap;
      lowest = ap lowest_or (sym kept.directory) ∙ part.lowest;
      place = part.place;
      size = part.size;
      was = ap (extent_or part.name) (sym kept.directory) ∙ part.was;
      found = record {
        kept = keeps-trans old mid new kept part.found.kept;
        others = λ other differ. part.found.others other differ ∙ ap (λ fs. get fs other) files;
        short = λ little. part.found.short little ∙ files;
      };
    }))
    | inr more ↦ elim more [
      | inl stand ↦ inr (inr (inl (record {
        files = subst (λ r. StandInFull new r (files_of old)) kept.directory (subst (λ fs. StandInFull new (directory_of mid) fs) files stand.files);
        directory = stand.directory;
        part = part-from old mid new stand.directory kept stand.part;
      })))
      | inr full ↦ inr (inr (inr (record {
        name = full.name;
        gap = full.gap;
        lowest = ap lowest_or (sym kept.directory) ∙ full.lowest;
        files = subst (λ r. StandInFull new (with_list (λ d. moved_down full.name d.entries) r) (files_of old)) kept.directory (subst (λ fs. StandInFull new (with_list (λ d. moved_down full.name d.entries) (directory_of mid)) fs) files full.files);
        directory = full.directory;
        list = ap (with_list (λ d. moved_down full.name d.entries)) (sym kept.directory) ∙ full.list;
        part = part-from old mid new full.directory kept full.part;
      })))
    ]
  ]
]

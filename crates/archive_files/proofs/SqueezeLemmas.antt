-- Turns of squeezing, one after the other.
use Rattle.std.proofs.Common.{◌≡◌, ◌<◌, ◌+◌, ◌∙◌, ℕ, zero, suc, true≢false, Option, Some, None, Err, [], refl, sym, ap, subst, arith, inl, inr}
use Rattle.os8_dir.specs.Reading.{directory_of}
use Rattle.os8_dir.specs.Files.{files_of, above_of, capacity_of, limit_of}
use Rattle.os8_files.specs.Mounted.{MountState}
use Rattle.os8_files.specs.Calls.{HasMoved, IsReady, Squeezes, entries_moved, info_of}
use Rattle.os8_files.specs.Failed.{lowest_or}
use Rattle.os8_dir.specs.declared.file_faults.FileFault.{FileFault}
use Rattle.os8_dir.specs.declared.file_faults.FileFault.TheVariants.{NotFound, NoRoom, DirectoryFull, Busy, BadName, TooLong, TentativeOpen, Device, Stopped, Memory, NothingWritten}
use Rattle.archive_files.specs.Squeezing.{AreMoved}
use Rattle.archive_files.specs.ChangeSteps.{SqueezesAll}

-- one turn more
moved-last : (turns : ℕ) (old mid new : MountState) (name : ℕ) → AreMoved turns old mid → HasMoved mid name new → AreMoved (suc turns) old new
moved-last zero old mid new name is has = (name, new, subst (λ m. HasMoved m name new) is has, refl)
moved-last (suc turns) old mid new name is has = (is.0, is.1, is.2, moved-last turns is.1 mid new name is.3 has)

pub moved-more : (turns : ℕ) (old mid new : MountState) (name : ℕ) → AreMoved turns old mid → HasMoved mid name new → AreMoved (turns + 1) old new
moved-more turns old mid new name is has =
    let e : suc turns ≡ turns + 1 = omega arith in
    subst (λ n. AreMoved n old new) e (moved-last turns old mid new name is has)

pub ready-more : (old new : MountState) (name : ℕ) → HasMoved old name new → IsReady new
ready-more old new name is = record {
  running = ap (λ (m : MountState). m.stopped) is.others ∙ is.ready.running;
  none = ap (λ (m : MountState). m.tentative) is.others ∙ is.ready.none;
}

pub free-more : (old new : MountState) (name : ℕ) → HasMoved old name new → old.holds ≡ [] → new.holds ≡ []
free-more old new name is free = ap (λ (m : MountState). m.holds) is.others ∙ free

pub above-more : (turns top : ℕ) (old new : MountState) (name : ℕ) → HasMoved old name new → turns + above_of old.blocks ≡ top → (turns + 1) + above_of new.blocks ≡ top
above-more turns top old new name is sum = omega (arith, is.above, sum)

-- what all turns leave
pub moved-files : (turns : ℕ) (old new : MountState) → AreMoved turns old new → files_of new.blocks ≡ files_of old.blocks
moved-files zero old new is = ap (λ (m : MountState). files_of m.blocks) is
moved-files (suc turns) old new is = moved-files turns is.1 new is.3 ∙ is.2.files

pub moved-capacity : (turns : ℕ) (old new : MountState) → AreMoved turns old new → capacity_of new.blocks ≡ capacity_of old.blocks
moved-capacity zero old new is = ap (λ (m : MountState). capacity_of m.blocks) is
moved-capacity (suc turns) old new is = moved-capacity turns is.1 new is.3 ∙ is.2.capacity

pub moved-info : (turns : ℕ) (old new : MountState) → AreMoved turns old new → info_of new.blocks ≡ info_of old.blocks
moved-info zero old new is = ap (λ (m : MountState). info_of m.blocks) is
moved-info (suc turns) old new is = moved-info turns is.1 new is.3 ∙ is.2.info

pub moved-above : (turns : ℕ) (old new : MountState) → AreMoved turns old new → turns + above_of new.blocks ≡ above_of old.blocks
moved-above zero old new is = let e = ap (λ (m : MountState). above_of m.blocks) is in omega (arith, e)
moved-above (suc turns) old new is = omega (arith, moved-above turns is.1 new is.3, is.2.above)

-- a turn that is refused
risen : (old new : ℕ) → new ≡ old + 1 → 0 < new
risen old new is = omega (arith, is)

none-begun : {A : Type 0} (o : Option A) (x : A) → o ≡ None → o ≡ Some x → ⊥
none-begun o x none some = cc

pub turn-refused : (start old new : MountState) (turns : ℕ) (fault : FileFault) → IsReady old → AreMoved turns start old → Squeezes old (Err fault) new → SqueezesAll start (Err fault) new
turn-refused start old new turns DirectoryFull ready moved is = (
  turns,
  subst (λ m. AreMoved turns start m) (sym is.7) moved,
  is.1,
  is.2,
  subst (λ (m : MountState). lowest_or (directory_of m.blocks) ≡ Some (is.1, is.2)) (sym is.7) is.3,
  subst (λ (m : MountState). limit_of m.blocks < entries_moved is.1 m.blocks) (sym is.7) is.4,
)
turn-refused start old new turns Device ready moved is = elim is [
  | inl missed ↦ inl (risen old.failed_reads new.failed_reads (ap (λ (m : MountState). m.failed_reads) missed.1))
  | inr failed ↦ inr (risen old.failed_writes new.failed_writes (ap (λ (m : MountState). m.failed_writes) failed.others))
]
turn-refused start old new turns Memory ready moved is = refl
turn-refused start old new turns TentativeOpen ready moved is = absurd (none-begun old.tentative is.1 ready.none is.2)
turn-refused start old new turns Stopped ready moved is = absurd (true≢false (sym is.0 ∙ ready.running))
turn-refused start old new turns NotFound ready moved is = absurd is
turn-refused start old new turns (NoRoom n) ready moved is = absurd is
turn-refused start old new turns (Busy other) ready moved is = absurd is
turn-refused start old new turns BadName ready moved is = absurd is
turn-refused start old new turns TooLong ready moved is = absurd is
turn-refused start old new turns NothingWritten ready moved is = absurd is

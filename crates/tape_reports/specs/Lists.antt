-- The listing of a tape, and why there is none.
use Rattle.std.specs.Prelude.{◌≡◌, ℕ, List}
use Rattle.word12.specs.declared.sizes.TheConstants.{CORE}
use Rattle.bin_tape.specs.Items.{Item}
use Rattle.bin_tape.specs.Tape.{IsTape}
use Rattle.bin_tape.specs.Fault.{IsFault}
use Rattle.tape_reports.specs.Listing.{lines_below}
use Rattle.refusals.specs.declared.faults.SessionFault.{SessionFault}
use Rattle.refusals.specs.declared.faults.SessionFault.TheVariants.{Tape, Memory}

-- the frames are a tape, and the text is the line of each cell that it gives a word, by rising cell
pub record IsListed (frames text : List ℕ) : Type 0 where
  pub items : List Item
  pub is_tape : IsTape frames items
  pub lines : text ≡ lines_below items CORE

-- the fault that ends the listing of frames: theirs as a tape, or want of memory
abbrev pub IsListingFault : List ℕ → SessionFault → Type 0
IsListingFault frames (Tape fault) = IsFault frames fault
IsListingFault frames Memory = Unit {0}
IsListingFault frames fault = ⊥

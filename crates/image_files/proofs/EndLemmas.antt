-- The end of a command whose line standard output does not take.
use Rattle.std.proofs.Common.{◌≡◌, ℕ, Bool, Option, List, refl}
use Rattle.hosts.specs.Event.{Event}
use Rattle.outcome.specs.declared.endings.Ending.{Ending}
use Rattle.outcome.specs.declared.endings.Ending.TheVariants.{Line, Fault, Failure, Busy, NotWritten, FullOutput, Unreported, NoReader, Misuse}
use Rattle.image_files.specs.Ending.{EndsInstead, EndsUnread}
use Rattle.image_files.specs.States.{TellsState}
use Rattle.image_files.specs.declared.states.ChangeState.{ChangeState}
use Rattle.image_files.specs.declared.states.ImageNotes.{ImageNotes}

-- where somebody reads, it is said what the image is, and then why the line is not taken
pub ends-unread : (is_data : Bool) (state : Option ChangeState) (notes : Option ImageNotes) (refusal : ℕ) (ending : Ending) (old told new : List Event) (status : ℕ)
    → (ending ≡ NoReader → ⊥) → TellsState state notes old told → EndsInstead is_data ending told new status → EndsUnread is_data state notes refusal ending old new status
ends-unread is_data state notes refusal (Line it) old told new status other tells ends = (told, tells, ends)
ends-unread is_data state notes refusal (Fault it) old told new status other tells ends = (told, tells, ends)
ends-unread is_data state notes refusal Failure old told new status other tells ends = (told, tells, ends)
ends-unread is_data state notes refusal (Busy it) old told new status other tells ends = (told, tells, ends)
ends-unread is_data state notes refusal (NotWritten it left) old told new status other tells ends = (told, tells, ends)
ends-unread is_data state notes refusal FullOutput old told new status other tells ends = (told, tells, ends)
ends-unread is_data state notes refusal Unreported old told new status other tells ends = (told, tells, ends)
ends-unread is_data state notes refusal Misuse old told new status other tells ends = (told, tells, ends)
ends-unread is_data state notes refusal NoReader old told new status other tells ends = absurd (other refl)

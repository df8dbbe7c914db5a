-- What the exit status of a change means for the files of who runs it.
use Rattle.std.specs.Prelude.{◌≡◌, ◌≢◌, ◌⊎◌, ℕ, suc, Bool, true, false, List, [], ◌∷◌}
use Rattle.hosts.specs.Event.{Event}
use Rattle.hosts.specs.Streams.{output}
use Rattle.program_tasks.specs.declared.forms.ImageForm.{ImageForm}
use Rattle.image_files.specs.Laws.{ChangesNothing}
use Rattle.keeper_laws.specs.Ended.{AllStay, DoesNothing, MayHoldAPart, SaysNo}
use Rattle.keeper_laws.specs.Made.{HasRescued, MakesNone, MayBeInPart}

-- how often standard output didn't take what was printed
abbrev pub failed_prints : List (Bool × List ℕ) → ℕ
failed_prints [] = 0
failed_prints ((true, bytes) ∷ earlier) = failed_prints earlier
failed_prints ((false, bytes) ∷ earlier) = suc (failed_prints earlier)

-- After some tries: with status 0 a command is done, and its lines were printed. With another one, where each print since then succeeded, the
-- files are left so. What follows changes no file.
pub record MeansSo (tries leaves : List Event → List Event → Type 0) (done : Bool → List Event → List Event → Type 0) (status : ℕ) (old new : List Event) : Type 0 where
  pub start : List Event
  pub waited : tries old start
  pub mid : List Event
  pub after : ChangesNothing mid new
  pub zero : status ≡ 0 → done true start mid
  pub other : status ≢ 0 → failed_prints (output new) ≡ failed_prints (output start) → leaves start mid

-- each file is as it was, or the image file may hold a part; that is so only where it could only be written in its place
abbrev pub LeavesImage : ImageForm → List Event → List Event → Type 0
LeavesImage form old new = AllStay form old new ⊎ MayHoldAPart form old new

-- what the status of a change of an image means; each try before did nothing
abbrev pub Means : ImageForm → (Bool → List Event → List Event → Type 0) → ℕ → List Event → List Event → Type 0
Means form = MeansSo DoesNothing (LeavesImage form)

-- of `patch`, which may print its own refusal
abbrev pub MeansPatch : ImageForm → (Bool → List Event → List Event → Type 0) → ℕ → List Event → List Event → Type 0
MeansPatch form = MeansSo DoesNothing (λ old new. LeavesImage form old new ⊎ SaysNo old new)

-- tries that each made no file; what comes before the first one does nothing
abbrev pub AreVain : List (List Event) → List Event → List Event → Type 0
AreVain [] old new = DoesNothing old new
AreVain (before ∷ earlier) old new = AreVain earlier old before × MakesNone before new

abbrev pub TriesInVain : List Event → List Event → Type 0
TriesInVain old new = (tries : List (List Event)) × AreVain tries old new

-- of the making of a new volume: none is made, or a file that is there may hold a part
abbrev pub MeansMade : (Bool → List Event → List Event → Type 0) → ℕ → List Event → List Event → Type 0
MeansMade = MeansSo TriesInVain (λ old new. MakesNone old new ⊎ MayBeInPart old new)

-- Of `rescue`, which is tried once. With status 0 nothing is lost. With another one none is made, or lines of the new one report a loss.
abbrev pub MeansRescued : List ℕ → ImageForm → ℕ → List Event → List Event → Type 0
MeansRescued name form = MeansSo DoesNothing (λ old new. MakesNone old new ⊎ HasRescued name form false true old new) (HasRescued name form true)

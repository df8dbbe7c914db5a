-- Progress changes no file.
use Rattle.std.proofs.Common.{◌∙◌, ℕ, Bool, true, false, Result, List, inl, inr}
use Rattle.hosts.specs.Event.{Event}
use Rattle.outcome.specs.declared.endings.Ending.{Ending}
use Rattle.host_progress.specs.Progressing.{BeginsProgress, EndsProgress, TellsDone, TellsProgress, WithProgress}
use Rattle.image_files.specs.Laws.{KeepsFiles, ChangesNothing}
use Rattle.image_files.proofs.LeaveLemmas.{same}

tells-done-never : (is_told : Bool) (done all : ℕ) (old new : List Event) → TellsDone is_told done all old new → ChangesNothing old new
tells-done-never false done all old new p = same old new p
tells-done-never true done all old new (passed, inl p) = same _ new p
tells-done-never true done all old new (passed, inr p) = same _ new p.2

pub progress-never : (is_told : Bool) (done all : ℕ) → KeepsFiles (TellsProgress is_told done all)
progress-never is_told done all old result new p = tells-done-never is_told done all old new p.1

pub begins-never : (is_told : Bool) (old new : List Event) → BeginsProgress is_told old new → ChangesNothing old new
begins-never true old new p = same _ new p.1
begins-never false old new (inl p) = same _ new p
begins-never false old new (inr p) = same _ new p

pub ends-never : (is_told : Bool) (old new : List Event) → EndsProgress is_told old new → ChangesNothing old new
ends-never false old new p = same old new p
ends-never true old new p = same _ new p.1

pub with-progress-never : {A : Type 0} (work : Bool → List Event → Result A Ending → List Event → Type 0) → ((is_told : Bool) → KeepsFiles (work is_told)) → KeepsFiles (WithProgress work)
with-progress-never work n old result new p = λ path. ends-never p.is_told p.done new p.ends path ∙ (n p.is_told p.begun result p.done p.works path ∙ begins-never p.is_told old p.begun p.begins path)

-- One file alone is touched, and none is left beside it.
use Rattle.std.proofs.Common.{◌≡◌, ◌∙◌, List, [], ℕ, inr, refl, sym, subst}
use Rattle.hosts.specs.Event.{Event}
use Rattle.hosts.specs.Place.{Step, about}
use Rattle.hosts.specs.Saving.{ClearsBeside}
use Rattle.hosts.specs.Streams.{changes_at}
use Rattle.image_files.specs.Saving.{TouchesOnly}
use Rattle.image_files.proofs.KeepLemmas.{of-file, of-folders}
use Rattle.keeper_laws.specs.Changed.{ChangesNoOther}

-- each file is as it was, and no folder was made
abbrev pub AreSame : List Event → List Event → Type 0
AreSame old new = (path : List ℕ) → changes_at path new ≡ changes_at path old

pub alone-only : (path : List ℕ) (old new : List Event) → TouchesOnly path old new → ChangesNoOther path old new
alone-only path old new only = record { others = only.others; beside = only.beside; keeps_folders = only.keeps_folders }

-- after what changes nothing
pub alone-after : (path : List ℕ) (old mid new : List Event) → AreSame old mid → ChangesNoOther path mid new → ChangesNoOther path old new
alone-after path old mid new same a = record {
  others = λ other apart. a.others other apart ∙ of-file other (same other);
  beside = subst (λ (s : List Step). ClearsBeside s (about path new)) (of-file path (same path)) a.beside;
  keeps_folders = a.keeps_folders ∙ of-folders [] (same []);
}

-- before what changes nothing
pub alone-before : (path : List ℕ) (old mid new : List Event) → AreSame mid new → ChangesNoOther path old mid → ChangesNoOther path old new
alone-before path old mid new same a = record {
  others = λ other apart. of-file other (same other) ∙ a.others other apart;
  beside = subst (λ (s : List Step). ClearsBeside (about path old) s) (sym (of-file path (same path))) a.beside;
  keeps_folders = of-folders [] (same []) ∙ a.keeps_folders;
}

clear-still : (steps : List Step) → ClearsBeside steps steps
clear-still steps start = inr (inr (refl, refl))

-- nothing is touched
pub alone-none : (path : List ℕ) (old new : List Event) → AreSame old new → ChangesNoOther path old new
alone-none path old new same = record {
  others = λ other apart. of-file other (same other);
  beside = subst (λ (s : List Step). ClearsBeside (about path old) s) (sym (of-file path (same path))) (clear-still (about path old));
  keeps_folders = of-folders [] (same []);
}

-- the same of a path that is another's
pub alone-at : (path other : List ℕ) (old new : List Event) → path ≡ other → ChangesNoOther other old new → ChangesNoOther path old new
alone-at path other old new is = subst (λ (p : List ℕ). ChangesNoOther p old new) (sym is)

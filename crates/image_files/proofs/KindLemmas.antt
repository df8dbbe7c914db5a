-- What a change saves is judged as what was read.
use Rattle.std.proofs.Common.{◌≡◌, ℕ, Bool, true, false, Ok, List, refl, inl, inr}
use Rattle.std.specs.Str.{bytes_eq}
use Rattle.hosts.specs.Event.{Event}
use Rattle.image_kind.specs.Keeping.{keeps_kind}
use Rattle.image_files.specs.Laws.{HasKeptKind}
use Rattle.image_files.specs.Saving.{IsFileWith, Saves, SavesIf, WritesIf}
use Rattle.image_files.specs.declared.images.Image.{Image}

written : (keeps : Bool) (image : Image) (bytes file : List ℕ) (old new : List Event) → keeps_kind image.judgment file ≡ keeps → IsFileWith image bytes file
    → WritesIf keeps image.judgment image.place.path.bytes.items image.place.name.bytes.items file old (Ok tt) new → HasKeptKind image bytes old new
written true image bytes file old new kind is p = record { file = file; is = is; kind = kind; saved = p }
written false image bytes file old new kind is p = absurd p

saved : (is_same : Bool) (image : Image) (bytes : List ℕ) (old new : List Event) → is_same ≡ false → SavesIf is_same image bytes old (Ok tt) new → HasKeptKind image bytes old new
saved true image bytes old new differ p = cc
saved false image bytes old new differ (inl (refused, told)) = absurd refused
saved false image bytes old new differ (inr (held, file, is, p)) = written (keeps_kind image.judgment file) image bytes file old new refl is p

pub kept-kind : (image : Image) (bytes : List ℕ) (old new : List Event) → bytes_eq image.bytes.items bytes ≡ false → Saves image bytes old (Ok tt) new → HasKeptKind image bytes old new
kept-kind image bytes old new differ p = saved (bytes_eq image.bytes.items bytes) image bytes old new differ p

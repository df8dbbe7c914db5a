-- A note on a file of the host changes none, and leaves what was printed on standard output.
use Rattle.std.proofs.Common.{◌≡◌, ℕ, Bool, true, false, List, ap}
use Rattle.hosts.specs.Event.{Event}
use Rattle.hosts.specs.Streams.{output, changes_at}
use Rattle.outcome.specs.declared.reasons.Reason.{Reason}
use Rattle.image_files.specs.Reasons.{TellsReason, TellsUnless}

pub reason-keeps : (why : Reason) (name : List ℕ) (old new : List Event) → TellsReason why name old new → (path : List ℕ) → changes_at path new ≡ changes_at path old
reason-keeps why name old new (text, ok, is, p) path = ap (λ (events : List Event). changes_at path events) p

pub unless-keeps : (is : Bool) (why : Reason) (name : List ℕ) (old new : List Event) → TellsUnless is why name old new → (path : List ℕ) → changes_at path new ≡ changes_at path old
unless-keeps true why name old new p path = ap (λ (events : List Event). changes_at path events) p
unless-keeps false why name old new p path = reason-keeps why name old new p path

pub unless-output : (is : Bool) (why : Reason) (name : List ℕ) (old new : List Event) → TellsUnless is why name old new → output new ≡ output old
unless-output true why name old new p = ap output p
unless-output false why name old new (text, ok, is, p) = ap output p

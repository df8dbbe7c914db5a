-- What is answered of a file that was read, or not.
use Rattle.std.proofs.Common.{◌≡◌, ◌∙◌, ℕ, Bool, true, false, Option, None, Some, List, [], ◌∷◌, Result, Ok, Err, ap, inl, inr}
use Rattle.std.specs.Prelude.{MatchResult}
use Rattle.std.specs.Global.{Vec}
use Rattle.hosts.specs.Event.{Event, Look, failed_call, look_call}
use Rattle.hosts.specs.Streams.{output, changes_at}
use Rattle.hosts.specs.declared.faults.HostFault.{HostFault}
use Rattle.outcome.specs.declared.endings.Ending.{Ending}
use Rattle.disk_layouts.specs.declared.layouts.Layout.{Layout}
use Rattle.image_kind.specs.Lines.{mended_lines}
use Rattle.image_kind.specs.declared.kinds.ImageKind.{ImageKind}
use Rattle.image_kind.specs.Keeping.{two_readings}
use Rattle.image_files.specs.Judging.{Judges, JudgesBy}
use Rattle.image_files.specs.Mending.{Mends, TellsLines}
use Rattle.image_files.specs.Reading.{HoldsAt, IsUnheldImage, IsUnread, Looks, LooksIf}
use Rattle.image_files.specs.ReadingSteps.{IsAnswer}
use Rattle.image_files.specs.declared.reading.ImagePlace.{ImagePlace}
use Rattle.image_files.specs.Reasons.{is_untold, is_want_of_memory}
use Rattle.outcome.specs.declared.contents.Content.TheVariants.{Image}
use Rattle.image_files.proofs.ReasonLemmas.{unless-keeps, unless-output}
use Rattle.outcome.specs.declared.reasons.Reason.TheVariants.{Fault}

pub looks : (name shown : List ℕ) (old between new : List Event) (found : Result (Vec ℕ) HostFault) (result : Result (Vec ℕ) Ending)
    → MatchResult found (λ bytes. between ≡ look_call name bytes.items ∷ old) (λ fault. between ≡ failed_call Look name fault ∷ old)
    → IsAnswer shown found between result new → Looks name shown old result new
unfolding IsUnread
looks name shown old between new (Ok bytes) (Ok it) called (same, few, is) = rw same (few, is ∙ called)
looks name shown old between new (Err fault) (Ok it) called answer = absurd answer
looks name shown old between new (Ok bytes) (Err ending) called (many, long) = inr (bytes.items, many, rw called at long)
looks name shown old between new (Err fault) (Err ending) called (ends, told) = inl (fault, ends, rw called at told)

-- a file that is not read leaves each as it was, and what was printed
pub unread-files : (name shown : List ℕ) (old : List Event) (ending : Ending) (new : List Event) → IsUnread name shown old ending new → (path : List ℕ) → changes_at path new ≡ changes_at path old
unfolding IsUnread
unread-files name shown old ending new (inl (fault, is, p)) path = unless-keeps (is_want_of_memory fault) (Fault fault) shown (failed_call Look name fault ∷ old) new p path
unread-files name shown old ending new (inr (bytes, many, inl (is, ok, p))) path = ap (λ (events : List Event). changes_at path events) p
unread-files name shown old ending new (inr (bytes, many, inr (is, p))) path = ap (λ (events : List Event). changes_at path events) p

pub unread-output : (name shown : List ℕ) (old : List Event) (ending : Ending) (new : List Event) → IsUnread name shown old ending new → output new ≡ output old
unfolding IsUnread
unread-output name shown old ending new (inl (fault, is, p)) = unless-output (is_want_of_memory fault) (Fault fault) shown (failed_call Look name fault ∷ old) new p
unread-output name shown old ending new (inr (bytes, many, inl (is, ok, p))) = ap output p
unread-output name shown old ending new (inr (bytes, many, inr (is, p))) = ap output p

-- so does one that is neither held nor read
pub unheld-output : (name : List ℕ) (old : List Event) (ending : Ending) (new : List Event) → IsUnheldImage name old ending new → output new ≡ output old
unfolding IsUnheldImage
unheld-output name old ending new (inl (fault, unheld, (between, idle, failed, why, told))) = unless-output (is_untold Image fault) (Fault fault) name between new told ∙ idle.prints
unheld-output name old ending new (inr (is, p)) = ap output p

pub unheld-files : (name : List ℕ) (old : List Event) (ending : Ending) (new : List Event) → IsUnheldImage name old ending new → (path : List ℕ) → changes_at path new ≡ changes_at path old
unfolding IsUnheldImage
unheld-files name old ending new (inl (fault, unheld, (between, idle, failed, why, told))) path = unless-keeps (is_untold Image fault) (Fault fault) name between new told path ∙ idle.files path
unheld-files name old ending new (inr (is, p)) path = ap (λ (events : List Event). changes_at path events) p

-- and so does one that is held
pub held-output : (name : List ℕ) (place : ImagePlace) (is_held : Bool) (old new : List Event) → HoldsAt name place is_held old new → output new ≡ output old
held-output name place true old new (true, ok, p) = ap output p
held-output name place true old new (false, ok, p) = ap output p
held-output name place false old new (idle, failed, why, may) = idle.prints

-- a file that is read, with its faults or without them, leaves what was printed on standard output
pub looks-output : (name shown : List ℕ) (old : List Event) (result : Result (Vec ℕ) Ending) (new : List Event) → Looks name shown old result new → output new ≡ output old
looks-output name shown old (Ok bytes) new p = ap output p.1
looks-output name shown old (Err ending) new p = unread-output name shown old ending new p

lines-output : (lines : List ℕ) (old new : List Event) → TellsLines lines old new → output new ≡ output old
lines-output [] old new p = ap output p
lines-output (c ∷ lines) old new p = ap output p.1

mends-output : (given : Option Layout) (is_plain : Bool) (name file : List ℕ) (old : List Event) (result : Result (Vec ℕ) Ending) (new : List Event) → Mends given is_plain name file old result new → output new ≡ output old
mends-output given is_plain name file old (Ok bytes) new p = lines-output (mended_lines name p.0) old new p.3
mends-output given is_plain name file old (Err ending) new p = ap output p.1

pub looks-if-output : (is_lenient : Bool) (given : Option Layout) (is_plain : Bool) (name : List ℕ) (old : List Event) (result : Result (Vec ℕ) Ending) (new : List Event)
    → LooksIf is_lenient given is_plain name old result new → output new ≡ output old
looks-if-output false given is_plain name old result new p = looks-output name name old result new p
looks-if-output true given is_plain name old (Ok bytes) new (inl ends) = absurd ends
looks-if-output true given is_plain name old (Err ending) new (inl ends) = looks-output name name old (Err ending) new ends
looks-if-output true given is_plain name old result new (inr it) =
    mends-output given is_plain name it.given.items it.between result new it.after ∙ looks-output name name old (Ok it.given) it.between it.done

-- so does the judgment of one
judges-by-output : (name : List ℕ) (two : Option (ImageKind × ImageKind)) (old : List Event) (result : Result (Unit {0}) Ending) (new : List Event) → JudgesBy name two old result new → output new ≡ output old
judges-by-output name None old (Ok it) new p = ap output p
judges-by-output name None old (Err ending) new p = absurd p
judges-by-output name (Some two) old (Ok it) new p = absurd p
judges-by-output name (Some two) old (Err ending) new (inl (is, ok, p)) = ap output p
judges-by-output name (Some two) old (Err ending) new (inr (is, p)) = ap output p

pub judges-output : (name : List ℕ) (given : Option Layout) (is_plain : Bool) (file : List ℕ) (old : List Event) (result : Result (Unit {0}) Ending) (new : List Event) → Judges name given is_plain file old result new → output new ≡ output old
judges-output name given is_plain file = judges-by-output name (two_readings given is_plain file)

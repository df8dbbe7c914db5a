-- What the calls of a history read and printed, and what the host denied, as a keeper asks for it.
use Rattle.std.proofs.Common.{◌≡◌, ◌⊎◌, ℕ, zero, suc, Bool, true, false, List, [], ◌∷◌, ◌++◌, refl, subst, sym, inl, inr, true≢false}
use Rattle.hosts.specs.Event.{Event, Call, Change, Alter, MakeBeside, OwnBeside, WriteBeside, SyncBeside, DropBeside, DateBeside, Rename, LinkNew, Claim, DropClaim, SyncFolder, WriteOver, FinishOver, Resolve, Hold, DropSeconds, Look, TakeInput, Alone, Leads, LockBeside, Free, There, MakeFolder, Print, Tell, Terminal, Seconds, Pause, Word, EndOfWords, TimeOf, Same, DropLeftovers}
use Rattle.hosts.specs.Streams.{errors, may_replace, read, with_alone, with_read, with_told}
use Rattle.keeper_laws.specs.Questions.{AlwaysHad, HasDenied, HasNote, HasRead}

either : {A B C : Type 0} → A ⊎ B → (B → C) → A ⊎ C
either (inl is) f = inl is
either (inr q) f = inr (f q)

-- ## What was read

read-so : (name bytes : List ℕ) (call : Call) (e : Event) (before : List Event) → HasRead name bytes (with_read call e before) → HasRead name bytes (e ∷ before)
read-so name bytes (Alter change) e before p = inr p
read-so name bytes Resolve e before p = inr p
read-so name bytes Hold e before p = inr p
read-so name bytes DropSeconds e before p = inr p
read-so name bytes Look e before p = p
read-so name bytes TakeInput e before p = p
read-so name bytes Alone e before p = inr p
read-so name bytes Leads e before p = inr p
read-so name bytes LockBeside e before p = inr p
read-so name bytes Free e before p = inr p
read-so name bytes There e before p = inr p
read-so name bytes MakeFolder e before p = inr p
read-so name bytes Print e before p = inr p
read-so name bytes Tell e before p = inr p
read-so name bytes Terminal e before p = inr p
read-so name bytes Seconds e before p = inr p
read-so name bytes Pause e before p = inr p
read-so name bytes Word e before p = inr p
read-so name bytes EndOfWords e before p = inr p
read-so name bytes TimeOf e before p = inr p
read-so name bytes Same e before p = p
read-so name bytes DropLeftovers e before p = inr p

pub has-read : (name bytes : List ℕ) (events : List Event) → HasRead name bytes (read events) → HasRead name bytes events
has-read name bytes [] p = p
has-read name bytes (e ∷ earlier) p = either (read-so name bytes e.call e (read earlier) p) (λ q. has-read name bytes earlier q)

pub read-among : (name bytes : List ℕ) (newer : List Event) (e : Event) (older : List Event) → e.call ≡ Look → e.name ≡ name → e.bytes ≡ bytes → HasRead name bytes (newer ++ e ∷ older)
read-among name bytes [] e older a b c = inl (a, b, c)
read-among name bytes (one ∷ newer) e older a b c = inr (read-among name bytes newer e older a b c)

-- ## What was always read

-- a call read these bytes, if it is one that reads under the name
abbrev Had : List ℕ → List ℕ → Event → Type 0
Had name bytes e = e.call ≡ Look → e.name ≡ name → e.ok ≡ true → e.bytes ≡ bytes

always-so : (name bytes : List ℕ) (call : Call) (e : Event) (before : List Event) → Had name bytes e → AlwaysHad name bytes before → AlwaysHad name bytes (with_read call e before)
always-so name bytes (Alter change) e before one all = all
always-so name bytes Resolve e before one all = all
always-so name bytes Hold e before one all = all
always-so name bytes DropSeconds e before one all = all
always-so name bytes Look e before one all = (one, all)
always-so name bytes TakeInput e before one all = (one, all)
always-so name bytes Alone e before one all = all
always-so name bytes Leads e before one all = all
always-so name bytes LockBeside e before one all = all
always-so name bytes Free e before one all = all
always-so name bytes There e before one all = all
always-so name bytes MakeFolder e before one all = all
always-so name bytes Print e before one all = all
always-so name bytes Tell e before one all = all
always-so name bytes Terminal e before one all = all
always-so name bytes Seconds e before one all = all
always-so name bytes Pause e before one all = all
always-so name bytes Word e before one all = all
always-so name bytes EndOfWords e before one all = all
always-so name bytes TimeOf e before one all = all
always-so name bytes Same e before one all = (one, all)
always-so name bytes DropLeftovers e before one all = all

pub always-read : (name bytes : List ℕ) (events : List Event) → AlwaysHad name bytes events → AlwaysHad name bytes (read events)
always-read name bytes [] all = all
always-read name bytes (e ∷ earlier) (one, all) = always-so name bytes e.call e (read earlier) one (always-read name bytes earlier all)

pub had-among : (name bytes : List ℕ) (newer : List Event) (e : Event) (older : List Event) → AlwaysHad name bytes (newer ++ e ∷ older) → e.call ≡ Look → e.name ≡ name → e.ok ≡ true → e.bytes ≡ bytes
had-among name bytes [] e older (one, all) = one
had-among name bytes (other ∷ newer) e older (one, all) = had-among name bytes newer e older all

-- ## What was printed

-- standard error was given this
abbrev pub IsTold : List ℕ → List (Bool × List ℕ) → Type 0
IsTold text [] = ⊥
IsTold text ((ok, bytes) ∷ earlier) = (bytes ≡ text) ⊎ IsTold text earlier

told-so : (text : List ℕ) (call : Call) (e : Event) (before : List (Bool × List ℕ)) → IsTold text (with_told call e before) → ((call ≡ Tell) × (e.bytes ≡ text)) ⊎ IsTold text before
told-so text (Alter change) e before p = inr p
told-so text Resolve e before p = inr p
told-so text Hold e before p = inr p
told-so text DropSeconds e before p = inr p
told-so text Look e before p = inr p
told-so text TakeInput e before p = inr p
told-so text Alone e before p = inr p
told-so text Leads e before p = inr p
told-so text LockBeside e before p = inr p
told-so text Free e before p = inr p
told-so text There e before p = inr p
told-so text MakeFolder e before p = inr p
told-so text Print e before p = inr p
told-so text Tell e before (inl is) = inl (refl, is)
told-so text Tell e before (inr p) = inr p
told-so text Terminal e before p = inr p
told-so text Seconds e before p = inr p
told-so text Pause e before p = inr p
told-so text Word e before p = inr p
told-so text EndOfWords e before p = inr p
told-so text TimeOf e before p = inr p
told-so text Same e before p = inr p
told-so text DropLeftovers e before p = inr p

pub has-note : (text : List ℕ) (events : List Event) → IsTold text (errors events) → HasNote text events
has-note text [] p = p
has-note text (e ∷ earlier) p = either (told-so text e.call e (errors earlier) p) (λ q. has-note text earlier q)

-- ## What the host denied

-- a call denied that a new file may take a path
abbrev IsDenial : Call → ℕ → Type 0
IsDenial call number = ((call ≡ Alone) ⊎ (call ≡ Alter Rename)) × (number ≡ 0)

denied-so : (call : Call) (ok : Bool) (number : ℕ) (before : Bool) → with_alone call ok number before ≡ false → IsDenial call number ⊎ (before ≡ false)
denied-so (Alter MakeBeside) ok number before p = inr p
denied-so (Alter OwnBeside) ok number before p = inr p
denied-so (Alter WriteBeside) ok number before p = inr p
denied-so (Alter SyncBeside) ok number before p = inr p
denied-so (Alter DropBeside) ok number before p = inr p
denied-so (Alter DateBeside) ok number before p = inr p
denied-so (Alter Rename) true number before p = inr p
denied-so (Alter Rename) false zero before p = inl (inr refl, refl)
denied-so (Alter Rename) false (suc number) before p = inr p
denied-so (Alter LinkNew) ok number before p = inr p
denied-so (Alter Claim) ok number before p = inr p
denied-so (Alter DropClaim) ok number before p = inr p
denied-so (Alter SyncFolder) ok number before p = inr p
denied-so (Alter WriteOver) ok number before p = inr p
denied-so (Alter FinishOver) ok number before p = inr p
denied-so Resolve ok number before p = inr p
denied-so Hold ok number before p = inr p
denied-so DropSeconds ok number before p = inr p
denied-so Look ok number before p = inr p
denied-so TakeInput ok number before p = inr p
denied-so Alone true zero before p = inl (inl refl, refl)
denied-so Alone true (suc zero) before p = absurd (true≢false p)
denied-so Alone true (suc (suc number)) before p = inr p
denied-so Alone false number before p = absurd (true≢false p)
denied-so Leads ok number before p = inr p
denied-so LockBeside ok number before p = inr p
denied-so Free ok number before p = inr p
denied-so There ok number before p = inr p
denied-so MakeFolder ok number before p = inr p
denied-so Print ok number before p = inr p
denied-so Tell ok number before p = inr p
denied-so Terminal ok number before p = inr p
denied-so Seconds ok number before p = inr p
denied-so Pause ok number before p = inr p
denied-so Word ok number before p = inr p
denied-so EndOfWords ok number before p = inr p
denied-so TimeOf ok number before p = inr p
denied-so Same ok number before p = inr p
denied-so DropLeftovers ok number before p = inr p

pub has-denied : (events : List Event) → may_replace events ≡ false → HasDenied events
has-denied [] p = absurd (true≢false p)
has-denied (e ∷ earlier) p = either (denied-so e.call e.ok e.number (may_replace earlier) p) (λ q. has-denied earlier q)

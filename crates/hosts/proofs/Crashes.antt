-- What changes leave after a crash.
use Rattle.std.proofs.Common.{◌≡◌, ℕ, Bool, true, false, List, [], ◌∷◌, ◌++◌, Option, Some, inl, inr, refl}
use Rattle.std.specs.Str.{bytes_eq}
use Rattle.hosts.specs.Event.{Event, Call, Change, Alter, MakeBeside, OwnBeside, WriteBeside, SyncBeside, DropBeside, DateBeside, Rename, LinkNew, Claim, DropClaim, SyncFolder, WriteOver, FinishOver, Resolve, Hold, DropSeconds, Look, TakeInput, Alone, Leads, LockBeside, Free, There, MakeFolder, Print, Tell, Terminal, Seconds, Pause, Word, EndOfWords, TimeOf, Same, DropLeftovers}
use Rattle.hosts.specs.Place.{Place, Step, Remainder, Anything, Leaves, may_leave, after, replay, with_moment, ever, with_step, about}
use Rattle.hosts.specs.Saving.{IsSaved}
use Rattle.hosts.specs.Laws.{IsSound}

-- what a change leaves is among what its moment adds
pub among : (c : Change) (ok : Bool) (number : ℕ) (bytes : List ℕ) (p : Place) (before : List Remainder) → ((f : Option (List ℕ)) → Leaves (may_leave p) f → Leaves before f) → (f : Option (List ℕ)) → Leaves (may_leave (after c ok number bytes p)) f → Leaves (with_moment c p before) f
among MakeBeside ok number bytes p before h f l = h f l
among OwnBeside ok number bytes p before h f l = h f l
among WriteBeside ok number bytes p before h f l = h f l
among SyncBeside ok number bytes p before h f l = h f l
among DropBeside ok number bytes p before h f l = h f l
among DateBeside ok number bytes p before h f l = h f l
among Rename true number bytes p before h f (inl new) = inl new
among Rename true number bytes p before h f (inr old) = inr (h f old)
among Rename false number bytes p before h f l = inr (h f l)
among LinkNew true number bytes p before h f (inl new) = inl new
among LinkNew true number bytes p before h f (inr old) = inr (h f old)
among LinkNew false number bytes p before h f l = inr (h f l)
among Claim true number bytes p before h f (inl new) = inl new
among Claim true number bytes p before h f (inr old) = inr (h f old)
among Claim false number bytes p before h f l = inr (h f l)
among DropClaim true number bytes p before h f (inl new) = inl new
among DropClaim true number bytes p before h f (inr old) = inr (h f old)
among DropClaim false number bytes p before h f l = inr (h f l)
among SyncFolder true number bytes p before h f (inl now) = h f (inl now)
among SyncFolder true number bytes p before h f (inr none) = absurd none
among SyncFolder false number bytes p before h f l = h f l
among WriteOver true number bytes p before h f l = inl tt
among WriteOver false number bytes p before h f l = inl tt
among FinishOver true number bytes p before h f l = inl tt
among FinishOver false number bytes p before h f l = inl tt

stays : (c : Change) (p : Place) (before : List Remainder) (f : Option (List ℕ)) → Leaves before f → Leaves (with_moment c p before) f
stays MakeBeside p before f l = l
stays OwnBeside p before f l = l
stays WriteBeside p before f l = l
stays SyncBeside p before f l = l
stays DropBeside p before f l = l
stays DateBeside p before f l = l
stays Rename p before f l = inr l
stays LinkNew p before f l = inr l
stays Claim p before f l = inr l
stays DropClaim p before f l = inr l
stays SyncFolder p before f l = l
stays WriteOver p before f l = inr l
stays FinishOver p before f l = inr l

now_among : (start : Place) (steps : List Step) (f : Option (List ℕ)) → Leaves (may_leave (replay start steps)) f → Leaves (ever start steps) f
now_among start [] f l = l
now_among start (s ∷ steps) f l = among s.change s.ok s.number s.bytes (replay start steps) (ever start steps) (now_among start steps) f l

pub ever_keeps : (start : Place) (later earlier : List Step) (f : Option (List ℕ)) → Leaves (may_leave (replay start earlier)) f → Leaves (ever start (later ++ earlier)) f
ever_keeps start [] earlier f l = now_among start earlier f l
ever_keeps start (s ∷ later) earlier f l = stays s.change (replay start (later ++ earlier)) (ever start (later ++ earlier)) f (ever_keeps start later earlier f l)

pub no_more : (c : Change) (ok : Bool) (number : ℕ) (bytes : List ℕ) (p : Place) (f : Option (List ℕ)) → Leaves (may_leave (after c ok number bytes p)) f → Leaves (with_moment c p (may_leave p)) f
no_more c ok number bytes p f l = among c ok number bytes p (may_leave p) (λ g m. m) f l

pub sound : (c : Change) (ok : Bool) (number : ℕ) (bytes : List ℕ) (p : Place) → IsSound p → IsSound (after c ok number bytes p)
sound MakeBeside true number bytes p s = record { file = s.file; beside = inl refl }
sound MakeBeside false number bytes p s = s
sound OwnBeside ok number bytes p s = s
sound WriteBeside true number bytes p s = record { file = s.file; beside = inl refl }
sound WriteBeside false number bytes p s = record { file = s.file; beside = inl refl }
sound SyncBeside true number bytes p s = record { file = s.file; beside = inr refl }
sound SyncBeside false number bytes p s = record { file = s.file; beside = inl refl }
sound DropBeside true number bytes p s = record { file = s.file; beside = inr refl }
sound DropBeside false number bytes p s = s
sound DateBeside ok number bytes p s = s
sound Rename true number bytes p s = record { file = s.beside; beside = inr refl }
sound Rename false number bytes p s = s
sound LinkNew true number bytes p s = record { file = s.beside; beside = s.beside }
sound LinkNew false number bytes p s = s
sound Claim true number bytes p s = record { file = inr refl; beside = s.beside }
sound Claim false number bytes p s = s
sound DropClaim true number bytes p s = record { file = inr refl; beside = s.beside }
sound DropClaim false number bytes p s = s
sound SyncFolder true number bytes p s = record { file = s.file; beside = s.beside }
sound SyncFolder false number bytes p s = s
sound WriteOver true number bytes p s = record { file = inl refl; beside = s.beside }
sound WriteOver false number bytes p s = record { file = inl refl; beside = s.beside }
sound FinishOver true number bytes p s = record { file = inr refl; beside = s.beside }
sound FinishOver false number bytes p s = record { file = inl refl; beside = s.beside }

pub torn : (p : Place) (f : Option (List ℕ)) → p.beside_on_disk ≡ Anything → Leaves (may_leave (after SyncFolder true 0 [] (after Rename true 0 [] p))) f
torn p f e = inl (rw e tt)

keeps : (c : Call) (e : Event) (other : List ℕ) (old : List Step) → bytes_eq e.name other ≡ false → with_step c e other old ≡ old
keeps (Alter change) e other old differs = rw differs refl
keeps Resolve e other old differs = refl
keeps Hold e other old differs = refl
keeps DropSeconds e other old differs = refl
keeps Look e other old differs = refl
keeps TakeInput e other old differs = refl
keeps Alone e other old differs = refl
keeps Leads e other old differs = refl
keeps LockBeside e other old differs = refl
keeps Free e other old differs = refl
keeps There e other old differs = refl
keeps MakeFolder e other old differs = refl
keeps Print e other old differs = refl
keeps Tell e other old differs = refl
keeps Terminal e other old differs = refl
keeps Seconds e other old differs = refl
keeps Pause e other old differs = refl
keeps Word e other old differs = refl
keeps EndOfWords e other old differs = refl
keeps TimeOf e other old differs = refl
keeps Same e other old differs = refl
keeps DropLeftovers e other old differs = refl

pub others_stay : (e : Event) (other : List ℕ) (old : List Event) → bytes_eq e.name other ≡ false → about other (e ∷ old) ≡ about other old
others_stay e other old differs = keeps e.call e other (about other old) differs

pub saved_alone : (bytes : List ℕ) (p : Place) (f : Option (List ℕ)) → IsSaved bytes p → Leaves (may_leave p) f → f ≡ Some bytes
saved_alone bytes p f s (inl now) = rw s.on_disk at now
saved_alone bytes p f s (inr old) = absurd (rw s.earlier at old)

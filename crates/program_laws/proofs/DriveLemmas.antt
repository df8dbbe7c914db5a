-- How a command ends by the file of a drive's disk.
use Rattle.std.proofs.Common.{◌≡◌, ◌⊎◌, ℕ, Bool, true, false, Option, None, Some, String, Result, Err, List, [], refl, sym, subst, inl, inr}
use Rattle.std.specs.Global.{Global}
use Rattle.std.specs.Str.{bytes_eq}
use Rattle.rk8e.specs.Packs.{PackState}
use Rattle.rk8e.specs.declared.faults.PackFault.{PackFault}
use Rattle.rk8e.specs.declared.faults.PackFault.TheVariants as pack
use Rattle.hosts.specs.Event.{Event}
use Rattle.hosts.specs.Faults.{class_of}
use Rattle.hosts.specs.declared.faults.FaultClass.{FaultClass}
use Rattle.hosts.specs.declared.faults.FaultClass.TheVariants as class
use Rattle.hosts.specs.declared.faults.Unwritten.{Unwritten}
use Rattle.hosts.specs.declared.faults.Unwritten.TheVariants as unwritten
use Rattle.volume_image.specs.declared.faults.ImageFault.{ImageFault}
use Rattle.program_reports.specs.declared.drives.DriveRefusal.TheVariants as refused
use Rattle.program_reports.specs.declared.programs.ProgramLine.TheVariants as line
use Rattle.refusals.specs.declared.faults.SessionFault.TheVariants.{Memory}
use Rattle.outcome.specs.Outcomes.{note_of_write, note_on}
use Rattle.outcome.specs.declared.contents.Content.{Content}
use Rattle.outcome.specs.declared.contents.Content.TheVariants.{Disk, Image}
use Rattle.outcome.specs.declared.endings.Ending.{Ending}
use Rattle.outcome.specs.declared.endings.Ending.TheVariants.{Line, Fault, Failure, Busy, NotWritten, FullOutput, Unreported, NoReader, Misuse}
use Rattle.outcome.specs.declared.notes.FileNote.TheVariants as note
use Rattle.image_files.specs.Reading.{Holds, IsUnheldImage, IsUnread, Looks, image_ending, looked_name}
use Rattle.image_files.specs.Saving.{Writes}
use Rattle.image_files.specs.Waiting.{Within}
use Rattle.image_files.specs.Work.{IsJust, Then, Purely}
use Rattle.image_files.specs.declared.reading.ImagePlace.{ImagePlace}
use Rattle.drive_files.specs.Drives.{OfDrive, of_drive}
use Rattle.drive_files.specs.Opening.{HoldsIf, HoldsToWrite, IsWritable, LooksIn, OpensDisk, OpensNamed, TakesPack, ending_of_pack, open_disk}
use Rattle.drive_files.specs.Saving.{SavesBytes, SavesDrive, SavesPack}
use Rattle.program_laws.specs.Disks.{NamesDrive}
use Rattle.program_laws.proofs.ReadLemmas.{unheld-so}

-- a file can't be read, holds no disk, is busy, or is not written; or memory is wanted
abbrev IsOfDisk : Ending → Type 0
IsOfDisk ending = (ending ≡ Line line.HostRead) ⊎ (((fault : ImageFault) × (ending ≡ Line (line.Image fault))) ⊎ ((ending ≡ Fault Memory)
    ⊎ (((content : Content) × (ending ≡ Busy content)) ⊎ ((content : Content) × (left : Unwritten) × (ending ≡ NotWritten content left)))))

names-it : (drive : ℕ) (ending : Ending) → IsOfDisk ending → NamesDrive drive (of_drive drive ending)
names-it drive ending (inl is) = subst (λ (e : Ending). NamesDrive drive (of_drive drive e)) (sym is) (inr (refused.Unread, [], λ is_data. refl))
names-it drive ending (inr (inl (fault, is))) = subst (λ (e : Ending). NamesDrive drive (of_drive drive e)) (sym is) (inr (refused.Image fault, [], λ is_data. refl))
names-it drive ending (inr (inr (inl is))) = subst (λ (e : Ending). NamesDrive drive (of_drive drive e)) (sym is) (inl refl)
names-it drive ending (inr (inr (inr (inl (content, is))))) =
    subst (λ (e : Ending). NamesDrive drive (of_drive drive e)) (sym is) (inr (refused.Busy, note_on note.Busy (Disk drive), λ is_data. refl))
names-it drive ending (inr (inr (inr (inr (content, left, is))))) =
    subst (λ (e : Ending). NamesDrive drive (of_drive drive e)) (sym is) (inr (refused.Unwritten, note_on (note_of_write left) (Disk drive), λ is_data. refl))

-- a step ends a command in no other way
abbrev EndsOfDisk : {A : Type 0} → (List Event → Result A Ending → List Event → Type 0) → Type 0
EndsOfDisk step = (old : List Event) (ending : Ending) (new : List Event) → step old (Err ending) new → IsOfDisk ending

then-ends : {A B : Type 0} (first : List Event → Result A Ending → List Event → Type 0) (next : A → List Event → Result B Ending → List Event → Type 0) → EndsOfDisk first → ((given : A) → EndsOfDisk (next given)) → EndsOfDisk (Then first next)
then-ends first next f n old ending new (inl ends) = f old ending new ends
then-ends first next f n old ending new (inr it) = n it.given it.between ending new it.after

just-ends : {A : Type 0} (given : A) → EndsOfDisk (Purely (IsJust given))
just-ends given old ending new p = absurd p.0

drive-ends : {A : Type 0} (drive : ℕ) (step : List Event → Result A Ending → List Event → Type 0) → EndsOfDisk step → (old : List Event) (ended : Ending) (new : List Event) → OfDrive drive step old (Err ended) new → NamesDrive drive ended
drive-ends drive step f old ended new (ending, p, is) = subst (λ (e : Ending). NamesDrive drive e) (sym is) (names-it drive ending (f old ending new p))

-- ## Opening

of-class : (of : FaultClass) (ending : Ending) → ending ≡ image_ending of → IsOfDisk ending
of-class class.Busy ending is = inr (inr (inr (inl (Image, is))))
of-class class.Memory ending is = inr (inr (inl is))
of-class class.Other ending is = inl is

holds-ends : (name : List ℕ) → EndsOfDisk (Holds name)
unfolding IsUnheldImage
holds-ends name old ending new (inl (fault, unheld, not_held)) = of-class (class_of fault) ending (unheld-so fault ending unheld)
holds-ends name old ending new (inr (is, p)) = inr (inr (inl is))

looks-ends : (name shown : List ℕ) → EndsOfDisk (Looks name shown)
unfolding IsUnread
looks-ends name shown old ending new (inl (fault, is, p)) = of-class (class_of fault) ending is
looks-ends name shown old ending new (inr (bytes, many, inl (is, ok, p))) = inl is
looks-ends name shown old ending new (inr (bytes, many, inr (is, p))) = inr (inr (inl is))

writable-ends : (place : ImagePlace) (is : Bool) (name : List ℕ) → EndsOfDisk (IsWritable place is name)
writable-ends place true name old ending new p = absurd p.0
writable-ends place false name old ending new p = inr (inr (inr (inr (Image, unwritten.AsItWas, p.0))))

holds-if-ends : (is_kept : Bool) (seconds : ℕ) (name : List ℕ) → EndsOfDisk (HoldsIf is_kept seconds name)
holds-if-ends true seconds name = then-ends (HoldsToWrite seconds name) (λ place. Purely (IsJust (Some place)))
    (then-ends (Within seconds name (Holds name)) (λ place. IsWritable place place.is_held name) (λ old ending new w. holds-ends name w.between ending w.after w.last) (λ place. writable-ends place place.is_held name))
    (λ place. just-ends (Some place))
holds-if-ends false seconds name = just-ends {A = Option ImagePlace} None

looks-in-ends : (place : Option ImagePlace) (name : List ℕ) → EndsOfDisk (LooksIn place name)
looks-in-ends None name = looks-ends name name
looks-in-ends (Some place) name = looks-ends (looked_name place name) name

of-pack : (fault : PackFault) (ending : Ending) → ending ≡ ending_of_pack fault → IsOfDisk ending
of-pack pack.NotWhole ending is = inr (inl (_, is))
of-pack pack.TooLarge ending is = inr (inl (_, is))
of-pack (pack.BadWord number) ending is = inr (inl (_, is))
of-pack pack.Memory ending is = inr (inr (inl is))

takes-ends : (name bytes : List ℕ) → EndsOfDisk (TakesPack name bytes)
takes-ends name bytes old ending new (fault, reads, inl (is, ok, p)) = of-pack fault ending is
takes-ends name bytes old ending new (fault, reads, inr (is, p)) = inr (inr (inl is))

opens-ends : (is_kept : Bool) (seconds : ℕ) (name : List ℕ) → EndsOfDisk (OpensDisk is_kept seconds name)
opens-ends is_kept seconds name = then-ends (HoldsIf is_kept seconds name) (λ place. Then (LooksIn place name) (λ bytes. Then (TakesPack name bytes.items) (λ it. Purely (IsJust (open_disk it place))))) (holds-if-ends is_kept seconds name)
    (λ place. then-ends (LooksIn place name) (λ bytes. Then (TakesPack name bytes.items) (λ it. Purely (IsJust (open_disk it place)))) (looks-in-ends place name)
    (λ bytes. then-ends (TakesPack name bytes.items) (λ it. Purely (IsJust (open_disk it place))) (takes-ends name bytes.items) (λ it. just-ends (open_disk it place))))

pub opened-names : (drive : ℕ) (is_kept : Bool) (seconds : ℕ) (name : Option (String Global)) (old : List Event) (ending : Ending) (new : List Event) → OpensNamed drive is_kept seconds name old (Err ending) new → NamesDrive drive ending
opened-names drive is_kept seconds None old ending new p = absurd p.0
opened-names drive is_kept seconds (Some name) old ending new (inl ends) = drive-ends drive (OpensDisk is_kept seconds name.bytes.items) (opens-ends is_kept seconds name.bytes.items) old ending new ends
opened-names drive is_kept seconds (Some name) old ending new (inr it) = absurd it.after.0

-- ## Saving

writes-ends : (content : Content) (path name file : List ℕ) → EndsOfDisk (Writes content path name file)
writes-ends content path name file old (NotWritten it left) new p = inr (inr (inr (inr (it, left, refl))))
writes-ends content path name file old (Line it) new p = absurd p
writes-ends content path name file old (Fault it) new p = absurd p
writes-ends content path name file old Failure new p = absurd p
writes-ends content path name file old (Busy it) new p = absurd p
writes-ends content path name file old FullOutput new p = absurd p
writes-ends content path name file old Unreported new p = absurd p
writes-ends content path name file old NoReader new p = absurd p
writes-ends content path name file old Misuse new p = absurd p

bytes-end : (is : Bool) (file : List ℕ) (place : ImagePlace) (saved after : List ℕ) → EndsOfDisk (SavesBytes is file place saved after)
bytes-end true file place saved after old ending new p = absurd p.0.0
bytes-end false file place saved after old ending new p = writes-ends Image place.path.bytes.items place.name.bytes.items file old ending new p.0

packs-end : (changed : Bool) (it : PackState) (place : ImagePlace) (saved after : List ℕ) → EndsOfDisk (SavesPack changed it place saved after)
packs-end false it place saved after old ending new p = absurd p.0.0
packs-end true it place saved after old ending new (inl p) = inr (inr (inl p.0.0))
packs-end true it place saved after old ending new (inr (file, is, p)) = bytes-end (bytes_eq file saved) file place saved after old ending new p

pub saved-names : (drive : ℕ) (it : Option PackState) (place : Option ImagePlace) (saved after : List ℕ) (old : List Event) (ending : Ending) (new : List Event) → SavesDrive drive it place saved after old (Err ending) new → NamesDrive drive ending
saved-names drive None place saved after old ending new p = absurd p.0.0
saved-names drive (Some it) None saved after old ending new p = absurd p.0.0
saved-names drive (Some it) (Some place) saved after old ending new p = drive-ends drive (SavesPack it.changed it place saved after) (packs-end it.changed it place saved after) old ending new p

-- What the opening of drives leaves as it was, and a save after a look.
use Rattle.std.proofs.Common.{◌≡◌, ◌∙◌, ℕ, Bool, true, false, true≢false, ◌&&◌, ◌||◌, not, is_some, Option, None, Some, String, Result, Ok, Err, List, ap, refl, inl, inr}
use Rattle.std.specs.Global.{Global}
use Rattle.hosts.specs.Event.{Event}
use Rattle.rk8e.specs.Packs.{PackState}
use Rattle.rk8e.specs.State.{DiskState}
use Rattle.program_tasks.specs.declared.boots.DiskForm.{DiskForm}
use Rattle.program_tasks.specs.declared.boots.DriveForm.{DriveForm}
use Rattle.outcome.specs.declared.endings.Ending.{Ending}
use Rattle.image_files.specs.Laws.{KeepsFiles}
use Rattle.image_files.specs.Reading.{Holds, looked_name}
use Rattle.image_files.specs.Waiting.{Within}
use Rattle.image_files.specs.Work.{Then, Purely, IsJust}
use Rattle.image_files.specs.declared.reading.ImagePlace.{ImagePlace}
use Rattle.image_files.proofs.KeepLemmas.{holds-keeps, looks-keeps, purely-keeps, same, then-keeps, within-keeps}
use Rattle.drive_files.specs.Devices.{no_papers}
use Rattle.drive_files.specs.Drives.{OfDrive}
use Rattle.drive_files.specs.Mounting.{place_of, places_of}
use Rattle.drive_files.specs.Opening.{AreOpen, are_saved, is_saved, HoldsIf, HoldsToWrite, IsWritable, LooksIn, OpensDisk, OpensDrive, OpensDrives, OpensNamed, TakesPack, open_disk}
use Rattle.drive_files.specs.Saving.{SavesDrive, SavesDrives}
use Rattle.drive_files.specs.declared.mounting.Places.{Places}
use Rattle.drive_files.specs.declared.opening.OpenDisk.{OpenDisk}
use Rattle.drive_files.specs.declared.opening.OpenDrives.{OpenDrives}

-- ## Before the run

writable-keeps : (place : ImagePlace) (is : Bool) (name : List ℕ) → KeepsFiles (IsWritable place is name)
writable-keeps place true name old result new p path = same path p.1
writable-keeps place false name old (Ok it) new p path = absurd p
writable-keeps place false name old (Err ending) new (is, (text, ok, told, p)) path = same path p

to-write-keeps : (seconds : ℕ) (name : List ℕ) → KeepsFiles (HoldsToWrite seconds name)
to-write-keeps seconds name = then-keeps (Within seconds name (Holds name)) (λ place. IsWritable place place.is_held name) (within-keeps seconds name (Holds name) (holds-keeps name)) (λ place. writable-keeps place place.is_held name)

hold-if-keeps : (is_kept : Bool) (seconds : ℕ) (name : List ℕ) → KeepsFiles (HoldsIf is_kept seconds name)
hold-if-keeps true seconds name = then-keeps (HoldsToWrite seconds name) (λ place. Purely (IsJust (Some place))) (to-write-keeps seconds name) (λ place. purely-keeps (IsJust (Some place)))
hold-if-keeps false seconds name = purely-keeps (IsJust None)

look-keeps : (place : Option ImagePlace) (name : List ℕ) → KeepsFiles (LooksIn place name)
look-keeps None name = looks-keeps name name
look-keeps (Some place) name = looks-keeps (looked_name place name) name

takes-keeps : (name bytes : List ℕ) → KeepsFiles (TakesPack name bytes)
takes-keeps name bytes old (Ok pack) new p path = same path p.1
takes-keeps name bytes old (Err ending) new (fault, reads, inl (is, ok, p)) path = same path p
takes-keeps name bytes old (Err ending) new (fault, reads, inr p) path = same path p.1

disk-keeps : (is_kept : Bool) (seconds : ℕ) (name : List ℕ) → KeepsFiles (OpensDisk is_kept seconds name)
disk-keeps is_kept seconds name = then-keeps (HoldsIf is_kept seconds name) (λ place. Then (LooksIn place name) (λ bytes. Then (TakesPack name bytes.items) (λ pack. Purely (IsJust (open_disk pack place)))))
    (hold-if-keeps is_kept seconds name) (λ place. then-keeps (LooksIn place name) (λ bytes. Then (TakesPack name bytes.items) (λ pack. Purely (IsJust (open_disk pack place))))
    (look-keeps place name) (λ bytes. then-keeps (TakesPack name bytes.items) (λ pack. Purely (IsJust (open_disk pack place)))
    (takes-keeps name bytes.items) (λ pack. purely-keeps (IsJust (open_disk pack place)))))

of-drive-keeps : {A : Type 0} (drive : ℕ) (step : List Event → Result A Ending → List Event → Type 0) → KeepsFiles step → KeepsFiles (OfDrive drive step)
of-drive-keeps drive step keeps old (Ok it) new p path = keeps old (Ok it) new p path
of-drive-keeps drive step keeps old (Err ended) new (ending, p, is) path = keeps old (Err ending) new p path

named-keeps : (drive : ℕ) (is_kept : Bool) (seconds : ℕ) (name : Option (String Global)) → KeepsFiles (OpensNamed drive is_kept seconds name)
named-keeps drive is_kept seconds None = purely-keeps (IsJust None)
named-keeps drive is_kept seconds (Some name) = then-keeps (OfDrive drive (OpensDisk is_kept seconds name.bytes.items)) (λ disk. Purely (IsJust (Some disk)))
    (of-drive-keeps drive (OpensDisk is_kept seconds name.bytes.items) (disk-keeps is_kept seconds name.bytes.items)) (λ disk. purely-keeps (IsJust (Some disk)))

drive-keeps : (drive : ℕ) (given : DriveForm) (form : DiskForm) → KeepsFiles (OpensDrive drive given form)
drive-keeps drive given form = named-keeps drive (not form.is_look && not given.is_locked) form.wait given.image

pub drives-keep : (form : DiskForm) → KeepsFiles (OpensDrives form)
drives-keep form =
    then-keeps (OpensDrive 0 form.drive0 form) (λ disk0. Then (OpensDrive 1 form.drive1 form) (λ disk1. Then (OpensDrive 2 form.drive2 form) (λ disk2.
    Then (OpensDrive 3 form.drive3 form) (λ disk3. Purely (AreOpen disk0 disk1 disk2 disk3))))) (drive-keeps 0 form.drive0 form)
    (λ disk0. then-keeps (OpensDrive 1 form.drive1 form) (λ disk1. Then (OpensDrive 2 form.drive2 form) (λ disk2.
    Then (OpensDrive 3 form.drive3 form) (λ disk3. Purely (AreOpen disk0 disk1 disk2 disk3)))) (drive-keeps 1 form.drive1 form)
    (λ disk1. then-keeps (OpensDrive 2 form.drive2 form) (λ disk2. Then (OpensDrive 3 form.drive3 form) (λ disk3. Purely (AreOpen disk0 disk1 disk2 disk3))) (drive-keeps 2 form.drive2 form)
    (λ disk2. then-keeps (OpensDrive 3 form.drive3 form) (λ disk3. Purely (AreOpen disk0 disk1 disk2 disk3)) (drive-keeps 3 form.drive3 form)
    (λ disk3. purely-keeps (AreOpen disk0 disk1 disk2 disk3)))))

-- ## Drives of which none is saved

-- a file that isn't to be saved isn't held
taken-unplaced : (name : List ℕ) (place : Option ImagePlace) (bytes : List ℕ) (old : List Event) (disk : OpenDisk) (new : List Event)
    → Then (TakesPack name bytes) (λ pack. Purely (IsJust (open_disk pack place))) old (Ok disk) new → disk.place ≡ place
taken-unplaced name place bytes old disk new (inl ends) = absurd ends
taken-unplaced name place bytes old disk new (inr it) = ap (λ (d : OpenDisk). d.place) it.after.0

looked-unplaced : (name : List ℕ) (place : Option ImagePlace) (old : List Event) (disk : OpenDisk) (new : List Event)
    → Then (LooksIn place name) (λ bytes. Then (TakesPack name bytes.items) (λ pack. Purely (IsJust (open_disk pack place)))) old (Ok disk) new → disk.place ≡ place
looked-unplaced name place old disk new (inl ends) = absurd ends
looked-unplaced name place old disk new (inr it) = taken-unplaced name place it.given.items it.between disk new it.after

disk-unplaced : (seconds : ℕ) (name : List ℕ) (old : List Event) (disk : OpenDisk) (new : List Event) → OpensDisk false seconds name old (Ok disk) new → disk.place ≡ None
disk-unplaced seconds name old disk new (inl ends) = absurd ends
disk-unplaced seconds name old disk new (inr it) = looked-unplaced name it.given it.between disk new it.after ∙ it.done.0

named-unplaced : (drive seconds : ℕ) (name : Option (String Global)) (old : List Event) (found : Option OpenDisk) (new : List Event) → OpensNamed drive false seconds name old (Ok found) new → place_of found ≡ None
named-unplaced drive seconds None old found new p = ap place_of p.0
named-unplaced drive seconds (Some name) old found new (inl ends) = absurd ends
named-unplaced drive seconds (Some name) old found new (inr it) = ap place_of it.after.0 ∙ disk-unplaced seconds name.bytes.items old it.given it.between it.done

saves-nothing : (drive : ℕ) (pack : Option PackState) (place : Option ImagePlace) (saved saved' : List ℕ) (old : List Event) (result : Result (Unit {0}) Ending) (new : List Event) → place ≡ None
    → SavesDrive drive pack place saved saved' old result new → new ≡ old
saves-nothing drive None place saved saved' old result new none p = p.0.1
saves-nothing drive (Some pack) None saved saved' old result new none p = p.0.1
saves-nothing drive (Some pack) (Some place) saved saved' old result new none p = absurd (some-none place none)
  where
    some-none : (place : ImagePlace) → Some place ≡ None → ⊥
    some-none place is = cc

unplaced-by : (drive : ℕ) (is_kept : Bool) (seconds : ℕ) (name : Option (String Global)) (old : List Event) (found : Option OpenDisk) (new : List Event) → (is_some name && is_kept) ≡ false
    → OpensNamed drive is_kept seconds name old (Ok found) new → place_of found ≡ None
unplaced-by drive is_kept seconds None old found new is p = ap place_of p.0
unplaced-by drive true seconds (Some name) old found new is p = absurd (true≢false is)
unplaced-by drive false seconds (Some name) old found new is p = named-unplaced drive seconds (Some name) old found new p

unsaved-unplaced : (drive : ℕ) (given : DriveForm) (form : DiskForm) (old : List Event) (found : Option OpenDisk) (new : List Event) → is_saved form.is_look given ≡ false
    → OpensDrive drive given form old (Ok found) new → place_of found ≡ None
unsaved-unplaced drive given form old found new is p = unplaced-by drive (not form.is_look && not given.is_locked) form.wait given.image old found new is p

or-parts : (a b : Bool) → (a || b) ≡ false → (a ≡ false) × (b ≡ false)
or-parts true b is = absurd (true≢false is)
or-parts false b is = (refl, is)

-- none of four is to be saved
abbrev AreUnsaved : DiskForm → Type 0
AreUnsaved form = (is_saved form.is_look form.drive0 ≡ false) × (is_saved form.is_look form.drive1 ≡ false) × (is_saved form.is_look form.drive2 ≡ false) × (is_saved form.is_look form.drive3 ≡ false)

are-unsaved : (form : DiskForm) → are_saved form ≡ false → AreUnsaved form
are-unsaved form is =
    let a = is_saved form.is_look form.drive0 in
    let b = is_saved form.is_look form.drive1 in
    let c = is_saved form.is_look form.drive2 in
    let d = is_saved form.is_look form.drive3 in
    let p = or-parts a (b || (c || d)) is in
    let q = or-parts b (c || d) p.1 in
    let r = or-parts c d q.1 in
    (p.0, q.0, r.0, r.1)

-- no file of a drive is held
abbrev pub AreUnplaced : OpenDrives → Type 0
AreUnplaced drives = (place_of drives.disk0 ≡ None) × (place_of drives.disk1 ≡ None) × (place_of drives.disk2 ≡ None) × (place_of drives.disk3 ≡ None)

abbrev Drive : Type 0
Drive = Option OpenDisk

module _ (form : DiskForm) (none : AreUnsaved form) (drives : OpenDrives) where
  after-third : (disk0 disk1 disk2 : Drive) (old new : List Event) → place_of disk0 ≡ None → place_of disk1 ≡ None → place_of disk2 ≡ None
      → Then (OpensDrive 3 form.drive3 form) (λ disk3. Purely (AreOpen disk0 disk1 disk2 disk3)) old (Ok drives) new → AreUnplaced drives
  after-third disk0 disk1 disk2 old new n0 n1 n2 (inl ends) = absurd ends
  after-third disk0 disk1 disk2 old new n0 n1 n2 (inr it) = (
    ap place_of it.after.0.0 ∙ n0,
    ap place_of it.after.0.1 ∙ n1,
    ap place_of it.after.0.2 ∙ n2,
    ap place_of it.after.0.3 ∙ unsaved-unplaced 3 form.drive3 form old it.given it.between none.3 it.done,
  )

  after-second : (disk0 disk1 : Drive) (old new : List Event) → place_of disk0 ≡ None → place_of disk1 ≡ None
      → Then (OpensDrive 2 form.drive2 form) (λ disk2. Then (OpensDrive 3 form.drive3 form) (λ disk3. Purely (AreOpen disk0 disk1 disk2 disk3))) old (Ok drives) new → AreUnplaced drives
  after-second disk0 disk1 old new n0 n1 (inl ends) = absurd ends
  after-second disk0 disk1 old new n0 n1 (inr it) = after-third disk0 disk1 it.given it.between new n0 n1 (unsaved-unplaced 2 form.drive2 form old it.given it.between none.2 it.done) it.after

  after-first : (disk0 : Drive) (old new : List Event) → place_of disk0 ≡ None
      → Then (OpensDrive 1 form.drive1 form) (λ disk1. Then (OpensDrive 2 form.drive2 form) (λ disk2. Then (OpensDrive 3 form.drive3 form) (λ disk3. Purely (AreOpen disk0 disk1 disk2 disk3)))) old (Ok drives) new
      → AreUnplaced drives
  after-first disk0 old new n0 (inl ends) = absurd ends
  after-first disk0 old new n0 (inr it) = after-second disk0 it.given it.between new n0 (unsaved-unplaced 1 form.drive1 form old it.given it.between none.1 it.done) it.after

  first-unplaced : (old new : List Event) → OpensDrives form old (Ok drives) new → AreUnplaced drives
  first-unplaced old new (inl ends) = absurd ends
  first-unplaced old new (inr it) = after-first it.given it.between new (unsaved-unplaced 0 form.drive0 form old it.given it.between none.0 it.done) it.after

pub drives-unplaced : (form : DiskForm) → are_saved form ≡ false → (drives : OpenDrives) (old new : List Event) → OpensDrives form old (Ok drives) new → AreUnplaced drives
drives-unplaced form is drives old new p = first-unplaced form (are-unsaved form is) drives old new p

-- no file of these places is held
abbrev pub AreNone : Places → Type 0
AreNone places = (places.place0 ≡ None) × (places.place1 ≡ None) × (places.place2 ≡ None) × (places.place3 ≡ None) × (places.papers ≡ no_papers)

pub saves-no-place : (disk : DiskState) (places places' : Places) (old : List Event) (result : Result (Unit {0}) Ending) (new : List Event) → AreNone places
    → SavesDrives disk places places' old result new → (new ≡ old) × AreNone places'
saves-no-place disk places places' old result new (n0, n1, n2, n3, n4) s = (
  saves-nothing 3 disk.drive3.pack places.place3 places.rooms.saved3.items places'.rooms.saved3.items s.after_third s.fourth new n3 s.saves3
      ∙ (saves-nothing 2 disk.drive2.pack places.place2 places.rooms.saved2.items places'.rooms.saved2.items s.after_second s.third s.after_third n2 s.saves2
      ∙ (saves-nothing 1 disk.drive1.pack places.place1 places.rooms.saved1.items places'.rooms.saved1.items s.after_first s.second s.after_second n1 s.saves1
      ∙ saves-nothing 0 disk.drive0.pack places.place0 places.rooms.saved0.items places'.rooms.saved0.items old s.first s.after_first n0 s.saves0)),
  (s.same.0 ∙ n0, s.same.1 ∙ n1, s.same.2 ∙ n2, s.same.3 ∙ n3, s.same.4 ∙ n4),
)

pub saves-none : (disk : DiskState) (drives : OpenDrives) (places' : Places) (old : List Event) (result : Result (Unit {0}) Ending) (new : List Event) → AreUnplaced drives
    → SavesDrives disk (places_of drives) places' old result new → new ≡ old
saves-none disk drives places' old result new none s = (saves-no-place disk (places_of drives) places' old result new (none.0, none.1, none.2, none.3, refl) s).0

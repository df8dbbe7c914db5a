-- A machine whose pack was taken out of a drive and put back.
use Rattle.std.proofs.Common.{◌≡◌, ◌∙◌, ℕ, nat_eq, Bool, true, false, if◌then◌else◌, Option, None, Some, refl, ap, sym}
use Rattle.rk8e.specs.Packs.{PackState}
use Rattle.rk8e.specs.State.{DiskState, DriveState, drive_of, with_drive, with_pack}
use Rattle.cpu8e.specs.State.{with_request}
use Rattle.pdp8e.specs.State.{IsJoined, Pdp8e, machine_of}

-- the disk when a drive has this pack, or none
abbrev with-pack-in : DiskState → ℕ → Option PackState → DiskState
with-pack-in d n pack = with_drive d n (with_pack (drive_of d n) pack)

-- a drive, by whether its number is 0, 1 or 2, and the disk with another in its place
abbrev drive-by : Bool → Bool → Bool → DiskState → DriveState
drive-by a b c d = if a then d.drive0 else if b then d.drive1 else if c then d.drive2 else d.drive3

abbrev with-by : Bool → Bool → Bool → DiskState → DriveState → DiskState
with-by a b c d x = if a then record d { drive0 = x } else if b then record d { drive1 = x } else if c then record d { drive2 = x } else record d { drive3 = x }

was-by : (a b c : Bool) (d : DiskState) (pack : Option PackState) → (drive-by a b c d).pack ≡ pack → with-by a b c d (with_pack (drive-by a b c d) pack) ≡ d
was-by true b c d pack is = ap (λ p. let y : DiskState = record d { drive0 = with_pack d.drive0 p } in y) (sym is)
was-by false true c d pack is = ap (λ p. let y : DiskState = record d { drive1 = with_pack d.drive1 p } in y) (sym is)
was-by false false true d pack is = ap (λ p. let y : DiskState = record d { drive2 = with_pack d.drive2 p } in y) (sym is)
was-by false false false d pack is = ap (λ p. let y : DiskState = record d { drive3 = with_pack d.drive3 p } in y) (sym is)

back-by : (a b c : Bool) (d : DiskState) (other pack : Option PackState)
    → (let x : DiskState = with-by a b c d (with_pack (drive-by a b c d) other) in with-by a b c x (with_pack (drive-by a b c x) pack)) ≡ with-by a b c d (with_pack (drive-by a b c d) pack)
back-by true b c d other pack = refl
back-by false true c d other pack = refl
back-by false false true d other pack = refl
back-by false false false d other pack = refl

as-it-was : (d : DiskState) (n : ℕ) (pack : Option PackState) → (drive_of d n).pack ≡ pack → with-pack-in d n pack ≡ d
as-it-was d n pack is = was-by (nat_eq n 0) (nat_eq n 1) (nat_eq n 2) d pack is

put-back : (d : DiskState) (n : ℕ) (other pack : Option PackState) → with-pack-in (with-pack-in d n other) n pack ≡ with-pack-in d n pack
put-back d n other pack = back-by (nat_eq n 0) (nat_eq n 1) (nat_eq n 2) d other pack

joined : (m : Pdp8e) → IsJoined m → machine_of m.processor m.disk m.devices ≡ m
joined m is = ap (λ r. let y : Pdp8e = record m { processor = with_request m.processor r } in y) (sym is)

pub none-taken : (m : Pdp8e) (n : ℕ) → IsJoined m → (drive_of m.disk n).pack ≡ None → machine_of m.processor (with-pack-in m.disk n None) m.devices ≡ m
none-taken m n is none = ap (λ d. machine_of m.processor d m.devices) (as-it-was m.disk n None none) ∙ joined m is

pub taken-and-put : (m now : Pdp8e) (n : ℕ) (pack : PackState) → IsJoined m → (drive_of m.disk n).pack ≡ Some pack → now ≡ machine_of m.processor (with-pack-in m.disk n None) m.devices
    → machine_of now.processor (with-pack-in now.disk n (Some pack)) now.devices ≡ m
taken-and-put m now n pack is some taken =
    ap (λ (x : Pdp8e). machine_of x.processor (with-pack-in x.disk n (Some pack)) x.devices) taken
    ∙ ap (λ d. machine_of m.processor d m.devices) (put-back m.disk n None (Some pack) ∙ as-it-was m.disk n (Some pack) some)
    ∙ joined m is

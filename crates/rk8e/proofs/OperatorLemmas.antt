-- What the operator does leaves at most one transfer under way, and no write on a locked drive.
use Rattle.std.proofs.Common.{◌≡◌, ℕ, true, false, Option, sym, subst}
use Rattle.rk8e.specs.Packs.{PackState}
use Rattle.rk8e.specs.State.{DriveState, DiskState, drive_of, with_drive, with_lock, with_pack}
use Rattle.rk8e.specs.Laws.{is_writing, IsGuarded, AreGuarded, has_transfer, IsUnderWay, IsSettled}
use Rattle.rk8e.proofs.LawLemmas.{put_each, put_control}

drive_settles : (d : DiskState) (m : ℕ) (w : DriveState) → (has_transfer w ≡ true → has_transfer (drive_of d m) ≡ true)
    → IsSettled d → IsSettled (with_drive d m w)
drive_settles d m w same settled n hn h =
    let before = put_each (λ v x. has_transfer x ≡ true → has_transfer v ≡ true) (λ v g. g) d d.control m n w same h in
    subst (λ c. IsUnderWay c n) (sym (put_control d d.control m w)) (settled n hn before)

drive_guards : (d : DiskState) (m : ℕ) (w : DriveState) → (IsGuarded (drive_of d m) → IsGuarded w) → AreGuarded d
    → AreGuarded (with_drive d m w)
drive_guards d m w keeps guarded n =
    put_each (λ v x. IsGuarded v → IsGuarded x) (λ v g. g) d d.control m n w keeps (guarded n)

pub pack_settles : (d : DiskState) (n : ℕ) (pack : Option PackState) → IsSettled d
    → IsSettled (with_drive d n (with_pack (drive_of d n) pack))
pack_settles d n pack = drive_settles d n (with_pack (drive_of d n) pack) (λ h. h)

pub pack_guards : (d : DiskState) (n : ℕ) (pack : Option PackState) → AreGuarded d
    → AreGuarded (with_drive d n (with_pack (drive_of d n) pack))
pack_guards d n pack = drive_guards d n (with_pack (drive_of d n) pack) (λ h. h)

pub lock_settles : (d : DiskState) (n : ℕ) → IsSettled d → IsSettled (with_drive d n (with_lock (drive_of d n)))
lock_settles d n = drive_settles d n (with_lock (drive_of d n)) (λ h. h)

pub lock_guards : (d : DiskState) (n : ℕ) → AreGuarded d → is_writing (drive_of d n) ≡ false
    → AreGuarded (with_drive d n (with_lock (drive_of d n)))
lock_guards d n guarded free = drive_guards d n (with_lock (drive_of d n)) (λ _ _. free) guarded

-- Steps that are quickly made do no IOT of a device that isn't there.
use Rattle.std.proofs.Common.{◌≡◌, ℕ, ◌/◌, ◌%◌, ◌<◌, Bool, true, false, ◌&&◌, not, nat_eq, nat_le, if◌then◌else◌, Option, None, Some, refl, ap, arith}
use Rattle.std.proofs.lemmas.Bool.{and_parts, eqb-true}
use Rattle.std.proofs.lemmas.Bool.Decides.{nat_tests}
use Rattle.cpu8.specs.State.{next_cell}
use Rattle.cpu8.specs.Decoding.{is_absent}
use Rattle.cpu8e.specs.State.{State8e}
use Rattle.cpu8e.specs.Step.{is_transfer, next_word}
use Rattle.cpu8e.specs.Runs.{after}
use Rattle.cpu8e.specs.Unasked.{changes_fields, is_quick_transfer, is_quick, IsUnasked}
use Rattle.cpu8e.proofs.CommonLemmas.{either}
use Rattle.terminal8.specs.declared.absences.Absence.{Absence}
use Rattle.terminal8e.specs.Absences.{absence_at}
use Rattle.terminal8e.specs.Asks.{is_undisturbed}

apart : (n k : ℕ) → k < n → nat_eq n k ≡ false
apart n k h = grind (arith, nat_tests)

never : (b : Bool) → (b && false) ≡ false
never true = refl
never false = refl

changes-there : (w : ℕ) → changes_fields w ≡ true → is_absent w ≡ false
changes-there w h =
    let parts = and_parts (nat_eq (w / 0o100) 0o62) (nat_le 1 (w % 8) && nat_le (w % 8) 3) h in
    let top : w / 0o100 ≡ 0o62 = eqb-true (w / 0o100) 0o62 parts.0 in
    let above : 4 < w / 0o10 % 0o100 = omega (arith, top) in
    rw (
      apart (w / 0o10 % 0o100) 0 (omega (arith, above)),
      apart (w / 0o10 % 0o100) 3 (omega (arith, above)),
      apart (w / 0o10 % 0o100) 4 above,
      top,
    ) (never (nat_eq (w / 0o1000) 6))

transfer-there : (w : ℕ) → is_quick_transfer w ≡ true → is_absent w ≡ false
transfer-there w h = either (nat_eq w 0o6031)
    (λ yes. ap (λ n. is_absent n) (eqb-true w 0o6031 yes))
    (λ not_ksf. either (nat_eq w 0o6041)
    (λ yes. ap (λ n. is_absent n) (eqb-true w 0o6041 yes))
    (λ not_tsf. either (nat_eq w 0o6214)
    (λ yes. ap (λ n. is_absent n) (eqb-true w 0o6214 yes))
    (λ not_rdf. either (nat_eq w 0o6224)
    (λ yes. ap (λ n. is_absent n) (eqb-true w 0o6224 yes))
    (λ not_rif. changes-there w (rw (not_ksf, not_tsf, not_rdf, not_rif) at h)))))

pub quick-there : (w : ℕ) → is_quick w ≡ true → is_absent w ≡ false
quick-there w h = either (is_transfer w)
    (λ yes. transfer-there w (rw (eqb-true (w / 0o1000) 6 yes) at h))
    (λ no. rw no refl)

-- a machine at such a word does none
pub none-at : (s : State8e) → is_absent (next_word s) ≡ false → absence_at s ≡ None
none-at s h =
    ap (λ (b : Bool). let o : Option Absence = if b && (not s.user_flag && is_undisturbed s) then Some (record { word = next_word s; cell = next_cell s.base }) else None in o) h

-- a step that is quickly made does none
pub there-not : (looks : Bool) (s : State8e) (m : ℕ) → IsUnasked looks s m → absence_at (after m s) ≡ None
there-not looks s m unasked = none-at (after m s) (quick-there (next_word (after m s)) unasked.word)

-- The next states of operates.
use Rattle.std.proofs.Common.{◌≡◌, ℕ, ◌/◌, Bool, nat_eq, if◌then◌else◌, Option, ap}
use Rattle.pointer_flow.specs.Programs.{Program}
use Rattle.pointer_flow.specs.Next.{goes_on, iot_states, isz_states, jmp_states, jms_states, next_states, operate_states}
use Rattle.pointer_flow.specs.declared.states.State.{State}

pub next_operate : (p : Program) (s : State) (word : ℕ) (pointer : Option ℕ) (skips : Bool) → word / 0o1000 ≡ 7
    → next_states p s word pointer skips ≡ operate_states s word
next_operate p s word pointer skips seven =
    ap (λ n.
    if nat_eq n 0 then goes_on s
    else if nat_eq n 1 then goes_on s
    else if nat_eq n 2 then isz_states s skips
    else if nat_eq n 3 then goes_on s
    else if nat_eq n 4 then jms_states p s word pointer
    else if nat_eq n 5 then jmp_states s word pointer
    else if nat_eq n 6 then iot_states s word
    else operate_states s word) seven

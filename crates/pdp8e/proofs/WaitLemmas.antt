-- A machine that waits for a key, step by step.
use Rattle.std.proofs.Common.{◌≡◌, inl, inr, ℕ, ◌/◌, true, false, None, ap, sym, subst, ◌∙◌, arith}
use Rattle.std.proofs.lemmas.Bool.{and_parts}
use Rattle.std.proofs.lemmas.Bool.Decides.{nat_tests}
use Rattle.cpu8e.specs.State.{State8e}
use Rattle.cpu8e.specs.Step.{next_word}
use Rattle.cpu8e.specs.Runs.{after}
use Rattle.terminal8e.specs.Asks as Cpu
use Rattle.terminal8e.specs.Laws.{IsInLoop}
use Rattle.terminal8e.proofs.WaitLemmas.{Waits, waits}
use Rattle.pdp8e.specs.State.{Pdp8e, IsJoined, is_quiet}
use Rattle.pdp8e.specs.Step.{is_for_devices}
use Rattle.pdp8e.specs.Runs.{after_keys}
use Rattle.pdp8e.specs.Asks.{waits_for_key, is_at_rest}
use Rattle.pdp8e.proofs.AloneLemmas.{Requests, run_alone}

jmp_other : (w : ℕ) → w / 256 ≡ 10 → is_for_devices w ≡ false
jmp_other w h = grind (arith, nat_tests)

loop_word : (s now : State8e) → Waits s → IsInLoop s now → is_for_devices (next_word now) ≡ false
loop_word s now w (inl is) = ap (λ (x : State8e). is_for_devices (next_word x)) is ∙ ap (λ (n : ℕ). is_for_devices n) w.word
loop_word s now w (inr is) =
    ap (λ (x : State8e). is_for_devices (next_word x)) is ∙ jmp_other _ w.jmp

pub waits_on : Requests → ((s : State8e) (k : ℕ) → Cpu.waits_for_key s ≡ true → IsInLoop s (after k s))
    → (m : Pdp8e) (k : ℕ) → IsJoined m → is_quiet m.disk m.devices ≡ true → waits_for_key m ≡ true
    → IsInLoop m.processor (after_keys (λ _. None) k m).processor
waits_on stays loops m k is still h =
    let p = m.processor in
    let at = (and_parts (Cpu.waits_for_key p) (is_at_rest m) h).0 in
    let w = waits p at in
    let run = run_alone stays (λ _. None) k m is still (λ j _. loop_word p (after j p) w (loops p j at)) in
    subst (λ (x : Pdp8e). IsInLoop p x.processor) (sym run) (loops p k at)

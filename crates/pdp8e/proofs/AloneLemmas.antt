-- A program that meets no instruction for disk and devices runs as on the processor alone.
use Rattle.std.proofs.Common.{◌≡◌, ℕ, zero, suc, Bool, true, false, if◌then◌else◌, Option, Some, None, refl, ap, sym, ◌∙◌, arith}
use Rattle.cpu8.specs.declared.outcomes.Stepped.{Stepped}
use Rattle.cpu8.specs.declared.outcomes.Stepped.TheVariants.{Stopped}
use Rattle.cpu8e.specs.State.{State8e}
use Rattle.cpu8e.specs.State as CpuState
use Rattle.cpu8e.specs.Step.{next_word}
use Rattle.cpu8e.specs.Step as Cpu
use Rattle.cpu8e.specs.Runs as CpuRuns
use Rattle.pdp8e.specs.State.{Pdp8e, IsJoined, is_any_requesting, is_quiet, printer_done, with_processor}
use Rattle.pdp8e.specs.Step.{at_beginning, going_on, is_for_devices, step}
use Rattle.pdp8e.specs.Runs.{printing_step, with_key, after_keys}
use Rattle.pdp8e.specs.Laws.{MeetsNoDevice}
use Rattle.pdp8e.proofs.StillLemmas.{alone, either, if_false, still_step}

-- no step changes the request
abbrev pub Requests : Type 0
Requests = (s : State8e) → (Cpu.step s).0.device_request ≡ s.device_request

pub cpu_stopped : (s : State8e) → s.base.running ≡ false → Cpu.step s ≡ (s, Stopped)
unfolding Cpu.step
cpu_stopped s stopped =
    if_false s.base.running _ (s, Stopped) stopped

stopped_step : (m : Pdp8e) → m.processor.base.running ≡ false → step m ≡ alone m (Cpu.step m.processor)
unfolding step
stopped_step m stopped =
    if_false m.processor.base.running (going_on (at_beginning m)) (m, Stopped) stopped
    ∙ ap (alone m) (sym (cpu_stopped m.processor stopped))

pub step_alone : Requests → (m : Pdp8e) → IsJoined m → is_quiet m.disk m.devices ≡ true → is_for_devices (next_word m.processor) ≡ false
    → step m ≡ alone m (Cpu.step m.processor)
step_alone stays m is still other = either m.processor.base.running
    (λ runs. still_step m is still runs other stays)
    (λ stopped. stopped_step m stopped)

-- ## Runs

key_alone : (key : Option ℕ) (m : Pdp8e) (s : State8e) → with_key key (with_processor m s) ≡ with_processor m (CpuRuns.with_key key s)
key_alone None m s = refl
key_alone (Some key) m s = refl

key_requests : (key : Option ℕ) (s : State8e) → (CpuRuns.with_key key s).device_request ≡ s.device_request
key_requests None s = refl
key_requests (Some key) s = refl

pub ended_alone : (busy : Bool) (m : Pdp8e) (s : State8e)
    → (if busy then printer_done (with_processor m s) else with_processor m s) ≡ with_processor m (if busy then CpuState.printer_done s else s)
ended_alone true m s = refl
ended_alone false m s = refl

pub ended_requests : (busy : Bool) (s : State8e) → (if busy then CpuState.printer_done s else s).device_request ≡ s.device_request
ended_requests true s = refl
ended_requests false s = refl

pub ended_word : (busy : Bool) (s : State8e) → next_word (if busy then CpuState.printer_done s else s) ≡ next_word s
ended_word true s = refl
ended_word false s = refl

printing_alone : Requests → (m : Pdp8e) (s : State8e) → s.device_request ≡ is_any_requesting m.disk m.devices → is_quiet m.disk m.devices ≡ true
    → is_for_devices (next_word s) ≡ false → (printing_step (with_processor m s)).0 ≡ with_processor m (CpuRuns.printing_step s).0
printing_alone stays m s is still other =
    let busy = s.base.teletype.busy in
    let t : State8e = if busy then CpuState.printer_done s else s in
    ap (λ (x : Pdp8e). (step x).0) (ended_alone busy m s)
    ∙ ap (λ (r : Pdp8e × Stepped). r.0)
    (step_alone stays (with_processor m t) (ended_requests busy s ∙ is) still (ap (λ w. is_for_devices w) (ended_word busy s) ∙ other))

pub run_requests : Requests → (keys : ℕ → Option ℕ) (k : ℕ) (s : State8e) → (CpuRuns.after_keys keys k s).device_request ≡ s.device_request
unfolding CpuRuns.after_keys
run_requests stays keys zero s = refl
run_requests stays keys (suc k) s =
    let before = CpuRuns.with_key (keys k) (CpuRuns.after_keys keys k s) in
    stays (if before.base.teletype.busy then CpuState.printer_done before else before)
    ∙ ended_requests before.base.teletype.busy before
    ∙ key_requests (keys k) (CpuRuns.after_keys keys k s)
    ∙ run_requests stays keys k s

pub run_alone : Requests → (keys : ℕ → Option ℕ) (k : ℕ) (m : Pdp8e) → IsJoined m → is_quiet m.disk m.devices ≡ true → MeetsNoDevice keys k m.processor
    → after_keys keys k m ≡ with_processor m (CpuRuns.after_keys keys k m.processor)
unfolding after_keys CpuRuns.after_keys
run_alone stays keys zero m is still meets = refl
run_alone stays keys (suc k) m is still meets =
    let s = CpuRuns.after_keys keys k m.processor in
    let t = CpuRuns.with_key (keys k) s in
    ap (λ (x : Pdp8e). (printing_step (with_key (keys k) x)).0) (run_alone stays keys k m is still (λ j below. meets j (omega (arith, below))))
    ∙ ap (λ (x : Pdp8e). (printing_step x).0) (key_alone (keys k) m s)
    ∙ printing_alone stays m t (key_requests (keys k) s ∙ run_requests stays keys k m.processor ∙ is) still (meets k (omega arith))

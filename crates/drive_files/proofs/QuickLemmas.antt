-- Steps that a machine at the console quickly makes.
use Rattle.std.proofs.Common.{◌≡◌, ℕ, zero, suc, ◌+◌, ◌%◌, ◌^◌, ◌<◌, ◌≤◌, Bool, true, false, ◌&&◌, ◌||◌, not, nat_le, if◌then◌else◌, Option, None, refl, ap, sym, ◌∙◌, arith}
use Rattle.pdp8e.specs.State.{Pdp8e}
use Rattle.pdp8e.specs.Runs.{printing_step, with_printer_done, after_keys, after, AreUnasked}
use Rattle.pdp8e.specs.Asks.{asks_for_key}
use Rattle.rk8e.specs.declared.moves.Moved.{Moved}
use Rattle.pdp8e.specs.Papers.{PapersState, papers_after, with_byte_if, with_line_if}
use Rattle.pdp8e.specs.Step.{move_in}
use Rattle.pdp8e.proofs.QuickLemmas.{none_asked, none_absent}
use Rattle.pdp8e.specs.Absences.{absence_at}
use Rattle.terminal8e.specs.AnyTerminal as any
use Rattle.terminal8e.specs.AnyTerminal.{GoesUnasked}
use Rattle.drive_files.specs.Consoles.{console_acts, with_machine, with_step}
use Rattle.drive_files.specs.declared.consoles.Console.{Console}

-- a step that leaves the disk as it is counts no transfer
none-more : (s : Console) (busy : Bool) → (if busy && not busy then (s.transfers + 1) % 2 ^ 64 else s.transfers) ≡ s.transfers
none-more s true = refl
none-more s false = refl

-- a step that writes on no paper leaves them
papers-keep : (moved : Option Moved) (m : Pdp8e) (p : PapersState) → moved ≡ None → m.devices.punch.writing ≡ None → m.devices.printer.writing ≡ None → papers_after moved m p ≡ p
papers-keep moved m p none punch printer =
    ap (λ (byte : Option ℕ). let x : PapersState = record (papers_after moved m p) { punch = with_byte_if byte p.punch } in x) punch
    ∙ ap (λ (byte : Option ℕ). let x : PapersState = record (papers_after moved m p) { punch = p.punch; printer = with_byte_if byte p.printer } in x) printer
    ∙ ap (λ (it : Option Moved). let x : PapersState = record p { transfers = with_line_if it p.transfers } in x) none

step-keeps : (s : Console) (m : Pdp8e) → m.disk.control.busy ≡ s.machine.disk.control.busy → move_in (with_printer_done s.machine) ≡ None → m.devices.punch.writing ≡ None → m.devices.printer.writing ≡ None
    → with_step s m ≡ with_machine s m
step-keeps s m same none punch printer =
    let p = papers_after (move_in (with_printer_done s.machine)) m s.papers in
    ap (λ (b : Bool). let x : Console = record s { machine = m; transfers = if s.machine.disk.control.busy && not b then (s.transfers + 1) % 2 ^ 64 else s.transfers; papers = p } in x) same
    ∙ ap (λ (n : ℕ). let x : Console = record s { machine = m; transfers = n; papers = p } in x) (none-more s s.machine.disk.control.busy)
    ∙ ap (λ (q : PapersState). let x : Console = record s { machine = m; papers = q } in x) (papers-keep (move_in (with_printer_done s.machine)) m s.papers none punch printer)

-- a transfer that is under way stays so
busy-same : (looks : Bool) (m : Pdp8e) (count : ℕ) → AreUnasked looks m count → (k : ℕ) → k ≤ count → (after k m).disk.control.busy ≡ m.disk.control.busy
busy-same looks m count unasked k within = ap (λ (x : Pdp8e). x.disk.control.busy) (unasked.passes k within)

same-after : (looks : Bool) (s : Console) (count : ℕ) → AreUnasked looks s.machine count → (k : ℕ) → k ≤ count
    → any.after console_acts k s ≡ with_machine s (after k s.machine)
unfolding any.after after_keys
same-after looks s count unasked zero within = refl
same-after looks s count unasked (suc k) within =
    let before = same-after looks s count unasked k (omega (arith, within)) in
    let m = after k s.machine in
    let next = (printing_step m).0 in
    ap (λ (x : Console). (console_acts.printing_step x).0) before
    ∙ step-keeps (with_machine s m) next
    (busy-same looks s.machine count unasked (suc k) within ∙ sym (busy-same looks s.machine count unasked k (omega (arith, within))))
    (unasked.moves k (omega (arith, within)))
    (ap (λ (x : Pdp8e). x.devices.punch.writing) (unasked.passes (suc k) within) ∙ unasked.punch (omega (arith, within)))
    (ap (λ (x : Pdp8e). x.devices.printer.writing) (unasked.passes (suc k) within) ∙ unasked.printer (omega (arith, within)))

pub goes-unasked : (s : Console) (new : Pdp8e) (since count : ℕ) → new ≡ after count s.machine → AreUnasked (nat_le 30000 since) s.machine count
    → ((j : ℕ) → j < count → (nat_le 30000 (since + j) && (not (nat_le 30000 since) || (s.machine.processor.base.interrupts_on && s.machine.processor.console_enabled))) ≡ false)
    → GoesUnasked console_acts since count s (with_machine s new)
goes-unasked s new since count state unasked sooner = record {
  state = ap (λ (m : Pdp8e). with_machine s m) state ∙ sym (same-after (nat_le 30000 since) s count unasked count (omega arith));
  answers = λ k below.
      ap (λ (x : Console). (console_acts.printing_step x).1) (same-after (nat_le 30000 since) s count unasked k (omega (arith, below))) ∙ unasked.answers k below;
  asks = λ k below.
      ap (λ (x : Console). asks_for_key (since + k) x.machine) (same-after (nat_le 30000 since) s count unasked k (omega (arith, below)))
      ∙ none_asked s.machine since count unasked sooner k below;
  absences = λ k below.
      ap (λ (x : Console). absence_at x.machine) (same-after (nat_le 30000 since) s count unasked k (omega (arith, below)))
      ∙ none_absent (nat_le 30000 since) s.machine count unasked k below;
}

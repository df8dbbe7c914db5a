-- Runs of several steps: a subroutine's return, an interrupt's return, and the skip of ISZ.
use Rattle.std.proofs.Common.{◌≡◌, ◌≢◌, ℕ, ◌+◌, ◌*◌, ◌/◌, ◌%◌, ◌<◌, Bool, true, false, ◌&&◌, nat_eq, if◌then◌else◌, List, inl, inr, length, slice_index, slice_set, eq-eqb, refl, ap, sym, subst, ◌∙◌, arith}
use Rattle.std.proofs.lemmas.Bool.Decides.{eqb_tells}
use Rattle.std.proofs.lemmas.Grind.{get_or-set_at}
use Rattle.cpu8.specs.State.{State, place, grants_interrupt}
use Rattle.cpu8.specs.Decoding.{is_indirect}
use Rattle.cpu8.specs.Reference.{core_with_index, is_auto_index, pointer_place, effective_address, direct_address, operand_place, next_operand}
use Rattle.cpu8.specs.Step.{row, after_instruction, next_word, after_interrupt, step}
use Rattle.cpu8.specs.Laws.{IsNext, IsCallAndReturn, IsInterruptAndReturn, Resumes, rmf, jmp_i_0}
use Rattle.cpu8.specs.declared.decoding.Operation.{Operation}
use Rattle.cpu8.specs.declared.decoding.Operation.TheVariants.{Isz, Jms, Jmp}
use Rattle.cpu8.specs.declared.outcomes.Stepped.TheVariants.{Interrupted}
use Rattle.cpu8.proofs.StepLemmas.{length-indexed}

-- the row of the next instruction
pub step-next : (kind : Operation) (s : State) → IsNext kind s → step s ≡ row kind s (next_word s)
unfolding step after_instruction
step-next kind s next = rw (next.running, next.undisturbed, next.operation) refl

pub step-interrupt : (s : State) → s.running ≡ true → grants_interrupt s ≡ true → step s ≡ (after_interrupt s, Interrupted)
unfolding step
step-interrupt s running granted = rw (running, granted) refl

-- an indirect JMP, off the auto-index cells
jmp-indirect : (s : State) (w : ℕ) → is_indirect w ≡ true → is_auto_index s w ≡ false
    → effective_address s w ≡ slice_index s.core (pointer_place s w)
jmp-indirect s w indirect auto =
    ap (λ b. if b then slice_index (core_with_index s w) (pointer_place s w) else direct_address s w) indirect
    ∙ ap (λ b. slice_index (if b then slice_set s.core (pointer_place s w) ((slice_index s.core (pointer_place s w) + 1) % 4096) else s.core) (pointer_place s w)) auto

-- what stands at a place that was just stored
pub stored : (core : List ℕ) (at word place : ℕ) → place ≡ at → at < length core → slice_index (slice_set core at word) place ≡ word
stored core at word place same inside = get_or-set_at core at place word 0 same inside

pub subroutine_pc : (call back : State) → IsCallAndReturn call back → (step back).0.pc ≡ (call.pc + 1) % 4096
subroutine_pc call back r =
    let called : (step call).0.core
    ≡ slice_set (core_with_index call (next_word call)) (place call.instruction_buffer (effective_address call (next_word call))) ((call.pc + 1) % 4096) =
    ap (λ r. r.0.core) (step-next Jms call r.calls) in
    let same : pointer_place back (next_word back) ≡ place call.instruction_buffer (effective_address call (next_word call)) =
    ap (λ f. place f (direct_address back (next_word back))) r.fields.0 ∙ ap (place call.instruction_buffer) r.through_first_word in
    let inside : place call.instruction_buffer (effective_address call (next_word call)) < length (core_with_index call (next_word call)) =
    rw (length-indexed call (next_word call)) r.first_word in
    ap (λ r. r.0.pc) (step-next Jmp back r.returns)
    ∙ jmp-indirect back (next_word back) r.indirect r.no_auto_index
    ∙ r.kept
    ∙ ap (λ core. slice_index core (pointer_place back (next_word back))) called
    ∙ stored (core_with_index call (next_word call)) (place call.instruction_buffer (effective_address call (next_word call))) ((call.pc + 1) % 4096) (pointer_place back (next_word back)) same inside

pub subroutine_field : (call back : State) → IsCallAndReturn call back → (step back).0.instruction_field ≡ call.instruction_field
subroutine_field call back r = ap (λ r. r.0.instruction_field) (step-next Jmp back r.returns) ∙ r.fields.1

-- ISZ

isz_pc : (s : State) (b : Bool) → nat_eq (next_operand s (next_word s)) 0 ≡ b → IsNext Isz s
    → (step s).0.pc ≡ (s.pc + (if b then 2 else 1)) % 4096
isz_pc s b e next = ap (λ r. r.0.pc) (step-next Isz s next) ∙ ap (λ b. (s.pc + (if b then 2 else 1)) % 4096) e

isz_word : (s : State) → IsNext Isz s → operand_place s (next_word s) < length s.core
    → slice_index (step s).0.core (operand_place s (next_word s)) ≡ next_operand s (next_word s)
isz_word s next inside =
    ap (λ r. slice_index r.0.core (operand_place s (next_word s))) (step-next Isz s next)
    ∙ stored (core_with_index s (next_word s)) (operand_place s (next_word s)) (next_operand s (next_word s)) (operand_place s (next_word s)) refl (rw (length-indexed s (next_word s)) inside)

pub isz_zero : (s : State) → IsNext Isz s → operand_place s (next_word s) < length s.core
    → slice_index (step s).0.core (operand_place s (next_word s)) ≡ 0 → (step s).0.pc ≡ (s.pc + 2) % 4096
isz_zero s next inside zero = isz_pc s true (eq-eqb (next_operand s (next_word s)) 0 (sym (isz_word s next inside) ∙ zero)) next

pub isz_other : (s : State) → IsNext Isz s → operand_place s (next_word s) < length s.core
    → slice_index (step s).0.core (operand_place s (next_word s)) ≢ 0 → (step s).0.pc ≡ (s.pc + 1) % 4096
isz_other s next inside other = elim (eqb_tells (next_operand s (next_word s)) 0) [
  | inl same ↦ absurd (other (isz_word s next inside ∙ same.1))
  | inr apart ↦ isz_pc s false apart.0 next
]

-- Interrupts

-- RMF
restored : (s : State) → s.running ≡ true → grants_interrupt s ≡ false → next_word s ≡ rmf
    → (step s).0 ≡ record s {
      pc = (s.pc + 1) % 4096;
      waiting = false;
      instruction_buffer = s.save_field / 8;
      data_field = s.save_field % 8;
      held_off = true;
    }
unfolding step after_instruction
restored s running undisturbed word = rw (running, undisturbed, word) refl

-- JMP I 0 in field 0
jumped : (s : State) → s.running ≡ true → grants_interrupt s ≡ false → s.instruction_field ≡ 0 → next_word s ≡ jmp_i_0
    → (step s).0 ≡ record s {
      pc = slice_index s.core 0;
      waiting = false;
      instruction_field = s.instruction_buffer;
      held_off = false;
    }
unfolding step after_instruction
jumped s running undisturbed field word = rw (running, undisturbed, word, field) refl

none_granted : (on : Bool) → (on && false) ≡ false
none_granted true = refl
none_granted false = refl

in_field_0 : (field pc : ℕ) → field ≡ 0 → place field pc ≡ pc
in_field_0 field pc e = omega (arith, e)

saved_fields : (instruction_field data_field save_field : ℕ) → data_field < 8 → save_field ≡ 8 * instruction_field + data_field
    → (save_field / 8 ≡ instruction_field) × (save_field % 8 ≡ data_field)
saved_fields instruction_field data_field save_field h e = (omega (arith, e, h), omega (arith, e, h))

-- the state once RMF and JMP I 0 were done
abbrev returned : State → State
returned back = record back {
  pc = slice_index back.core 0;
  waiting = false;
  instruction_field = back.save_field / 8;
  instruction_buffer = back.save_field / 8;
  data_field = back.save_field % 8;
  held_off = false;
}

returned-is : (program back : State) → IsInterruptAndReturn program back → (step (step back).0).0 ≡ returned back
returned-is program back r =
    let word : next_word back ≡ rmf = ap (slice_index back.core) (in_field_0 back.instruction_field back.pc r.field_0) ∙ r.restores in
    let next : slice_index back.core (place back.instruction_field ((back.pc + 1) % 4096)) ≡ jmp_i_0 =
    ap (slice_index back.core) (in_field_0 back.instruction_field ((back.pc + 1) % 4096) r.field_0) ∙ r.jumps in
    ap (λ s. (step s).0) (restored back r.back_running r.undisturbed word)
    ∙ jumped (record back {
      pc = (back.pc + 1) % 4096;
      waiting = false;
      instruction_buffer = back.save_field / 8;
      data_field = back.save_field % 8;
      held_off = true;
    }) r.back_running (none_granted back.interrupts_on) r.field_0 next

pub resumed : (program back : State) → IsInterruptAndReturn program back → Resumes program (step (step back).0).0
resumed program back r =
    let interrupt = step-interrupt program r.running r.granted in
    let saved : back.save_field ≡ 8 * program.instruction_field + program.data_field = r.saved ∙ ap (λ r. r.0.save_field) interrupt in
    let fields = saved_fields program.instruction_field program.data_field back.save_field r.data_field saved in
    subst (λ (s : State). Resumes program s) (sym (returned-is program back r)) (record {
      running = r.back_running;
      pc = r.kept ∙ ap (λ r. slice_index r.0.core 0) interrupt ∙ stored program.core 0 program.pc 0 refl r.core;
      instruction_field = fields.0;
      instruction_buffer = fields.0;
      data_field = fields.1;
      held_off = refl;
    })

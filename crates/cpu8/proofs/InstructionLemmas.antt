-- What TAD, CIA, the skips of group 2, and TSF after TLS come to.
use Rattle.std.proofs.Common.{◌≡◌, ℕ, ◌+◌, ◌-◌, ◌*◌, ◌/◌, ◌%◌, ◌<◌, Bool, true, false, not, if◌then◌else◌, refl, ap, sym, ◌∙◌, arith}
use Rattle.std.proofs.lemmas.Bool.Decides.{nat_tests}
use Rattle.cpu8.specs.State.{State, printer_done}
use Rattle.cpu8.specs.Decoding.{operation_of, is_group_1, is_group_2, is_reversed}
use Rattle.cpu8.specs.Operate.{group1_number, group1_row, is_met, group2_skips, group2_row, unassigned_row}
use Rattle.cpu8.specs.Reference.{operand}
use Rattle.cpu8.specs.Step.{row, after_instruction, next_word, step}
use Rattle.cpu8.specs.Laws.{cia, tsf, tls, after, link_and_ac, HasLinkAndAc, IsNext, IsNextWord, Skips, SkipsNot, IsTest}
use Rattle.cpu8.specs.declared.decoding.Operation.{Operation}
use Rattle.cpu8.specs.declared.decoding.Operation.TheVariants.{Tad, Opr}
use Rattle.cpu8.proofs.RotationLemmas.{number_of_thirteen}
use Rattle.cpu8.proofs.RunLemmas.{step-next}

-- ## TAD

sum_is : (l ac word : ℕ) → 4096 * ((l + (ac + word) / 4096) % 2) + (ac + word) % 4096 ≡ (4096 * l + ac + word) % 8192
sum_is l ac word = omega arith

pub tad_sum : (s : State) → IsNext Tad s → link_and_ac (step s).0 ≡ (link_and_ac s + operand s (next_word s)) % 8192
tad_sum s next = ap (λ r. link_and_ac r.0) (step-next Tad s next) ∙ sum_is s.l s.ac (operand s (next_word s))

-- ## CIA

negated : (l ac : ℕ) → ac < 4096 → (4096 * l + (4095 - ac) + 1) % 8192 % 4096 ≡ (4096 - ac) % 4096
negated l ac small = omega arith

sum_small : (l ac : ℕ) → (4096 * l + (4095 - ac) + 1) % 8192 < 8192
sum_small l ac = omega arith

cia_number : (l ac : ℕ) → group1_number cia l ac ≡ (4096 * l + (4095 - ac) + 1) % 8192
unfolding group1_number
cia_number l ac = number_of_thirteen ((4096 * l + (4095 - ac) + 1) % 8192) (sum_small l ac)

pub cia_ac : (s : State) → HasLinkAndAc s → (after cia s).ac ≡ (4096 - s.ac) % 4096
unfolding after_instruction
cia_ac s parts = ap (λ n. n % 4096) (cia_number s.l s.ac) ∙ negated s.l s.ac parts.ac

-- ## The sense of the skip

even : (word : ℕ) → is_reversed word ≡ false → word / 8 % 2 ≡ 0
even word sense = grind (arith, nat_tests)

-- the same higher bits
higher : (word : ℕ) → word / 8 % 2 ≡ 0 → (8 + word) / 16 ≡ word / 16
higher word clear = omega arith

pc_of : (word : ℕ) (s : State) → operation_of word ≡ Opr → is_group_1 word ≡ false → is_group_2 word ≡ true
    → (after word s).pc ≡ (s.pc + (if group2_skips word s.l s.ac then 2 else 1)) % 4096
unfolding after_instruction
pc_of word s operation not_group_1 group_2 =
    ap (λ (kind : Operation). (row kind s word).0.pc) operation
    ∙ ap (λ (b : Bool). (if b then group1_row s word else if is_group_2 word then group2_row s word else unassigned_row s word).0.pc) not_group_1
    ∙ ap (λ (b : Bool). (if b then group2_row s word else unassigned_row s word).0.pc) group_2

record Turned (word : ℕ) : Type 0 where
  operation : operation_of (8 + word) ≡ operation_of word
  group_1 : is_group_1 (8 + word) ≡ is_group_1 word
  group_2 : is_group_2 (8 + word) ≡ is_group_2 word
  sense : is_reversed (8 + word) ≡ true
  met : (l ac : ℕ) → is_met (8 + word) l ac ≡ is_met word l ac

turned : (word : ℕ) → word / 8 % 2 ≡ 0 → Turned word
turned word clear =
    let by_512 : (8 + word) / 512 ≡ word / 512 = omega (arith, clear) in
    let by_256 : (8 + word) / 256 ≡ word / 256 = omega (arith, clear) in
    let by_64 : (8 + word) / 64 ≡ word / 64 = omega (arith, clear) in
    let by_32 : (8 + word) / 32 ≡ word / 32 = omega (arith, clear) in
    let by_16 : (8 + word) / 16 ≡ word / 16 = omega (arith, clear) in
    let by_8 : (8 + word) / 8 % 2 ≡ 1 = omega (arith, clear) in
    let last : (8 + word) % 2 ≡ word % 2 = omega arith in
    record {
      operation = rw by_512 refl;
      group_1 = rw by_256 refl;
      group_2 = rw last refl;
      sense = rw by_8 refl;
      met = λ l ac. rw (by_64, by_32, by_16) refl;
    }

turned_pc : (word : ℕ) (s : State) → IsTest word → (after (8 + word) s).pc ≡ (s.pc + (if not (is_met word s.l s.ac) then 2 else 1)) % 4096
turned_pc word s test =
    let t = turned word (even word test.sense) in
    pc_of (8 + word) s (t.operation ∙ test.operation) (t.group_1 ∙ test.not_group_1) (t.group_2 ∙ test.group_2)
    ∙ ap (λ (b : Bool). (s.pc + (if (if b then not (is_met (8 + word) s.l s.ac) else is_met (8 + word) s.l s.ac) then 2 else 1)) % 4096) t.sense
    ∙ ap (λ (b : Bool). (s.pc + (if not b then 2 else 1)) % 4096) (t.met s.l s.ac)

plain_pc : (word : ℕ) (s : State) → IsTest word → (after word s).pc ≡ (s.pc + (if is_met word s.l s.ac then 2 else 1)) % 4096
plain_pc word s test =
    pc_of word s test.operation test.not_group_1 test.group_2
    ∙ ap (λ (b : Bool). (s.pc + (if (if b then not (is_met word s.l s.ac) else is_met word s.l s.ac) then 2 else 1)) % 4096) test.sense

apart : (pc : ℕ) → (pc + 1) % 4096 ≡ (pc + 2) % 4096 → ⊥
apart pc e = omega (arith, e)

skips_by : (met : Bool) (pc : ℕ) → (pc + (if met then 2 else 1)) % 4096 ≡ (pc + 1) % 4096 → (pc + (if not met then 2 else 1)) % 4096 ≡ (pc + 2) % 4096
skips_by true pc e = absurd (apart pc (sym e))
skips_by false pc e = refl

skips_not_by : (met : Bool) (pc : ℕ) → (pc + (if met then 2 else 1)) % 4096 ≡ (pc + 2) % 4096 → (pc + (if not met then 2 else 1)) % 4096 ≡ (pc + 1) % 4096
skips_not_by true pc e = refl
skips_not_by false pc e = absurd (apart pc e)

pub turned_skips : (word : ℕ) (s : State) → IsTest word → SkipsNot word s → Skips (0o10 + word) s
turned_skips word s test plain = turned_pc word s test ∙ skips_by (is_met word s.l s.ac) s.pc (sym (plain_pc word s test) ∙ plain)

pub turned_skips_not : (word : ℕ) (s : State) → IsTest word → Skips word s → SkipsNot (0o10 + word) s
turned_skips_not word s test plain = turned_pc word s test ∙ skips_not_by (is_met word s.l s.ac) s.pc (sym (plain_pc word s test) ∙ plain)

-- ## TLS and TSF

flag_after_tls : (s : State) → IsNextWord tls s → (step s).0.teletype.printer_flag ≡ false
unfolding step after_instruction
flag_after_tls s next = rw (next.running, next.undisturbed, next.fetches) refl

busy_after_tls : (s : State) → IsNextWord tls s → (step s).0.teletype.busy ≡ true
unfolding step after_instruction
busy_after_tls s next = rw (next.running, next.undisturbed, next.fetches) refl

tsf_pc : (s : State) (flag : Bool) → s.teletype.printer_flag ≡ flag → IsNextWord tsf s → (step s).0.pc ≡ (s.pc + (if flag then 2 else 1)) % 4096
unfolding step after_instruction
tsf_pc s flag e next = rw (next.running, next.undisturbed, next.fetches) (ap (λ (b : Bool). (s.pc + (if b then 2 else 1)) % 4096) e)

done_flag : (s : State) → s.teletype.busy ≡ true → (printer_done s).teletype.printer_flag ≡ true
done_flag s busy = rw busy refl

pub tsf_before : (s : State) → IsNextWord tls s → IsNextWord tsf (step s).0 → (step (step s).0).0.pc ≡ ((step s).0.pc + 1) % 4096
tsf_before s print test = tsf_pc (step s).0 false (flag_after_tls s print) test

pub tsf_done : (s : State) → IsNextWord tls s → IsNextWord tsf (printer_done (step s).0) → (step (printer_done (step s).0)).0.pc ≡ ((step s).0.pc + 2) % 4096
tsf_done s print test = tsf_pc (printer_done (step s).0) true (done_flag (step s).0 (busy_after_tls s print)) test

-- The pointer of an auto-index.
use Rattle.std.proofs.Common.{◌≡◌, ◌≢◌, ℕ, ◌+◌, ◌%◌, ◌<◌, Bool, true, false, true≢false, ◌&&◌, if◌then◌else◌, length, slice_index, slice_set, refl, ap, sym, ◌∙◌}
use Rattle.std.proofs.lemmas.List.{get_or-set_other}
use Rattle.cpu8.specs.State.{State, place}
use Rattle.cpu8.specs.Decoding.{is_indirect}
use Rattle.cpu8.specs.Reference.{core_with_index, direct_address, effective_address, is_auto_index, pointer_place, operand_place, next_operand}
use Rattle.cpu8.specs.Step.{next_word, step}
use Rattle.cpu8.specs.Laws.{UsesAutoIndex, next_pointer}
use Rattle.cpu8.specs.declared.decoding.Operation.{Operation}
use Rattle.cpu8.specs.declared.decoding.Operation.TheVariants.{And, Tad, Isz, Dca, Jms, Jmp, Iot, Opr}
use Rattle.cpu8.proofs.RunLemmas.{step-next, stored}

left-true : (a b : Bool) → (a && b) ≡ true → a ≡ true
left-true true b h = refl
left-true false b h = absurd (true≢false (sym h))

-- what stands at the pointer once it was read
pointer-read : (s : State) (w : ℕ) → is_auto_index s w ≡ true → pointer_place s w < length s.core
    → slice_index (core_with_index s w) (pointer_place s w) ≡ (slice_index s.core (pointer_place s w) + 1) % 4096
pointer-read s w auto inside =
    ap (λ b. slice_index (if b then slice_set s.core (pointer_place s w) ((slice_index s.core (pointer_place s w) + 1) % 4096) else s.core) (pointer_place s w)) auto
    ∙ stored s.core (pointer_place s w) ((slice_index s.core (pointer_place s w) + 1) % 4096) (pointer_place s w) refl inside

pub auto-address : (kind : Operation) (s : State) → UsesAutoIndex kind s → effective_address s (next_word s) ≡ next_pointer s
auto-address kind s used =
    ap (λ b. if b then slice_index (core_with_index s (next_word s)) (pointer_place s (next_word s)) else direct_address s (next_word s)) (left-true (is_indirect (next_word s)) _ used.auto_index)
    ∙ pointer-read s (next_word s) used.auto_index used.core

pointer-kept : (s : State) (at word : ℕ) → is_auto_index s (next_word s) ≡ true → pointer_place s (next_word s) < length s.core
    → pointer_place s (next_word s) ≢ at → slice_index (slice_set (core_with_index s (next_word s)) at word) (pointer_place s (next_word s)) ≡ next_pointer s
pointer-kept s at word auto inside apart =
    get_or-set_other (core_with_index s (next_word s)) at (pointer_place s (next_word s)) word 0 apart ∙ pointer-read s (next_word s) auto inside

pub auto-pointer : (kind : Operation) (s : State) → UsesAutoIndex kind s → slice_index (step s).0.core (pointer_place s (next_word s)) ≡ next_pointer s
auto-pointer And s used =
    ap (λ r. slice_index r.0.core (pointer_place s (next_word s))) (step-next And s used.next) ∙ pointer-read s (next_word s) used.auto_index used.core
auto-pointer Tad s used =
    ap (λ r. slice_index r.0.core (pointer_place s (next_word s))) (step-next Tad s used.next) ∙ pointer-read s (next_word s) used.auto_index used.core
auto-pointer Isz s used =
    ap (λ r. slice_index r.0.core (pointer_place s (next_word s))) (step-next Isz s used.next)
    ∙ pointer-kept s (operand_place s (next_word s)) (next_operand s (next_word s)) used.auto_index used.core used.apart
auto-pointer Dca s used =
    ap (λ r. slice_index r.0.core (pointer_place s (next_word s))) (step-next Dca s used.next)
    ∙ pointer-kept s (operand_place s (next_word s)) s.ac used.auto_index used.core used.apart
auto-pointer Jms s used =
    ap (λ r. slice_index r.0.core (pointer_place s (next_word s))) (step-next Jms s used.next)
    ∙ pointer-kept s (place s.instruction_buffer (effective_address s (next_word s))) ((s.pc + 1) % 4096) used.auto_index used.core used.apart
auto-pointer Jmp s used =
    ap (λ r. slice_index r.0.core (pointer_place s (next_word s))) (step-next Jmp s used.next) ∙ pointer-read s (next_word s) used.auto_index used.core
auto-pointer Iot s used = absurd (true≢false (sym used.reference))
auto-pointer Opr s used = absurd (true≢false (sym used.reference))

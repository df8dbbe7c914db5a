-- What the rotations of group 1 leave in L and AC.
use Rattle.std.proofs.Common.{◌≡◌, ℕ, ◌+◌, ◌*◌, ◌/◌, ◌%◌, ◌<◌, ap, sym, ◌∙◌, arith}
use Rattle.cpu8.specs.State.{State}
use Rattle.cpu8.specs.Rotation.{thirteen_bits, number_of, rotation_left, rotated_right}
use Rattle.cpu8.specs.Operate.{group1_number}
use Rattle.cpu8.specs.Step.{after_instruction}
use Rattle.cpu8.specs.Laws.{ral, rtl, rar, rtr, cll_cml, after, link_and_ac, HasLinkAndAc}
use Rattle.cpu8.proofs.RotationLemmas.{number_of_thirteen, thirteen_bits-left, thirteen_bits-right}

abbrev left_of : ℕ → ℕ
left_of n = n % 4096 * 2 + n / 4096

abbrev right_of : ℕ → ℕ
right_of n = n / 2 + n % 2 * 4096

number-left : (n : ℕ) → n < 8192 → number_of (rotation_left (thirteen_bits n)) ≡ left_of n
number-left n h = ap number_of (sym (thirteen_bits-left n h)) ∙ number_of_thirteen (left_of n) (omega arith)

number-right : (n : ℕ) → n < 8192 → number_of (rotated_right (thirteen_bits n)) ≡ right_of n
number-right n h = ap number_of (sym (thirteen_bits-right n h)) ∙ number_of_thirteen (right_of n) (omega arith)

same_sum : (l ac : ℕ) → l < 2 → ac < 4096 → (4096 * l + ac + 0) % 8192 ≡ 4096 * l + ac
same_sum l ac hl ha = omega arith

ral-number : (l ac : ℕ) → l < 2 → ac < 4096 → group1_number ral l ac ≡ left_of (4096 * l + ac)
unfolding group1_number
ral-number l ac hl ha =
    ap (λ n. number_of (rotation_left (thirteen_bits n))) (same_sum l ac hl ha) ∙ number-left (4096 * l + ac) (omega arith)

rar-number : (l ac : ℕ) → l < 2 → ac < 4096 → group1_number rar l ac ≡ right_of (4096 * l + ac)
unfolding group1_number
rar-number l ac hl ha =
    ap (λ n. number_of (rotated_right (thirteen_bits n))) (same_sum l ac hl ha) ∙ number-right (4096 * l + ac) (omega arith)

rtl-number : (l ac : ℕ) → l < 2 → ac < 4096 → group1_number rtl l ac ≡ left_of (left_of (4096 * l + ac))
unfolding group1_number
rtl-number l ac hl ha =
    ap (λ n. number_of (rotation_left (rotation_left (thirteen_bits n)))) (same_sum l ac hl ha)
    ∙ ap (λ bs. number_of (rotation_left bs)) (sym (thirteen_bits-left (4096 * l + ac) (omega arith)))
    ∙ number-left (left_of (4096 * l + ac)) (omega arith)

rtr-number : (l ac : ℕ) → l < 2 → ac < 4096 → group1_number rtr l ac ≡ right_of (right_of (4096 * l + ac))
unfolding group1_number
rtr-number l ac hl ha =
    ap (λ n. number_of (rotated_right (rotated_right (thirteen_bits n)))) (same_sum l ac hl ha)
    ∙ ap (λ bs. number_of (rotated_right bs)) (sym (thirteen_bits-right (4096 * l + ac) (omega arith)))
    ∙ number-right (right_of (4096 * l + ac)) (omega arith)

cll_cml-number : (l ac : ℕ) → ac < 4096 → group1_number cll_cml l ac ≡ 4096 + ac
unfolding group1_number
cll_cml-number l ac ha =
    let sum : (4096 + ac + 0) % 8192 ≡ 4096 + ac = omega arith in
    ap (λ n. number_of (thirteen_bits n)) sum ∙ number_of_thirteen (4096 + ac) (omega arith)

whole : (n : ℕ) → 4096 * (n / 4096) + n % 4096 ≡ n
whole n = omega arith

ral-after : (s : State) → HasLinkAndAc s → link_and_ac (after ral s) ≡ left_of (link_and_ac s)
unfolding after_instruction
ral-after s has = whole (group1_number ral s.l s.ac) ∙ ral-number s.l s.ac has.l has.ac

rar-after : (s : State) → HasLinkAndAc s → link_and_ac (after rar s) ≡ right_of (link_and_ac s)
unfolding after_instruction
rar-after s has = whole (group1_number rar s.l s.ac) ∙ rar-number s.l s.ac has.l has.ac

rtl-after : (s : State) → HasLinkAndAc s → link_and_ac (after rtl s) ≡ left_of (left_of (link_and_ac s))
unfolding after_instruction
rtl-after s has = whole (group1_number rtl s.l s.ac) ∙ rtl-number s.l s.ac has.l has.ac

rtr-after : (s : State) → HasLinkAndAc s → link_and_ac (after rtr s) ≡ right_of (right_of (link_and_ac s))
unfolding after_instruction
rtr-after s has = whole (group1_number rtr s.l s.ac) ∙ rtr-number s.l s.ac has.l has.ac

pub cll_cml-after : (s : State) → HasLinkAndAc s → link_and_ac (after cll_cml s) ≡ 4096 + s.ac
unfolding after_instruction
cll_cml-after s has = whole (group1_number cll_cml s.l s.ac) ∙ cll_cml-number s.l s.ac has.ac

has-parts : (n : ℕ) → n < 8192 → (n / 4096 < 2) × (n % 4096 < 4096)
has-parts n h = (omega arith, omega arith)

has-ral : (s : State) → HasLinkAndAc s → HasLinkAndAc (after ral s)
unfolding after_instruction
has-ral s has =
    let number = ral-number s.l s.ac has.l has.ac in
    let parts = has-parts (group1_number ral s.l s.ac) (rw number (omega (arith, has.l, has.ac))) in
    record { l = parts.0; ac = parts.1 }

has-rar : (s : State) → HasLinkAndAc s → HasLinkAndAc (after rar s)
unfolding after_instruction
has-rar s has =
    let number = rar-number s.l s.ac has.l has.ac in
    let parts = has-parts (group1_number rar s.l s.ac) (rw number (omega (arith, has.l, has.ac))) in
    record { l = parts.0; ac = parts.1 }

pub double_left : (s : State) → HasLinkAndAc s → link_and_ac (after rtl s) ≡ link_and_ac (after ral (after ral s))
double_left s has = rtl-after s has ∙ sym (ral-after (after ral s) (has-ral s has) ∙ ap left_of (ral-after s has))

pub double_right : (s : State) → HasLinkAndAc s → link_and_ac (after rtr s) ≡ link_and_ac (after rar (after rar s))
double_right s has = rtr-after s has ∙ sym (rar-after (after rar s) (has-rar s has) ∙ ap right_of (rar-after s has))

right_of-left_of : (n : ℕ) → n < 8192 → right_of (left_of n) ≡ n
right_of-left_of n h = omega arith

left_of-right_of : (n : ℕ) → n < 8192 → left_of (right_of n) ≡ n
left_of-right_of n h = omega arith

below : (s : State) → HasLinkAndAc s → link_and_ac s < 8192
below s has = omega (arith, has.l, has.ac)

pub back_left : (s : State) → HasLinkAndAc s → link_and_ac (after rar (after ral s)) ≡ link_and_ac s
back_left s has =
    rar-after (after ral s) (has-ral s has) ∙ ap right_of (ral-after s has) ∙ right_of-left_of (link_and_ac s) (below s has)

pub back_right : (s : State) → HasLinkAndAc s → link_and_ac (after ral (after rar s)) ≡ link_and_ac s
back_right s has =
    ral-after (after rar s) (has-rar s has) ∙ ap left_of (rar-after s has) ∙ left_of-right_of (link_and_ac s) (below s has)

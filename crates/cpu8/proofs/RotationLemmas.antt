-- Thirteen bits, their number, and their rotation.
use Rattle.std.proofs.Common.{◌≡◌, ℕ, zero, suc, ◌+◌, ◌*◌, ◌/◌, ◌%◌, ◌^◌, ◌<◌, [], ◌∷◌, ◌++◌, refl, ap, sym, ◌∙◌, arith}
use Rattle.std.proofs.Math.Nat.{pow-succ', div-div-eq-div-mul, mul-add-div_right}
use Rattle.std.proofs.lemmas.Nat.{pow_pos, mod-pow-add}
use Rattle.cpu8.specs.Rotation.{bits, thirteen_bits, number_after, number_of, rotation_left, rotated_right}

-- what stands above the bits does not count
bits-high : (k a n : ℕ) → bits k (a * 2 ^ k + n) ≡ bits k n
bits-high zero a n = refl
bits-high (suc k) a n =
    let e : a * 2 ^ suc k + n ≡ 2 * a * 2 ^ k + n = rw (pow-succ' 2 k) (omega arith) in
    let quotient = mul-add-div_right (pow_pos k) (2 * a) n in
    let head : (2 * a * 2 ^ k + n) / 2 ^ k % 2 ≡ n / 2 ^ k % 2 = ap (λ q. q % 2) quotient ∙ omega arith in
    ap (bits (suc k)) e ∙ ap (λ b. b ∷ bits k (2 * a * 2 ^ k + n)) head ∙ ap (λ bs. n / 2 ^ k % 2 ∷ bs) (bits-high k (2 * a) n)

-- one more bit at the end
bits-push : (k m b : ℕ) → b < 2 → bits (suc k) (2 * m + b) ≡ bits k m ++ b ∷ []
bits-push zero m b h = ap (λ x. x ∷ []) (let e : (2 * m + b) / 1 % 2 ≡ b = omega arith in e)
bits-push (suc k) m b h =
    let half : (2 * m + b) / 2 ≡ m = omega arith in
    let quotient : (2 * m + b) / 2 ^ suc k ≡ m / 2 ^ k =
    ap (λ p. (2 * m + b) / p) (pow-succ' 2 k) ∙ sym (div-div-eq-div-mul (2 * m + b) 2 (2 ^ k)) ∙ ap (λ q. q / 2 ^ k) half in
    ap (λ q. q % 2 ∷ bits (suc k) (2 * m + b)) quotient ∙ ap (λ bs. m / 2 ^ k % 2 ∷ bs) (bits-push k m b h)

number_after-bits : (k a n : ℕ) → number_after a (bits k n) ≡ a * 2 ^ k + n % 2 ^ k
number_after-bits zero a n = omega arith
number_after-bits (suc k) a n =
    let split : n % 2 ^ (1 + k) ≡ (n / 2 ^ k % 2) * 2 ^ k + n % 2 ^ k = mod-pow-add n 1 k in
    let exponent : 1 + k ≡ suc k = omega arith in
    let split' : n % 2 ^ suc k ≡ (n / 2 ^ k % 2) * 2 ^ k + n % 2 ^ k = ap (λ j. n % 2 ^ j) (sym exponent) ∙ split in
    number_after-bits k (2 * a + n / 2 ^ k % 2) n ∙ rw (split', pow-succ' 2 k) (omega arith)

pub number_of_thirteen : (n : ℕ) → n < 8192 → number_of (thirteen_bits n) ≡ n
unfolding thirteen_bits
number_of_thirteen n h = number_after-bits 13 0 n ∙ omega arith

pub thirteen_bits-left : (n : ℕ) → n < 8192 → thirteen_bits (n % 4096 * 2 + n / 4096) ≡ rotation_left (thirteen_bits n)
unfolding thirteen_bits
thirteen_bits-left n h =
    let order : n % 4096 * 2 + n / 4096 ≡ 2 * (n % 4096) + n / 4096 = omega arith in
    let whole : n / 4096 * 4096 + n % 4096 ≡ n = omega arith in
    let first : n / 4096 ≡ n / 4096 % 2 = omega arith in
    ap (bits 13) order ∙ bits-push 12 (n % 4096) (n / 4096) (omega arith)
    ∙ ap (λ bs. bs ++ n / 4096 ∷ []) (sym (bits-high 12 (n / 4096) (n % 4096)) ∙ ap (bits 12) whole)
    ∙ ap (λ b. bits 12 n ++ b ∷ []) first

pub thirteen_bits-right : (n : ℕ) → n < 8192 → thirteen_bits (n / 2 + n % 2 * 4096) ≡ rotated_right (thirteen_bits n)
unfolding thirteen_bits
thirteen_bits-right n h =
    let order : n / 2 + n % 2 * 4096 ≡ n % 2 * 4096 + n / 2 = omega arith in
    let whole : 2 * (n / 2) + n % 2 ≡ n = omega arith in
    let first : (n % 2 * 4096 + n / 2) / 4096 % 2 ≡ n % 2 = omega arith in
    let pushed : bits 13 n ≡ bits 12 (n / 2) ++ n % 2 ∷ [] = ap (bits 13) (sym whole) ∙ bits-push 12 (n / 2) (n % 2) (omega arith) in
    ap (bits 13) order
    ∙ ap (λ b. b ∷ bits 12 (n % 2 * 4096 + n / 2)) first
    ∙ ap (λ bs. n % 2 ∷ bs) (bits-high 12 (n % 2) (n / 2))
    ∙ sym (ap rotated_right pushed)

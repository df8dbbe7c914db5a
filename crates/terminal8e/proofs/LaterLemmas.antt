-- Steps of a terminal after others.
use Rattle.std.proofs.Common.{◌≡◌, ℕ, zero, suc, ◌+◌, ◌++◌, append-nil, append_assoc, ap, sym, ◌∙◌, arith}
use Rattle.cpu8.specs.Go.{character_of}
use Rattle.terminal8e.specs.Acts.{Acts}
use Rattle.terminal8e.specs.AnyTerminal.{Terminal, after_step, next, later, characters_of}
use Rattle.terminal8e.proofs.TerminalLemmas.{later-none, later-next, printed-none, printed-next}

pub later-add : {S : Type 0} (acts : Acts S) (a b : ℕ) (t : Terminal S) → later acts (a + b) t ≡ later acts b (later acts a t)
later-add {S} acts a zero t = let e : a + 0 ≡ a = omega arith in ap (λ k. later acts k t) e ∙ sym (later-none acts (later acts a t))
later-add {S} acts a (suc b) t =
    let e : a + suc b ≡ a + b + 1 = omega arith in
    let f : b + 1 ≡ suc b = omega arith in
    ap (λ k. later acts k t) e ∙ later-next acts (a + b) t ∙ ap (λ x. next acts x) (later-add acts a b t) ∙ sym (later-next acts b (later acts a t)) ∙ ap (λ k. later acts k (later acts a t)) f

pub printed-add : {S : Type 0} (acts : Acts S) (a b : ℕ) (t : Terminal S) → characters_of acts (a + b) t ≡ characters_of acts a t ++ characters_of acts b (later acts a t)
printed-add {S} acts a zero t =
    let e : a + 0 ≡ a = omega arith in
    ap (λ k. characters_of acts k t) e ∙ sym (append-nil (characters_of acts a t)) ∙ ap (λ cs. characters_of acts a t ++ cs) (sym (printed-none acts (later acts a t)))
printed-add {S} acts a (suc b) t =
    let e : a + suc b ≡ a + b + 1 = omega arith in
    let f : b + 1 ≡ suc b = omega arith in
    ap (λ k. characters_of acts k t) e
    ∙ printed-next acts (a + b) t
    ∙ ap (λ cs. cs ++ character_of (after_step acts (later acts (a + b) t)).1) (printed-add acts a b t)
    ∙ ap (λ x. (characters_of acts a t ++ characters_of acts b (later acts a t)) ++ character_of (after_step acts x).1) (later-add acts a b t)
    ∙ append_assoc (characters_of acts a t) (characters_of acts b (later acts a t)) (character_of (after_step acts (later acts b (later acts a t))).1)
    ∙ ap (λ cs. characters_of acts a t ++ cs) (sym (printed-next acts b (later acts a t)))
    ∙ ap (λ k. characters_of acts a t ++ characters_of acts k (later acts a t)) f

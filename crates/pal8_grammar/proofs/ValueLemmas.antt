-- What stays where a token is refused.
use Rattle.std.proofs.Common.{◌≡◌, ℕ, ◌-◌, ◌≤◌, suc, length, get_or, take, drop, Bool, true, false, Some, None, Ok, List, [], ◌∷◌, refl, sym, ap, subst, ◌∙◌, arith}
use Rattle.std.proofs.lemmas.List.{take_all}
use Rattle.pal8_lex.specs.declared.tokens.Token.{Token}
use Rattle.pal8_grammar.specs.Steps.{Takes}
use Rattle.pal8_grammar.specs.Values.{Reading, Setting, steps_in, with_token, with_tokens}

none_stays : (setting : Setting) (tokens : List Token) → with_tokens setting tokens None ≡ None
none_stays setting [] = refl
none_stays setting (t ∷ others) = none_stays setting others

-- a first token that is refused makes the tokens no value, whatever follows
pub refuses : (setting : Setting) (tokens : List Token) (t : Token) (r : Reading) → 1 ≤ length tokens → t ≡ get_or tokens 0 t
    → (taken : Bool) (new : Reading) → taken ≡ false → Takes (with_token setting t r) (Ok taken) new
    → steps_in (with_tokens setting tokens (Some r)) ≡ None
refuses setting [] t r long first taken new is takes = absurd (omega (arith, long))
refuses setting (x ∷ others) t r long first taken new is takes =
    ap (λ o. steps_in (with_tokens setting others o)) (ap (λ x. with_token setting x r) (sym first) ∙ subst (λ b. Takes (with_token setting t r) (Ok b) new) is takes) ∙ ap steps_in (none_stays setting others)

less_one : (n : ℕ) → suc n - 1 ≡ n
less_one n = omega arith

-- a first token that is taken leaves the others to be read
pub accepts : (setting : Setting) (tokens : List Token) (t : Token) (r : Reading) → 1 ≤ length tokens → t ≡ get_or tokens 0 t
    → (taken : Bool) (new : Reading) → taken ≡ true → Takes (with_token setting t r) (Ok taken) new
    → steps_in (with_tokens setting (take (length tokens - 1) (drop 1 tokens)) (Some new)) ≡ steps_in (with_tokens setting tokens (Some r))
accepts setting [] t r long first taken new is takes = absurd (omega (arith, long))
accepts setting (x ∷ others) t r long first taken new is takes =
    ap (λ l. steps_in (with_tokens setting l (Some new))) (ap (λ n. take n others) (less_one (length others)) ∙ take_all (length others) others (omega arith))
    ∙ ap (λ o. steps_in (with_tokens setting others o)) (sym (ap (λ x. with_token setting x r) (sym first) ∙ subst (λ b. Takes (with_token setting t r) (Ok b) new) is takes))

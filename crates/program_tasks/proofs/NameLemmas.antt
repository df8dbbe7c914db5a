-- What stands before an end of a name.
use Rattle.std.proofs.Common.{◌≡◌, ◌∙◌, ◌-◌, ℕ, ap, arith, if◌then◌else◌, length, nat_eq, option_map, subst, sym, take, Bool, Bor, List, Option, None, Some, refl, true, false}
use Rattle.std.specs.List.{ends_with}
use Rattle.std.specs.Option.{MatchOption}
use Rattle.std.specs.Str.{IsCharBoundary}
use Rattle.std.specs.Str.Pattern.{FindsTextSuffix, StripsSuffix}
use Rattle.std.proofs.lemmas.Str.Pattern.{ends_text}

pub before_end : (r : Option (Bor (List ℕ))) (end name : List ℕ)
    → MatchOption r (FindsTextSuffix end name None) (λ x. StripsSuffix (FindsTextSuffix end) name x.now)
    → option_map (λ text. text.now) r ≡ (if ends_with nat_eq name end then Some (take (length name - length end) name) else None)
before_end None end name none =
    subst (λ (is : Bool). None ≡ (if is then Some (take (length name - length end) name) else None)) (ends_text false end name none) refl
before_end (Some x) end name strips =
    let known : true ≡ ends_with nat_eq name end =
    ends_text true end name (strips.0, strips.1, omega (arith, strips.3), subst (λ (k : ℕ). IsCharBoundary name (length name - k)) (sym strips.1.0) strips.1.2) in
    subst (λ (is : Bool). Some x.now ≡ (if is then Some (take (length name - length end) name) else None)) known
    (ap (λ (text : List ℕ). Some text) (strips.2 ∙ ap (λ (k : ℕ). take (length name - k) name) strips.1.0))

-- A go, step by step.
use Rattle.std.proofs.Common.{◌≡◌, ℕ, ◌+◌, ◌<◌, Bool, true, false, if◌then◌else◌, List, [], ◌++◌, Option, Some, None, IsSome, unwrap_or, add-one, append-nil, append_assoc, arith, refl, ap, sym, subst, ◌∙◌, below_more}
use Rattle.cpu8.specs.State.{State}
use Rattle.cpu8.specs.Go.{printing_step, after, answer, reason, ending, IsGo, character_of, characters_of}
use Rattle.cpu8.specs.declared.outcomes.Why.{Why}

pub after-none : (quick : Bool) (s : State) → after quick 0 s ≡ s
unfolding after
after-none quick s = refl

pub printed-none : (quick : Bool) (s : State) → characters_of quick 0 s ≡ []
unfolding characters_of
printed-none quick s = refl

pub after-next : (quick : Bool) (k : ℕ) (s : State) → after quick (k + 1) s ≡ (printing_step quick (after quick k s)).0
unfolding after
after-next quick k s = rw add-one refl

pub printed-next : (quick : Bool) (k : ℕ) (s : State) → characters_of quick (k + 1) s ≡ characters_of quick k s ++ character_of (answer quick k s)
unfolding characters_of
printed-next quick k s = rw add-one refl

pub ending-none : (quick : Bool) (breaks : List Bool) (s : State) → ending quick breaks s 0 ≡ (if s.running then None else Some Why.Halt)
unfolding ending
ending-none quick breaks s = refl

pub ending-next : (quick : Bool) (breaks : List Bool) (s : State) (k : ℕ)
    → ending quick breaks s (k + 1) ≡ reason breaks (answer quick k s) (after quick (k + 1) s)
unfolding ending
ending-next quick breaks s k = rw add-one refl

-- no reason to stop after up to this many steps
abbrev pub GoesOn : Bool → List Bool → State → ℕ → Type 0
GoesOn quick breaks s k = (m : ℕ) → m < k + 1 → ending quick breaks s m ≡ None

pub goes-none : (quick : Bool) (breaks : List Bool) (s : State) → s.running ≡ true → GoesOn quick breaks s 0
goes-none quick breaks s h m below =
    let e : m ≡ 0 = omega (arith, below) in
    ap (λ m. ending quick breaks s m) e ∙ (ending-none quick breaks s ∙ ap (λ (b : Bool). let w : Option Why = if b then None else Some Why.Halt in w) h)

pub goes-next : (quick : Bool) (breaks : List Bool) (s : State) (k : ℕ) → GoesOn quick breaks s k
    → reason breaks (answer quick k s) (after quick (k + 1) s) ≡ None → GoesOn quick breaks s (k + 1)
goes-next quick breaks s k before h = below_more _ _ before (ending-next quick breaks s k ∙ h)

-- a machine that stands stopped
pub go-stopped : (quick : Bool) (breaks : List Bool) (s : State) (n : ℕ) → s.running ≡ false → IsGo quick breaks s n 0 Why.Halt
go-stopped quick breaks s n h =
    let e : ending quick breaks s 0 ≡ Some Why.Halt = ending-none quick breaks s ∙ ap (λ (b : Bool). let w : Option Why = if b then None else Some Why.Halt in w) h in
    record {
      within = omega arith;
      least = λ m below. absurd (omega (arith, below));
      last = λ _. subst (λ o. IsSome o) (sym e) refl;
      reason = ap (λ o. unwrap_or o Why.Limit) (sym e);
    }

-- a go that ends after its next step
pub go-ended : (quick : Bool) (breaks : List Bool) (s : State) (n k : ℕ) (why : Why) → GoesOn quick breaks s k → k < n
    → reason breaks (answer quick k s) (after quick (k + 1) s) ≡ Some why → IsGo quick breaks s n (k + 1) why
go-ended quick breaks s n k why before below h =
    let e : ending quick breaks s (k + 1) ≡ Some why = ending-next quick breaks s k ∙ h in
    record {
      within = omega (arith, below);
      least = before;
      last = λ _. subst (λ o. IsSome o) (sym e) refl;
      reason = ap (λ o. unwrap_or o Why.Limit) (sym e);
    }

-- a go that makes all its steps
pub go-whole : (quick : Bool) (breaks : List Bool) (s : State) (n : ℕ) → GoesOn quick breaks s n → IsGo quick breaks s n n Why.Limit
go-whole quick breaks s n before =
    record {
      within = omega arith;
      least = λ m below. before m (omega (arith, below));
      last = λ below. absurd (omega (arith, below));
      reason = ap (λ o. unwrap_or o Why.Limit) (sym (before n (omega arith)));
    }

-- ## From what a step did

pub printed-begun : (quick : Bool) (s : State) (old : List ℕ) → old ≡ old ++ characters_of quick 0 s
printed-begun quick s old = sym (ap (λ xs. old ++ xs) (printed-none quick s) ∙ append-nil old)

pub state-stepped : (quick : Bool) (k : ℕ) (s before now : State) → before ≡ after quick k s → now ≡ (printing_step quick before).0
    → now ≡ after quick (k + 1) s
state-stepped quick k s before now at h = h ∙ (ap (λ x. (printing_step quick x).0) at ∙ sym (after-next quick k s))

pub printed-stepped : (quick : Bool) (k : ℕ) (s before : State) (old items new : List ℕ) → before ≡ after quick k s
    → items ≡ old ++ characters_of quick k s → new ≡ items ++ character_of (printing_step quick before).1
    → new ≡ old ++ characters_of quick (k + 1) s
printed-stepped quick k s before old items new at so_far h =
    h ∙ (ap (λ x. items ++ character_of (printing_step quick x).1) at
    ∙ (ap (λ xs. xs ++ character_of (answer quick k s)) so_far
    ∙ (append_assoc old (characters_of quick k s) (character_of (answer quick k s))
    ∙ sym (ap (λ xs. old ++ xs) (printed-next quick k s)))))

pub reason-stepped : (quick : Bool) (breaks : List Bool) (k : ℕ) (s before now : State) (why : Option Why) → before ≡ after quick k s
    → now ≡ (printing_step quick before).0 → why ≡ reason breaks (printing_step quick before).1 now
    → reason breaks (answer quick k s) (after quick (k + 1) s) ≡ why
reason-stepped quick breaks k s before now why at stepped h =
    sym (h ∙ (ap (λ x. reason breaks (printing_step quick x).1 now) at
    ∙ ap (λ x. reason breaks (answer quick k s) x) (state-stepped quick k s before now at stepped)))

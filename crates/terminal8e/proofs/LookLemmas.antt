-- The operator who looks for a key.
use Rattle.std.proofs.Common.{◌≡◌, ℕ, Bool, true, false, true≢false, ◌&&◌, if◌then◌else◌, List, [], ◌∷◌, ◌++◌, Option, Some, None, append-nil, refl, ap, sym, subst, ◌∙◌, arith}
use Rattle.terminal8.specs.Keys.{Keyboard}
use Rattle.terminal8.specs.Terminal.{is_none_left}
use Rattle.terminal8.specs.KeyReads.{StrikesKeys, IsDry}
use Rattle.terminal8.specs.RunSteps.{is_ending}
use Rattle.terminal8.specs.declared.inputs.Input.{Input}
use Rattle.terminal8.specs.declared.inputs.Input.TheVariants.{Ending, Live}
use Rattle.terminal8.proofs.LookLemmas.{keys-none, finds-none, finds-key}
use Rattle.terminal8e.specs.Acts.{Acts}
use Rattle.terminal8e.specs.AnyTerminal.{Terminal, new_terminal, after_look}
use Rattle.terminal8e.specs.AnySteps.{Looks, Attends}

-- ## Looking

pub looks-over : {S : Type 0} (acts : Acts S) (input : Input) (k : Keyboard) (a : List ℕ) (over : Bool) (s : S) (r : Option (List ℕ)) → over ≡ true → Looks acts input k k a a over over s s r r
looks-over {S} acts input k a over s r is = record {
  found = [];
  keys = [];
  strikes = keys-none k a r;
  finds = finds-none input;
  none_only = tt;
  over = λ h. h;
  at_end = λ h. h;
  looks = λ more may. ap (λ m. after_look acts s m) (may is) ∙ ap (λ m. new_terminal s m) (sym (may is));
  left = is;
  same = λ _. refl;
}

looks-false : {S : Type 0} (acts : Acts S) (input : Input) (k k' : Keyboard) (a a' : List ℕ) (s : S) (r r' : Option (List ℕ)) (key : ℕ) → StrikesKeys k k' a a' r r' (key ∷ [])
    → Looks acts input k k' a a' false false s (acts.key_struck s key) r r'
looks-false {S} acts input k k' a a' s r r' key t = record {
  found = Some key ∷ [];
  keys = key ∷ [];
  strikes = t;
  finds = finds-key input key;
  none_only = refl;
  over = λ h. h;
  at_end = λ _ h. absurd (true≢false (sym h));
  looks = λ more _. refl;
  left = refl;
  same = λ h. absurd (true≢false (sym h));
}

pub looks-key : {S : Type 0} (acts : Acts S) (input : Input) (k k' : Keyboard) (a a' : List ℕ) (over : Bool) (s : S) (r r' : Option (List ℕ)) (key : ℕ) → over ≡ false
    → StrikesKeys k k' a a' r r' (key ∷ []) → Looks acts input k k' a a' over over s (acts.key_struck s key) r r'
looks-key {S} acts input k k' a a' over s r r' key is t =
    subst (λ (o : Bool). Looks acts input k k' a a' o o s (acts.key_struck s key) r r') (sym is) (looks-false acts input k k' a a' s r r' key t)

looks-dry : {S : Type 0} (acts : Acts S) (input : Input) (k k' : Keyboard) (a a' : List ℕ) (s : S) (r r' : Option (List ℕ)) → StrikesKeys k k' a a' r r' [] → IsDry a' r'
    → Looks acts input k k' a a' false (is_ending input) s s r r'
looks-dry {S} acts Ending k k' a a' s r r' t dry = record {
  found = [];
  keys = [];
  strikes = t;
  finds = refl;
  none_only = tt;
  over = λ _. refl;
  at_end = λ _ _. (refl, dry.0, dry.1);
  looks = λ more may. ap (λ m. after_look acts s m) (may refl) ∙ ap (λ m. new_terminal s m) (sym (may refl));
  left = refl;
  same = λ _. refl;
}
looks-dry {S} acts Live k k' a a' s r r' t dry = record {
  found = None ∷ [];
  keys = [];
  strikes = t;
  finds = refl;
  none_only = (refl, refl, dry);
  over = λ h. h;
  at_end = λ _ h. absurd (true≢false (sym h));
  looks = λ more _. refl;
  left = refl;
  same = λ _. refl;
}

pub looks-none : {S : Type 0} (acts : Acts S) (input : Input) (k k' : Keyboard) (a a' : List ℕ) (over over' : Bool) (s : S) (r r' : Option (List ℕ)) → over ≡ false
    → over' ≡ is_ending input → StrikesKeys k k' a a' r r' [] → IsDry a' r' → Looks acts input k k' a a' over over' s s r r'
looks-none {S} acts input k k' a a' over over' s r r' is is' t dry =
    subst (λ (o : Bool). Looks acts input k k' a a' over o s s r r') (sym is')
    (subst (λ (o : Bool). Looks acts input k k' a a' o (is_ending input) s s r r') (sym is) (looks-dry acts input k k' a a' s r r' t dry))

-- ## Attending

and-false : (a b : Bool) → a ≡ false → (a && b) ≡ false
and-false true b h = absurd (true≢false h)
and-false false b h = refl

never-and : (a b : Bool) → b ≡ false → (a && b) ≡ false
never-and true b h = h
never-and false b h = refl

-- a machine that asks for no key doesn't starve
pub starves-not : {S : Type 0} (acts : Acts S) (s : S) (looks : List (Option ℕ)) (since : ℕ) → acts.asks_for_key since s ≡ false
    → (is_none_left looks && (acts.asks_for_key since s && acts.waits_for_key s)) ≡ false
starves-not {S} acts s looks since asks =
    never-and (is_none_left looks) (acts.asks_for_key since s && acts.waits_for_key s)
    (and-false (acts.asks_for_key since s) (acts.waits_for_key s) asks)

pub attends-not : {S : Type 0} (acts : Acts S) (input : Input) (k : Keyboard) (a : List ℕ) (over : Bool) (s : S) (since : ℕ) (r : Option (List ℕ)) → acts.asks_for_key since s ≡ false
    → Attends acts input k k a a over over s s since since r r false
attends-not {S} acts input k a over s since r asks = record {
  found = [];
  keys = [];
  strikes = keys-none k a r;
  finds = finds-none input;
  none_only = tt;
  stays = λ _. refl;
  over = λ h. h;
  at_end = λ h. h;
  sooner = omega arith;
  attends = λ more may. ap (λ (b : Bool). if b then after_look acts s more else record { machine = s; looks = more; since = since }) asks;
  starves_is = λ more may. starves-not acts s more since asks;
  none_left = λ h. absurd (true≢false (sym h));
  idle = λ h. absurd (true≢false (sym h));
}

none-append : (xs ys : List (Option ℕ)) → is_none_left xs ≡ false → is_none_left (xs ++ ys) ≡ false
none-append [] ys h = absurd (true≢false h)
none-append (x ∷ xs) ys h = refl

none-left : (xs : List (Option ℕ)) → is_none_left xs ≡ true → xs ≡ []
none-left [] h = refl
none-left (x ∷ xs) h = absurd (true≢false (sym h))

and-first : (a b : Bool) → (a && b) ≡ true → a ≡ true
and-first true b h = refl
and-first false b h = h

starved-by : {S : Type 0} (acts : Acts S) (input : Input) (k k' : Keyboard) (a a' : List ℕ) (over over' is : Bool) (s s' : S) (r r' : Option (List ℕ)) (more : List (Option ℕ)) → over' ≡ is
    → (over' ≡ true → more ≡ []) → (look : Looks acts input k k' a a' over over' s s' r r')
    → (is_none_left (look.found ++ more) && acts.waits_for_key s) ≡ (over' && acts.waits_for_key s')
starved-by {S} acts input k k' a a' over over' true s s' r r' more is may look =
    ap (λ m. is_none_left (look.found ++ m) && acts.waits_for_key s) (may is)
    ∙ ap (λ m. is_none_left m && acts.waits_for_key s) (append-nil look.found)
    ∙ ap (λ b. b && acts.waits_for_key s) (sym look.left)
    ∙ ap (λ x. over' && acts.waits_for_key x) (sym (look.same is))
starved-by {S} acts input k k' a a' over over' false s s' r r' more is may look =
    ap (λ b. b && acts.waits_for_key s) (none-append look.found more (sym look.left ∙ is))
    ∙ ap (λ b. b && acts.waits_for_key s') (sym is)

pub attends-looks : {S : Type 0} (acts : Acts S) (input : Input) (k k' : Keyboard) (a a' : List ℕ) (over over' : Bool) (s s' : S) (since since' : ℕ) (r r' : Option (List ℕ)) (starved : Bool)
    → acts.asks_for_key since s ≡ true → Looks acts input k k' a a' over over' s s' r r' → since' ≡ 0 → starved ≡ (over' && acts.waits_for_key s')
    → Attends acts input k k' a a' over over' s s' since since' r r' starved
attends-looks {S} acts input k k' a a' over over' s s' since since' r r' starved asks look since_is starved_is = record {
  found = look.found;
  keys = look.keys;
  strikes = look.strikes;
  finds = look.finds;
  none_only = look.none_only;
  stays = λ h. none-left look.found (sym look.left ∙ look.over h);
  over = look.over;
  at_end = look.at_end;
  sooner = omega (arith, since_is);
  attends = λ more may.
      ap (λ (b : Bool). if b then after_look acts s (look.found ++ more) else record { machine = s; looks = look.found ++ more; since = since }) asks
      ∙ look.looks more may
      ∙ ap (λ (n : ℕ). let x : Terminal S = record { machine = s'; looks = more; since = n } in x) (sym since_is);
  starves_is = λ more may.
      ap (λ b. is_none_left (look.found ++ more) && (b && acts.waits_for_key s)) asks
      ∙ starved-by acts input k k' a a' over over' over' s s' r r' more refl may look ∙ sym starved_is;
  none_left = λ h. and-first over' (acts.waits_for_key s') (sym starved_is ∙ h);
  idle = λ h.
      let ended = and-first over' (acts.waits_for_key s') (sym starved_is ∙ h) in
      (look.same ended, none-left look.found (sym look.left ∙ ended));
}

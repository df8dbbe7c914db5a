-- Bytes that are struck up to a key, and the operator who looks for it.
use Rattle.std.proofs.Common.{◌≡◌, ℕ, Bool, true, false, true≢false, ◌&&◌, if◌then◌else◌, List, [], ◌∷◌, ◌++◌, map, Option, Some, None, option_to_list, append-nil, append_assoc, refl, ap, sym, subst, ◌∙◌, arith}
use Rattle.std.proofs.lemmas.List.{map-append}
use Rattle.cpu8.specs.State.{State, key_struck}
use Rattle.terminal8.specs.Keys.{Keyboard, key_of_byte, after_byte}
use Rattle.terminal8.specs.KeySteps.{keyboard_after}
use Rattle.terminal8.specs.Asks.{asks_for_key, waits_for_key}
use Rattle.terminal8.specs.Terminal.{Terminal, new_terminal, after_look, is_none_left}
use Rattle.terminal8.specs.Run.{keys_found, FindsKey}
use Rattle.terminal8.specs.KeyReads.{Strikes, StrikesKeys, IsDry}
use Rattle.terminal8.specs.RunSteps.{Looks, Attends, is_ending}
use Rattle.terminal8.specs.declared.inputs.Input.{Input}
use Rattle.terminal8.specs.declared.inputs.Input.TheVariants.{Ending, Live}
use Rattle.terminal8.proofs.ByteLemmas.{strikes-none, strikes-more}
use Rattle.terminal8.proofs.KeyLemmas.{keys_more, after_more}
use Rattle.terminal8.proofs.WaitLemmas.{waits-asks}

-- ## Bytes up to a key

pub keys-none : (k : Keyboard) (a : List ℕ) (r : Option (List ℕ)) → StrikesKeys k k a a r r []
keys-none k a r = record { bytes = []; strikes = strikes-none a r; keyboard = refl; keys_are = refl }

pub keys-byte : (k k' new : Keyboard) (a a' a'' : List ℕ) (r r' r'' : Option (List ℕ)) (byte : ℕ) (key : Option ℕ) → StrikesKeys k k' a a' r r' []
    → Strikes a' a'' r' r'' (byte ∷ []) → key ≡ key_of_byte k' byte → new ≡ after_byte k' byte → StrikesKeys k new a a'' r r'' (option_to_list key)
keys-byte k k' new a a' a'' r r' r'' byte key t strikes key_is new_is = record {
  bytes = t.bytes ++ byte ∷ [];
  strikes = strikes-more a a' a'' r r' r'' t.bytes (byte ∷ []) t.strikes strikes;
  keyboard = new_is ∙ ap (λ k. after_byte k byte) t.keyboard ∙ sym (after_more k t.bytes (byte ∷ []));
  keys_are =
      keys_more k t.bytes (byte ∷ [])
      ∙ ap (λ keys. keys ++ (option_to_list (key_of_byte (keyboard_after k t.bytes) byte) ++ [])) t.keys_are
      ∙ append-nil (option_to_list (key_of_byte (keyboard_after k t.bytes) byte))
      ∙ ap (λ k. option_to_list (key_of_byte k byte)) (sym t.keyboard)
      ∙ ap (λ o. option_to_list o) (sym key_is);
}

pub keys-end : (k k' : Keyboard) (a a' a'' : List ℕ) (r r' r'' : Option (List ℕ)) → StrikesKeys k k' a a' r r' [] → Strikes a' a'' r' r'' []
    → StrikesKeys k k' a a'' r r'' []
keys-end k k' a a' a'' r r' r'' t strikes = record {
  bytes = t.bytes;
  strikes = subst (λ bs. Strikes a a'' r r'' bs) (append-nil t.bytes) (strikes-more a a' a'' r r' r'' t.bytes [] t.strikes strikes);
  keyboard = t.keyboard;
  keys_are = t.keys_are;
}

-- ## What looks find

found-append : (a b : List (Option ℕ)) → keys_found (a ++ b) ≡ keys_found a ++ keys_found b
found-append [] b = refl
found-append (look ∷ a) b = ap (λ keys. option_to_list look ++ keys) (found-append a b) ∙ sym (append_assoc (option_to_list look) (keys_found a) (keys_found b))

pub finds-none : (input : Input) → FindsKey input [] []
finds-none Ending = refl
finds-none Live = refl

pub finds-key : (input : Input) (key : ℕ) → FindsKey input (Some key ∷ []) (key ∷ [])
finds-key Ending key = refl
finds-key Live key = refl

pub finds-more : (input : Input) (a b : List (Option ℕ)) (x y : List ℕ) → FindsKey input a x → FindsKey input b y → FindsKey input (a ++ b) (x ++ y)
finds-more Ending a b x y f g =
    ap (λ l. l ++ b) f ∙ ap (λ l. map (λ (key : ℕ). Some key) x ++ l) g ∙ sym (map-append (λ (key : ℕ). Some key) x y)
finds-more Live a b x y f g = found-append a b ∙ ap (λ l. l ++ keys_found b) f ∙ ap (λ l. x ++ l) g

found-each : (keys : List ℕ) → keys_found (map (λ (key : ℕ). Some key) keys) ≡ keys
found-each [] = refl
found-each (key ∷ keys) = ap (λ ks. key ∷ ks) (found-each keys)

pub finds-found : (input : Input) (looks : List (Option ℕ)) (keys : List ℕ) → FindsKey input looks keys → keys_found looks ≡ keys
finds-found Ending looks keys f = ap (λ l. keys_found l) f ∙ found-each keys
finds-found Live looks keys f = f

-- ## Looking

pub looks-over : (input : Input) (k : Keyboard) (a : List ℕ) (over : Bool) (s : State) (r : Option (List ℕ)) → over ≡ true → Looks input k k a a over over s s r r
looks-over input k a over s r is = record {
  found = [];
  keys = [];
  strikes = keys-none k a r;
  finds = finds-none input;
  none_only = tt;
  over = λ h. h;
  at_end = λ h. h;
  looks = λ more may. ap (λ m. after_look s m) (may is) ∙ ap (λ m. new_terminal s m) (sym (may is));
  left = is;
  same = λ _. refl;
}

looks-false : (input : Input) (k k' : Keyboard) (a a' : List ℕ) (s : State) (r r' : Option (List ℕ)) (key : ℕ) → StrikesKeys k k' a a' r r' (key ∷ [])
    → Looks input k k' a a' false false s (key_struck s key) r r'
looks-false input k k' a a' s r r' key t = record {
  found = Some key ∷ [];
  keys = key ∷ [];
  strikes = t;
  finds = finds-key input key;
  none_only = refl;
  over = λ h. h;
  at_end = λ _ h. absurd (true≢false (sym h));
  looks = λ more _. refl;
  left = refl;
  same = λ h. absurd (true≢false (sym h));
}

pub looks-key : (input : Input) (k k' : Keyboard) (a a' : List ℕ) (over : Bool) (s : State) (r r' : Option (List ℕ)) (key : ℕ) → over ≡ false
    → StrikesKeys k k' a a' r r' (key ∷ []) → Looks input k k' a a' over over s (key_struck s key) r r'
looks-key input k k' a a' over s r r' key is t =
    subst (λ (o : Bool). Looks input k k' a a' o o s (key_struck s key) r r') (sym is) (looks-false input k k' a a' s r r' key t)

looks-dry : (input : Input) (k k' : Keyboard) (a a' : List ℕ) (s : State) (r r' : Option (List ℕ)) → StrikesKeys k k' a a' r r' [] → IsDry a' r'
    → Looks input k k' a a' false (is_ending input) s s r r'
looks-dry Ending k k' a a' s r r' t dry = record {
  found = [];
  keys = [];
  strikes = t;
  finds = refl;
  none_only = tt;
  over = λ _. refl;
  at_end = λ _ _. (refl, dry.0, dry.1);
  looks = λ more may. ap (λ m. after_look s m) (may refl) ∙ ap (λ m. new_terminal s m) (sym (may refl));
  left = refl;
  same = λ _. refl;
}
looks-dry Live k k' a a' s r r' t dry = record {
  found = None ∷ [];
  keys = [];
  strikes = t;
  finds = refl;
  none_only = (refl, refl, dry);
  over = λ h. h;
  at_end = λ _ h. absurd (true≢false (sym h));
  looks = λ more _. refl;
  left = refl;
  same = λ _. refl;
}

pub looks-none : (input : Input) (k k' : Keyboard) (a a' : List ℕ) (over over' : Bool) (s : State) (r r' : Option (List ℕ)) → over ≡ false
    → over' ≡ is_ending input → StrikesKeys k k' a a' r r' [] → IsDry a' r' → Looks input k k' a a' over over' s s r r'
looks-none input k k' a a' over over' s r r' is is' t dry =
    subst (λ (o : Bool). Looks input k k' a a' over o s s r r') (sym is')
    (subst (λ (o : Bool). Looks input k k' a a' o (is_ending input) s s r r') (sym is) (looks-dry input k k' a a' s r r' t dry))

-- ## Attending

waits-not : (s : State) (since : ℕ) (b : Bool) → waits_for_key s ≡ b → asks_for_key since s ≡ false → waits_for_key s ≡ false
waits-not s since false is asks = is
waits-not s since true is asks = absurd (true≢false (sym (waits-asks s since is) ∙ asks))

and-false : (a b : Bool) → b ≡ false → (a && b) ≡ false
and-false true b h = h
and-false false b h = refl

-- a machine that asks for no key doesn't starve
pub starves-not : (s : State) (looks : List (Option ℕ)) (since : ℕ) → asks_for_key since s ≡ false → (is_none_left looks && waits_for_key s) ≡ false
starves-not s looks since asks = and-false (is_none_left looks) (waits_for_key s) (waits-not s since (waits_for_key s) refl asks)

pub attends-not : (input : Input) (k : Keyboard) (a : List ℕ) (over : Bool) (s : State) (since : ℕ) (r : Option (List ℕ)) → asks_for_key since s ≡ false
    → Attends input k k a a over over s s since since r r false
attends-not input k a over s since r asks = record {
  found = [];
  keys = [];
  strikes = keys-none k a r;
  finds = finds-none input;
  none_only = tt;
  stays = λ _. refl;
  over = λ h. h;
  at_end = λ h. h;
  sooner = omega arith;
  attends = λ more may. ap (λ (b : Bool). if b then after_look s more else record { machine = s; looks = more; since = since }) asks;
  starves_is = λ more may. starves-not s more since asks;
  none_left = λ h. absurd (true≢false (sym h));
  idle = λ h. absurd (true≢false (sym h));
}

none-append : (xs ys : List (Option ℕ)) → is_none_left xs ≡ false → is_none_left (xs ++ ys) ≡ false
none-append [] ys h = absurd (true≢false h)
none-append (x ∷ xs) ys h = refl

none-left : (xs : List (Option ℕ)) → is_none_left xs ≡ true → xs ≡ []
none-left [] h = refl
none-left (x ∷ xs) h = absurd (true≢false (sym h))

and-first : (a b : Bool) → (a && b) ≡ true → a ≡ true
and-first true b h = refl
and-first false b h = h

starved-by : (input : Input) (k k' : Keyboard) (a a' : List ℕ) (over over' is : Bool) (s s' : State) (r r' : Option (List ℕ)) (more : List (Option ℕ)) → over' ≡ is
    → (over' ≡ true → more ≡ []) → (look : Looks input k k' a a' over over' s s' r r')
    → (is_none_left (look.found ++ more) && waits_for_key s) ≡ (over' && waits_for_key s')
starved-by input k k' a a' over over' true s s' r r' more is may look =
    ap (λ m. is_none_left (look.found ++ m) && waits_for_key s) (may is)
    ∙ ap (λ m. is_none_left m && waits_for_key s) (append-nil look.found)
    ∙ ap (λ b. b && waits_for_key s) (sym look.left)
    ∙ ap (λ x. over' && waits_for_key x) (sym (look.same is))
starved-by input k k' a a' over over' false s s' r r' more is may look =
    ap (λ b. b && waits_for_key s) (none-append look.found more (sym look.left ∙ is))
    ∙ ap (λ b. b && waits_for_key s') (sym is)

pub attends-looks : (input : Input) (k k' : Keyboard) (a a' : List ℕ) (over over' : Bool) (s s' : State) (since since' : ℕ) (r r' : Option (List ℕ)) (starved : Bool)
    → asks_for_key since s ≡ true → Looks input k k' a a' over over' s s' r r' → since' ≡ 0 → starved ≡ (over' && waits_for_key s')
    → Attends input k k' a a' over over' s s' since since' r r' starved
attends-looks input k k' a a' over over' s s' since since' r r' starved asks look since_is starved_is = record {
  found = look.found;
  keys = look.keys;
  strikes = look.strikes;
  finds = look.finds;
  none_only = look.none_only;
  stays = λ h. none-left look.found (sym look.left ∙ look.over h);
  over = look.over;
  at_end = look.at_end;
  sooner = omega (arith, since_is);
  attends = λ more may.
      ap (λ (b : Bool). if b then after_look s (look.found ++ more) else record { machine = s; looks = look.found ++ more; since = since }) asks
      ∙ look.looks more may
      ∙ ap (λ (n : ℕ). let x : Terminal = record { machine = s'; looks = more; since = n } in x) (sym since_is);
  starves_is = λ more may. starved-by input k k' a a' over over' over' s s' r r' more refl may look ∙ sym starved_is;
  none_left = λ h. and-first over' (waits_for_key s') (sym starved_is ∙ h);
  idle = λ h.
      let ended = and-first over' (waits_for_key s') (sym starved_is ∙ h) in
      (look.same ended, none-left look.found (sym look.left ∙ ended));
}

pub unless-over : (over waits : Bool) → over ≡ false → over ≡ (over && waits)
unless-over true waits h = absurd (true≢false h)
unless-over false waits h = refl

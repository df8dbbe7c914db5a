-- A run, as far as it has come.
use Rattle.std.proofs.Common.{◌≡◌, ◌⊎◌, inl, inr, ℕ, zero, suc, ◌+◌, ◌<◌, ◌≤◌, Bool, true, false, true≢false, if◌then◌else◌, List, [], ◌∷◌, ◌++◌, Option, Some, None, Result, Ok, Err, append-nil, append_assoc, unwrap_or, refl, ap, sym, subst, ◌∙◌, arith, below_more}
use Rattle.std.specs.Io.KnownBytes.{Consumes}
use Rattle.cpu8.specs.State.{State}
use Rattle.cpu8.specs.Go.{printing_step, after, answer, character_of}
use Rattle.cpu8.specs.Laws.{runs_on}
use Rattle.cpu8.specs.declared.outcomes.Stepped.{Stepped}
use Rattle.cpu8.specs.declared.outcomes.Stepped.TheVariants.{Stopped, Interrupted, Ran, Halted, Unassigned}
use Rattle.terminal8.specs.Keys.{Keyboard, fresh, keys_from, keys_of}
use Rattle.terminal8.specs.KeySteps.{keyboard_after}
use Rattle.terminal8.specs.Absences.{absence_at, absences_of, with_absence_if}
use Rattle.terminal8.specs.Asks.{asks_for_key}
use Rattle.terminal8.specs.Terminal.{Terminal, new_terminal, after_attention, after_look, after_step, next, later, last_did, characters_of, visible_characters, starves, has_halted, stop_of, GoesOn, Ends}
use Rattle.terminal8.specs.Run.{MayFollow, FindsKey, FindsNone, HaveEnded, HasMadeSteps, IsRunOf, IsCut, Meets, WritesPrinted, RunsProgram}
use Rattle.terminal8.specs.KeyReads.{StrikesKeys, IsDry}
use Rattle.terminal8.specs.Papers.{Passes, Holds}
use Rattle.terminal8.specs.RunSteps.{IsNoneOnly, Attends, Misses, Prints, RunsInto}
use Rattle.terminal8.specs.declared.absences.Absence.{Absence}
use Rattle.terminal8.specs.declared.inputs.Input.{Input}
use Rattle.terminal8.specs.declared.outcomes.TerminalFault.{TerminalFault}
use Rattle.terminal8.specs.declared.outcomes.TerminalFault.TheVariants.{Reader, Writer}
use Rattle.terminal8.specs.declared.keyboards.Form.{Form}
use Rattle.terminal8.specs.declared.outcomes.Ended.{Ended}
use Rattle.terminal8.specs.declared.outcomes.TerminalEnd.{TerminalEnd}
use Rattle.terminal8.specs.declared.outcomes.TerminalEnd.TheVariants as why
use Rattle.terminal8.proofs.AbsenceLemmas.{absences-none, absences-next}
use Rattle.terminal8.proofs.ByteLemmas.{consumes_more, consumes_none, passes-none, passes-more, passed}
use Rattle.terminal8.proofs.KeyLemmas.{keys_more, after_more}
use Rattle.terminal8.proofs.LookLemmas.{finds-none, finds-more, finds-found, starves-not}
use Rattle.terminal8.proofs.TerminalLemmas.{later-none, later-next, did-none, did-next, printed-none, printed-next, shown-more}

-- ## How far a run has come

-- So many steps are made, in which these looks were made, and no end came before.
pub record IsAt (old : State) (looks : List (Option ℕ)) (over : Bool) (steps : ℕ) (new : State) (since : ℕ) : Type 0 where
  pub at : (more : List (Option ℕ)) → MayFollow over more → later steps (new_terminal old (looks ++ more)) ≡ record { machine = new; looks = more; since = since }
  pub goes_on : (more : List (Option ℕ)) → MayFollow over more → (m : ℕ) → m < steps → GoesOn (new_terminal old (looks ++ more)) m

-- the last of them is no end
abbrev pub RunsOn : State → List (Option ℕ) → Bool → ℕ → Type 0
RunsOn old looks over steps = (more : List (Option ℕ)) → MayFollow over more → runs_on (last_did steps (new_terminal old (looks ++ more))) ≡ true

-- These looks found the keys of bytes that the reader gave.
pub record IsTaken (form : Form) (input : Input) (k : Keyboard) (ahead : List ℕ) (over : Bool) (r r' : Option (List ℕ)) (looks : List (Option ℕ)) : Type 0 where
  pub bytes : List ℕ
  pub taken : Consumes r r' (bytes ++ ahead)
  pub keyboard : k ≡ keyboard_after (fresh form) bytes
  pub finds : FindsKey input looks (keys_of form bytes)
  pub none_only : (before after : List (Option ℕ)) → before ++ None ∷ after ≡ looks → FindsNone form r before
  pub at_end : over ≡ true → HaveEnded input ahead r'

-- All that: the run goes on after so many steps.
pub record IsRunning (form : Form) (input : Input) (old new : State) (k : Keyboard) (ahead : List ℕ) (over : Bool) (since : ℕ)
    (r r' w w' : Option (List ℕ)) (paper : List ℕ) (absences : List Absence) (steps : ℕ) : Type 0 where
  pub looks : List (Option ℕ)
  pub is_at : IsAt old looks over steps new since
  pub runs : RunsOn old looks over steps
  pub taken : IsTaken form input k ahead over r r' looks
  pub prints : Prints old looks over w w' paper steps
  pub met : Meets old looks over absences steps

abbrev is-some : {T : Type 0} → Option T → Bool
is-some None = false
is-some (Some x) = true

pub none-empty : (before after : List (Option ℕ)) → before ++ None ∷ after ≡ [] → ⊥
none-empty [] after is = cc
none-empty (look ∷ before) after is = cc

-- a look that found none is the last one, or one before that
none-split : (looks before after : List (Option ℕ)) (look : Option ℕ) → before ++ None ∷ after ≡ looks ++ look ∷ []
    → ((before ≡ looks) × (look ≡ None)) ⊎ ((rest : List (Option ℕ)) × (before ++ None ∷ rest ≡ looks))
none-split [] [] after look is = let e : look ≡ None = cc in inl (refl, e)
none-split [] (b ∷ before) after look is = let e : before ++ None ∷ after ≡ [] = cc in absurd (none-empty before after e)
none-split (l ∷ looks) [] after look is = let e : l ≡ None = cc in inr (looks, ap (λ x. x ∷ looks) (sym e))
none-split (l ∷ looks) (b ∷ before) after look is =
    let e : before ++ None ∷ after ≡ looks ++ look ∷ [] = cc in
    let f : b ≡ l = cc in
    elim (none-split looks before after look e) [
      | inl h ↦ inl (ap (λ x. b ∷ x) h.0 ∙ ap (λ x. x ∷ looks) f, h.1)
      | inr h ↦ inr (h.0, ap (λ x. b ∷ x) h.1 ∙ ap (λ x. x ∷ looks) f)
    ]

pub begun : (form : Form) (input : Input) (s : State) (r w : Option (List ℕ)) → s.running ≡ true
    → IsRunning form input s s (fresh form) [] false 0 r r w w [] [] 0
begun form input s r w running = record {
  looks = [];
  is_at = record {
    at = λ more _. later-none (new_terminal s more);
    goes_on = λ more _ m below. absurd (omega (arith, below));
  };
  runs = λ more _. ap (λ did. runs_on did) (did-none (new_terminal s more)) ∙ ap (λ (b : Bool). runs_on (if b then Ran None else Stopped)) running;
  taken = record {
    bytes = [];
    taken = consumes_none r;
    keyboard = refl;
    finds = finds-none input;
    none_only = λ before after is. absurd (none-empty before after is);
    at_end = λ h. absurd (true≢false (sym h));
  };
  prints = λ more _. subst (λ cs. Passes w w [] [] (visible_characters cs)) (sym (printed-none (new_terminal s more))) (passes-none w []);
  met = λ more _. sym (absences-none (new_terminal s more));
}

-- ## The operator attends

-- more looks were made
pub joined : (old : State) (looks found more : List (Option ℕ)) → new_terminal old ((looks ++ found) ++ more) ≡ new_terminal old (looks ++ (found ++ more))
joined old looks found more = ap (λ l. new_terminal old l) (append_assoc looks found more)

pub may-join : (over over' : Bool) (found more : List (Option ℕ)) → (over ≡ true → found ≡ []) → (over ≡ true → over' ≡ true) → MayFollow over' more
    → MayFollow over (found ++ more)
may-join over over' found more stays goes may is = ap (λ l. l ++ more) (stays is) ∙ may (goes is)

-- the keys of more bytes
keys-sum : (form : Form) (input : Input) (k k' : Keyboard) (a a' : List ℕ) (over : Bool) (r r' r'' : Option (List ℕ)) (looks : List (Option ℕ)) (keys : List ℕ)
    → (i : IsTaken form input k a over r r' looks) → (s : StrikesKeys k k' a a' r' r'' keys) → keys_of form i.bytes ++ keys ≡ keys_of form (i.bytes ++ s.bytes)
keys-sum form input k k' a a' over r r' r'' looks keys i s =
    ap (λ ks. keys_of form i.bytes ++ ks) (sym s.keys_are ∙ ap (λ k. keys_from k s.bytes) i.keyboard) ∙ sym (keys_more (fresh form) i.bytes s.bytes)

taken-all : (form : Form) (input : Input) (k k' : Keyboard) (a a' : List ℕ) (over : Bool) (r r' r'' : Option (List ℕ)) (looks : List (Option ℕ)) (keys : List ℕ)
    → (i : IsTaken form input k a over r r' looks) → (s : StrikesKeys k k' a a' r' r'' keys) → Consumes r r'' ((i.bytes ++ s.bytes) ++ a')
taken-all form input k k' a a' over r r' r'' looks keys i s =
    subst (λ bs. Consumes r r'' bs)
    (append_assoc i.bytes a s.strikes.read ∙ ap (λ l. i.bytes ++ l) s.strikes.in_order ∙ sym (append_assoc i.bytes s.bytes a'))
    (consumes_more r r' r'' (i.bytes ++ a) s.strikes.read i.taken s.strikes.taken)

-- a look after these found none
finds-here : (form : Form) (input : Input) (k k' : Keyboard) (a a' : List ℕ) (over : Bool) (r r' r'' : Option (List ℕ)) (looks : List (Option ℕ)) (keys : List ℕ)
    → IsTaken form input k a over r r' looks → StrikesKeys k k' a a' r' r'' keys → keys ≡ [] → IsDry a' r'' → FindsNone form r looks
finds-here form input k k' a a' over r r' r'' looks keys i s none dry = record {
  bytes = i.bytes ++ s.bytes;
  left = r'';
  taken =
      subst (λ bs. Consumes r r'' bs) (ap (λ l. (i.bytes ++ s.bytes) ++ l) dry.0 ∙ append-nil (i.bytes ++ s.bytes))
      (taken-all form input k k' a a' over r r' r'' looks keys i s);
  struck =
      finds-found input looks (keys_of form i.bytes) i.finds
      ∙ sym (append-nil (keys_of form i.bytes))
      ∙ ap (λ ks. keys_of form i.bytes ++ ks) (sym none)
      ∙ keys-sum form input k k' a a' over r r' r'' looks keys i s;
  at_end = dry.1;
}

key-not : (key : ℕ) → Some key ≡ None → ⊥
key-not key is = true≢false (ap (λ o. is-some o) is)

none-next : (form : Form) (input : Input) (k k' : Keyboard) (a a' : List ℕ) (over : Bool) (r r' r'' : Option (List ℕ)) (looks found : List (Option ℕ)) (keys : List ℕ)
    → IsTaken form input k a over r r' looks → StrikesKeys k k' a a' r' r'' keys → IsNoneOnly found keys a' r''
    → (before after : List (Option ℕ)) → before ++ None ∷ after ≡ looks ++ found → FindsNone form r before
none-next form input k k' a a' over r r' r'' looks [] keys i s n before after is = i.none_only before after (is ∙ append-nil looks)
none-next form input k k' a a' over r r' r'' looks (Some key ∷ more) keys i s n before after is =
    elim (none-split looks before after (Some key) (is ∙ ap (λ l. looks ++ Some key ∷ l) n)) [
      | inl h ↦ absurd (key-not key h.1)
      | inr h ↦ i.none_only before h.0 h.1
    ]
none-next form input k k' a a' over r r' r'' looks (None ∷ more) keys i s n before after is =
    elim (none-split looks before after None (is ∙ ap (λ l. looks ++ None ∷ l) n.0)) [
      | inl h ↦ subst (λ l. FindsNone form r l) (sym h.0) (finds-here form input k k' a a' over r r' r'' looks keys i s n.1 n.2)
      | inr h ↦ i.none_only before h.0 h.1
    ]

-- bytes were struck that give these keys, which looks found
pub taken-more : (form : Form) (input : Input) (k k' : Keyboard) (a a' : List ℕ) (over over' : Bool) (r r' r'' : Option (List ℕ)) (looks found : List (Option ℕ)) (keys : List ℕ)
    → IsTaken form input k a over r r' looks → StrikesKeys k k' a a' r' r'' keys → FindsKey input found keys → IsNoneOnly found keys a' r''
    → (over' ≡ true → HaveEnded input a' r'') → IsTaken form input k' a' over' r r'' (looks ++ found)
taken-more form input k k' a a' over over' r r' r'' looks found keys i s finds none end = record {
  bytes = i.bytes ++ s.bytes;
  taken = taken-all form input k k' a a' over r r' r'' looks keys i s;
  keyboard = s.keyboard ∙ ap (λ k. keyboard_after k s.bytes) i.keyboard ∙ sym (after_more (fresh form) i.bytes s.bytes);
  finds =
      subst (λ ks. FindsKey input (looks ++ found) ks) (keys-sum form input k k' a a' over r r' r'' looks keys i s)
      (finds-more input looks found (keys_of form i.bytes) keys i.finds finds);
  none_only = none-next form input k k' a a' over r r' r'' looks found keys i s none;
  at_end = end;
}

pub taken-next : (form : Form) (input : Input) (k k' : Keyboard) (a a' : List ℕ) (over over' : Bool) (s s' : State) (since since' : ℕ) (r r' r'' : Option (List ℕ)) (looks : List (Option ℕ)) (starved : Bool)
    → IsTaken form input k a over r r' looks → (at : Attends input k k' a a' over over' s s' since since' r' r'' starved)
    → IsTaken form input k' a' over' r r'' (looks ++ at.found)
taken-next form input k k' a a' over over' s s' since since' r r' r'' looks starved i at =
    taken-more form input k k' a a' over over' r r' r'' looks at.found at.keys i at.strikes at.finds at.none_only (at.at_end i.at_end)

-- the step after that
pub step-at : (input : Input) (old s s' new : State) (k k' : Keyboard) (a a' : List ℕ) (over over' : Bool) (since since' : ℕ) (r r' : Option (List ℕ)) (looks : List (Option ℕ)) (steps : ℕ) (starved : Bool)
    → IsAt old looks over steps s since → RunsOn old looks over steps → (at : Attends input k k' a a' over over' s s' since since' r r' starved) → starved ≡ false
    → new ≡ (printing_step true s').0 → IsAt old (looks ++ at.found) over' (steps + 1) new (since' + 1)
step-at input old s s' new k k' a a' over over' since since' r r' looks steps starved i runs at fed new_is = record {
  at = λ more may.
      let may' = may-join over over' at.found more at.stays at.over may in
      later-next steps (new_terminal old ((looks ++ at.found) ++ more))
      ∙ ap (λ t. next (later steps t)) (joined old looks at.found more)
      ∙ ap (λ t. next t) (i.at (at.found ++ more) may')
      ∙ ap (λ (x : Terminal). let y : Terminal = record x { machine = (printing_step true x.machine).0; since = x.since + 1 } in y) (at.attends more may)
      ∙ ap (λ (m : State). let y : Terminal = record { machine = m; looks = more; since = since' + 1 } in y) (sym new_is);
  goes_on = λ more may.
      let may' = may-join over over' at.found more at.stays at.over may in
      subst (λ t. (m : ℕ) → m < steps + 1 → GoesOn t m) (sym (joined old looks at.found more))
      (below_more _ _ (i.goes_on (at.found ++ more) may') (record {
        runs = runs (at.found ++ more) may';
        fed = ap (λ t. starves t) (i.at (at.found ++ more) may') ∙ at.starves_is more may ∙ fed;
      }));
}

-- what it did
step-did : (input : Input) (old s s' : State) (k k' : Keyboard) (a a' : List ℕ) (over over' : Bool) (since since' : ℕ) (r r' : Option (List ℕ)) (looks : List (Option ℕ)) (steps : ℕ) (starved : Bool)
    → IsAt old looks over steps s since → (at : Attends input k k' a a' over over' s s' since since' r r' starved)
    → (more : List (Option ℕ)) → MayFollow over' more → (after_step (later steps (new_terminal old ((looks ++ at.found) ++ more)))).1 ≡ (printing_step true s').1
step-did input old s s' k k' a a' over over' since since' r r' looks steps starved i at more may =
    let may' = may-join over over' at.found more at.stays at.over may in
    ap (λ t. (after_step (later steps t)).1) (joined old looks at.found more)
    ∙ ap (λ t. (after_step t).1) (i.at (at.found ++ more) may')
    ∙ ap (λ (x : Terminal). (printing_step true x.machine).1) (at.attends more may)

pub step-last : (input : Input) (old s s' : State) (k k' : Keyboard) (a a' : List ℕ) (over over' : Bool) (since since' : ℕ) (r r' : Option (List ℕ)) (looks : List (Option ℕ)) (steps : ℕ) (starved : Bool)
    (did : Stepped) → IsAt old looks over steps s since → (at : Attends input k k' a a' over over' s s' since since' r r' starved) → did ≡ (printing_step true s').1
    → (more : List (Option ℕ)) → MayFollow over' more → last_did (steps + 1) (new_terminal old ((looks ++ at.found) ++ more)) ≡ did
step-last input old s s' k k' a a' over over' since since' r r' looks steps starved did i at did_is more may =
    did-next steps (new_terminal old ((looks ++ at.found) ++ more))
    ∙ step-did input old s s' k k' a a' over over' since since' r r' looks steps starved i at more may
    ∙ sym did_is

-- what it printed
pub step-prints : (input : Input) (old s s' : State) (k k' : Keyboard) (a a' : List ℕ) (over over' : Bool) (since since' : ℕ) (r r' w w' w'' w''' : Option (List ℕ)) (p p' p'' : List ℕ)
    (looks : List (Option ℕ)) (steps : ℕ) (starved : Bool) (did : Stepped)
    → IsAt old looks over steps s since → Prints old looks over w w' p steps → (at : Attends input k k' a a' over over' s s' since since' r r' starved)
    → Passes w' w'' p p' [] → did ≡ (printing_step true s').1 → Passes w'' w''' p' p'' (visible_characters (character_of did))
    → Prints old (looks ++ at.found) over' w w''' p'' (steps + 1)
step-prints input old s s' k k' a a' over over' since since' r r' w w' w'' w''' p p' p'' looks steps starved did i prints at none did_is some more may =
    let t = new_terminal old ((looks ++ at.found) ++ more) in
    let did_all = did_is ∙ sym (step-did input old s s' k k' a a' over over' since since' r r' looks steps starved i at more may) in
    let before : Passes w w' [] p (visible_characters (characters_of steps t)) =
    subst (λ t. Passes w w' [] p (visible_characters (characters_of steps t))) (sym (joined old looks at.found more))
    (prints (at.found ++ more) (may-join over over' at.found more at.stays at.over may)) in
    subst (λ cs. Passes w w''' [] p'' cs)
    (ap (λ d. visible_characters (characters_of steps t) ++ visible_characters (character_of d)) did_all
    ∙ sym (shown-more (characters_of steps t) (character_of (after_step (later steps t)).1))
    ∙ ap (λ cs. visible_characters cs) (sym (printed-next steps t)))
    (passes-more w w' w''' [] p p'' (visible_characters (characters_of steps t)) (visible_characters (character_of did)) before
    (passes-more w' w'' w''' p p' p'' [] (visible_characters (character_of did)) none some))

-- what is found after it
pub step-meets : (input : Input) (old s s' : State) (k k' : Keyboard) (a a' : List ℕ) (over over' : Bool) (since since' : ℕ) (r r' : Option (List ℕ)) (looks : List (Option ℕ)) (steps : ℕ) (starved : Bool)
    (f f' : List Absence) → IsAt old looks over steps s since → Meets old looks over f steps → (at : Attends input k k' a a' over over' s s' since since' r r' starved)
    → f' ≡ with_absence_if (absence_at s') f → Meets old (looks ++ at.found) over' f' (steps + 1)
step-meets input old s s' k k' a a' over over' since since' r r' looks steps starved f f' i met at is more may =
    let may' = may-join over over' at.found more at.stays at.over may in
    let t = new_terminal old (looks ++ (at.found ++ more)) in
    is
    ∙ ap (λ x. with_absence_if (absence_at s') x) (met (at.found ++ more) may')
    ∙ ap (λ (x : Terminal). with_absence_if (absence_at x.machine) (absences_of steps t)) (sym (at.attends more may))
    ∙ ap (λ x. with_absence_if (absence_at (after_attention x).machine) (absences_of steps t)) (sym (i.at (at.found ++ more) may'))
    ∙ sym (absences-next steps t)
    ∙ ap (λ x. absences_of (steps + 1) x) (sym (joined old looks at.found more))

-- ## Whether it was an end

none-some : (why : TerminalEnd) → Some why ≡ None → ⊥
none-some w h = true≢false (ap (λ o. is-some o) h)

goes-by : (did : Stepped) → stop_of did ≡ None → runs_on did ≡ true
goes-by Halted h = absurd (none-some why.Halt h)
goes-by (Unassigned word) h = absurd (none-some why.Unassigned h)
goes-by Stopped h = absurd (none-some why.Halt h)
goes-by Interrupted h = refl
goes-by (Ran printed) h = refl

why-is : (a b : TerminalEnd) → Some a ≡ Some b → a ≡ b
why-is a b h = ap (λ o. unwrap_or o a) h

pub ends-by : (t : Terminal) (n steps : ℕ) (did : Stepped) (w : TerminalEnd) → last_did steps t ≡ did → stop_of did ≡ Some w → Ends t n steps w
ends-by t n steps Halted w last is = subst (λ x. Ends t n steps x) (why-is why.Halt w is) (ap (λ d. has_halted d) last)
ends-by t n steps Stopped w last is = subst (λ x. Ends t n steps x) (why-is why.Halt w is) (ap (λ d. has_halted d) last)
ends-by t n steps (Unassigned word) w last is = subst (λ x. Ends t n steps x) (why-is why.Unassigned w is) (word, last)
ends-by t n steps Interrupted w last is = absurd (none-some w (sym is))
ends-by t n steps (Ran printed) w last is = absurd (none-some w (sym is))

pub is-keys : TerminalEnd → Bool
is-keys why.Halt = false
is-keys why.Unassigned = false
is-keys why.Keys = true
is-keys why.Limit = false

pub no-keys : (y : TerminalEnd) → is-keys y ≡ false → y ≡ why.Keys → ⊥
unfolding is-keys
no-keys y other is = true≢false (ap (λ x. is-keys x) (sym is) ∙ other)

pub stop-keys : (did : Stepped) (y : TerminalEnd) → stop_of did ≡ Some y → is-keys y ≡ false
unfolding is-keys
stop-keys Halted y is = ap (λ x. is-keys x) (sym (why-is why.Halt y is))
stop-keys Stopped y is = ap (λ x. is-keys x) (sym (why-is why.Halt y is))
stop-keys (Unassigned word) y is = ap (λ x. is-keys x) (sym (why-is why.Unassigned y is))
stop-keys Interrupted y is = absurd (none-some y (sym is))
stop-keys (Ran printed) y is = absurd (none-some y (sym is))

pub halt-keys : is-keys why.Halt ≡ false
unfolding is-keys
halt-keys = refl

pub limit-keys : is-keys why.Limit ≡ false
unfolding is-keys
limit-keys = refl

-- ## A run that goes on

-- after a step
pub running-next : (form : Form) (input : Input) (old s s' new : State) (k k' : Keyboard) (a a' : List ℕ) (over over' : Bool) (since since' : ℕ)
    (r r' r'' w w' w'' w''' : Option (List ℕ)) (p p' p'' : List ℕ) (f f' : List Absence) (steps : ℕ) (did : Stepped)
    → IsRunning form input old s k a over since r r' w w' p f steps → Attends input k k' a a' over over' s s' since since' r' r'' false
    → Passes w' w'' p p' [] → new ≡ (printing_step true s').0 → did ≡ (printing_step true s').1 → Passes w'' w''' p' p'' (visible_characters (character_of did)) → stop_of did ≡ None
    → f' ≡ with_absence_if (absence_at s') f → IsRunning form input old new k' a' over' (since' + 1) r r'' w w''' p'' f' (steps + 1)
running-next form input old s s' new k k' a a' over over' since since' r r' r'' w w' w'' w''' p p' p'' f f' steps did i at none new_is did_is some goes found = record {
  looks = i.looks ++ at.found;
  is_at = step-at input old s s' new k k' a a' over over' since since' r' r'' i.looks steps false i.is_at i.runs at refl new_is;
  runs = λ more may.
      ap (λ d. runs_on d) (step-last input old s s' k k' a a' over over' since since' r' r'' i.looks steps false did i.is_at at did_is more may)
      ∙ goes-by did goes;
  taken = taken-next form input k k' a a' over over' s s' since since' r r' r'' i.looks false i.taken at;
  prints = step-prints input old s s' k k' a a' over over' since since' r' r'' w w' w'' w''' p p' p'' i.looks steps false did i.is_at i.prints at none did_is some;
  met = step-meets input old s s' k k' a a' over over' since since' r' r'' i.looks steps false f f' i.is_at i.met at found;
}

-- after a step in which the program asks for no key and that prints nothing
quiet-at : (old s : State) (looks : List (Option ℕ)) (over : Bool) (steps since : ℕ) → IsAt old looks over steps s since → RunsOn old looks over steps
    → asks_for_key since s ≡ false → IsAt old looks over (steps + 1) (printing_step true s).0 (since + 1)
quiet-at old s looks over steps since i runs asks = record {
  at = λ more may.
      later-next steps (new_terminal old (looks ++ more))
      ∙ ap (λ t. next t) (i.at more may)
      ∙ ap (λ (b : Bool). let x : Terminal = if b then after_look s more else record { machine = s; looks = more; since = since } in
      let y : Terminal = record x { machine = (printing_step true x.machine).0; since = x.since + 1 } in y) asks;
  goes_on = λ more may. below_more _ _ (i.goes_on more may) (record {
    runs = runs more may;
    fed = ap (λ t. starves t) (i.at more may) ∙ starves-not s more since asks;
  });
}

quiet-did : (old s : State) (looks : List (Option ℕ)) (over : Bool) (steps since : ℕ) → IsAt old looks over steps s since → asks_for_key since s ≡ false
    → (more : List (Option ℕ)) → MayFollow over more → (after_step (later steps (new_terminal old (looks ++ more)))).1 ≡ (printing_step true s).1
quiet-did old s looks over steps since i asks more may =
    ap (λ t. (after_step t).1) (i.at more may)
    ∙ ap (λ (b : Bool). let x : Terminal = if b then after_look s more else record { machine = s; looks = more; since = since } in (printing_step true x.machine).1) asks

quiet-prints : (old s : State) (looks : List (Option ℕ)) (over : Bool) (steps since : ℕ) (w w' : Option (List ℕ)) (p : List ℕ) → IsAt old looks over steps s since
    → asks_for_key since s ≡ false → (printing_step true s).1 ≡ Ran None → Prints old looks over w w' p steps → Prints old looks over w w' p (steps + 1)
quiet-prints old s looks over steps since w w' p i asks ran prints more may =
    let t = new_terminal old (looks ++ more) in
    subst (λ cs. Passes w w' [] p (visible_characters cs))
    (sym (append-nil (characters_of steps t))
    ∙ ap (λ d. characters_of steps t ++ character_of d) (sym (quiet-did old s looks over steps since i asks more may ∙ ran))
    ∙ sym (printed-next steps t))
    (prints more may)

quiet-meets : (old s : State) (looks : List (Option ℕ)) (over : Bool) (steps since : ℕ) (f : List Absence) → IsAt old looks over steps s since
    → asks_for_key since s ≡ false → absence_at s ≡ None → Meets old looks over f steps → Meets old looks over f (steps + 1)
quiet-meets old s looks over steps since f i asks there met more may =
    let t = new_terminal old (looks ++ more) in
    met more may
    ∙ ap (λ (x : Option Absence). with_absence_if x (absences_of steps t)) (sym there)
    ∙ ap (λ (b : Bool). let x : Terminal = if b then after_look s more else record { machine = s; looks = more; since = since } in
    with_absence_if (absence_at x.machine) (absences_of steps t)) (sym asks)
    ∙ ap (λ x. with_absence_if (absence_at (after_attention x).machine) (absences_of steps t)) (sym (i.at more may))
    ∙ sym (absences-next steps t)

quiet-next : (form : Form) (input : Input) (old s : State) (k : Keyboard) (a : List ℕ) (over : Bool) (since : ℕ) (r r' w w' : Option (List ℕ)) (p : List ℕ) (f : List Absence) (steps : ℕ)
    → IsRunning form input old s k a over since r r' w w' p f steps → asks_for_key since s ≡ false → (printing_step true s).1 ≡ Ran None → absence_at s ≡ None
    → IsRunning form input old (printing_step true s).0 k a over (since + 1) r r' w w' p f (steps + 1)
quiet-next form input old s k a over since r r' w w' p f steps i asks ran there = record {
  looks = i.looks;
  is_at = quiet-at old s i.looks over steps since i.is_at i.runs asks;
  runs = λ more may.
      ap (λ d. runs_on d) (did-next steps (new_terminal old (i.looks ++ more)) ∙ quiet-did old s i.looks over steps since i.is_at asks more may ∙ ran);
  taken = i.taken;
  prints = quiet-prints old s i.looks over steps since w w' p i.is_at asks ran i.prints;
  met = quiet-meets old s i.looks over steps since f i.is_at asks there i.met;
}

after-zero : (s : State) → after true 0 s ≡ s
unfolding after
after-zero s = refl

after-suc : (k : ℕ) (s : State) → (printing_step true (after true k s)).0 ≡ after true (suc k) s
unfolding after
after-suc k s = refl

-- after several such steps
quiet-more : (form : Form) (input : Input) (old s : State) (k : Keyboard) (a : List ℕ) (over : Bool) (since : ℕ) (r r' w w' : Option (List ℕ)) (p : List ℕ) (f : List Absence) (steps count : ℕ)
    → IsRunning form input old s k a over since r r' w w' p f steps
    → ((m : ℕ) → m < count → answer true m s ≡ Ran None)
    → ((m : ℕ) → m < count → asks_for_key (since + m) (after true m s) ≡ false)
    → ((m : ℕ) → m < count → absence_at (after true m s) ≡ None)
    → IsRunning form input old (after true count s) k a over (since + count) r r' w w' p f (steps + count)
quiet-more form input old s k a over since r r' w w' p f steps zero i answers asks there =
    let e : steps ≡ steps + 0 = omega arith in
    let g : since ≡ since + 0 = omega arith in
    subst (λ x. IsRunning form input old x k a over (since + 0) r r' w w' p f (steps + 0)) (sym (after-zero s))
    (subst (λ (m : ℕ). IsRunning form input old s k a over m r r' w w' p f (steps + 0)) g
    (subst (λ (m : ℕ). IsRunning form input old s k a over since r r' w w' p f m) e i))
quiet-more form input old s k a over since r r' w w' p f steps (suc count) i answers asks there =
    let e : steps + count + 1 ≡ steps + suc count = omega arith in
    let g : since + count + 1 ≡ since + suc count = omega arith in
    let before = quiet-more form input old s k a over since r r' w w' p f steps count i (λ m below. answers m (omega (arith, below))) (λ m below. asks m (omega (arith, below)))
    (λ m below. there m (omega (arith, below))) in
    let after_it : IsRunning form input old (printing_step true (after true count s)).0 k a over (since + count + 1) r r' w w' p f (steps + count + 1) =
    quiet-next form input old (after true count s) k a over (since + count) r r' w w' p f (steps + count) before (asks count (omega arith)) (answers count (omega arith)) (there count (omega arith)) in
    subst (λ x. IsRunning form input old x k a over (since + suc count) r r' w w' p f (steps + suc count)) (after-suc count s)
    (subst (λ (m : ℕ). IsRunning form input old (printing_step true (after true count s)).0 k a over m r r' w w' p f (steps + suc count)) g
    (subst (λ (m : ℕ). IsRunning form input old (printing_step true (after true count s)).0 k a over (since + count + 1) r r' w w' p f m) e after_it))

pub running-more : (form : Form) (input : Input) (old s new : State) (k : Keyboard) (a : List ℕ) (over : Bool) (since : ℕ) (r r' w w' : Option (List ℕ)) (p : List ℕ) (f : List Absence) (steps count : ℕ)
    → IsRunning form input old s k a over since r r' w w' p f steps → new ≡ after true count s
    → ((m : ℕ) → m < count → answer true m s ≡ Ran None)
    → ((m : ℕ) → m < count → asks_for_key (since + m) (after true m s) ≡ false)
    → ((m : ℕ) → m < count → absence_at (after true m s) ≡ None)
    → IsRunning form input old new k a over (since + count) r r' w w' p f (steps + count)
running-more form input old s new k a over since r r' w w' p f steps count i is answers asks there =
    subst (λ x. IsRunning form input old x k a over (since + count) r r' w w' p f (steps + count)) (sym is)
    (quiet-more form input old s k a over since r r' w w' p f steps count i answers asks there)

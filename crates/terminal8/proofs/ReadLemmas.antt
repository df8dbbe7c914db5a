-- A program that reads a key.
use Rattle.std.proofs.Common.{◌≡◌, ℕ, zero, suc, ◌+◌, ◌*◌, ◌/◌, ◌%◌, ◌<◌, Bool, true, false, ◌&&◌, not, nat_eq, if◌then◌else◌, List, [], ◌∷◌, ◌++◌, Option, Some, None, append-nil, append_assoc, refl, ap, sym, subst, ◌∙◌, arith}
use Rattle.std.specs.Int.Bits.{bit_or, or_zero_l}
use Rattle.std.proofs.lemmas.Bool.{eqb-true}
use Rattle.cpu8.specs.State.{State, key_struck}
use Rattle.cpu8.specs.Reference.{after_fetch}
use Rattle.cpu8.specs.Step.{after_instruction, step}
use Rattle.cpu8.specs.Go.{printing_step, character_of}
use Rattle.cpu8.specs.Laws.{runs_on}
use Rattle.cpu8.specs.declared.outcomes.Stepped.{Stepped}
use Rattle.cpu8.specs.declared.outcomes.Stepped.TheVariants.{Ran, Stopped}
use Rattle.terminal8.specs.Asks.{asks_for_key, word_after}
use Rattle.terminal8.specs.Terminal.{Terminal, new_terminal, after_look, after_attention, after_step, next, later, last_did, characters_of, starves, GoesOn}
use Rattle.terminal8.specs.Laws.{ReadsNext, none_yet, waiting_for, key_read}
use Rattle.terminal8.proofs.WaitLemmas.{Waits, waits, waits-asks, printing_step-idle, printing_step-ksf, printing_step-jmp}
use Rattle.terminal8.proofs.LookLemmas.{starves-not}
use Rattle.terminal8.proofs.TerminalLemmas.{later-none, later-next, did-none, did-next, printed-none, printed-next}

-- ## Steps after others

pub later-add : (a b : ℕ) (t : Terminal) → later (a + b) t ≡ later b (later a t)
later-add a zero t = let e : a + 0 ≡ a = omega arith in ap (λ k. later k t) e ∙ sym (later-none (later a t))
later-add a (suc b) t =
    let e : a + suc b ≡ a + b + 1 = omega arith in
    let f : b + 1 ≡ suc b = omega arith in
    ap (λ k. later k t) e ∙ later-next (a + b) t ∙ ap (λ x. next x) (later-add a b t) ∙ sym (later-next b (later a t)) ∙ ap (λ k. later k (later a t)) f

pub printed-add : (a b : ℕ) (t : Terminal) → characters_of (a + b) t ≡ characters_of a t ++ characters_of b (later a t)
printed-add a zero t =
    let e : a + 0 ≡ a = omega arith in
    ap (λ k. characters_of k t) e ∙ sym (append-nil (characters_of a t)) ∙ ap (λ cs. characters_of a t ++ cs) (sym (printed-none (later a t)))
printed-add a (suc b) t =
    let e : a + suc b ≡ a + b + 1 = omega arith in
    let f : b + 1 ≡ suc b = omega arith in
    ap (λ k. characters_of k t) e
    ∙ printed-next (a + b) t
    ∙ ap (λ cs. cs ++ character_of (after_step (later (a + b) t)).1) (printed-add a b t)
    ∙ ap (λ x. (characters_of a t ++ characters_of b (later a t)) ++ character_of (after_step x).1) (later-add a b t)
    ∙ append_assoc (characters_of a t) (characters_of b (later a t)) (character_of (after_step (later b (later a t))).1)
    ∙ ap (λ cs. characters_of a t ++ cs) (sym (printed-next b (later a t)))
    ∙ ap (λ k. characters_of a t ++ characters_of k (later a t)) f

-- ## Two steps

-- What a step does that prints nothing and goes on.
pub record Goes (t t' : Terminal) : Type 0 where
  pub next_is : next t ≡ t'
  pub did : (after_step t).1 ≡ Ran None
  pub fed : starves t ≡ false

-- Two such steps.
pub record GoesTwice (t t' : Terminal) : Type 0 where
  pub between : Terminal
  pub first : Goes t between
  pub second : Goes between t'

one : (t : Terminal) → later 1 t ≡ next t
one t = later-next 0 t ∙ ap (λ x. next x) (later-none t)

pub twice-later : (t t' : Terminal) → GoesTwice t t' → later 2 t ≡ t'
twice-later t t' g = later-next 1 t ∙ ap (λ x. next x) (one t ∙ g.first.next_is) ∙ g.second.next_is

pub twice-printed : (t t' : Terminal) → GoesTwice t t' → characters_of 2 t ≡ []
twice-printed t t' g =
    printed-next 1 t
    ∙ ap (λ cs. cs ++ character_of (after_step (later 1 t)).1) (printed-next 0 t ∙ ap (λ cs. cs ++ character_of (after_step (later 0 t)).1) (printed-none t)
    ∙ ap (λ x. character_of (after_step x).1) (later-none t) ∙ ap (λ d. character_of d) g.first.did)
    ∙ ap (λ x. character_of (after_step x).1) (one t ∙ g.first.next_is)
    ∙ ap (λ d. character_of d) g.second.did

-- ## The loop, and the way out of it

-- a JMP is no KSF
not-ksf : (b : Bool) (w : ℕ) → nat_eq (w / 8) 387 ≡ b → w / 256 ≡ 10 → nat_eq (w / 8) 387 ≡ false
not-ksf false w is jmp = is
not-ksf true w is jmp = let e : w / 8 ≡ 387 = eqb-true (w / 8) 387 is in absurd (omega (arith, e, jmp))

none-off : (waits held requests : Bool) (on : Bool) → on ≡ false → (on && (not waits && (not held && requests))) ≡ false
none-off waits held requests on off = ap (λ b. b && (not waits && (not held && requests))) off

-- after the KSF that finds no key it doesn't ask for one
asks-not : (s : State) (since : ℕ) → Waits s → s.interrupts_on ≡ false → asks_for_key since (after_fetch s) ≡ false
asks-not s since w off = rw (w.clear, off, not-ksf (nat_eq (word_after s / 8) 387) (word_after s) refl w.jmp) refl

-- a look that finds none
none-twice : (s : State) (looks : List (Option ℕ)) (since : ℕ) → ReadsNext s
    → GoesTwice (record { machine = s; looks = None ∷ looks; since = since }) (record { machine = s; looks = looks; since = 2 })
none-twice s looks since r =
    let w = waits s r.waits in
    let t : Terminal = record { machine = s; looks = None ∷ looks; since = since } in
    let u : Terminal = record { machine = after_fetch s; looks = looks; since = 1 } in
    let at : after_attention t ≡ new_terminal s looks = ap (λ (b : Bool). if b then new_terminal s looks else t) (waits-asks s since r.waits) in
    let at' : after_attention u ≡ u = ap (λ (b : Bool). if b then after_look (after_fetch s) looks else u) (asks-not s 1 w r.interrupts) in
    record {
      between = u;
      first = record {
        next_is =
            ap (λ (x : Terminal). let y : Terminal = record x { machine = (printing_step true x.machine).0; since = x.since + 1 } in y) at
            ∙ ap (λ p. let y : Terminal = record { machine = p.0; looks = looks; since = 1 } in y) (printing_step-ksf s w);
        did = ap (λ (x : Terminal). (printing_step true x.machine).1) at ∙ ap (λ p. p.1) (printing_step-ksf s w);
        fed = refl;
      };
      second = record {
        next_is =
            ap (λ (x : Terminal). let y : Terminal = record x { machine = (printing_step true x.machine).0; since = x.since + 1 } in y) at'
            ∙ ap (λ p. let y : Terminal = record { machine = p.0; looks = looks; since = 2 } in y) (printing_step-jmp s w);
        did = ap (λ (x : Terminal). (printing_step true x.machine).1) at' ∙ ap (λ p. p.1) (printing_step-jmp s w);
        fed = starves-not (after_fetch s) looks 1 (asks-not s 1 w r.interrupts);
      };
    }

-- the machine after the KSF that found a key
abbrev found : State → ℕ → State
found s key = record (key_struck s key) { pc = (s.pc + 2) % 4096; waiting = false }

ksf-found : (s : State) (key : ℕ) → Waits s → s.interrupts_on ≡ false → step (key_struck s key) ≡ (found s key, Ran None)
unfolding step after_instruction
ksf-found s key w off = rw (w.running, off, w.word) refl

printing_step-found : (s : State) (key : ℕ) → Waits s → s.interrupts_on ≡ false → printing_step true (key_struck s key) ≡ (found s key, Ran None)
printing_step-found s key w off = printing_step-idle (key_struck s key) w.idle ∙ ksf-found s key w off

-- and after its KRB, with PC and AC as they are computed
abbrev read_from : State → ℕ → ℕ → ℕ → Bool → State
read_from s key pc ac waiting = record s { pc = pc; ac = ac; waiting = waiting; teletype = record s.teletype { buffer = key; keyboard_flag = false } }

krb-found : (s : State) (key : ℕ) → Waits s → (r : ReadsNext s) → step (found s key) ≡ (read_from s key (((s.pc + 2) % 4096 + 1) % 4096) (bit_or 0 key) false, Ran None)
unfolding step after_instruction
krb-found s key w r = rw (w.running, r.interrupts, r.reads) refl

read-is : (s : State) (key : ℕ) → Waits s → read_from s key (((s.pc + 2) % 4096 + 1) % 4096) (bit_or 0 key) false ≡ key_read s key
read-is s key w =
    let e : ((s.pc + 2) % 4096 + 1) % 4096 ≡ (s.pc + 3) % 4096 = omega arith in
    ap (λ pc. read_from s key pc (bit_or 0 key) false) e
    ∙ ap (λ ac. read_from s key ((s.pc + 3) % 4096) ac false) (or_zero_l key)
    ∙ ap (λ b. read_from s key ((s.pc + 3) % 4096) key b) (sym w.waiting)

printing_step-krb : (s : State) (key : ℕ) → Waits s → (r : ReadsNext s) → printing_step true (found s key) ≡ (key_read s key, Ran None)
printing_step-krb s key w r =
    printing_step-idle (found s key) w.idle ∙ krb-found s key w r ∙ ap (λ (x : State). let p : State × Stepped = (x, Ran None) in p) (read-is s key w)

-- a look that finds a key
key-twice : (s : State) (key : ℕ) (looks : List (Option ℕ)) (since : ℕ) → ReadsNext s
    → GoesTwice (record { machine = s; looks = Some key ∷ looks; since = since }) (record { machine = key_read s key; looks = looks; since = 2 })
key-twice s key looks since r =
    let w = waits s r.waits in
    let t : Terminal = record { machine = s; looks = Some key ∷ looks; since = since } in
    let u : Terminal = record { machine = found s key; looks = looks; since = 1 } in
    let at : after_attention t ≡ new_terminal (key_struck s key) looks = ap (λ (b : Bool). if b then new_terminal (key_struck s key) looks else t) (waits-asks s since r.waits) in
    record {
      between = u;
      first = record {
        next_is =
            ap (λ (x : Terminal). let y : Terminal = record x { machine = (printing_step true x.machine).0; since = x.since + 1 } in y) at
            ∙ ap (λ p. let y : Terminal = record { machine = p.0; looks = looks; since = 1 } in y) (printing_step-found s key w r.interrupts);
        did = ap (λ (x : Terminal). (printing_step true x.machine).1) at ∙ ap (λ p. p.1) (printing_step-found s key w r.interrupts);
        fed = refl;
      };
      second = record {
        next_is = ap (λ p. let y : Terminal = record { machine = p.0; looks = looks; since = 2 } in y) (printing_step-krb s key w r);
        did = ap (λ p. p.1) (printing_step-krb s key w r);
        fed = starves-not (found s key) looks 1 refl;
      };
    }

-- ## Any number of looks

pub reads : (s : State) (count key : ℕ) (looks : List (Option ℕ)) (since : ℕ) → ReadsNext s
    → later (2 * count + 2) (waiting_for s count key looks since) ≡ record { machine = key_read s key; looks = looks; since = 2 }
reads s zero key looks since r =
    let e : 2 * 0 + 2 ≡ 2 = omega arith in
    ap (λ k. later k (waiting_for s 0 key looks since)) e ∙ twice-later _ _ (key-twice s key looks since r)
reads s (suc count) key looks since r =
    let e : 2 * suc count + 2 ≡ 2 + (2 * count + 2) = omega arith in
    let t = waiting_for s (suc count) key looks since in
    ap (λ k. later k t) e
    ∙ later-add 2 (2 * count + 2) t
    ∙ ap (λ x. later (2 * count + 2) x) (twice-later _ _ (none-twice s (none_yet count (Some key ∷ looks)) since r))
    ∙ reads s count key looks 2 r

pub reads-quietly : (s : State) (count key : ℕ) (looks : List (Option ℕ)) (since : ℕ) → ReadsNext s
    → characters_of (2 * count + 2) (waiting_for s count key looks since) ≡ []
reads-quietly s zero key looks since r =
    let e : 2 * 0 + 2 ≡ 2 = omega arith in
    ap (λ k. characters_of k (waiting_for s 0 key looks since)) e ∙ twice-printed _ _ (key-twice s key looks since r)
reads-quietly s (suc count) key looks since r =
    let e : 2 * suc count + 2 ≡ 2 + (2 * count + 2) = omega arith in
    let t = waiting_for s (suc count) key looks since in
    let g = none-twice s (none_yet count (Some key ∷ looks)) since r in
    ap (λ k. characters_of k t) e
    ∙ printed-add 2 (2 * count + 2) t
    ∙ ap (λ cs. cs ++ characters_of (2 * count + 2) (later 2 t)) (twice-printed _ _ g)
    ∙ ap (λ x. characters_of (2 * count + 2) x) (twice-later _ _ g)
    ∙ reads-quietly s count key looks 2 r

-- ## No end on the way

goes-first : (t t' : Terminal) → GoesTwice t t' → t.machine.running ≡ true → GoesOn t 0
goes-first t t' g running = record {
  runs = ap (λ d. runs_on d) (did-none t) ∙ ap (λ (b : Bool). runs_on (if b then Ran None else Stopped)) running;
  fed = ap (λ x. starves x) (later-none t) ∙ g.first.fed;
}

goes-second : (t t' : Terminal) → GoesTwice t t' → GoesOn t 1
goes-second t t' g = record {
  runs = ap (λ d. runs_on d) (did-next 0 t ∙ ap (λ x. (after_step x).1) (later-none t) ∙ g.first.did);
  fed = ap (λ x. starves x) (one t ∙ g.first.next_is) ∙ g.second.fed;
}

goes-more : (t t' : Terminal) (k : ℕ) → GoesTwice t t' → GoesOn t' k → GoesOn t (2 + k)
goes-more t t' zero g h = record {
  runs = ap (λ d. runs_on d) (did-next 1 t ∙ ap (λ x. (after_step x).1) (one t ∙ g.first.next_is) ∙ g.second.did);
  fed = ap (λ x. starves x) (twice-later t t' g ∙ sym (later-none t')) ∙ h.fed;
}
goes-more t t' (suc k) g h =
    let e : 2 + suc k ≡ 2 + k + 1 = omega arith in
    let f : k + 1 ≡ suc k = omega arith in
    record {
      runs =
          ap (λ m. runs_on (last_did m t)) e
          ∙ ap (λ d. runs_on d) (did-next (2 + k) t ∙ ap (λ x. (after_step x).1) (later-add 2 k t ∙ ap (λ x. later k x) (twice-later t t' g)) ∙ sym (did-next k t'))
          ∙ ap (λ m. runs_on (last_did m t')) f
          ∙ h.runs;
      fed = ap (λ x. starves x) (later-add 2 (suc k) t ∙ ap (λ x. later (suc k) x) (twice-later t t' g)) ∙ h.fed;
    }

pub reads-on : (s : State) (count key : ℕ) (looks : List (Option ℕ)) (since k : ℕ) → ReadsNext s → k < 2 * count + 2
    → GoesOn (waiting_for s count key looks since) k
reads-on s zero key looks since zero r below = goes-first _ _ (key-twice s key looks since r) (waits s r.waits).running
reads-on s zero key looks since (suc zero) r below = goes-second _ _ (key-twice s key looks since r)
reads-on s zero key looks since (suc (suc k)) r below = absurd (omega (arith, below))
reads-on s (suc count) key looks since zero r below = goes-first _ _ (none-twice s (none_yet count (Some key ∷ looks)) since r) (waits s r.waits).running
reads-on s (suc count) key looks since (suc zero) r below = goes-second _ _ (none-twice s (none_yet count (Some key ∷ looks)) since r)
reads-on s (suc count) key looks since (suc (suc k)) r below =
    let e : 2 + k ≡ suc (suc k) = omega arith in
    subst (λ m. GoesOn (waiting_for s (suc count) key looks since) m) e
    (goes-more _ _ k (none-twice s (none_yet count (Some key ∷ looks)) since r) (reads-on s count key looks 2 k r (omega (arith, below))))

-- A run has one end, and where a reader's bytes are known it is that of a terminal with the keys of all of them.
use Rattle.std.proofs.Common.{◌≡◌, ℕ, ◌<◌, true, true≢false, List, ◌++◌, map, Option, Some, Ok, append_assoc, refl, ap, sym, subst, ◌∙◌, arith}
use Rattle.std.specs.Io.KnownBytes.{Appends}
use Rattle.std.proofs.lemmas.List.{map-append}
use Rattle.cpu8.specs.Laws.{runs_on}
use Rattle.cpu8.specs.declared.outcomes.Stepped.{Stepped}
use Rattle.cpu8.specs.declared.outcomes.Stepped.TheVariants.{Stopped, Interrupted, Ran, Halted, Unassigned}
use Rattle.terminal8.specs.Keys.{fresh, keys_from, keys_of}
use Rattle.terminal8.specs.KeySteps.{keyboard_after}
use Rattle.terminal8.specs.Terminal.{visible_characters, has_halted}
use Rattle.terminal8.specs.Run.{MayFollow}
use Rattle.terminal8.specs.declared.absences.Absence.{Absence}
use Rattle.terminal8.specs.declared.inputs.Input.TheVariants.{Ending}
use Rattle.terminal8.specs.declared.keyboards.Form.{Form}
use Rattle.terminal8.specs.declared.outcomes.Ended.{Ended}
use Rattle.terminal8.specs.declared.outcomes.TerminalEnd.{TerminalEnd}
use Rattle.terminal8.specs.declared.outcomes.TerminalEnd.TheVariants as why
use Rattle.terminal8.proofs.KeyLemmas.{keys_more}
use Rattle.terminal8e.specs.Acts.{Acts}
use Rattle.terminal8e.specs.AnyTerminal.{Terminal, new_terminal, later, last_did, characters_of, absences_of, GoesOn, Ends, IsRun}
use Rattle.terminal8e.specs.AnyRun.{RunsProgram}
use Rattle.terminal8e.specs.AnyLaws.{terminal_of, IsWholeRun}

-- ## Known bytes

pub whole-run : {S : Type 0} (acts : Acts S) (form : Form) (n : ℕ) (old new : S) (bytes left : List ℕ) (w w' : Option (List ℕ)) (f : List Absence) (ended : Ended)
    → RunsProgram acts form Ending n old new (Some bytes) (Some left) w w' f (Ok ended) → IsWholeRun acts (terminal_of form old bytes) n new w w' f ended
whole-run {S} acts form n old new bytes left w w' f ended h =
    let m = h.0.made in
    let k = keyboard_after (fresh form) m.bytes in
    let rest : List ℕ = m.ahead ++ left in
    let more : List (Option ℕ) = map (λ (key : ℕ). Some key) (keys_from k rest) in
    let may : MayFollow h.0.is_over more = λ over.
    ap (λ a. map (λ (key : ℕ). Some key) (keys_from k (a ++ left))) (m.at_end over).1
    ∙ ap (λ l. map (λ (key : ℕ). Some key) (keys_from k l)) (m.at_end over).2 in
    let same : terminal_of form old bytes ≡ new_terminal old (h.0.looks ++ more) =
    ap (λ bs. terminal_of form old bs) (m.taken ∙ append_assoc m.bytes m.ahead left)
    ∙ ap (λ ks. new_terminal old (map (λ (key : ℕ). Some key) ks)) (keys_more (fresh form) m.bytes rest)
    ∙ ap (λ l. new_terminal old l) (map-append (λ (key : ℕ). Some key) (keys_of form m.bytes) (keys_from k rest))
    ∙ ap (λ l. new_terminal old (l ++ more)) (sym m.finds) in
    record {
      run = subst (λ t. IsRun acts t n ended.steps ended.why) (sym same) (h.0.run more may);
      machine = ap (λ t. (later acts ended.steps t).machine) same ∙ m.machine more may;
      printed = subst (λ t. Appends w w' (visible_characters (characters_of acts ended.steps t))) (sym same) (h.1 more may);
      met = h.2 more may ∙ ap (λ t. absences_of acts ended.steps t) (sym same);
    }

-- ## One end

halted-not : (did : Stepped) → has_halted did ≡ true → runs_on did ≡ true → ⊥
halted-not Halted h r = true≢false (sym r)
halted-not Stopped h r = true≢false (sym r)
halted-not (Unassigned word) h r = true≢false (sym r)
halted-not Interrupted h r = true≢false (sym h)
halted-not (Ran printed) h r = true≢false (sym h)

unassigned-not : (did : Stepped) (word : ℕ) → did ≡ Unassigned word → runs_on did ≡ true → ⊥
unassigned-not did word is r = true≢false (sym r ∙ ap (λ d. runs_on d) is)

unassigned-halted : (did : Stepped) (word : ℕ) → did ≡ Unassigned word → has_halted did ≡ true → ⊥
unassigned-halted did word is h = true≢false (sym h ∙ ap (λ d. has_halted d) is)

-- after fewer steps there is no end
goes-past : {S : Type 0} (acts : Acts S) (t : Terminal S) (n steps : ℕ) (y : TerminalEnd) → Ends acts t n steps y → GoesOn acts t steps → steps < n → ⊥
goes-past {S} acts t n steps why.Halt ends goes below = halted-not (last_did acts steps t) ends goes.runs
goes-past {S} acts t n steps why.Unassigned ends goes below = unassigned-not (last_did acts steps t) ends.0 ends.1 goes.runs
goes-past {S} acts t n steps why.Keys ends goes below = true≢false (sym ends.2 ∙ goes.fed)
goes-past {S} acts t n steps why.Limit ends goes below = absurd (omega (arith, ends.0, below))

same-why : {S : Type 0} (acts : Acts S) (t : Terminal S) (n steps : ℕ) (x y : TerminalEnd) → Ends acts t n steps x → Ends acts t n steps y → x ≡ y
same-why {S} acts t n steps why.Halt why.Halt a b = refl
same-why {S} acts t n steps why.Halt why.Unassigned a b = absurd (unassigned-halted (last_did acts steps t) b.0 b.1 a)
same-why {S} acts t n steps why.Halt why.Keys a b = absurd (halted-not (last_did acts steps t) a b.1)
same-why {S} acts t n steps why.Halt why.Limit a b = absurd (halted-not (last_did acts steps t) a b.1)
same-why {S} acts t n steps why.Unassigned why.Halt a b = absurd (unassigned-halted (last_did acts steps t) a.0 a.1 b)
same-why {S} acts t n steps why.Unassigned why.Unassigned a b = refl
same-why {S} acts t n steps why.Unassigned why.Keys a b = absurd (unassigned-not (last_did acts steps t) a.0 a.1 b.1)
same-why {S} acts t n steps why.Unassigned why.Limit a b = absurd (unassigned-not (last_did acts steps t) a.0 a.1 b.1)
same-why {S} acts t n steps why.Keys why.Halt a b = absurd (halted-not (last_did acts steps t) b a.1)
same-why {S} acts t n steps why.Keys why.Unassigned a b = absurd (unassigned-not (last_did acts steps t) b.0 b.1 a.1)
same-why {S} acts t n steps why.Keys why.Keys a b = refl
same-why {S} acts t n steps why.Keys why.Limit a b = absurd (omega (arith, a.0, b.0))
same-why {S} acts t n steps why.Limit why.Halt a b = absurd (halted-not (last_did acts steps t) b a.1)
same-why {S} acts t n steps why.Limit why.Unassigned a b = absurd (unassigned-not (last_did acts steps t) b.0 b.1 a.1)
same-why {S} acts t n steps why.Limit why.Keys a b = absurd (omega (arith, a.0, b.0))
same-why {S} acts t n steps why.Limit why.Limit a b = refl

not-fewer : {S : Type 0} (acts : Acts S) (t : Terminal S) (n a b : ℕ) (x y : TerminalEnd) → IsRun acts t n a x → IsRun acts t n b y → a < b → ⊥
not-fewer {S} acts t n a b x y r q below = goes-past acts t n a x r.ends (q.goes_on a below) (omega (arith, below, q.within))

pub same-steps : {S : Type 0} (acts : Acts S) (t : Terminal S) (n a b : ℕ) (x y : TerminalEnd) → IsRun acts t n a x → IsRun acts t n b y → a ≡ b
same-steps {S} acts t n a b x y r q =
    let c : (a < b) → ⊥ = not-fewer acts t n a b x y r q in
    let d : (b < a) → ⊥ = not-fewer acts t n b a y x q r in
    omega (arith, c, d)

pub same-end : {S : Type 0} (acts : Acts S) (t : Terminal S) (n a b : ℕ) (x y : TerminalEnd) → IsRun acts t n a x → IsRun acts t n b y → x ≡ y
same-end {S} acts t n a b x y r q =
    same-why acts t n b x y (subst (λ m. Ends acts t n m x) (same-steps acts t n a b x y r q) r.ends) q.ends

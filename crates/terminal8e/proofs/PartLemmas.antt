-- A run that is made in parts, as far as it has come.
use Rattle.std.proofs.Common.{◌≡◌, ◌∙◌, ℕ, true, false, sym, ap, List, [], ◌++◌, Option, None, Some, Result, Ok, Err, refl, arith, append-nil, subst}
use Rattle.terminal8.specs.Keys.{fresh}
use Rattle.terminal8.specs.Papers.{Passes}
use Rattle.terminal8.specs.Terminal.{visible_characters}
use Rattle.terminal8.specs.declared.absences.Absence.{Absence}
use Rattle.terminal8.specs.declared.inputs.Input.{Input}
use Rattle.terminal8.specs.declared.keyboards.Form.{Form}
use Rattle.terminal8.specs.declared.outcomes.Ended.{Ended}
use Rattle.terminal8.specs.declared.outcomes.TerminalEnd.TheVariants.{Halt, Limit}
use Rattle.terminal8.specs.declared.outcomes.TerminalFault.{TerminalFault}
use Rattle.terminal8.proofs.ByteLemmas.{passes-more, passes-none}
use Rattle.terminal8e.specs.Acts.{Acts}
use Rattle.terminal8e.specs.AnyTerminal.{new_terminal, characters_of}
use Rattle.terminal8e.specs.AnyRun.{IsCut, RunsProgram}
use Rattle.terminal8e.specs.Parts.{ComesTo, HasCome, HasComeTo, IsPause}
use Rattle.terminal8e.specs.PartSteps.{ComesInto}
use Rattle.terminal8e.specs.declared.operators.Operator.{Operator}
use Rattle.terminal8e.specs.declared.sittings.Sitting.{Sitting}
use Rattle.terminal8e.proofs.RunLemmas.{IsRunning, begun, cut-run, flushed-run, limit-run, stopped-run}

pub running-of : {S : Type 0} (acts : Acts S) (form : Form) (input : Input) (first now : S) (t : Sitting) (r r' w w' : Option (List ℕ)) (p : List ℕ)
    → HasComeTo acts form input first now t r r' w w' p
    → IsRunning acts form input first now t.operator.keyboard t.operator.ahead t.operator.is_over t.operator.since r r' w w' p t.absences t.steps
running-of {S} acts form input first now t r r' w w' p c = record {
  looks = c.looks;
  is_at = record { at = c.at; goes_on = c.goes_on };
  runs = c.runs;
  taken = record { bytes = c.bytes; taken = c.taken; keyboard = c.keyboard; finds = c.finds; none_only = c.none_only; at_end = c.at_end };
  prints = c.prints;
  met = c.met;
}

pub come-of : {S : Type 0} (acts : Acts S) (form : Form) (input : Input) (first now : S) (t : Sitting) (r r' w w' : Option (List ℕ)) (p : List ℕ)
    → IsRunning acts form input first now t.operator.keyboard t.operator.ahead t.operator.is_over t.operator.since r r' w w' p t.absences t.steps
    → HasComeTo acts form input first now t r r' w w' p
come-of {S} acts form input first now t r r' w w' p i = record {
  looks = i.looks;
  bytes = i.taken.bytes;
  taken = i.taken.taken;
  keyboard = i.taken.keyboard;
  finds = i.taken.finds;
  none_only = i.taken.none_only;
  at_end = i.taken.at_end;
  at = i.is_at.at;
  goes_on = i.is_at.goes_on;
  runs = i.runs;
  prints = i.prints;
  met = i.met;
}

abbrev new-operator : Form → Input → Operator
new-operator form input = record { keyboard = fresh form; ahead = []; input = input; is_over = false; since = 0 }

pub operator-is : (o : Operator) (form : Form) (input : Input) → o.keyboard ≡ fresh form → o.ahead ≡ [] → o.input ≡ input → o.is_over ≡ false → o.since ≡ 0 → o ≡ new-operator form input
operator-is o form input k a i v s =
    ap (λ x. let y : Operator = record { keyboard = x; ahead = o.ahead; input = o.input; is_over = o.is_over; since = o.since } in y) k
    ∙ ap (λ x. let y : Operator = record { keyboard = fresh form; ahead = x; input = o.input; is_over = o.is_over; since = o.since } in y) a
    ∙ ap (λ x. let y : Operator = record { keyboard = fresh form; ahead = []; input = x; is_over = o.is_over; since = o.since } in y) i
    ∙ ap (λ x. let y : Operator = record { keyboard = fresh form; ahead = []; input = input; is_over = x; since = o.since } in y) v
    ∙ ap (λ x. let y : Operator = record { keyboard = fresh form; ahead = []; input = input; is_over = false; since = x } in y) s

-- no step is made
pub begun-part : {S : Type 0} (acts : Acts S) (form : Form) (input : Input) (first : S) (t : Sitting) (r w : Option (List ℕ)) → t.operator ≡ new-operator form input → t.steps ≡ 0 → t.absences ≡ []
    → acts.is_running first ≡ true → HasCome acts form input first first t r r w w
begun-part {S} acts form input first t r w operator made empty running =
    come-of acts form input first first t r r w w []
    (subst (λ k. IsRunning acts form input first first t.operator.keyboard t.operator.ahead t.operator.is_over t.operator.since r r w w [] t.absences k) (sym made)
    (subst (λ (f : List Absence). IsRunning acts form input first first t.operator.keyboard t.operator.ahead t.operator.is_over t.operator.since r r w w [] f 0) (sym empty)
    (subst (λ (x : Operator). IsRunning acts form input first first x.keyboard x.ahead x.is_over x.since r r w w [] [] 0) (sym operator) (begun acts form input first r w running))))

-- the machine stands stopped at first
pub stopped-program : {S : Type 0} (acts : Acts S) (form : Form) (input : Input) (n : ℕ) (s : S) (r w : Option (List ℕ)) (f : List Absence) → f ≡ [] → acts.is_running s ≡ false
    → RunsProgram acts form input n s s r r w w f (Ok (record { steps = 0; why = Halt }))
stopped-program {S} acts form input n s r w f empty stopped =
    flushed-run acts form input n s s r r w w w [] [] f (Ok (record { steps = 0; why = Halt })) (stopped-run acts form input n s r w [] f refl empty stopped) (passes-none w []) refl

-- ## Handing on what is on the paper

handed-on : {S : Type 0} (acts : Acts S) (form : Form) (input : Input) (first now : S) (t : Sitting) (r r' w w' w'' : Option (List ℕ)) (p p' : List ℕ)
    → HasComeTo acts form input first now t r r' w w' p → Passes w' w'' p p' [] → p' ≡ [] → HasCome acts form input first now t r r' w w''
handed-on {S} acts form input first now t r r' w w' w'' p p' c held none =
    subst (λ q. HasComeTo acts form input first now t r r' w w'' q) none (record {
      looks = c.looks;
      bytes = c.bytes;
      taken = c.taken;
      keyboard = c.keyboard;
      finds = c.finds;
      none_only = c.none_only;
      at_end = c.at_end;
      at = c.at;
      goes_on = c.goes_on;
      runs = c.runs;
      prints = λ more may.
          let printed = visible_characters (characters_of acts t.steps (new_terminal first (c.looks ++ more))) in
          subst (λ cs. Passes w w'' [] p' cs) (append-nil printed) (passes-more w w' w'' [] p p' printed [] (c.prints more may) held);
      met = c.met;
    })

pub flushed-part : {S : Type 0} (acts : Acts S) (form : Form) (input : Input) (n : ℕ) (first now : S) (t : Sitting) (r r' w w' w'' : Option (List ℕ)) (p p' : List ℕ) (ran : Result (Option Ended) TerminalFault)
    → ComesInto acts form input n first now t r r' w w' p ran → Passes w' w'' p p' [] → p' ≡ [] → ComesTo acts form input n first now t r r' w w'' ran
flushed-part {S} acts form input n first now t r r' w w' w'' p p' (Ok None) h held none = handed-on acts form input first now t r r' w w' w'' p p' h held none
flushed-part {S} acts form input n first now t r r' w w' w'' p p' (Ok (Some ended)) h held none = flushed-run acts form input n first now r r' w w' w'' p p' t.absences (Ok ended) h held none
flushed-part {S} acts form input n first now t r r' w w' w'' p p' (Err fault) h held none = flushed-run acts form input n first now r r' w w' w'' p p' t.absences (Err fault) h held none

-- ## Breaking off

pub broken-run : {S : Type 0} (acts : Acts S) (form : Form) (input : Input) (first now : S) (t : Sitting) (r r' w w' : Option (List ℕ))
    → HasCome acts form input first now t r r' w w' → RunsProgram acts form input t.steps first now r r' w w' t.absences (Ok (record { steps = t.steps; why = Limit }))
broken-run {S} acts form input first now t r r' w w' c =
    flushed-run acts form input t.steps first now r r' w w' w' [] [] t.absences (Ok (record { steps = t.steps; why = Limit }))
    (limit-run acts form input t.steps first now t.operator.keyboard t.operator.ahead t.operator.is_over t.operator.since r r' w w' [] t.absences t.steps (running-of acts form input first now t r r' w w' [] c) refl)
    (passes-none w' []) refl

-- the writer fails where what is on the paper is handed on
pub cut-part : {S : Type 0} (acts : Acts S) (form : Form) (input : Input) (n most soonest : ℕ) (first now : S) (old t : Sitting) (r r' w w' : Option (List ℕ)) (p : List ℕ) (ran : Result (Option Ended) TerminalFault)
    → IsPause n most soonest old t ran → ComesInto acts form input n first now t r r' w w' p ran → IsCut acts form input n first now r r'
cut-part {S} acts form input n most soonest first now old t r r' w w' p (Ok None) pause c = record {
  looks = c.looks;
  is_over = t.operator.is_over;
  steps = t.steps;
  made = record {
    bytes = c.bytes;
    ahead = t.operator.ahead;
    taken = c.taken;
    finds = c.finds;
    none_only = c.none_only;
    at_end = c.at_end;
    machine = λ more may. ap (λ x. x.machine) (c.at more may);
    looks_left = λ more may. ap (λ x. x.looks) (c.at more may);
  };
  within = omega (arith, pause.1);
  goes_on = c.goes_on;
}
cut-part {S} acts form input n most soonest first now old t r r' w w' p (Ok (Some ended)) pause c = cut-run acts form input n first now r r' w w' p t.absences (Ok ended) c
cut-part {S} acts form input n most soonest first now old t r r' w w' p (Err fault) pause c = cut-run acts form input n first now r r' w w' p t.absences (Err fault) c

-- the first part of a run, whose input is that of its operator
pub first-part : {S : Type 0} (acts : Acts S) (form : Form) (input x : Input) (n : ℕ) (first now : S) (old t : Sitting) (r r' w w' : Option (List ℕ)) (result : Result (Option Ended) TerminalFault) → x ≡ input
    → (HasCome acts form x first first old r r w w → ComesTo acts form x n first now t r r' w w' result) → HasCome acts form input first first old r r w w
    → ComesTo acts form input n first now t r r' w w' result
first-part {S} acts form input x n first now old t r r' w w' result is go come =
    subst (λ (y : Input). ComesTo acts form y n first now t r r' w w' result) is (go (subst (λ (y : Input). HasCome acts form y first first old r r w w) (sym is) come))

-- ## A part with which the run ends

pub part-ends : {S : Type 0} (acts : Acts S) (form : Form) (input : Input) (n : ℕ) (first now : S) (t : Sitting) (r r' w w' : Option (List ℕ)) (f : List Absence) (result : Result (Option Ended) TerminalFault) (ended : Ended)
    → result ≡ Ok (Some ended) → f ≡ t.absences → ComesTo acts form input n first now t r r' w w' result → RunsProgram acts form input n first now r r' w w' f (Ok ended)
part-ends {S} acts form input n first now t r r' w w' f result ended is same come =
    subst (λ (x : List Absence). RunsProgram acts form input n first now r r' w w' x (Ok ended)) (sym same)
    (subst (λ (a : Result (Option Ended) TerminalFault). ComesTo acts form input n first now t r r' w w' a) is come)

pub part-fails : {S : Type 0} (acts : Acts S) (form : Form) (input : Input) (n : ℕ) (first now : S) (t : Sitting) (r r' w w' : Option (List ℕ)) (f : List Absence) (result : Result (Option Ended) TerminalFault) (fault : TerminalFault)
    → result ≡ Err fault → f ≡ t.absences → ComesTo acts form input n first now t r r' w w' result → RunsProgram acts form input n first now r r' w w' f (Err fault)
part-fails {S} acts form input n first now t r r' w w' f result fault is same come =
    subst (λ (x : List Absence). RunsProgram acts form input n first now r r' w w' x (Err fault)) (sym same)
    (subst (λ (a : Result (Option Ended) TerminalFault). ComesTo acts form input n first now t r r' w w' a) is come)

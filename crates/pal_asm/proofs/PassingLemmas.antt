-- A pass in a source, a character at a time.
use Rattle.std.proofs.Common.{◌≡◌, ◌∙◌, inl, inr, ℕ, ◌+◌, ◌-◌, ◌<◌, ◌≤◌, Bool, true, false, ◌&&◌, if◌then◌else◌, Option, Some, None, List, [], ◌∷◌, ◌++◌, length, take, drop, get_or, Result, Ok, Err, refl, ap, sym, subst, arith, append_assoc}
use Rattle.pal_lex.specs.Text.{text_from, up_to_end, is_over, line_after}
use Rattle.pal_lex.specs.Statements.{statements, first_fault}
use Rattle.pal_lex.specs.Joins.{pauses, join_of}
use Rattle.pal_lex.specs.Laws.{has_next, ByteGoesOn, JoinGoesOn, PauseJoins}
use Rattle.pal_lex.specs.Reading.{HasRead, HasPaused, Answers, HandsOut, Pauses, TellsFault as LexTells, Ends, BeginsNext, EndsSource as LexEnds, is_pause_body, with_tokens, tokens_after}
use Rattle.pal_lex.specs.Progress as lex
use Rattle.pal_lex.specs.Progress.{Setting, setting}
use Rattle.pal_faults.specs.declared.lexical.LexFault.{LexFault}
use Rattle.pal_faults.specs.declared.lexical.LexFault.TheVariants as fault
use Rattle.pal_lex.specs.declared.phrases.Statement.{Statement}
use Rattle.pal_asm.specs.Places.{Source}
use Rattle.pal_asm.specs.Faults.{first_of, at_line, statement_fault, first_order}
use Rattle.pal_faults.specs.Faults.{lexical}
use Rattle.pal_asm.specs.Laws.{LexicalFaultIsTold, StatementsStay}
use Rattle.pal_asm.specs.Passes.{IsFirst, IsSecond, AnswersFirst, BeginsSecond}
use Rattle.pal_asm.specs.Progress as asm
use Rattle.pal_lex.specs.declared.pieces.Token.{Token}
use Rattle.pal_faults.specs.declared.assembling.Code.TheVariants.{NE}
use Rattle.pal_faults.specs.declared.assembling.AsmFault.{AsmFault}
use Rattle.pal_faults.specs.declared.assembling.AsmFault.TheVariants.{At, Memory}
use Rattle.pal_asm.specs.declared.passing.Pass.{Pass}
use Rattle.pal_asm.specs.Passing.{Counts, Pause, Stands, StandsAfter, TellsJoinFault, HasPassed, Settles, SettlesIn, PassesTo, EndsSource, BeginsSecondPass}
use Rattle.pal_asm.specs.TextSteps.{is_pause_answer, PassesByte}
use Rattle.pal_asm.proofs.ByteLemmas.{from_after, the_rest, up_to, one_more}

-- ## Faults that are told

-- a fault stays, whatever follows
abbrev pub Stays : (Source → Option AsmFault) → Type 0
Stays fault_in = (later older : Source) (f : AsmFault) → fault_in older ≡ Some f → fault_in (later ++ older) ≡ Some f

pub first_stays : Stays first_order
first_stays [] older f told = told
first_stays (Ok s ∷ later) older f told = ap (λ o. first_of o (at_line s.line (statement_fault s (later ++ older)))) (first_stays later older f told)
first_stays (Err g ∷ later) older f told = ap (λ o. first_of o (Some (lexical g))) (first_stays later older f told)

-- what a text tells is told by one that goes on
pub tells_more : (fault_in : Source → Option AsmFault) (prefix : List ℕ) (several : Bool) (here bytes : List ℕ) (f : AsmFault) → TellsJoinFault fault_in prefix several here f → TellsJoinFault fault_in prefix several (text_from here bytes) f
tells_more fault_in prefix several here bytes f tells later others follows =
    let rest = from_after bytes here in
    ap (λ t. fault_in (statements (join_of (t ∷ others) ++ prefix))) (ap (λ t. later ++ t) rest.1 ∙ sym (append_assoc later rest.0 here)) ∙ tells (later ++ rest.0) others follows

-- where the pass stands is told what is told by the statements there
pub tells_here : (fault_in : Source → Option AsmFault) → Stays fault_in → JoinGoesOn → StatementsStay → (lexer : lex.Progress) (ended : Bool) (prefix : List ℕ) (several : Bool) (here : List ℕ) (is_last : Bool) (Fits : Source → Type 0) (f : AsmFault)
    → Stands lexer ended prefix several here is_last Fits → ((s : Source) → Fits s → fault_in s ≡ Some f) → TellsJoinFault fault_in prefix several here f
tells_here fault_in stays goes stay lexer ended prefix several here is_last Fits f stands told later others follows = elim stands [
  | inl counts ↦
      let more = goes prefix here later others counts.1.clear counts.1.fine in
      ap fault_in more.1 ∙ stays more.0 (statements (here ++ prefix)) f (told (statements (here ++ prefix)) counts.1.at)
  | inr paused ↦ by_others others follows paused.1
]
  where
    by_others : (os : List (List ℕ)) → has_next os ≡ several → Pause lexer prefix several here Fits → fault_in (statements (join_of ((later ++ here) ∷ os) ++ prefix)) ≡ Some f
    by_others [] e p = absurd (never several e p.follows)
      where
        never : (b : Bool) → false ≡ b → b ≡ true → ⊥
        never true e is = cc
        never false e is = cc
    by_others (next ∷ os) e p =
        let more = stay (join_of (next ∷ os)) p.cut in
        ap (λ t. fault_in (statements t)) (p.joins later next os) ∙ ap fault_in more.1 ∙ stays more.0 (statements p.cut) f (told (statements p.cut) p.at)

-- ## Where a pass stands

pub stands_map : (lexer : lex.Progress) (ended : Bool) (prefix : List ℕ) (several : Bool) (here : List ℕ) (is_last : Bool) (Fits Fits' : Source → Type 0) → ((s : Source) → Fits s → Fits' s)
    → Stands lexer ended prefix several here is_last Fits → Stands lexer ended prefix several here is_last Fits'
stands_map lexer ended prefix several here is_last Fits Fits' change stands = elim stands [
  | inl counts ↦ inl (counts.0, record { read = counts.1.read; may_pause = counts.1.may_pause; clear = counts.1.clear; fine = counts.1.fine; at = change _ counts.1.at })
  | inr paused ↦ inr (paused.0, record { cut = paused.1.cut; paused = paused.1.paused; clear = paused.1.clear; follows = paused.1.follows; joins = paused.1.joins; at = change _ paused.1.at })
]

-- after PAUSE anything may come
pub paused_more : (lexer : lex.Progress) (prefix : List ℕ) (several : Bool) (here bytes : List ℕ) (Fits : Source → Type 0) → Pause lexer prefix several here Fits → Pause lexer prefix several (text_from here bytes) Fits
paused_more lexer prefix several here bytes Fits p =
    let rest = from_after bytes here in
    record {
      cut = p.cut;
      paused = p.paused;
      clear = p.clear;
      follows = p.follows;
      joins = λ later next others.
          ap (λ t. join_of (t ∷ next ∷ others) ++ prefix) (ap (λ t. later ++ t) rest.1 ∙ sym (append_assoc later rest.0 here)) ∙ p.joins (later ++ rest.0) next others;
      at = p.at;
    }

-- the lexer took bytes that end no statement
pub stands_read : (old new : lex.Progress) (ended : Bool) (prefix : List ℕ) (several : Bool) (here bytes : List ℕ) (i j : ℕ) (is_last : Bool) (Fits : Source → Type 0) → i ≤ j
    → ((seam : ℕ) (before here : List ℕ) → HasRead old seam (text_from here (take i bytes) ++ before) → HasRead new seam (text_from here (take j bytes) ++ before) × (statements (text_from here (take j bytes) ++ before) ≡ statements (text_from here (take i bytes) ++ before)))
    → ((cut : List ℕ) → HasPaused old cut → new ≡ old) → setting new ≡ setting old
    → Stands old ended prefix several (text_from here (take i bytes)) is_last Fits → Stands new ended prefix several (text_from here (take j bytes)) is_last Fits
stands_read old new ended prefix several here bytes i j is_last Fits low read paused same stands = elim stands [
  | inl counts ↦
      let now = read (length prefix) prefix here counts.1.read in
      inl (
        counts.0,
        record {
          read = now.0;
          may_pause = ap (λ (s : Setting). s.may_pause) same ∙ counts.1.may_pause;
          clear = counts.1.clear;
          fine = ap first_fault now.1 ∙ counts.1.fine;
          at = subst Fits (sym now.1) counts.1.at;
        },
      )
  | inr p ↦
      inr (
        p.0,
        subst (λ (l : lex.Progress). Pause l prefix several (text_from here (take j bytes)) Fits) (sym (paused p.1.cut p.1.paused))
            (subst (λ t. Pause old prefix several t Fits) (sym (farther i j low)) (paused_more old prefix several (text_from here (take i bytes)) (take (j - i) (drop i bytes)) Fits p.1)),
      )
]
  where
    farther : (n m : ℕ) → n ≤ m → text_from here (take m bytes) ≡ text_from (text_from here (take n bytes)) (take (m - n) (drop n bytes))
    farther n m below = ap (λ k. text_from here (take k bytes)) (apart n m below) ∙ up_to here bytes n (m - n)
      where
        apart : (a b : ℕ) → a ≤ b → b ≡ a + (b - a)
        apart a b le = omega (arith, le)

-- ## A character

-- the lexer answered nothing
abbrev pub IsNothing : Result (Option Statement) LexFault → Type 0
IsNothing result = result ≡ Ok None

pub same_answer : (a : Option Statement) → IsNothing (Ok a) → a ≡ None
same_answer a e = cc

pub not_ok : {C : Type 0} (f : LexFault) → IsNothing (Err f) → C
not_ok f e = absurd cc

-- a byte that ended no statement, or one that isn't PAUSE
pub counts_more : (old new : lex.Progress) (prefix : List ℕ) (several : Bool) (here : List ℕ) (b : ℕ) (Fits Fits' : Source → Type 0) → Counts old prefix several here Fits → setting new ≡ setting old
    → first_fault (statements (b ∷ here ++ prefix)) ≡ None → HasRead new (length prefix) (b ∷ here ++ prefix) → Fits' (statements (b ∷ here ++ prefix)) → Counts new prefix several (b ∷ here) Fits'
counts_more old new prefix several here b Fits Fits' counts same fine read at = record {
  read = read;
  may_pause = ap (λ (s : Setting). s.may_pause) same ∙ counts.may_pause;
  clear = counts.clear;
  fine = fine;
  at = at;
}

-- a byte that ended PAUSE
pub pauses_here : PauseJoins → (old new : lex.Progress) (prefix : List ℕ) (several : Bool) (here : List ℕ) (b : ℕ) (s : Statement) (Fits : Source → Type 0) → Counts old prefix several here Fits
    → Pauses (length prefix) (here ++ prefix) b s old new → Pause new prefix several (b ∷ here) Fits
pauses_here law old new prefix several here b s Fits counts p = record {
  cut = up_to_end (here ++ prefix);
  paused = p.paused;
  clear = p.clear;
  follows = sym counts.may_pause ∙ p.may_pause;
  joins = λ later next others. law prefix here later b next others counts.clear counts.fine p.pauses;
  at = subst Fits (sym p.same) counts.at;
}

-- after PAUSE
pub paused_byte : (old new : lex.Progress) (prefix : List ℕ) (several : Bool) (here : List ℕ) (b : ℕ) (Fits : Source → Type 0) → Pause old prefix several here Fits → new ≡ old → Pause new prefix several (b ∷ here) Fits
paused_byte old new prefix several here b Fits p same =
    subst (λ (l : lex.Progress). Pause l prefix several (b ∷ here) Fits) (sym same) (paused_more old prefix several here (b ∷ []) Fits p)

waits : (pass : Pass) (source : Source) → pass.waiting ≡ None → StandsAfter pass.waiting pass.assembler source → IsFirst pass.assembler source
waits pass source none is = subst (λ w. StandsAfter w pass.assembler source) none is

-- a character was taken
pub passed_byte : PauseJoins → (pass new : Pass) (lexer : lex.Progress) (answer : Option Statement) (prefix : List ℕ) (several : Bool) (here : List ℕ) (b : ℕ) → pass.waiting ≡ None
    → ((seam : ℕ) (text : List ℕ) → HasRead pass.lexer seam text → Answers seam text b (Ok answer) pass.lexer lexer)
    → ((text : List ℕ) → HasPaused pass.lexer text → IsNothing (Ok answer) × (lexer ≡ pass.lexer))
    → setting lexer ≡ setting pass.lexer
    → (is_pause_answer answer ≡ true → new ≡ record { lexer = lexer; assembler = pass.assembler; waiting = pass.waiting; is_at_end = true })
    → (is_pause_answer answer ≡ false → new ≡ record { lexer = lexer; assembler = pass.assembler; waiting = answer; is_at_end = pass.is_at_end })
    → HasPassed pass prefix several here false → HasPassed new prefix several (b ∷ here) false
passed_byte joins pass new lexer answer prefix several here b none answers paused same pausing keeping has = elim has [
  | inl counts ↦ by_answer answer refl counts.0 counts.1 (answers (length prefix) (here ++ prefix) counts.1.read)
  | inr p ↦
      let is = paused p.1.cut p.1.paused in
      let nothing = same_answer answer is.0 in
      subst (λ (n : Pass). HasPassed n prefix several (b ∷ here) false) (sym (keeping (ap is_pause_answer nothing)))
      (subst (λ w. HasPassed (record { lexer = lexer; assembler = pass.assembler; waiting = w; is_at_end = pass.is_at_end }) prefix several (b ∷ here) false) (none ∙ sym nothing)
      (inr (p.0, paused_byte pass.lexer lexer prefix several here b (λ s. StandsAfter pass.waiting pass.assembler s) p.1 is.1)))
]
  where
    after_pause : (s : Statement) (p : Bool) → answer ≡ Some s → is_pause_body s.body ≡ p → pass.is_at_end ≡ false → Counts pass.lexer prefix several here (λ q. StandsAfter pass.waiting pass.assembler q)
        → HandsOut p (length prefix) (here ++ prefix) b s pass.lexer lexer → HasPassed new prefix several (b ∷ here) false
    after_pause s true is pause going counts out =
        subst (λ (n : Pass). HasPassed n prefix several (b ∷ here) false) (sym (pausing (ap is_pause_answer is ∙ pause)))
        (inr (refl, pauses_here joins pass.lexer lexer prefix several here b s (λ q. StandsAfter pass.waiting pass.assembler q) counts out))
    after_pause s false is pause going counts out =
        subst (λ (n : Pass). HasPassed n prefix several (b ∷ here) false) (sym (keeping (ap is_pause_answer is ∙ pause)))
        (subst (λ w. HasPassed (record { lexer = lexer; assembler = pass.assembler; waiting = w; is_at_end = pass.is_at_end }) prefix several (b ∷ here) false) (sym is)
        (inl (
          going,
          counts_more pass.lexer lexer prefix several here b (λ q. StandsAfter pass.waiting pass.assembler q) (λ q. StandsAfter (Some s) pass.assembler q) counts same out.no_fault out.read
              (statements (here ++ prefix), (tokens_after (here ++ prefix), (out.newest, pause, waits pass _ none counts.at))),
        )))

    by_answer : (a : Option Statement) → answer ≡ a → pass.is_at_end ≡ false → Counts pass.lexer prefix several here (λ q. StandsAfter pass.waiting pass.assembler q)
        → Answers (length prefix) (here ++ prefix) b (Ok a) pass.lexer lexer → HasPassed new prefix several (b ∷ here) false
    by_answer None is going counts told =
        subst (λ (n : Pass). HasPassed n prefix several (b ∷ here) false) (sym (keeping (ap is_pause_answer is)))
        (subst (λ w. HasPassed (record { lexer = lexer; assembler = pass.assembler; waiting = w; is_at_end = pass.is_at_end }) prefix several (b ∷ here) false) (sym is)
        (inl (
          going,
          counts_more pass.lexer lexer prefix several here b (λ q. StandsAfter pass.waiting pass.assembler q) (λ q. StandsAfter None pass.assembler q) counts same told.0 told.2
              (subst (λ q. IsFirst pass.assembler q) (sym told.1) (waits pass _ none counts.at)),
        )))
    by_answer (Some s) is going counts told = after_pause s (is_pause_body s.body) is refl going counts told

and_false : (follows may pausing : Bool) → follows ≡ may → (may ≡ true → pausing ≡ false) → (follows && pausing) ≡ false
and_false true may pausing is quiet = quiet (sym is)
and_false false may pausing is quiet = refl

-- no PAUSE ends here
pub goes_on_by : ByteGoesOn → (prefix here later : List ℕ) (b : ℕ) (others : List (List ℕ)) (several : Bool) (lexer : lex.Progress) (Fits : Source → Type 0) → Counts lexer prefix several here Fits → has_next others ≡ several
    → (lexer.may_pause ≡ true → pauses (here ++ prefix) b ≡ false) → (more : Source) × (statements (join_of ((later ++ b ∷ here) ∷ others) ++ prefix) ≡ more ++ statements (b ∷ here ++ prefix))
goes_on_by goes prefix here later b others several lexer Fits counts follows quiet =
    goes prefix here later b others counts.clear counts.fine (and_false (has_next others) lexer.may_pause (pauses (here ++ prefix) b) (follows ∙ sym counts.may_pause) quiet)

-- a character was refused
pub refused_byte : ByteGoesOn → LexicalFaultIsTold → (pass : Pass) (lexer : lex.Progress) (f : LexFault) (answer : AsmFault) (prefix : List ℕ) (several : Bool) (here : List ℕ) (b : ℕ) → answer ≡ lexical f → pass.waiting ≡ None
    → ((seam : ℕ) (text : List ℕ) → HasRead pass.lexer seam text → Answers seam text b (Err f) pass.lexer lexer)
    → ((text : List ℕ) → HasPaused pass.lexer text → IsNothing (Err f) × (lexer ≡ pass.lexer))
    → HasPassed pass prefix several here false → PassesByte prefix several here b (Err answer) (record { lexer = lexer; assembler = pass.assembler; waiting = pass.waiting; is_at_end = pass.is_at_end })
refused_byte goes told pass lexer f answer prefix several here b e none answers paused has = elim has [
  | inl counts ↦ subst (λ a. PassesByte prefix several here b (Err a) now) (sym e) (by_fault f counts.0 counts.1 (answers (length prefix) (here ++ prefix) counts.1.read))
  | inr p ↦ not_ok f (paused p.1.cut p.1.paused).0
]
  where
    now : Pass
    now = record { lexer = lexer; assembler = pass.assembler; waiting = pass.waiting; is_at_end = pass.is_at_end }

    tells : (g : LexFault) → Counts pass.lexer prefix several here (λ q. StandsAfter pass.waiting pass.assembler q) → LexTells (length prefix) (here ++ prefix) b g pass.lexer lexer → TellsJoinFault first_order prefix several (b ∷ here) (lexical g)
    tells g counts is later others follows =
        let more = goes_on_by goes prefix here later b others several pass.lexer (λ q. StandsAfter pass.waiting pass.assembler q) counts follows (is.1 counts.fine) in
        ap first_order more.1 ∙ first_stays more.0 (statements (b ∷ here ++ prefix)) (lexical g) (told (here ++ prefix) b g (waits pass _ none counts.at).no_fault is.0)

    by_fault : (g : LexFault) → pass.is_at_end ≡ false → Counts pass.lexer prefix several here (λ q. StandsAfter pass.waiting pass.assembler q) → Answers (length prefix) (here ++ prefix) b (Err g) pass.lexer lexer
        → PassesByte prefix several here b (Err (lexical g)) now
    by_fault (fault.IC line) going counts is = tells (fault.IC line) counts is
    by_fault (fault.SY line) going counts is = tells (fault.SY line) counts is
    by_fault (fault.NU line) going counts is = tells (fault.NU line) counts is
    by_fault (fault.NE line) going counts is = absurd is
    by_fault fault.Memory going counts is =
        subst (λ (l : lex.Progress). HasPassed (record { lexer = l; assembler = pass.assembler; waiting = pass.waiting; is_at_end = pass.is_at_end }) prefix several here false) (sym is.3) (inl (going, counts))

-- ## Characters

-- a statement was taken up to its end
pub passed_to : (prefix : List ℕ) (several : Bool) (here bytes : List ℕ) (i b : ℕ) (new : Pass) → i < length bytes → b ≡ get_or bytes i 0
    → HasPassed new prefix several (b ∷ text_from here (take i bytes)) false → HasPassed new prefix several (text_from here (take (i + 1) bytes)) false
passed_to prefix several here bytes i b new inside is has = subst (λ t. HasPassed new prefix several t false) (sym (one_more here bytes i b inside is)) has

-- a character of a text was refused
pub refused_in : (prefix : List ℕ) (several : Bool) (here bytes : List ℕ) (i b : ℕ) (new : Pass) (f : AsmFault) → i < length bytes → b ≡ get_or bytes i 0
    → PassesByte prefix several (text_from here (take i bytes)) b (Err f) new → PassesTo prefix several here bytes i (Err f) new
refused_in prefix several here bytes i b new (At code line) inside is tells =
    subst (λ t. TellsJoinFault first_order prefix several t (At code line)) (sym (the_rest here bytes (i + 1)))
    (tells_more first_order prefix several (text_from here (take (i + 1) bytes)) (drop (i + 1) bytes) (At code line)
    (subst (λ t. TellsJoinFault first_order prefix several t (At code line)) (sym (one_more here bytes i b inside is)) tells))
refused_in prefix several here bytes i b new Memory inside is has = has

-- ## A statement that waits

pub settled_by : (pass new : Pass) (prefix : List ℕ) (several : Bool) (here : List ℕ) (is_last : Bool) → ((source : Source) → StandsAfter pass.waiting pass.assembler source → Settles source (Ok tt) pass new)
    → HasPassed pass prefix several here is_last → HasPassed new prefix several here is_last
settled_by pass new prefix several here is_last settles has = elim has [
  | inl counts ↦
      let now = settles _ counts.1.at in
      subst (λ (n : Pass). HasPassed n prefix several here is_last) (sym now.0)
      (inl (counts.0, record { read = counts.1.read; may_pause = counts.1.may_pause; clear = counts.1.clear; fine = counts.1.fine; at = now.1 }))
  | inr p ↦
      let now = settles _ p.1.at in
      subst (λ (n : Pass). HasPassed n prefix several here is_last) (sym now.0)
      (inr (p.0, record { cut = p.1.cut; paused = p.1.paused; clear = p.1.clear; follows = p.1.follows; joins = p.1.joins; at = now.1 }))
]

-- want of memory for it changes nothing
pub not_settled : (pass new : Pass) (prefix : List ℕ) (several : Bool) (here : List ℕ) (is_last : Bool) → ((source : Source) → StandsAfter pass.waiting pass.assembler source → Settles source (Err Memory) pass new)
    → HasPassed pass prefix several here is_last → HasPassed new prefix several here is_last
not_settled pass new prefix several here is_last settles has = elim has [
  | inl counts ↦ subst (λ (n : Pass). HasPassed n prefix several here is_last) (sym (settles _ counts.1.at)) (inl counts)
  | inr p ↦ subst (λ (n : Pass). HasPassed n prefix several here is_last) (sym (settles _ p.1.at)) (inr p)
]

-- its fault is told
pub settle_tells : JoinGoesOn → StatementsStay → (pass new : Pass) (prefix : List ℕ) (several : Bool) (here : List ℕ) (is_last : Bool) (f : AsmFault) → ((source : Source) → StandsAfter pass.waiting pass.assembler source → first_order source ≡ Some f)
    → HasPassed pass prefix several here is_last → TellsJoinFault first_order prefix several here f
settle_tells goes stay pass new prefix several here is_last f told has =
    tells_here first_order first_stays goes stay pass.lexer pass.is_at_end prefix several here is_last (λ s. StandsAfter pass.waiting pass.assembler s) f has told

-- what it comes to within characters
pub settle_in : JoinGoesOn → StatementsStay → (pass new : Pass) (prefix : List ℕ) (several : Bool) (here bytes : List ℕ) (i : ℕ) (r : Result (Unit {0}) AsmFault)
    → ((source : Source) → StandsAfter pass.waiting pass.assembler source → Settles source r pass new)
    → HasPassed pass prefix several (text_from here (take i bytes)) false → PassesTo prefix several here bytes i r new
settle_in goes stay pass new prefix several here bytes i (Ok done) settles has = settled_by pass new prefix several (text_from here (take i bytes)) false settles has
settle_in goes stay pass new prefix several here bytes i (Err Memory) settles has = not_settled pass new prefix several (text_from here (take i bytes)) false settles has
settle_in goes stay pass new prefix several here bytes i (Err (At code line)) settles has =
    subst (λ t. TellsJoinFault first_order prefix several t (At code line)) (sym (the_rest here bytes i))
    (tells_more first_order prefix several (text_from here (take i bytes)) (drop i bytes) (At code line)
    (settle_tells goes stay pass new prefix several (text_from here (take i bytes)) false (At code line) settles has))

-- the assembler has taken a statement that waited
pub statement_settled : (s : Statement) (old new : asm.Progress) (pass : Pass) (source : Source) → pass.waiting ≡ Some s
    → ((older : Source) (tokens : List Token) → is_pause_body s.body ≡ false → IsFirst pass.assembler older → AnswersFirst older (with_tokens tokens s) (Ok tt) pass.assembler new)
    → StandsAfter pass.waiting pass.assembler source → IsFirst new source
statement_settled s old new pass source is answers following =
    let b : StandsAfter (Some s) pass.assembler source = subst (λ w. StandsAfter w pass.assembler source) is following in
    subst (λ q. IsFirst new q) (sym b.1.1.0) (answers b.0 b.1.0 b.1.1.1 b.1.1.2)

-- the assembler has refused it
pub statement_refused : (s : Statement) (new : asm.Progress) (pass : Pass) (source : Source) (f : AsmFault) → pass.waiting ≡ Some s
    → ((older : Source) (tokens : List Token) → is_pause_body s.body ≡ false → IsFirst pass.assembler older → AnswersFirst older (with_tokens tokens s) (Err f) pass.assembler new)
    → StandsAfter pass.waiting pass.assembler source → Settles source (Err f) pass (record { lexer = pass.lexer; assembler = new; waiting = pass.waiting; is_at_end = pass.is_at_end })
statement_refused s new pass source f is answers following =
    by_fault f (answers b.0 b.1.0 b.1.1.1 b.1.1.2)
  where
    b : StandsAfter (Some s) pass.assembler source
    b = subst (λ w. StandsAfter w pass.assembler source) is following

    by_fault : (g : AsmFault) → AnswersFirst b.0 (with_tokens b.1.0 s) (Err g) pass.assembler new
        → Settles source (Err g) pass (record { lexer = pass.lexer; assembler = new; waiting = pass.waiting; is_at_end = pass.is_at_end })
    by_fault (At code line) told = ap first_order b.1.1.0 ∙ told.0
    by_fault Memory told = ap (λ (a : asm.Progress). record { lexer = pass.lexer; assembler = a; waiting = pass.waiting; is_at_end = pass.is_at_end }) told.0

-- ## Between sources, and between the passes

pub fine_there : (lexer : lex.Progress) (text : List ℕ) → HasPaused lexer text → first_fault (statements text) ≡ None
unfolding HasPaused
fine_there lexer text paused = paused.no_fault

pub source_ends : (old new : lex.Progress) (last over : Bool) → ((text : List ℕ) → HasPaused old text → BeginsNext text last (Ok tt) old new)
    → ((seam : ℕ) (text : List ℕ) → HasRead old seam text → Ends text (Ok tt) × LexEnds (Ok tt) old new)
    → ((seam : ℕ) (text : List ℕ) → HasRead new seam text → first_fault (statements text) ≡ None → over ≡ is_over text)
    → EndsSource old last (Ok tt) new over
source_ends old new last over begins ends is = (
  λ cut paused clear.
      let next = begins cut paused in
      record { counts = is (length cut) cut next.read (fine_there old cut paused) ∙ clear.1; read = next.read; may_pause = next.may_pause },
  λ seam text read fine.
      let both = ends seam text read in
      (both.1, is seam text (subst (λ (l : lex.Progress). HasRead l seam text) (sym both.1) read) fine ∙ both.0.1, both.0.1),
)

-- the second pass begins
pub turned : (text : List ℕ) (seam : ℕ) (old new : asm.Progress) (pass : Pass) → pass.waiting ≡ None → pass.assembler ≡ new → Ends text (Ok tt) → BeginsSecond (statements text) (Ok tt) old new → BeginsSecondPass text (Ok tt) pass
turned text seam old new pass none is ends turns = (
  ap (λ b. if b then None else Some (At NE (line_after text))) ends.1,
  (none, subst (λ (a : asm.Progress). IsSecond a (statements text) []) (sym is) turns, refl),
)

-- what it comes to where the pass stands
pub settled_in : JoinGoesOn → StatementsStay → (pass new : Pass) (prefix : List ℕ) (several : Bool) (here : List ℕ) (is_last : Bool) (r : Result (Unit {0}) AsmFault)
    → ((source : Source) → StandsAfter pass.waiting pass.assembler source → Settles source r pass new) → HasPassed pass prefix several here is_last → SettlesIn prefix several here is_last r new
settled_in goes stay pass new prefix several here is_last (Ok tt) settles has = settled_by pass new prefix several here is_last settles has
settled_in goes stay pass new prefix several here is_last (Err Memory) settles has = not_settled pass new prefix several here is_last settles has
settled_in goes stay pass new prefix several here is_last (Err (At code line)) settles has = settle_tells goes stay pass new prefix several here is_last (At code line) settles has

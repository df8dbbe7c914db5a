-- What follows a text leaves its statements as they are.
use Rattle.std.proofs.Common.{◌≡◌, ℕ, nat_eq, Bool, true, false, ◌&&◌, not, if◌then◌else◌, Some, Result, List, [], ◌∷◌, ◌++◌, refl, ap, ◌∙◌}
use Rattle.pal_lex.specs.Text.{is_dead, is_end, is_over, ends_statement, stretch, line_after, text_from}
use Rattle.pal_lex.specs.Statements.{judge_statement, radix_after, statements, fault_of, first_of, first_fault}
use Rattle.pal_lex.specs.Laws.{TextGrows, StatementsStay, EndsSource, FaultStays}
use Rattle.pal_faults.specs.declared.lexical.LexFault.{LexFault}
use Rattle.pal_lex.specs.declared.phrases.Statement.{Statement}

grows_from : (text bytes : List ℕ) (b : ℕ) → text_from text (bytes ++ b ∷ []) ≡ b ∷ text_from text bytes
grows_from text [] b = refl
grows_from text (x ∷ bytes) b = grows_from (x ∷ text) bytes b

pub text_grows : TextGrows
text_grows bytes b = grows_from [] bytes b

abbrev pub newest : List ℕ → ℕ → Result Statement LexFault
newest text b = judge_statement (line_after text) (nat_eq b 36) (stretch text) (radix_after (statements text))

-- one byte more
pub one_more : (b : ℕ) (text : List ℕ) → statements (b ∷ text) ≡ (if ends_statement text b then newest text b ∷ statements text else statements text)
unfolding statements
one_more b text = refl

step : (ends : Bool) (s : Result Statement LexFault) (older prefix text : List (Result Statement LexFault)) → older ≡ prefix ++ text
    → (more : List (Result Statement LexFault)) × ((if ends then s ∷ older else older) ≡ more ++ text)
step true s older prefix text e = (s ∷ prefix, ap (λ l. s ∷ l) e)
step false s older prefix text e = (prefix, e)

pub stays : StatementsStay
stays text [] = ([], refl)
stays text (b ∷ later) =
    let k = stays text later in
    let m = step (ends_statement (later ++ text) b) (newest (later ++ text) b) (statements (later ++ text)) k.0 (statements text) k.1 in
    (m.0, one_more b (later ++ text) ∙ m.1)

no_end : (end dead over : Bool) → over ≡ true → (end && not dead && not over) ≡ false
no_end true true over e = refl
no_end true false over e = rw e refl
no_end false dead over e = refl

over_stays : (text later : List ℕ) → is_over text ≡ true → is_over (later ++ text) ≡ true
over_stays text [] e = e
over_stays text (b ∷ later) e = rw (over_stays text later e) refl

pub ends_source : EndsSource
ends_source text [] e = refl
ends_source text (b ∷ later) e =
    one_more b (later ++ text)
    ∙ ap (λ (t : Bool). if t then newest (later ++ text) b ∷ statements (later ++ text) else statements (later ++ text))
    (no_end (is_end b) (is_dead (later ++ text) b) (is_over (later ++ text)) (over_stays text later e))
    ∙ ends_source text later e

fault_step : (ends : Bool) (s : Result Statement LexFault) (older : List (Result Statement LexFault)) (fault : LexFault)
    → first_fault older ≡ Some fault → first_fault (if ends then s ∷ older else older) ≡ Some fault
fault_step true s older fault e = ap (λ f. first_of f (fault_of s)) e
fault_step false s older fault e = e

pub fault_stays : FaultStays
fault_stays text [] fault e = e
fault_stays text (b ∷ later) fault e =
    ap first_fault (one_more b (later ++ text))
    ∙ fault_step (ends_statement (later ++ text) b) (newest (later ++ text) b) (statements (later ++ text)) fault (fault_stays text later fault e)

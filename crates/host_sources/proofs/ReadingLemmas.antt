-- The statements of a text without fault, one byte at a time.
use Rattle.std.proofs.Common.{◌≡◌, ℕ, ◌+◌, ◌<◌, false, Option, Some, None, Ok, length, take, drop, get_or, List, ◌∷◌, ap, sym, ◌∙◌}
use Rattle.pal_lex.specs.Text.{text_of}
use Rattle.pal_lex.specs.Statements.{statements}
use Rattle.pal_lex.specs.Reading.{Answers, tokens_after, with_tokens}
use Rattle.pal_lex.specs.Progress.{Progress}
use Rattle.pal_lex.specs.declared.phrases.Statement.{Statement}
use Rattle.pal_asm.specs.Faults.{first_order}
use Rattle.pal_asm.specs.Laws.{StatementsStay, NoFaultBefore}
use Rattle.host_sources.specs.Reading.{IsEnded}
use Rattle.host_sources.proofs.PauseLemmas.{none_ends, one_ends}
use Rattle.host_sources.proofs.LocateLemmas.{goes_on, handed}

pub ended_by : (text : List ℕ) (b : ℕ) (ended : Option Statement) (old new : Progress) → old.may_pause ≡ false → Answers 0 text b (Ok ended) old new → IsEnded text b ended new
ended_by text b None old new may answers = (none_ends b text answers.1, answers.1, answers.2)
ended_by text b (Some s) old new may answers =
    let out = handed text b s old new may answers in
    (one_ends b text (Ok (with_tokens (tokens_after text) s)) out.1, (tokens_after text, out.1), out.2)

-- a text with no fault that the first pass meets has none up to one of its bytes
pub fine_order : (bytes : List ℕ) (n : ℕ) → StatementsStay → NoFaultBefore → n < length bytes → first_order (statements (text_of bytes)) ≡ None
    → first_order (statements (get_or bytes n 0 ∷ text_of (take n bytes))) ≡ None
fine_order bytes n stay before inside none =
    let more = stay (text_of (drop (n + 1) bytes)) (get_or bytes n 0 ∷ text_of (take n bytes)) in
    before more.0 (statements (get_or bytes n 0 ∷ text_of (take n bytes)))
    (ap first_order (sym more.1) ∙ ap (λ t. first_order (statements t)) (sym (goes_on bytes n inside)) ∙ none)

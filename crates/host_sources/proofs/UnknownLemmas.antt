-- The first name that stands for nothing.
use Rattle.std.proofs.Common.{◌≡◌, ℕ, ◌+◌, Bool, true, false, if◌then◌else◌, Option, Some, None, Result, Ok, Err, is_some, take, drop, List, [], ◌∷◌, refl, ap, sym, ◌∙◌}
use Rattle.std.proofs.Math.Path.{fun_ext}
use Rattle.std.specs.Ordering.{nat_cmp}
use Rattle.std.specs.BTreeMap.{BTreeMap, get}
use Rattle.pal_sym.specs.Permanent.{permanent}
use Rattle.pal_sym.specs.Values.{if_none}
use Rattle.pal_lex.specs.Text.{is_over, ends_statement, text_of}
use Rattle.pal_lex.specs.Statements.{statements, first_fault, first_of}
use Rattle.pal_lex.specs.Reading.{Answers, tokens_after, with_tokens}
use Rattle.pal_lex.specs.Progress.{Progress}
use Rattle.pal_faults.specs.declared.lexical.LexFault.{LexFault}
use Rattle.pal_lex.specs.declared.phrases.Statement.{Statement}
use Rattle.pal_faults.specs.declared.assembling.AsmFault.{AsmFault}
use Rattle.pal_asm.specs.Places.{Source, values, values_at}
use Rattle.pal_asm.specs.Words.{word_values}
use Rattle.pal_asm.specs.Faults.{first_order}
use Rattle.pal_asm.specs.Laws.{StatementsStay, NoFaultBefore}
use Rattle.pal_lex.proofs.LawLemmas.{one_more, newest}
use Rattle.host_sources.specs.Places.{shortest, is_refused, is_settled}
use Rattle.host_sources.specs.Unknowns.{Standing, unknown_in, newest_unknown, unknown_ended, unknown_name}
use Rattle.host_sources.specs.Symbols.{meaning_in, Follows}
use Rattle.host_sources.specs.JudgeSteps.{Stands}
use Rattle.host_sources.specs.Steps.{IsMetAt, is_memory}
use Rattle.host_sources.specs.declared.locating.Passed.TheVariants as passed
use Rattle.host_sources.proofs.PauseLemmas.{none_ends, one_ends, whole_text, none_some, tells_fault}
use Rattle.host_sources.proofs.LocateLemmas.{handed, shortest_is, refused_stays, settled_stays, refused_whole}

-- ## What names stand for

again : (a p : Option ℕ) → if_none (if_none a p) p ≡ if_none a p
again None None = refl
again None (Some v) = refl
again (Some v) p = refl

-- where no name is defined at last, names stand for what is defined so far
pub stands_first : (none : BTreeMap ℕ ℕ) (place : ℕ) → Follows none place [] → Stands none values_at
stands_first none place follows now tags older is =
    fun_ext (λ n. ap (λ o. if_none (meaning_in now n) o) (follows.values n) ∙ again (get nat_cmp now n) (permanent n)) ∙ is

pub stands_last : (last : BTreeMap ℕ ℕ) (place : ℕ) (whole : Source) → Follows last place whole → Stands last (word_values (values whole))
stands_last last place whole follows now tags older is =
    fun_ext (λ n. ap (λ k. if_none (k n) (meaning_in last n)) is ∙ ap (λ o. if_none (values_at tags older n) o) (follows.values n))

-- ## One byte

pub ends_nothing : (standing : Standing) (text : List ℕ) (b : ℕ) (old new : Progress) → Answers 0 text b (Ok None) old new → None ≡ unknown_ended standing (b ∷ text)
ends_nothing standing text b old new answers =
    sym (ap (λ (t : Bool). if t then newest_unknown standing (statements (b ∷ text)) else None) (none_ends b text answers.1))

pub ends_one : (standing : Standing) (text : List ℕ) (b : ℕ) (s : Statement) (old new : Progress) → old.may_pause ≡ false → Answers 0 text b (Ok (Some s)) old new
    → unknown_in (standing s.tags (statements text)) s.body ≡ unknown_ended standing (b ∷ text)
ends_one standing text b s old new may answers =
    let out = handed text b s old new may answers in
    sym
    (ap (λ (t : Bool). if t then newest_unknown standing (statements (b ∷ text)) else None) (one_ends b text (Ok (with_tokens (tokens_after text) s)) out.1)
    ∙ ap (newest_unknown standing) out.1)

-- a statement that the lexer refuses has no name
refused_by : (standing : Standing) (ends : Bool) (s : Result Statement LexFault) (older : Source) (fault : LexFault) → first_fault older ≡ None
    → first_fault (if ends then s ∷ older else older) ≡ Some fault → (if ends then newest_unknown standing (if ends then s ∷ older else older) else None) ≡ None
refused_by standing true (Ok s) older fault none some = none_some (sym (ap (λ f. first_of f None) none) ∙ some)
refused_by standing true (Err g) older fault none some = refl
refused_by standing false s older fault none some = refl

ends_refused : (standing : Standing) (text : List ℕ) (b : ℕ) (fault : LexFault) → first_fault (statements text) ≡ None → first_fault (statements (b ∷ text)) ≡ Some fault
    → None ≡ unknown_ended standing (b ∷ text)
ends_refused standing text b fault none some =
    sym
    (ap (λ l. if ends_statement text b then newest_unknown standing l else None) (one_more b text)
    ∙ refused_by standing (ends_statement text b) (newest text b) (statements text) fault none (ap first_fault (sym (one_more b text)) ∙ some))

pub told_refused : (standing : Standing) (text : List ℕ) (b : ℕ) (fault : LexFault) (old new : Progress) → first_fault (statements text) ≡ None → is_memory fault ≡ false
    → Answers 0 text b (Err fault) old new → None ≡ unknown_ended standing (b ∷ text)
told_refused standing text b fault old new none other answers = ends_refused standing text b fault none (tells_fault text b fault old new other answers).0

-- ## The statement with the fault

no_order : (o : Option AsmFault) → is_some o ≡ false → o ≡ None
no_order None e = refl
no_order (Some f) e = cc

-- a text that isn't refused has no fault of the first order
pub not_refused : (text : List ℕ) → is_refused text ≡ false → first_order (statements text) ≡ None
not_refused text fine = no_order (first_order (statements text)) fine

pub fine_before : (bytes : List ℕ) (end : ℕ) → StatementsStay → NoFaultBefore → is_refused (text_of bytes) ≡ false → first_order (statements (text_of (take end bytes))) ≡ None
fine_before bytes end stay before fine =
    let more = stay (text_of (drop end bytes)) (text_of (take end bytes)) in
    before more.0 (statements (text_of (take end bytes)))
    (ap first_order (sym more.1) ∙ ap (λ t. first_order (statements t)) (sym (whole_text bytes end)) ∙ not_refused (text_of bytes) fine)

by_refused : (text : List ℕ) → is_refused text ≡ true → unknown_name text ≡ unknown_ended values_at (shortest is_refused text)
by_refused text now = rw now refl

by_open : (text : List ℕ) → is_refused text ≡ false → is_over text ≡ false → unknown_name text ≡ None
by_open text fine going = rw (fine, going) refl

pub by_settled : (text : List ℕ) → is_refused text ≡ false → is_over text ≡ true
    → unknown_name text ≡ unknown_ended (word_values (values (statements text))) (shortest (is_settled (values (statements text))) text)
by_settled text fine over = rw (fine, over) refl

pub refused_name : (bytes : List ℕ) (end : ℕ) → IsMetAt bytes (passed.Refused end) → unknown_ended values_at (text_of (take (end + 1) bytes)) ≡ unknown_name (text_of bytes)
refused_name bytes end p =
    sym (by_refused (text_of bytes) (refused_whole bytes end p) ∙ ap (unknown_ended values_at) (shortest_is is_refused refused_stays bytes end p.0 p.1 p.2))

pub settled_name : (bytes : List ℕ) (end : ℕ) → IsMetAt bytes (passed.Over end)
    → unknown_ended (word_values (values (statements (text_of bytes)))) (text_of (take (end + 1) bytes)) ≡ unknown_name (text_of bytes)
settled_name bytes end p =
    let at = p.0 in
    let last = values (statements (text_of bytes)) in
    sym
    (by_settled (text_of bytes) p.1 p.2 ∙ ap (unknown_ended (word_values last)) (shortest_is (is_settled last) (settled_stays last) bytes end at.0 at.1 at.2))

pub open_name : (bytes : List ℕ) → IsMetAt bytes passed.Open → None ≡ unknown_name (text_of bytes)
open_name bytes p = sym (by_open (text_of bytes) p.0 p.1)

-- Where in its statement a fault is.
use Rattle.std.proofs.Common.{◌≡◌, ℕ, ◌+◌, ◌<◌, Bool, true, false, Option, None, length, take, get_or, List, refl, ap, sym, ◌∙◌}
use Rattle.pal_lex.specs.Text.{is_over, text_of}
use Rattle.pal_lex.specs.Statements.{statements}
use Rattle.pal_faults.specs.declared.assembling.Code.{Code}
use Rattle.pal_asm.specs.Faults.{first_order}
use Rattle.pal_asm.specs.Places.{values}
use Rattle.source_places.specs.declared.subjects.About.TheVariants.{Nothing}
use Rattle.source_places.proofs.PlaceLemmas.{next_byte}
use Rattle.host_sources.specs.Places.{shortest, is_refused, is_settled}
use Rattle.host_sources.specs.Marks.{mark_of, ended_mark, fault_mark}
use Rattle.host_sources.specs.Steps.{IsMetAt}
use Rattle.host_sources.specs.declared.locating.Passed.TheVariants as passed
use Rattle.host_sources.specs.declared.marks.Mark.{Mark}
use Rattle.host_sources.proofs.TextLemmas.{length_whole}
use Rattle.host_sources.proofs.UnknownLemmas.{not_refused}
use Rattle.host_sources.proofs.LocateLemmas.{shortest_is, refused_stays, settled_stays, refused_whole}

by_refused : (code : Code) (name : Option ℕ) (text : List ℕ) → is_refused text ≡ true → fault_mark code name text ≡ ended_mark code name (shortest is_refused text)
by_refused code name text now = rw now refl

by_open : (code : Code) (name : Option ℕ) (text : List ℕ) → is_refused text ≡ false → is_over text ≡ false
    → fault_mark code name text ≡ record { at = length text; about = Nothing }
by_open code name text fine going = rw (fine, going) refl

pub by_settled : (code : Code) (name : Option ℕ) (text : List ℕ) → is_refused text ≡ false → is_over text ≡ true
    → fault_mark code name text ≡ ended_mark code name (shortest (is_settled (values (statements text))) text)
by_settled code name text fine over = rw (fine, over) refl

-- the mark of the statement that a byte of a text ends
ended_at : (code : Code) (name : Option ℕ) (holds : List ℕ → Bool) (bytes : List ℕ) (end : ℕ) → end < length bytes
    → shortest holds (text_of bytes) ≡ text_of (take (end + 1) bytes)
    → ended_mark code name (shortest holds (text_of bytes)) ≡ mark_of code name (text_of (take end bytes))
ended_at code name holds bytes end inside is = ap (ended_mark code name) (is ∙ next_byte bytes end (get_or bytes end 0) inside refl)

pub refused_mark : (code : Code) (name : Option ℕ) (bytes : List ℕ) (end : ℕ) → IsMetAt bytes (passed.Refused end)
    → mark_of code name (text_of (take end bytes)) ≡ fault_mark code name (text_of bytes)
refused_mark code name bytes end p =
    sym
    (by_refused code name (text_of bytes) (refused_whole bytes end p)
    ∙ ended_at code name is_refused bytes end p.0 (shortest_is is_refused refused_stays bytes end p.0 p.1 p.2))

pub settled_mark : (code : Code) (name : Option ℕ) (bytes : List ℕ) (end : ℕ) → IsMetAt bytes (passed.Over end)
    → mark_of code name (text_of (take end bytes)) ≡ fault_mark code name (text_of bytes)
settled_mark code name bytes end p =
    let at = p.0 in
    let last = values (statements (text_of bytes)) in
    sym
    (by_settled code name (text_of bytes) p.1 p.2
    ∙ ended_at code name (is_settled last) bytes end at.0 (shortest_is (is_settled last) (settled_stays last) bytes end at.0 at.1 at.2))

pub open_mark : (code : Code) (name : Option ℕ) (bytes : List ℕ) → IsMetAt bytes passed.Open
    → fault_mark code name (text_of bytes) ≡ record { at = length bytes; about = Nothing }
open_mark code name bytes p =
    let mark : ℕ → Mark = λ n. record { at = n; about = Nothing } in
    by_open code name (text_of bytes) p.0 p.1 ∙ ap mark (length_whole bytes)

pub refused_fine : (bytes : List ℕ) (end : ℕ) → IsMetAt bytes (passed.Refused end) → first_order (statements (text_of (take end bytes))) ≡ None
refused_fine bytes end p = not_refused (text_of (take end bytes)) p.2

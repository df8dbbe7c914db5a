-- The first of the words with faults.
use Rattle.std.proofs.Common.{◌≡◌, ℕ, Bool, true, false, ◌||◌, if◌then◌else◌, Option, Some, None, Result, Ok, Err, is_some, List, [], ◌∷◌, ◌++◌, refl, ap, sym, subst, ◌∙◌}
use Rattle.pal_lex.specs.Text.{is_over, ends_statement, line_after}
use Rattle.pal_lex.specs.Statements.{statements}
use Rattle.pal_faults.specs.declared.lexical.LexFault.{LexFault}
use Rattle.pal_lex.specs.declared.phrases.Statement.{Statement}
use Rattle.pal_faults.specs.declared.assembling.Code.{Code}
use Rattle.pal_faults.specs.declared.assembling.Code.TheVariants.{NE}
use Rattle.pal_faults.specs.declared.assembling.AsmFault.{AsmFault}
use Rattle.pal_faults.specs.declared.assembling.AsmFault.TheVariants.{At}
use Rattle.pal_asm.specs.Expressions.{Meanings}
use Rattle.pal_asm.specs.Places.{Source, place_at, values}
use Rattle.pal_asm.specs.Words.{word_values}
use Rattle.pal_asm.specs.Faults.{first_of, at_line, word_fault, words_fault, no_end, no_word}
use Rattle.source_places.specs.declared.places.Place.{Place}
use Rattle.pal_lex.proofs.LawLemmas.{one_more, newest}
use Rattle.pal_asm.proofs.TextLemmas.{nothing_read}
use Rattle.host_sources.specs.Sources.{newest_first}
use Rattle.host_sources.specs.Places.{shortest, is_settled, place_at_byte}
use Rattle.host_sources.specs.Marks.{at_mark, mark_of, ended_mark}
use Rattle.host_sources.specs.Answers.{mark_in}
use Rattle.host_sources.specs.Unknowns.{unknown_in, newest_unknown, unknown_ended, unknown_name, about}
use Rattle.host_sources.specs.Further.{with_line, newest_fault, byte_fault, with_place, word_faults}
use Rattle.host_sources.specs.Laws.{FirstIsTold}
use Rattle.host_sources.specs.declared.faults.Fault.{Fault}
use Rattle.host_sources.proofs.PauseLemmas.{ends_parts}
use Rattle.host_sources.proofs.LocateLemmas.{words_stay}
use Rattle.host_sources.proofs.MarkLemmas.{by_settled}
use Rattle.host_sources.proofs.UnknownLemmas.{by_settled as settled_unknown, not_refused}

-- ## One word

first_or : List Fault → Fault → Fault
first_or [] f = f
first_or (g ∷ others) f = g

same_first : (g f : Fault) (more others : List Fault) → g ∷ more ≡ f ∷ others → g ≡ f
unfolding first_or
same_first g f more others e = ap (λ l. first_or l g) e

-- a fault stands at the mark of the statement that a byte after a text ends, where this is the name that UA is about
abbrev StandsAt : (ℕ → Place) → List ℕ → Option ℕ → Fault → Type 0
StandsAt place older name f =
    (f.place ≡ place (mark_of f.code (about f.code name) older).at) × (f.about ≡ (mark_of f.code (about f.code name) older).about)

told_by : (place : ℕ → Place) (older : List ℕ) (code : Option Code) (line : ℕ) (name : Option ℕ) (f : Fault) (others : List Fault)
    → with_place place older (with_line line name code) ≡ f ∷ others
    → (at_line line code ≡ Some (At f.code f.line)) × StandsAt place older name f
told_by place older None line name f others e = absurd cc
told_by place older (Some code) line name f others e =
    let told : Fault = at_mark place code line (mark_of code (about code name) older) in
    let same = same_first told f [] others e in (
      ap (λ (g : Fault). Some (At g.code g.line)) same,
      (
        sym (ap (λ (g : Fault). g.place) same) ∙ ap (λ (g : Fault). place (mark_of g.code (about g.code name) older).at) same,
        sym (ap (λ (g : Fault). g.about) same) ∙ ap (λ (g : Fault). (mark_of g.code (about g.code name) older).about) same,
      ),
    )

told_none : (place : ℕ → Place) (older : List ℕ) (code : Option Code) (line : ℕ) (name : Option ℕ) → with_place place older (with_line line name code) ≡ [] → at_line line code ≡ None
told_none place older None line name e = refl
told_none place older (Some code) line name e = absurd cc

newest_told : (place : ℕ → Place) (text : List ℕ) (last : Meanings) (ends : Bool) (s : Result Statement LexFault) (older : Source) (f : Fault) (others : List Fault) → words_fault last older ≡ None
    → with_place place text (if ends then newest_fault last (if ends then s ∷ older else older) else None) ≡ f ∷ others
    → (ends ≡ true) × (words_fault last (if ends then s ∷ older else older) ≡ Some (At f.code f.line))
    × StandsAt place text (newest_unknown (word_values last) (if ends then s ∷ older else older)) f
newest_told place text last true (Ok s) older f others none e =
    let code = word_fault (word_values last s.tags older) (place_at older) s.body in
    let told = told_by place text code s.line (unknown_in (word_values last s.tags older) s.body) f others e in
    (refl, ap (λ o. first_of o (at_line s.line code)) none ∙ told.0, told.1)
newest_told place text last true (Err g) older f others none e = absurd cc
newest_told place text last false s older f others none e = absurd cc

newest_none : (place : ℕ → Place) (text : List ℕ) (last : Meanings) (ends : Bool) (s : Result Statement LexFault) (older : Source) → words_fault last older ≡ None
    → with_place place text (if ends then newest_fault last (if ends then s ∷ older else older) else None) ≡ []
    → words_fault last (if ends then s ∷ older else older) ≡ None
newest_none place text last true (Ok s) older none e =
    let code = word_fault (word_values last s.tags older) (place_at older) s.body in
    ap (λ o. first_of o (at_line s.line code)) none ∙ told_none place text code s.line (unknown_in (word_values last s.tags older) s.body) e
newest_none place text last true (Err g) older none e = none
newest_none place text last false s older none e = none

-- the fault of a byte by the statement that it ends, if it ends one
by_newest : (place : ℕ → Place) (last : Meanings) (b : ℕ) (older : List ℕ)
    → with_place place older (byte_fault last older b)
    ≡ with_place place older (if ends_statement older b then newest_fault last (if ends_statement older b then newest older b ∷ statements older else statements older) else None)
by_newest place last b older = ap (λ l. with_place place older (if ends_statement older b then newest_fault last l else None)) (one_more b older)

-- ## All of them

no_more : (a b : List Fault) → a ++ b ≡ [] → (a ≡ []) × (b ≡ [])
no_more [] b e = (refl, e)
no_more (f ∷ a) b e = absurd cc

none_before : (place : ℕ → Place) (last : Meanings) (text : List ℕ) → word_faults place last text ≡ [] → words_fault last (statements text) ≡ None
none_before place last [] e = ap (words_fault last) nothing_read
none_before place last (b ∷ older) e =
    let parts = no_more (word_faults place last older) (with_place place older (byte_fault last older b)) e in
    ap (words_fault last) (one_more b older)
    ∙ newest_none place older last (ends_statement older b) (newest older b) (statements older) (none_before place last older parts.0)
    (sym (by_newest place last b older) ∙ parts.1)

earlier_one : (test : Bool) (earlier now : List ℕ) → test ≡ true → (if test then earlier else now) ≡ earlier
earlier_one true earlier now e = refl
earlier_one false earlier now e = cc

this_one : (test : Bool) (earlier now : List ℕ) → test ≡ false → (if test then earlier else now) ≡ now
this_one true earlier now e = cc
this_one false earlier now e = refl

-- a fault stands at the mark of the statement that the newest byte of a text ends
abbrev IsAt : (ℕ → Place) → Meanings → List ℕ → Fault → Type 0
IsAt place last text f =
    (f.place ≡ place (ended_mark f.code (about f.code (unknown_ended (word_values last) text)) text).at)
    × (f.about ≡ (ended_mark f.code (about f.code (unknown_ended (word_values last) text)) text).about)

-- a fault is that of the newest word of a text with one, at its place
abbrev IsFirst : (ℕ → Place) → Meanings → List ℕ → Fault → Type 0
IsFirst place last text f =
    (words_fault last (statements text) ≡ Some (At f.code f.line)) × IsAt place last (shortest (is_settled last) text) f

first_told : (place : ℕ → Place) (last : Meanings) (text : List ℕ) (f : Fault) (others : List Fault) → word_faults place last text ≡ f ∷ others → IsFirst place last text f
first_told place last [] f others e = absurd cc
first_told place last (b ∷ older) f others e = by_earlier (word_faults place last older) refl (first_told place last older) e
  where
    by_earlier : (earlier : List Fault) → word_faults place last older ≡ earlier
        → ((g : Fault) (more : List Fault) → word_faults place last older ≡ g ∷ more → IsFirst place last older g)
        → earlier ++ with_place place older (byte_fault last older b) ≡ f ∷ others → IsFirst place last (b ∷ older) f
    by_earlier (g ∷ more) is before e =
        let same = same_first g f (more ++ with_place place older (byte_fault last older b)) others e in
        let told = before g more is in
        let settled : is_settled last older ≡ true = ap (λ (o : Option AsmFault). is_some o || is_over older) told.0 in
        let shorter = sym (earlier_one (is_settled last older) (shortest (is_settled last) older) (b ∷ older) settled) in (
          words_stay last (b ∷ []) older (At g.code g.line) told.0 ∙ ap (λ (h : Fault). Some (At h.code h.line)) same,
          subst (λ t. IsAt place last t f) shorter (subst (IsAt place last (shortest (is_settled last) older)) same told.1),
        )
    by_earlier [] is before e =
        let none = none_before place last older is in
        let told = newest_told place older last (ends_statement older b) (newest older b) (statements older) f others none
        (sym (by_newest place last b older) ∙ e) in
        let going = (ends_parts older b told.0).2 in
        let unsettled : is_settled last older ≡ false = ap (λ (o : Option AsmFault). is_some o || is_over older) none ∙ going in
        let shorter = sym (this_one (is_settled last older) (shortest (is_settled last) older) (b ∷ older) unsettled) in
        let ended : unknown_ended (word_values last) (b ∷ older)
        ≡ newest_unknown (word_values last) (if ends_statement older b then newest older b ∷ statements older else statements older)
        = ap (λ (t : Bool). if t then newest_unknown (word_values last) (statements (b ∷ older)) else None) told.0 ∙ ap (newest_unknown (word_values last)) (one_more b older) in (
          ap (words_fault last) (one_more b older) ∙ told.1,
          subst (λ t. IsAt place last t f) shorter (subst (λ n. StandsAt place older n f) (sym ended) told.2),
        )

pub first_is_told : FirstIsTold
first_is_told sources f others fine over e =
    let text = newest_first sources in
    let last = values (statements text) in
    let told = first_told (place_at_byte sources) last text f others e in
    let at = told.1 in
    let shorter = shortest (is_settled last) text in
    let name = unknown_ended (word_values last) shorter in
    let marked : ended_mark f.code (about f.code name) shorter ≡ mark_in f.code text
    = ap (λ n. ended_mark f.code (about f.code n) shorter) (sym (settled_unknown text fine over)) ∙ sym (by_settled f.code (about f.code (unknown_name text)) text fine over) in
    let words = words_fault last (statements text) in
    let rest = first_of words (no_word (statements text)) in
    let ended : no_end text ≡ None = ap (λ (o : Bool). if o then None else Some (At NE (line_after text))) over in (
      ap (λ o. first_of o (first_of (no_end text) rest)) (not_refused text fine) ∙ ap (λ o. first_of o rest) ended
          ∙ ap (λ o. first_of o (no_word (statements text))) told.0,
      (at.0 ∙ ap (λ m. place_at_byte sources m.at) marked, at.1 ∙ ap (λ m. m.about) marked),
    )

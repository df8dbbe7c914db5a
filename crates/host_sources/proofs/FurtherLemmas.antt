-- Words with faults.
use Rattle.std.proofs.Common.{◌≡◌, ℕ, ◌+◌, ◌<◌, Bool, true, false, not, ◌||◌, if◌then◌else◌, Option, None, Ok, length, take, drop, zero, suc, get_or, List, [], ◌∷◌, ◌++◌, refl, ap, sym, ◌∙◌}
use Rattle.std.proofs.Math.Path.{fun_ext}
use Rattle.std.specs.Borrow.{Bor}
use Rattle.std.specs.BTreeMap.{BTreeMap}
use Rattle.pal_sym.specs.Values.{if_none}
use Rattle.pal_lex.specs.Text.{is_over, ends_statement, text_of}
use Rattle.pal_lex.specs.Statements.{statements}
use Rattle.pal_lex.specs.Reading.{with_tokens}
use Rattle.pal_lex.specs.declared.phrases.Body.{Body}
use Rattle.pal_lex.specs.declared.phrases.Statement.{Statement}
use Rattle.pal_lex.specs.declared.pieces.Token.{Token}
use Rattle.pal_faults.specs.declared.assembling.Code.{Code}
use Rattle.pal_asm.specs.Expressions.{Meanings}
use Rattle.pal_asm.specs.Places.{Source, with_tags as tag_values, values, place_at}
use Rattle.pal_asm.specs.Words.{word_values}
use Rattle.pal_asm.specs.Faults.{word_fault}
use Rattle.source_places.specs.Places.{place_in, place_by}
use Rattle.source_places.specs.declared.places.Place.{Place}
use Rattle.source_places.proofs.PlaceLemmas.{next_byte}
use Rattle.host_sources.specs.Sources.{texts_of, newest_first, counts_of}
use Rattle.host_sources.specs.Places.{is_refused, place_at_byte}
use Rattle.host_sources.specs.Marks.{at_mark, mark_of}
use Rattle.host_sources.specs.Unknowns.{unknown_in}
use Rattle.host_sources.specs.Symbols.{meaning_in, Follows}
use Rattle.host_sources.specs.JudgeSteps.{known_last, faults_of_words}
use Rattle.host_sources.specs.Further.{with_line, newest_fault, byte_fault, with_place, word_faults, further_faults}
use Rattle.host_sources.specs.Lexical.{lexical_further}
use Rattle.host_sources.specs.declared.further.Found.{Found}
use Rattle.host_sources.proofs.NameLemmas.{tagged_names}

-- ## Lists of them

pub placed_more : (place : ℕ → Place) (text : List ℕ) (l : List Found) (f : Found)
    → faults_of_words place text (l ++ f ∷ []) ≡ faults_of_words place text l ++ at_mark place f.code f.line (mark_of f.code f.about (text_of (take f.end text))) ∷ []
placed_more place text [] f = refl
placed_more place text (g ∷ others) f =
    ap (λ l. at_mark place g.code g.line (mark_of g.code g.about (text_of (take g.end text))) ∷ l) (placed_more place text others f)

placed-take : (place : ℕ → Place) (text : List ℕ) (n : ℕ) (l : List Found) → faults_of_words place text (take n l) ≡ take n (faults_of_words place text l)
placed-take place text zero l = refl
placed-take place text (suc n) [] = refl
placed-take place text (suc n) (g ∷ others) =
    ap (λ l. at_mark place g.code g.line (mark_of g.code g.about (text_of (take g.end text))) ∷ l) (placed-take place text n others)

placed-drop : (place : ℕ → Place) (text : List ℕ) (l : List Found) → faults_of_words place text (drop 1 l) ≡ drop 1 (faults_of_words place text l)
placed-drop place text [] = refl
placed-drop place text (g ∷ others) = refl

pub placed_further : (place : ℕ → Place) (text : List ℕ) (most : ℕ) (l : List Found) → faults_of_words place text (take most (drop 1 l)) ≡ take most (drop 1 (faults_of_words place text l))
placed_further place text most l = placed-take place text most (drop 1 l) ∙ ap (take most) (placed-drop place text l)

-- ## One byte

pub judged_none : (last : Meanings) (text : List ℕ) (b : ℕ) → ends_statement text b ≡ false → None ≡ byte_fault last text b
judged_none last text b none = sym (ap (λ (t : Bool). if t then newest_fault last (statements (b ∷ text)) else None) none)

pub judged_some : (last : Meanings) (text : List ℕ) (b : ℕ) (s : Statement) (tokens : List Token) → ends_statement text b ≡ true → statements (b ∷ text) ≡ Ok (with_tokens tokens s) ∷ statements text
    → with_line s.line (unknown_in (word_values last s.tags (statements text)) s.body) (word_fault (word_values last s.tags (statements text)) (place_at (statements text)) s.body) ≡ byte_fault last text b
judged_some last text b s tokens ends more =
    sym (ap (λ (t : Bool). if t then newest_fault last (statements (b ∷ text)) else None) ends ∙ ap (newest_fault last) more)

pub judged_more : (place : ℕ → Place) (last : Meanings) (bytes : List ℕ) (n : ℕ) (fault : Option (Code × ℕ × Option ℕ)) (old new : List Found) → n < length bytes
    → faults_of_words place bytes new ≡ faults_of_words place bytes old ++ with_place place (text_of (take n bytes)) fault
    → fault ≡ byte_fault last (text_of (take n bytes)) (get_or bytes n 0) → faults_of_words place bytes old ≡ word_faults place last (text_of (take n bytes))
    → faults_of_words place bytes new ≡ word_faults place last (text_of (take (n + 1) bytes))
judged_more place last bytes n fault old new inside puts told so_far =
    let here = text_of (take n bytes) in
    puts ∙ ap (λ l. l ++ with_place place here fault) so_far
    ∙ ap (λ f. word_faults place last here ++ with_place place here f) told ∙ sym (ap (word_faults place last) (next_byte bytes n (get_or bytes n 0) inside refl))

-- ## One word

pub judged_word : (line : ℕ) (tags : List ℕ) (body : Body) (older : Source) (old middle last : BTreeMap ℕ ℕ) (place : ℕ) → Follows old place older
    → ((n : ℕ) → meaning_in middle n ≡ tag_values tags place (meaning_in old) n)
    → with_line line (unknown_in (known_last middle last) body) (word_fault (known_last middle last) place body)
    ≡ with_line line (unknown_in (word_values (meaning_in last) tags older) body) (word_fault (word_values (meaning_in last) tags older) (place_at older) body)
judged_word line tags body older old middle last place follows tagged =
    let names : known_last middle last ≡ word_values (meaning_in last) tags older =
    fun_ext (λ n. ap (λ (k : Meanings). if_none (k n) (meaning_in last n)) (tagged_names tags older old middle place follows tagged)) in
    ap (λ k. with_line line (unknown_in k body) (word_fault k place body)) names
    ∙ ap (λ p. with_line line (unknown_in (word_values (meaning_in last) tags older) body) (word_fault (word_values (meaning_in last) tags older) p body)) follows.at

-- ## All of them

not_true : (b : Bool) → not b ≡ true → b ≡ false
not_true true e = cc
not_true false e = refl

pub told_further : (sources : List (Bor (List ℕ))) (most : ℕ) (text bytes counts : List ℕ) (last : Meanings) (found : List Found) (passed : Bool) → text ≡ newest_first sources → counts ≡ counts_of (texts_of sources)
    → last ≡ values (statements text) → ((place : ℕ → Place) → faults_of_words place bytes found ≡ word_faults place last text)
    → passed ≡ not (is_refused text || not (is_over text)) → passed ≡ true
    → faults_of_words (λ at. place_by sources (place_in counts at)) bytes (take most (drop 1 found)) ≡ further_faults sources most
told_further sources most text bytes counts last found passed is counted lasts are tested passes =
    let others = take most (drop 1 (word_faults (place_at_byte sources) (values (statements (newest_first sources))) (newest_first sources))) in
    let fine : (is_refused (newest_first sources) || not (is_over (newest_first sources))) ≡ false =
    ap (λ t. is_refused t || not (is_over t)) (sym is) ∙ not_true (is_refused text || not (is_over text)) (sym tested ∙ passes) in
    ap (λ c. faults_of_words (λ at. place_by sources (place_in c at)) bytes (take most (drop 1 found))) counted ∙ placed_further (place_at_byte sources) bytes most found
    ∙ ap (λ l. take most (drop 1 l))
    (are (place_at_byte sources) ∙ ap (λ k. word_faults (place_at_byte sources) k text) lasts ∙ ap (λ t. word_faults (place_at_byte sources) (values (statements t)) t) is)
    ∙ sym (ap (λ (b : Bool). if b then lexical_further (place_at_byte sources) most (newest_first sources) else others) fine)

not_false : (b : Bool) → not b ≡ false → b ≡ true
not_false true e = refl
not_false false e = cc

pub told_lexical : (sources : List (Bor (List ℕ))) (most : ℕ) (bytes counts : List ℕ) (passed : Bool) → text_of bytes ≡ newest_first sources → counts ≡ counts_of (texts_of sources)
    → passed ≡ not (is_refused (text_of bytes) || not (is_over (text_of bytes))) → passed ≡ false
    → lexical_further (λ at. place_by sources (place_in counts at)) most (text_of bytes) ≡ further_faults sources most
told_lexical sources most bytes counts passed is counted tested fails =
    let others = take most (drop 1 (word_faults (place_at_byte sources) (values (statements (newest_first sources))) (newest_first sources))) in
    let text = newest_first sources in
    let refused : (is_refused text || not (is_over text)) ≡ true =
    ap (λ t. is_refused t || not (is_over t)) (sym is) ∙ not_false (is_refused (text_of bytes) || not (is_over (text_of bytes))) (sym tested ∙ fails) in
    ap (λ c. lexical_further (λ at. place_by sources (place_in c at)) most (text_of bytes)) counted
    ∙ ap (lexical_further (place_at_byte sources) most) is
    ∙ sym (ap (λ (b : Bool). if b then lexical_further (place_at_byte sources) most text else others) refused)

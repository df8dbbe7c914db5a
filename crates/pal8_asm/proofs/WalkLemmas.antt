-- A statement that is walked over.
use Rattle.std.proofs.Common.{◌≡◌, ℕ, ◌-◌, Bool, None, Result, Ok, Err, length, List, ap, sym, subst, ◌∙◌}
use Rattle.pal8_grammar.specs.SourceNames.{names_of}
use Rattle.pal8_grammar.specs.Saying.{Says}
use Rattle.pal8_grammar.specs.Values.{Reading}
use Rattle.pal8_grammar.specs.declared.faults.GrammarFault.{GrammarFault}
use Rattle.pal8_grammar.specs.declared.faults.GrammarFault.TheVariants as grammar
use Rattle.pal8_grammar.specs.declared.bodies.Body.{Body}
use Rattle.pal8_grammar.specs.declared.steps.Step.{Step}
use Rattle.pal8_places.specs.Passing.{open_of, stop_of}
use Rattle.pal8_places.specs.Places.{spot_at, truth_of, with_statement}
use Rattle.pal8_places.specs.declared.faults.Stop.{Stop}
use Rattle.pal8_places.specs.declared.faults.Stop.TheVariants.{At, Memory}
use Rattle.pal8_values.specs.declared.sums.Spot.{Spot}
use Rattle.pal8_asm.specs.Sources.{Entry, PassResult, Statement, brackets_with, end_of, phrase_of, place_of, with_brackets, with_entries, with_late_entry, with_phrase, with_said, with_selected, words_in}
use Rattle.pal8_asm.specs.Steps.{PassesEnd}
use Rattle.pal8_asm.specs.Walking.{Passes, entries_with, remainder_after, standing_of}
use Rattle.pal8_asm.specs.declared.faults.Fault.{Fault}
use Rattle.pal8_asm.specs.declared.faults.Place.{Place}
use Rattle.pal8_asm.specs.declared.walks.Walk.{Walk}

module _ (s : Statement) (old new : Walk) (body : Body) (said : phrase_of (standing_of old) s.tokens s.is_cut s.end ≡ Ok (body, new.reader.steps))
    (passed : with_statement s.tokens body new.reader.steps (length s.string) (standing_of old) ≡ Ok (standing_of new)) where
  abbrev pub closed_at : Place → Result (List Bool) Fault
  closed_at place = brackets_with place s.end old.brackets (truth_of body new.reader.steps (standing_of new))

  comes : (entries : List Entry) → with_selected s (remainder_after old entries None) ≡ with_brackets s (standing_of new) (entries_with s old body new entries) (closed_at (place_of s))
  comes entries = ap (with_said s (remainder_after old entries None)) said ∙ ap (with_phrase s (body, new.reader.steps) (remainder_after old entries None)) passed

  -- it was passed
  pub goes_on : ((place : Place) → closed_at place ≡ Ok new.brackets) → Passes s old (Ok body) new
  goes_on is = λ entries. comes entries ∙ ap (with_brackets s (standing_of new) (entries_with s old body new entries)) (is (place_of s))

  -- its end has a fault
  pub end_fails : (stop : Stop) (after : Walk) → ((place : Place) → PassesEnd place (closed_at place) (Err stop) new.brackets) → Passes s old (Err stop) after
  end_fails (At code) after is = λ entries. comes entries ∙ ap (with_brackets s (standing_of new) (entries_with s old body new entries)) (is (place_of s))
  end_fails Memory after is = tt

-- a statement that the grammar refuses
pub read_fails : (s : Statement) (old after : Walk) (reader : Reading) (fault : GrammarFault) (stop : Stop) → Says (phrase_of (standing_of old) s.tokens s.is_cut s.end) (Err fault) reader
    → stop ≡ stop_of fault → Passes s old (Err stop) after
read_fails s old after reader fault stop says is = subst (λ x. Passes s old (Err x) after) (sym is) (refused fault says)
  where
    refused : (f : GrammarFault) → Says (phrase_of (standing_of old) s.tokens s.is_cut s.end) (Err f) reader → Passes s old (Err (stop_of f)) after
    refused grammar.IC it = λ entries. ap (with_said s (remainder_after old entries None)) it
    refused grammar.NU it = λ entries. ap (with_said s (remainder_after old entries None)) it
    refused grammar.SY it = λ entries. ap (with_said s (remainder_after old entries None)) it
    refused grammar.Memory it = tt

-- a statement that was passed, where the parts of what is kept are these
pub kept : (s : Statement) (old new : Walk) (body : Body) → Passes s old (Ok body) new → (entries entries' : List Entry) (place : Place) (spot : Spot) (steps : List Step) (size : ℕ)
    → place ≡ place_of s → spot ≡ spot_at old.position → steps ≡ new.reader.steps → size ≡ new.position.location - old.position.location
    → entries' ≡ with_late_entry place spot body steps (names_of new.names.table)
    (with_entries place spot (words_in old.position.options body (open_of new.names) steps s.string size) entries)
    → with_selected s (remainder_after old entries None) ≡ Ok (remainder_after new entries' (end_of s))
kept s old new body passes entries entries' place spot steps size one two three four are =
    let kept_at : Place → Spot → List Step → ℕ → PassResult = λ (p : Place) (q : Spot) (l : List Step) (n : ℕ). Ok (remainder_after new (with_late_entry p q body l (names_of new.names.table)
    (with_entries p q (words_in old.position.options body (open_of new.names) l s.string n) entries)) (end_of s)) in
    passes entries
    ∙ sym (ap (λ e. Ok (remainder_after new e (end_of s))) are ∙ ap (λ p. kept_at p spot steps size) one ∙ ap (λ q. kept_at (place_of s) q steps size) two
    ∙ ap (λ l. kept_at (place_of s) (spot_at old.position) l size) three ∙ ap (kept_at (place_of s) (spot_at old.position) new.reader.steps) four)

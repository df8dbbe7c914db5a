-- Why references reach literals and what links stand for.
use Rattle.std.proofs.Common.{◌≡◌, ℕ, ◌+◌, ◌-◌, ◌/◌, ◌%◌, ◌<◌, Bool, true, false, if◌then◌else◌, is_some, inl, inr, Option, Some, None, Result, Ok, Err, length, List, [], ◌∷◌, ◌++◌, refl, sym, ap, subst, ◌∙◌, arith}
use Rattle.std.proofs.lemmas.List.{append_assoc}
use Rattle.word12.specs.declared.sizes.TheConstants.{PAGE}
use Rattle.pal8_lex.specs.declared.tokens.Pool.{Pool}
use Rattle.pal8_lex.specs.declared.tokens.Pool.TheVariants.{Own}
use Rattle.pal8_pools.specs.Asks.{Ask, IsAsked, cell_in}
use Rattle.pal8_pools.specs.Cells.{IsIn}
use Rattle.pal8_pools.specs.Laws.{CellsStay}
use Rattle.pal8_pools.specs.Clashes.{with_word}
use Rattle.pal8_pools.specs.Pooled.{with_punched}
use Rattle.pal8_grammar.specs.declared.steps.Step.{Step}
use Rattle.pal8_grammar.specs.declared.bodies.Body.{Body}
use Rattle.pal8_grammar.specs.declared.faults.GrammarFault.{GrammarFault}
use Rattle.pal8_grammar.specs.Bodies.{Phrase}
use Rattle.pal8_grammar.specs.SourceNames.{NameState}
use Rattle.pal8_values.specs.Sums.{Meanings}
use Rattle.pal8_values.specs.Words.{AskResult, ask_of, page_start, word_value}
use Rattle.pal8_values.specs.Laws.{AsksGrow, LinksAreReached, LiteralsAreReached, Reaches, WordsAskMore, literal_steps, operation_steps}
use Rattle.pal8_values.specs.declared.sums.Spot.{Spot}
use Rattle.pal8_asm.specs.Assembled.{dollar_in, has_words, result_if_any_word, result_of_source, result_of_text, result_with_words}
use Rattle.pal8_asm.specs.Assembling.{IsAssembled}
use Rattle.pal8_asm.specs.Laws.{ValueIsFound}
use Rattle.pal8_places.specs.Places.{Standing, has_later, spot_at, truth_of, with_statement}
use Rattle.pal8_asm.specs.Reaching.{FindsValue, HasWord, IsMadeAfter, LinkIsFound, LiteralIsFound}
use Rattle.pal8_asm.specs.Sources.{Entry, PassResult, Remainder, Source, Statement, brackets_with, defined_name, end_of_pass, entry_at, late_entry, next_spot, open_value, pass_over, phrase_of, place_of, remainder_of_text, statements, with_brackets, with_end, with_late_by, with_late_entry, with_next, with_phrase, with_said, with_selected, with_skipped, with_values, words_in}
use Rattle.pal8_places.specs.Brackets.{is_selected}
use Rattle.pal8_asm.specs.Sources as sources
use Rattle.pal8_asm.specs.Tapes.{TapeWords, late_after, late_fault, late_value, late_values, nothing_made, spot_of, unless_clash, unless_fault, with_entries, with_entry, with_entry_by, with_made, without_clash, words_of_entries}
use Rattle.pal8_asm.specs.declared.entries.Late.{Late}
use Rattle.pal8_places.specs.declared.faults.Code.{Code}
use Rattle.pal8_asm.specs.declared.faults.Fault.{Fault}
use Rattle.pal8_places.specs.declared.options.Options.{Options}
use Rattle.pal8_asm.specs.declared.faults.Place.{Place}
use Rattle.pal8_asm.proofs.MakingLemmas.{entries_stay}

-- ## What was made stays

-- What is made after others.
record Grows (before after : TapeWords) : Type 0 where
  pub words_stay : (c v : ℕ) → IsIn c v before.words → IsIn c v after.words
  pub asks_grow : AsksGrow before.asks before.punched after.asks after.punched

stays : (made : TapeWords) → Grows made made
stays made = record { words_stay = λ c v is. is; asks_grow = record { more = []; are = refl; punched_stay = λ a is. is } }

goes_on : (a b c : TapeWords) → Grows a b → Grows b c → Grows a c
goes_on a b c first second = record {
  words_stay = λ n v is. second.words_stay n v (first.words_stay n v is);
  asks_grow = record {
    more = second.asks_grow.more ++ first.asks_grow.more;
    are =
        second.asks_grow.are ∙ ap (λ l. second.asks_grow.more ++ l) first.asks_grow.are
        ∙ sym (append_assoc second.asks_grow.more first.asks_grow.more a.asks);
    punched_stay = λ x is. second.asks_grow.punched_stay x (first.asks_grow.punched_stay x is);
  };
}

abbrev GrowsTo : TapeWords → Result TapeWords Fault → Type 0
GrowsTo before (Err fault) = Unit {0}
GrowsTo before (Ok after) = Grows before after

in_longer : (words more : List (ℕ × ℕ)) (c v : ℕ) → IsIn c v words → IsIn c v (words ++ more)
in_longer [] more c v is = absurd is
in_longer (word ∷ others) more c v (inl same) = inl same
in_longer (word ∷ others) more c v (inr is) = inr (in_longer others more c v is)

last_in : (words : List (ℕ × ℕ)) (c v : ℕ) → IsIn c v (words ++ (c, v) ∷ [])
last_in [] c v = inl (refl, refl)
last_in (word ∷ others) c v = inr (last_in others c v)

in_with_word : (is_punched : Bool) (cell word : ℕ) (words : List (ℕ × ℕ)) (c v : ℕ) → IsIn c v words → IsIn c v (with_word is_punched cell word words)
in_with_word true cell word words c v is = in_longer words ((cell, word) ∷ []) c v is
in_with_word false cell word words c v is = is

in_if_punched : (is_punched : Bool) (cell word : ℕ) (words : List (ℕ × ℕ)) → is_punched ≡ true → IsIn cell word (with_word is_punched cell word words)
in_if_punched true cell word words is = last_in words cell word
in_if_punched false cell word words is = absurd cc

module _ (law : WordsAskMore) (own : Meanings) where
  word_grows : (e : Entry) (steps : List Step) (made : TapeWords) (r : AskResult) → word_value own (spot_of e) steps made.asks made.punched ≡ r → GrowsTo made (with_made e made r)
  word_grows e steps made (Err fault) is = tt
  word_grows e steps made (Ok (word, asks, punched)) is = record {
    words_stay = in_with_word e.is_punched e.cell word made.words;
    asks_grow = law own (spot_of e) steps made.asks made.punched word asks punched is;
  }

  late_grows : (made : TapeWords) (fault : Option Fault) → GrowsTo made (unless_fault fault (Ok made))
  late_grows made None = stays made
  late_grows made (Some fault) = tt

  entry_grows : (late : Meanings) (e : Entry) (made : TapeWords) → GrowsTo made (with_entry own late e (Ok made))
  entry_grows late e made = by_late e.late
    where
      by_late : (definition : Option Late) → GrowsTo made (with_entry_by own late e definition (Ok made))
      by_late None = word_grows e (with_values late e.steps) made (word_value own (spot_of e) (with_values late e.steps) made.asks made.punched) refl
      by_late (Some d) = late_grows made (late_fault e d (late_value own e d))

  entries_grow : (late : Meanings) (entries : List Entry) (before : TapeWords) (r : Result TapeWords Fault) → GrowsTo before r
      → GrowsTo before (with_entries own late entries r)
  entries_grow late [] before r grows = grows
  entries_grow late (e ∷ others) before (Err fault) grows =
      subst (GrowsTo before) (sym (entries_stay own late (e ∷ others) fault)) tt
  entries_grow late (e ∷ others) before (Ok made) grows =
      entries_grow (late_after own e late) others before (with_entry own late e (Ok made)) (further (with_entry own late e (Ok made)) (entry_grows late e made))
    where
      further : (r : Result TapeWords Fault) → GrowsTo made r → GrowsTo before r
      further (Err fault) more = tt
      further (Ok after) more = goes_on before made after grows more

  -- ## The word of an entry

  -- An entry has a word, which stands among what is made in the end.
  record HasMade (e : Entry) (steps : List Step) (before made : TapeWords) : Type 0 where
    pub word : ℕ
    pub asks : List Ask
    pub punched : List Ask
    pub is_value : word_value own (spot_of e) steps before.asks before.punched ≡ Ok (word, asks, punched)
    pub is_word : e.is_punched ≡ true → IsIn e.cell word made.words
    pub asks_grow : AsksGrow asks punched made.asks made.punched

  by_value : (e : Entry) (steps : List Step) (before made : TapeWords) (late : Meanings) (others : List Entry) (r : AskResult)
      → word_value own (spot_of e) steps before.asks before.punched ≡ r → with_entries own late others (with_made e before r) ≡ Ok made → HasMade e steps before made
  by_value e steps before made late others (Err fault) is makes = absurd (no_words (sym (entries_stay own late others _) ∙ makes))
    where
      no_words : {fault : Fault} → Err fault ≡ Ok made → ⊥
      no_words is = absurd cc
  by_value e steps before made late others (Ok (word, asks, punched)) is makes =
      let grows = subst (GrowsTo (record {
        words = with_word e.is_punched e.cell word before.words;
        asks = asks;
        punched = punched;
        clash = None;
      })) makes
      (entries_grow late others (record { words = with_word e.is_punched e.cell word before.words; asks = asks; punched = punched; clash = None })
      (with_made e before (Ok (word, asks, punched)))
      (record { words_stay = λ c v is. is; asks_grow = record { more = []; are = refl; punched_stay = λ a is. is } })) in
      record {
        word = word;
        asks = asks;
        punched = punched;
        is_value = is;
        is_word = λ p. grows.words_stay e.cell word (in_if_punched e.is_punched e.cell word before.words p);
        asks_grow = grows.asks_grow;
      }

  has_made : (late : Meanings) (entries : List Entry) (so_far : Result TapeWords Fault) (e : Entry) (steps : List Step) (before made : TapeWords)
      → with_entries own late entries so_far ≡ Ok made → IsMadeAfter own late entries so_far e steps before → HasMade e steps before made
  has_made late [] so_far e steps before made makes is = absurd is
  has_made late (first ∷ others) so_far e steps before made makes (inl is) =
      by_value e steps before made (late_after own first late) others (word_value own (spot_of e) steps before.asks before.punched) refl
      (ap (with_entries own (late_after own first late) others)
      (ap (λ l. with_made e before (word_value own (spot_of e) l before.asks before.punched)) is.2
      ∙ sym (ap (λ o. with_entry_by own late e o (Ok before)) is.1)
      ∙ ap (λ r. with_entry own late e r) (sym is.3)
      ∙ ap (λ x. with_entry own late x so_far) (sym is.0)) ∙ makes)
  has_made late (first ∷ others) so_far e steps before made makes (inr is) =
      has_made (late_after own first late) others (with_entry own late first so_far) e steps before made makes is

-- ## Places have twelve bits

abbrev AllSmall : List Entry → Type 0
AllSmall [] = Unit {0}
AllSmall (e ∷ others) = (e.here < 0o10000) × AllSmall others

all_small : (first second : List Entry) → AllSmall first → AllSmall second → AllSmall (first ++ second)
all_small [] second small more = more
all_small (e ∷ first) second small more = (small.0, all_small first second small.1 more)

twelve_bits : (n : ℕ) → n % 0o10000 < 0o10000
twelve_bits n = omega arith

words_small : (place : Place) (spot : Spot) (words : List (List Step)) (entries : List Entry) → AllSmall entries → AllSmall (sources.with_entries place spot words entries)
words_small place spot [] entries small = small
words_small place spot (steps ∷ others) entries small =
    words_small place (next_spot spot) others (entries ++ entry_at place spot steps ∷ []) (all_small entries (entry_at place spot steps ∷ []) small (twelve_bits spot.here, tt))

late_small : (place : Place) (spot : Spot) (body : Body) (steps : List Step) (names : NameState) (entries : List Entry) → AllSmall entries
    → AllSmall (with_late_entry place spot body steps names entries)
late_small place spot body steps names entries small = by_name (defined_name body)
  where
    by_test : (name : ℕ) (test : Bool) → AllSmall (if test then entries ++ late_entry place spot name steps names ∷ [] else entries)
    by_test name true = all_small entries (late_entry place spot name steps names ∷ []) small (twelve_bits spot.here, tt)
    by_test name false = small

    by_name : (name : Option ℕ) → AllSmall (with_late_by place spot steps names name entries)
    by_name None = small
    by_name (Some name) = by_test name (has_later names.own steps)

abbrev LeftSmall : PassResult → Type 0
LeftSmall (Err fault) = Unit {0}
LeftSmall (Ok left) = AllSmall left.entries

module _ (s : Statement) (left : Remainder) (small : AllSmall left.entries) where
  brackets_small : (standing : Standing) (entries : List Entry) (r : Result (List Bool) Fault) → AllSmall entries → LeftSmall (with_brackets s standing entries r)
  brackets_small standing entries (Err fault) more = tt
  brackets_small standing entries (Ok brackets) more = more

  phrase_small : (phrase : Phrase) (r : Result Standing Code) → LeftSmall (with_phrase s phrase left r)
  phrase_small phrase (Err fault) = tt
  phrase_small phrase (Ok standing) =
      brackets_small standing _ (brackets_with (place_of s) s.end left.brackets (truth_of phrase.0 phrase.1 standing))
      (late_small (place_of s) (spot_at left.standing.position) phrase.0 phrase.1 standing.names _
      (words_small (place_of s) (spot_at left.standing.position)
      (words_in left.standing.position.options phrase.0 (open_value standing) phrase.1 s.string (standing.position.location - left.standing.position.location)) left.entries small))

  said_small : (r : Result Phrase GrammarFault) → LeftSmall (with_said s left r)
  said_small (Err fault) = tt
  said_small (Ok phrase) = phrase_small phrase (with_statement s.tokens phrase.0 phrase.1 (length s.string) left.standing)

  next_small : (over selected : Bool) → LeftSmall (if over then Ok left else (if selected then with_selected s left else Ok (with_skipped s left)))
  next_small true selected = small
  next_small false true = said_small (phrase_of left.standing s.tokens s.is_cut s.end)
  next_small false false = small

pass_small : (options : Options) (source : Source) → LeftSmall (pass_over options source)
pass_small options [] = tt
pass_small options (s ∷ older) = by_result (pass_over options older) (pass_small options older)
  where
    by_result : (r : PassResult) → LeftSmall r → LeftSmall (with_next s r)
    by_result (Err fault) small = tt
    by_result (Ok left) small = next_small s left small (is_some left.end) (is_selected left.brackets)

text_small : (options : Options) (text : List ℕ) → LeftSmall (remainder_of_text options text)
text_small options text = by_result (pass_over options (statements text)) (pass_small options (statements text))
  where
    by_end : (left : Remainder) (brackets : List Bool) (end : Option Place) → AllSmall left.entries → LeftSmall (with_end text left brackets end)
    by_end left [] None small = tt
    by_end left [] (Some place) small = small
    by_end left (newest ∷ outer) None small = tt
    by_end left (newest ∷ outer) (Some place) small = tt

    by_result : (r : PassResult) → LeftSmall r → LeftSmall (end_of_pass text r)
    by_result (Err fault) small = tt
    by_result (Ok left) small = by_end left left.brackets left.end small

made_small : (own late : Meanings) (entries : List Entry) (so_far : Result TapeWords Fault) (e : Entry) (steps : List Step) (before : TapeWords) → AllSmall entries
    → IsMadeAfter own late entries so_far e steps before → e.here < 0o10000
made_small own late [] so_far e steps before small is = absurd is
made_small own late (first ∷ others) so_far e steps before small (inl is) = subst (λ x. x.here < 0o10000) is.0 small.0
made_small own late (first ∷ others) so_far e steps before small (inr is) =
    made_small own (late_after own first late) others (with_entry own late first so_far) e steps before small.1 is

-- ## What is found

abbrev made_or : TapeWords → Result TapeWords Fault → TapeWords
made_or other (Err fault) = other
made_or other (Ok made) = made

-- what a text makes is what its entries make
module _ (made : TapeWords) where
  if_words : (dollar : Place) (m : TapeWords) (has : Bool) → result_with_words dollar m has ≡ Ok made → m ≡ made
  if_words dollar m true is = ap (made_or m) is
  if_words dollar m false is = absurd cc

  if_no_clash : (dollar : Place) (m : TapeWords) (clash : Option Fault) → result_if_any_word dollar (unless_clash m clash) ≡ Ok made → m ≡ made
  if_no_clash dollar m (Some fault) is = absurd cc
  if_no_clash dollar m None is = if_words dollar m (has_words m.words) is

  of_entries : (dollar : Place) (r : Result TapeWords Fault) → result_if_any_word dollar (without_clash r) ≡ Ok made → r ≡ Ok made
  of_entries dollar (Err fault) is = absurd cc
  of_entries dollar (Ok m) is = ap Ok (if_no_clash dollar m m.clash is)

entries_make : (options : Options) (text : List ℕ) (made : TapeWords) (left : Remainder) → result_of_text options text ≡ Ok made → remainder_of_text options text ≡ Ok left
    → words_of_entries left.standing.names.own left.standing.late left.entries ≡ Ok made
entries_make options text made left is leaves =
    of_entries made (dollar_in left.end) (words_of_entries left.standing.names.own left.standing.late left.entries) (ap result_of_source (sym leaves) ∙ is)

module _ (grow : WordsAskMore) (keep : CellsStay) (found : ValueIsFound) (options : Options) (text : List ℕ) (pairs : List (ℕ × ℕ)) (whole : IsAssembled (result_of_text options text) pairs) where
  -- a word that reaches the cell of its newest ask finds its value
  finds : (own : Meanings) (e : Entry) (steps : List Step) (before : TapeWords) → e.is_punched ≡ true → (it : HasMade grow own e steps before whole.made) (pool : Pool) (value : ℕ)
      → IsAsked it.asks (ask_of (spot_of e) pool value) → IsAsked it.punched (ask_of (spot_of e) pool value)
      → Reaches (spot_of e) it.word pool it.asks (ask_of (spot_of e) pool value) → FindsValue pairs e pool value
  finds own e steps before is_punched it pool value asked asked_punched reaches = record {
    word = it.word;
    cell = cell_in whole.made.asks (ask_of (spot_of e) pool value);
    is_word = subst (IsIn e.cell it.word) (sym whole.are) (in_longer whole.made.words whole.pool e.cell it.word (it.is_word is_punched));
    at_offset = reaches.at_offset ∙ ap (λ c. page_start pool e.here + c % PAGE) (sym stays_there);
    on_page = ap (λ c. c / PAGE) stays_there ∙ reaches.on_page;
    has_value = found options text pairs whole (ask_of (spot_of e) pool value) (it.asks_grow.punched_stay (ask_of (spot_of e) pool value) asked_punched);
  }
    where
      stays_there : cell_in whole.made.asks (ask_of (spot_of e) pool value) ≡ cell_in it.asks (ask_of (spot_of e) pool value)
      stays_there =
          ap (λ l. cell_in l (ask_of (spot_of e) pool value)) it.asks_grow.are
          ∙ keep it.asks_grow.more it.asks (ask_of (spot_of e) pool value) asked

  has_word : (own : Meanings) (e : Entry) (steps : List Step) (before : TapeWords) → HasWord options text own e steps before → HasMade grow own e steps before whole.made
  has_word own e steps before has =
      has_made grow own (late_values own has.left.standing.late has.left.entries (λ n. None)) has.left.entries (Ok nothing_made) e steps before whole.made
      (ap (λ o. words_of_entries o has.left.standing.late has.left.entries) has.values_are ∙ entries_make options text whole.made has.left whole.is_whole has.leaves)
      has.is_made

  is_small : (own : Meanings) (e : Entry) (steps : List Step) (before : TapeWords) → HasWord options text own e steps before → e.here < 0o10000
  is_small own e steps before has =
      made_small own (late_values own has.left.standing.late has.left.entries (λ n. None)) has.left.entries (Ok nothing_made) e steps before
      (subst LeftSmall has.leaves (text_small options text)) has.is_made

newest_asked : (a : Ask) (asks after : List Ask) → after ≡ a ∷ asks → IsAsked after a
newest_asked a asks after is = subst (λ l. IsAsked l a) (sym is) (inl refl)

newest_punched : (a : Ask) (is_punched : Bool) (punched after : List Ask) → is_punched ≡ true → after ≡ with_punched is_punched a punched → IsAsked after a
newest_punched a true punched after same is = subst (λ l. IsAsked l a) (sym is) (inl refl)
newest_punched a false punched after same is = absurd cc

pub literal_is_found : WordsAskMore → CellsStay → ValueIsFound → LiteralsAreReached → LiteralIsFound
literal_is_found grow keep found law options text pairs whole own e before operation is_indirect pool inside has clear closes =
    let it = has_word grow keep found options text pairs whole own e (operation_steps operation is_indirect ++ literal_steps pool inside) before has in
    let reaches =
    law own (spot_of e) operation is_indirect pool inside before.asks before.punched it.word it.asks it.punched clear
    (is_small grow keep found options text pairs whole own e (operation_steps operation is_indirect ++ literal_steps pool inside) before has) closes it.is_value in
    record {
      value = reaches.value;
      asks = reaches.asked;
      punched = reaches.asked_punched;
      is_value = reaches.is_value;
      is_found =
          finds grow keep found options text pairs whole own e (operation_steps operation is_indirect ++ literal_steps pool inside) before has.is_punched it pool reaches.value
          (newest_asked (ask_of (spot_of e) pool reaches.value) reaches.asked it.asks reaches.asks_last)
          (newest_punched (ask_of (spot_of e) pool reaches.value) e.is_punched reaches.asked_punched it.punched has.is_punched reaches.punched_last)
          reaches.reaches;
    }

pub link_is_found : WordsAskMore → CellsStay → ValueIsFound → LinksAreReached → LinkIsFound
unfolding finds
link_is_found grow keep found law options text pairs whole own e steps before evaluation has evaluates is_reference clear out =
    let it = has_word grow keep found options text pairs whole own e steps before has in
    let reaches =
    law own (spot_of e) steps before.asks before.punched evaluation it.word it.asks it.punched evaluates is_reference clear out it.is_value in
    record {
      is_found =
          finds grow keep found options text pairs whole own e steps before has.is_punched it Own evaluation.sum.total
          (newest_asked (ask_of (spot_of e) Own evaluation.sum.total) evaluation.asks it.asks reaches.asks_last)
          (newest_punched (ask_of (spot_of e) Own evaluation.sum.total) e.is_punched evaluation.punched it.punched has.is_punched reaches.punched_last)
          reaches.reaches;
      is_indirect = reaches.is_indirect;
    }

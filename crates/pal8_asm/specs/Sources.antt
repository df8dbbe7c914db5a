-- The statements of a source, and the words that it leaves to be made (PAL8, in this project's profile). A source is the list of its statements,
-- the newest first. What each one leaves rests on those before it alone.
use Rattle.std.specs.Prelude.{ℕ, ◌+◌, ◌-◌, ◌*◌, ◌%◌, Bool, true, false, not, if◌then◌else◌, is_some, Option, Some, None, Result, Ok, Err, length, replicate, List, [], ◌∷◌, ◌++◌}
use Rattle.word12.specs.declared.sizes.TheConstants.{FIELD}
use Rattle.pal_lex.specs.Text.{limit}
use Rattle.pal8_lex.specs.Text.{line_after, live}
use Rattle.pal8_lex.specs.Pieces.{ends, pieces}
use Rattle.pal8_lex.specs.Statements as lex
use Rattle.pal8_lex.specs.Statements.{statement_of}
use Rattle.pal8_lex.specs.declared.tokens.Token.{Token}
use Rattle.pal8_lex.specs.declared.rules.End.{End}
use Rattle.pal8_lex.specs.declared.rules.End.TheVariants as end
use Rattle.pal8_lex.specs.declared.judging.Radix.TheVariants as radix
use Rattle.pal8_grammar.specs.SourceNames.{NameState, first_names, is_fixed, value_of, vocabulary_of}
use Rattle.pal8_grammar.specs.Bodies.{Phrase, phrase_by_names}
use Rattle.pal8_grammar.specs.declared.bodies.Body.{Body}
use Rattle.pal8_grammar.specs.declared.bodies.Body.TheVariants as body
use Rattle.pal8_grammar.specs.declared.steps.Step.{Step}
use Rattle.pal8_grammar.specs.declared.steps.Step.TheVariants as step
use Rattle.pal8_grammar.specs.declared.faults.GrammarFault.{GrammarFault}
use Rattle.pal8_grammar.specs.declared.faults.GrammarFault.TheVariants as grammar
use Rattle.pal8_values.specs.Sums.{Meanings, here_of}
use Rattle.pal8_values.specs.declared.sums.Spot.{Spot}
use Rattle.pal8_places.specs.Brackets.{brackets_after, closes_none, is_selected}
use Rattle.pal8_places.specs.Places.{Standing, has_later, spot_at, truth_of, with_statement}
use Rattle.pal8_asm.specs.declared.entries.Late.{Late}
use Rattle.pal8_asm.specs.declared.faults.Place.{Place}
use Rattle.pal8_asm.specs.declared.faults.Fault.{Fault}
use Rattle.pal8_places.specs.declared.faults.Code.{Code}
use Rattle.pal8_places.specs.declared.faults.Code.TheVariants as code
use Rattle.pal8_places.specs.declared.options.Options.{Options}
use Rattle.pal8_places.specs.declared.places.TheConstants.{FIRST_PLACE}

-- A statement of a text, with the byte that ends it.
pub record Statement : Type 0 where
  pub line : ℕ
  pub at : ℕ
  pub tokens : List Token
  pub string : List ℕ
  pub is_cut : Bool
  pub end : End

abbrev pub Source : Type 0
Source = List Statement

abbrev pub statement_at : ℕ → lex.Statement → Statement
statement_at at s = record { line = s.line; at = at; tokens = s.tokens; string = s.string; is_cut = s.is_cut; end = s.end }

-- the statements of the bytes that are there, the newest first
abbrev pub statements_of : List (ℕ × ℕ) → Source
statements_of [] = []
statements_of (x ∷ older) = if ends (pieces older) x.0 then statement_at (limit x.1) (statement_of x.0 older) ∷ statements_of older else statements_of older

-- the statements of a text, the newest first
abbrev pub statements : List ℕ → Source
statements text = statements_of (live text)

-- where a statement begins: at its first token, or, if it has none, at the byte that ends it
abbrev pub start_of : ℕ → List Token → ℕ
start_of at [] = at
start_of at (t ∷ others) = t.start

abbrev pub place_of : Statement → Place
place_of s = record { line = s.line; start = start_of s.at s.tokens }

-- A word that is to be made, or a late definition. It has the place of its statement in the text, its cell, what `.` is there, and the steps of its
-- value. It is punched or isn't, may have a link or may not, and asks page zero and its own page each in a stay.
pub record Entry : Type 0 where
  pub late : Option Late
  pub place : Place
  pub cell : ℕ
  pub here : ℕ
  pub is_punched : Bool
  pub may_link : Bool
  pub zero_stay : ℕ
  pub page_stay : ℕ
  pub steps : List Step

-- What statements leave: places and names; their words, in the order of the source; and for each open bracket whether it is true, the newest first.
-- The place of the `$` that ended the source is left, too.
pub record Remainder : Type 0 where
  pub standing : Standing
  pub entries : List Entry
  pub brackets : List Bool
  pub end : Option Place

abbrev pub PassResult : Type 0
PassResult = Result Remainder Fault

-- what stands before a source, which is read by these options: the permanent names, and its first place
abbrev pub first_left : Options → Remainder
first_left options = record {
  standing = record {
    names = first_names;
    late = λ n. false;
    position = record { radix = radix.Octal; location = FIRST_PLACE; field = 0; shift = 0; is_punched = true; options = options; zero_stay = 0; page_stay = 0 };
  };
  entries = [];
  brackets = [];
  end = None;
}

-- ## Words

-- a name that the source has defined by now stands for that value; another for what it stands for at last
abbrev pub number_or : Step → Option ℕ → Step
number_or s None = s
number_or s (Some v) = step.Number v

abbrev pub resolved_step : Meanings → Step → Step
resolved_step own (step.Operation word) = step.Operation word
resolved_step own step.Alone = step.Alone
resolved_step own step.Indirect = step.Indirect
resolved_step own (step.Name name) = number_or (step.Name name) (own name)
resolved_step own (step.Permanent name value) = number_or (step.Permanent name value) (own name)
resolved_step own (step.Number word) = step.Number word
resolved_step own step.Here = step.Here
resolved_step own (step.Sign op) = step.Sign op
resolved_step own (step.Open pool) = step.Open pool
resolved_step own step.Close = step.Close

abbrev pub with_values : Meanings → List Step → List Step
with_values own [] = []
with_values own (s ∷ others) = resolved_step own s ∷ with_values own others

abbrev pub number : ℕ → List Step
number word = step.Number word ∷ []

-- two bytes a word, six bits of each, and 00 after the last one, unless an even text has none
abbrev pub text_words : Options → List ℕ → List (List Step)
text_words options [] = if options.is_without_zero then [] else number 0 ∷ []
text_words options (a ∷ []) = number (0o100 * (a % 0o100)) ∷ []
text_words options (a ∷ b ∷ others) = number (0o100 * (a % 0o100) + b % 0o100) ∷ text_words options others

-- a word of each step
abbrev pub word_each : List Step → List (List Step)
word_each [] = []
word_each (s ∷ others) = (s ∷ []) ∷ word_each others

-- the words of a body, each as its steps, in their order
abbrev pub words_in : Options → Body → Meanings → List Step → List ℕ → ℕ → List (List Step)
words_in options body.Nothing own steps string size = []
words_in options body.Origin own steps string size = []
words_in options (body.Define name) own steps string size = []
words_in options body.Decimal own steps string size = []
words_in options body.Octal own steps string size = []
words_in options body.Field own steps string size = []
words_in options body.NextPage own steps string size = []
words_in options body.Page own steps string size = []
words_in options body.Zeros own steps string size = replicate size (number 0)
words_in options body.Text own steps string size = text_words options string
words_in options body.Listing own steps string size = []
words_in options body.IfZero own steps string size = []
words_in options body.IfNotZero own steps string size = []
words_in options (body.IfDefined name) own steps string size = []
words_in options (body.IfUndefined name) own steps string size = []
words_in options body.NoPunch own steps string size = []
words_in options body.Punch own steps string size = []
words_in options body.Relocate own steps string size = []
words_in options body.Unrelocate own steps string size = []
words_in options body.FileName own steps string size = word_each (with_values own steps)
words_in options body.Device own steps string size = word_each (with_values own steps)
words_in options body.Expunge own steps string size = []
words_in options body.FixTable own steps string size = []
words_in options (body.FixOperation name) own steps string size = []
words_in options body.Word own steps string size = with_values own steps ∷ []

abbrev pub entry_with : Option Late → Place → Spot → List Step → Entry
entry_with late place spot steps = record {
  late = late;
  place = place;
  cell = FIELD * spot.field + spot.location % 0o10000;
  here = spot.here % 0o10000;
  is_punched = spot.is_punched;
  may_link = spot.may_link;
  zero_stay = spot.zero_stay;
  page_stay = spot.page_stay;
  steps = steps;
}

abbrev pub entry_at : Place → Spot → List Step → Entry
entry_at place spot steps = entry_with None place spot steps

abbrev pub next_spot : Spot → Spot
next_spot spot = record spot { location = (spot.location + 1) % 0o10000; here = (spot.here + 1) % 0o10000 }

-- words from a spot on, after others (no word that has a fault is kept, so none is past 7777)
abbrev pub with_entries : Place → Spot → List (List Step) → List Entry → List Entry
with_entries place spot [] entries = entries
with_entries place spot (steps ∷ others) entries =
    with_entries place (next_spot spot) others (entries ++ entry_at place spot steps ∷ [])

-- ## Late definitions

-- in words a name stands for the last definition before, and one whose last definition is late for nothing yet
abbrev pub open_value : Standing → Meanings
open_value s n = if s.late n then None else s.names.own n

abbrev pub fixed_value : NameState → ℕ → Option ℕ
fixed_value names name = if is_fixed names name then value_of names name else None

abbrev pub late_at : Spot → ℕ → NameState → Late
late_at spot name names = record { name = name; kept_value = fixed_value names name; is_past = not (is_some (here_of spot)) }

abbrev pub late_entry : Place → Spot → ℕ → List Step → NameState → Entry
late_entry place spot name steps names = entry_with (Some (late_at spot name names)) place spot (with_values names.own steps)

abbrev pub defined_name : Body → Option ℕ
defined_name body.Nothing = None
defined_name body.Origin = None
defined_name (body.Define name) = Some name
defined_name body.Decimal = None
defined_name body.Octal = None
defined_name body.Field = None
defined_name body.NextPage = None
defined_name body.Page = None
defined_name body.Zeros = None
defined_name body.Text = None
defined_name body.Listing = None
defined_name body.IfZero = None
defined_name body.IfNotZero = None
defined_name (body.IfDefined name) = None
defined_name (body.IfUndefined name) = None
defined_name body.NoPunch = None
defined_name body.Punch = None
defined_name body.Relocate = None
defined_name body.Unrelocate = None
defined_name body.FileName = None
defined_name body.Device = None
defined_name body.Expunge = None
defined_name body.FixTable = None
defined_name (body.FixOperation name) = None
defined_name body.Word = None

abbrev pub with_late_by : Place → Spot → List Step → NameState → Option ℕ → List Entry → List Entry
with_late_by place spot steps names None entries = entries
with_late_by place spot steps names (Some name) entries =
    if has_later names.own steps then entries ++ late_entry place spot name steps names ∷ [] else entries

-- a definition that is late stays to be judged with the words
abbrev pub with_late_entry : Place → Spot → Body → List Step → NameState → List Entry → List Entry
with_late_entry place spot body steps names entries = with_late_by place spot steps names (defined_name body) entries

-- ## Statements

abbrev pub code_of : GrammarFault → Code
code_of grammar.IC = code.IC
code_of grammar.NU = code.NU
code_of grammar.SY = code.SY
code_of grammar.Memory = code.SY

abbrev pub at_place : Place → Code → Fault
at_place place code = record { code = code; place = place }

-- ## Brackets

-- the `$` that ends the source, if a statement that is selected ends in it
abbrev pub dollar_at : End → Place → Option Place
dollar_at end.Semicolon place = None
dollar_at end.Line place = None
dollar_at end.Open place = None
dollar_at end.Close place = None
dollar_at end.Dollar place = Some place

abbrev pub end_of : Statement → Option Place
end_of s = dollar_at s.end record { line = s.line; start = s.at }

-- the brackets after a statement that is selected, which is a condition that is true or not, or has a fault
abbrev pub brackets_with : Place → End → List Bool → Result Bool Code → Result (List Bool) Fault
brackets_with place end brackets (Err fault) = Err (at_place place fault)
brackets_with place end brackets (Ok holds) = if closes_none end brackets then Err (at_place place code.PH) else Ok (brackets_after end holds brackets)

-- ## Statements

abbrev pub with_brackets : Statement → Standing → List Entry → Result (List Bool) Fault → PassResult
with_brackets s standing entries (Err fault) = Err fault
with_brackets s standing entries (Ok brackets) = Ok record { standing = standing; entries = entries; brackets = brackets; end = end_of s }

abbrev pub with_phrase : Statement → Phrase → Remainder → Result Standing Code → PassResult
with_phrase s phrase left (Err fault) = Err (at_place (place_of s) fault)
with_phrase s phrase left (Ok standing) = with_brackets s standing
    (with_late_entry (place_of s) (spot_at left.standing.position) phrase.0 phrase.1 standing.names
    (with_entries (place_of s) (spot_at left.standing.position)
    (words_in left.standing.position.options phrase.0 (open_value standing) phrase.1 s.string (standing.position.location - left.standing.position.location)) left.entries))
    (brackets_with (place_of s) s.end left.brackets (truth_of phrase.0 phrase.1 standing))

abbrev pub with_said : Statement → Remainder → Result Phrase GrammarFault → PassResult
with_said s left (Err fault) = Err (at_place (place_of s) (code_of fault))
with_said s left (Ok phrase) = with_phrase s phrase left (with_statement s.tokens phrase.0 phrase.1 (length s.string) left.standing)

-- what a statement says by the names and the radix before it
abbrev pub phrase_of : Standing → List Token → Bool → End → Result Phrase GrammarFault
phrase_of standing tokens is_cut end = phrase_by_names (vocabulary_of standing.names) standing.position.radix tokens is_cut end

abbrev pub with_selected : Statement → Remainder → PassResult
with_selected s left = with_said s left (phrase_of left.standing s.tokens s.is_cut s.end)

-- one that isn't selected says nothing, and a bracket that it opens is false
abbrev pub with_skipped : Statement → Remainder → Remainder
with_skipped s left = record { standing = left.standing; entries = left.entries; brackets = brackets_after s.end false left.brackets; end = left.end }

-- nothing after the `$` that ended the source is read
abbrev pub with_next : Statement → PassResult → PassResult
with_next s (Err fault) = Err fault
with_next s (Ok left) =
    if is_some left.end then Ok left else (if is_selected left.brackets then with_selected s left else Ok (with_skipped s left))

-- what the statements of a source leave, or the first fault of those that places, names and conditions have
abbrev pub pass_over : Options → Source → PassResult
pass_over options [] = Ok (first_left options)
pass_over options (s ∷ older) = with_next s (pass_over options older)

-- ## The end of a source

-- the place after a text
abbrev pub place_after : List ℕ → Place
place_after text = record { line = line_after (live text); start = limit (length text) }

-- a `$` outside of all brackets ends a text
abbrev pub with_end : List ℕ → Remainder → List Bool → Option Place → PassResult
with_end text left [] None = Err (at_place (place_after text) code.NE)
with_end text left [] (Some place) = Ok left
with_end text left (newest ∷ outer) None = Err (at_place (place_after text) code.PH)
with_end text left (newest ∷ outer) (Some place) = Err (at_place place code.PH)

abbrev pub end_of_pass : List ℕ → PassResult → PassResult
end_of_pass text (Err fault) = Err fault
end_of_pass text (Ok left) = with_end text left left.brackets left.end

-- what a text leaves to be made, or its first fault except those of words
abbrev pub remainder_of_text : Options → List ℕ → PassResult
remainder_of_text options text = end_of_pass text (pass_over options (statements text))

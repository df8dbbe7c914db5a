-- What one statement more does to what a source says, where it names none but permanent names and the tags of its cells.
use Rattle.std.proofs.Common.{◌≡◌, ◌≢◌, ℕ, ◌+◌, ◌*◌, ◌/◌, ◌%◌, ◌<◌, nat_eq, nat_lt, Bool, true, false, ◌&&◌, ◌||◌, if◌then◌else◌, inl, inr, ◌⊎◌, Option, Some, None, Result, Ok, List, [], ◌∷◌, ◌++◌, refl, ap, sym, subst, ◌∙◌, arith, append_assoc, append-nil}
use Rattle.std.proofs.lemmas.Bool.Decides.{eqb_tells, nat_tests}
use Rattle.bin_tape.specs.Pairs.{last_word}
use Rattle.pal_lex.specs.Statements.{radix_after}
use Rattle.pal_faults.specs.declared.lexical.LexFault.{LexFault}
use Rattle.pal_lex.specs.declared.runs.Radix.TheVariants as radix
use Rattle.pal_lex.specs.declared.phrases.Body.{Body}
use Rattle.pal_lex.specs.declared.phrases.Body.TheVariants.{Nothing, Origin, Define, Decimal, Octal, Pause, Field, Reference, Word}
use Rattle.pal_lex.specs.declared.phrases.Statement.{Statement}
use Rattle.pal_lex.specs.declared.pieces.Token.{Token}
use Rattle.pal_sym.specs.Permanent.{permanent}
use Rattle.pal_sym.specs.Values.{if_none}
use Rattle.pal_asm.specs.Expressions.{Meanings}
use Rattle.pal_asm.specs.Places.{Source, is_word, with_tags, values, last_setting, words_since, place_at, field_at}
use Rattle.pal_asm.specs.Words.{body_word, with_pair, word_values, pairs_by}
use Rattle.pal_asm.specs.Faults.{first_of, at_line, past, defined_otherwise, tags_fault, statement_fault, first_order, word_fault, words_fault, has_word}
use Rattle.pal_faults.specs.declared.assembling.Code.TheVariants.{DT, PF}
use Rattle.pal_faults.specs.declared.assembling.AsmFault.{AsmFault}
use Rattle.tape_source.specs.Tags.{is_given}
use Rattle.tape_source.specs.Looks.{Look, IsNaming, name_in}
use Rattle.tape_source.specs.Named.{IsByTag, IsThere}
use Rattle.tape_source.specs.Defined.{tags_in, tags_of, IsNoTag}
use Rattle.tape_source.proofs.GrammarLemmas.{number_parts}
use Rattle.tape_source.proofs.TapeLemmas.{last_append}

-- there is a pair
abbrev pub is_some_pair : List (ℕ × ℕ) → Bool
is_some_pair [] = false
is_some_pair (pair ∷ pairs) = true

one_more : (pairs : List (ℕ × ℕ)) (pair : ℕ × ℕ) → true ≡ is_some_pair (pairs ++ pair ∷ [])
one_more [] pair = refl
one_more (first ∷ pairs) pair = refl

-- ## What names stand for

-- permanent names stand for their values
abbrev pub Keeps : Meanings → Type 0
Keeps known = (name value : ℕ) → permanent name ≡ Some value → known name ≡ Some value

-- and the tags of these cells for theirs
pub record Knows (look : Look) (tagged : ℕ → Bool) (known : Meanings) : Type 0 where
  pub keeps : Keeps known
  pub tags_are : (cell : ℕ) → cell < 32768 → tagged cell ≡ true → known (name_in look.name cell) ≡ Some (cell % 4096)

-- what a cell's tag stands for after these words
abbrev pub tag_value : (ℕ → Bool) → List (ℕ × ℕ) → ℕ → Option ℕ
tag_value tagged pairs cell = if is_given pairs cell && tagged cell then Some (cell % 4096) else None

-- Beyond these statements the next word goes to this place of this field, and these words stand in cells; no statement has
-- a fault, and names stand for their permanent values, but for the tags of these words' cells.
pub record Stands (look : Look) (tagged : ℕ → Bool) (source : Source) (place field : ℕ) (pairs : List (ℕ × ℕ)) : Type 0 where
  pub place_is : place_at source ≡ place
  pub field_is : field_at source ≡ field
  pub others_are : (name : ℕ) → IsNoTag look.name name → values source name ≡ permanent name
  pub values_are : (cell : ℕ) → cell < 32768 → values source (name_in look.name cell) ≡ tag_value tagged pairs cell
  pub tags_are : tags_in source ≡ tags_of look.name tagged pairs
  pub radix_is : radix_after source ≡ radix.Octal
  pub no_fault : first_order source ≡ None
  pub no_word_fault : (last : Meanings) → Knows look tagged last → words_fault last source ≡ None
  pub pairs_are : (last : Meanings) → Knows look tagged last → pairs_by last source ≡ pairs
  pub word_is : has_word source ≡ is_some_pair pairs
  pub named_are : (cell word : ℕ) → last_word pairs cell ≡ Some word → IsThere (IsByTag look tagged cell word) source cell

not_some : (value : ℕ) → None ≡ Some value → ⊥
not_some value e = cc

-- what is named before stays so
pub names_older : (Is : Body → Type 0) (s : Result Statement LexFault) (source : Source) (cell : ℕ) → IsThere Is source cell → IsThere Is (s ∷ source) cell
names_older Is s source cell is = record {
  newer = s ∷ is.newer;
  older = is.older;
  statement = is.statement;
  split = ap (λ l. s ∷ l) is.split;
  place = is.place;
  is = is.is;
}

pub stands_first : (look : Look) (tagged : ℕ → Bool) → IsNaming look.name → Stands look tagged [] 128 0 []
stands_first look tagged naming = record {
  place_is = refl;
  field_is = refl;
  others_are = λ name free. refl;
  values_are = naming.not_permanent;
  tags_are = refl;
  radix_is = refl;
  no_fault = refl;
  no_word_fault = λ last knows. refl;
  pairs_are = λ last knows. refl;
  word_is = refl;
  named_are = λ cell word e. absurd (not_some word e);
}

abbrev pub statement_of : ℕ → Bool → List Token → List ℕ → Body → Statement
statement_of line last tokens tags body = record { line = line; tags = tags; body = body; last = last; source = 0; tokens = tokens }

-- a permanent name is no tag
permanent_is_no_tag : (look : Look) → IsNaming look.name → (name value : ℕ) → permanent name ≡ Some value → IsNoTag look.name name
permanent_is_no_tag look naming name value e cell small same = not_some value (sym (naming.not_permanent cell small) ∙ ap permanent same ∙ e)

pub stands_keeps : (look : Look) (tagged : ℕ → Bool) → IsNaming look.name → (source : Source) (place field : ℕ) (pairs : List (ℕ × ℕ)) → Stands look tagged source place field pairs
    → Keeps (values source)
stands_keeps look tagged naming source place field pairs is name value e = is.others_are name (permanent_is_no_tag look naming name value e) ∙ e

-- ## An origin

pub origin_step : (look : Look) (tagged : ℕ → Bool) (source : Source) (place field : ℕ) (pairs : List (ℕ × ℕ)) (line : ℕ) (tokens : List Token) (a : ℕ) → a < 4096
    → Stands look tagged source place field pairs → Stands look tagged (Ok (statement_of line false tokens [] (Origin (number_parts a))) ∷ source) a field pairs
origin_step look tagged source place field pairs line tokens a small is = record {
  place_is = small_mod a small;
  field_is = is.field_is;
  others_are = is.others_are;
  values_are = is.values_are;
  tags_are = append-nil (tags_in source) ∙ is.tags_are;
  radix_is = is.radix_is;
  no_fault = rw is.no_fault refl;
  no_word_fault = λ last knows. ap (λ f. first_of f None) (is.no_word_fault last knows);
  pairs_are = is.pairs_are;
  word_is = is.word_is;
  named_are = λ cell word e. names_older (IsByTag look tagged cell word) _ source cell (is.named_are cell word e);
}
  where
    small_mod : (a : ℕ) → a < 4096 → (0 + a) % 4096 + 0 ≡ a
    small_mod a small = omega arith

-- ## A field

pub field_step : (look : Look) (tagged : ℕ → Bool) (source : Source) (place field : ℕ) (pairs : List (ℕ × ℕ)) (line : ℕ) (tokens : List Token) (n : ℕ) → n < 8
    → Stands look tagged source place field pairs → Stands look tagged (Ok (statement_of line false tokens [] (Field (number_parts n))) ∷ source) 128 n pairs
field_step look tagged source place field pairs line tokens n small is = record {
  place_is = refl;
  field_is = small_mod n small;
  others_are = is.others_are;
  values_are = is.values_are;
  tags_are = append-nil (tags_in source) ∙ is.tags_are;
  radix_is = is.radix_is;
  no_fault = rw (is.no_fault, small_mod n small, not_above n small) refl;
  no_word_fault = λ last knows. ap (λ f. first_of f None) (is.no_word_fault last knows);
  pairs_are = is.pairs_are;
  word_is = is.word_is;
  named_are = λ cell word e. names_older (IsByTag look tagged cell word) _ source cell (is.named_are cell word e);
}
  where
    small_mod : (a : ℕ) → a < 8 → (0 + a) % 4096 ≡ a
    small_mod a small = omega arith

    not_above : (a : ℕ) → a < 8 → nat_lt 7 a ≡ false
    not_above a small = grind (arith, nat_tests)

-- ## A comment, or an empty line

pub nothing_step : (look : Look) (tagged : ℕ → Bool) (source : Source) (place field : ℕ) (pairs : List (ℕ × ℕ)) (line : ℕ) (tokens : List Token)
    → Stands look tagged source place field pairs → Stands look tagged (Ok (statement_of line false tokens [] Nothing) ∷ source) place field pairs
nothing_step look tagged source place field pairs line tokens is = record {
  place_is = no_more (last_setting source) (words_since source) place is.place_is;
  field_is = is.field_is;
  others_are = is.others_are;
  values_are = is.values_are;
  tags_are = append-nil (tags_in source) ∙ is.tags_are;
  radix_is = is.radix_is;
  no_fault = rw is.no_fault refl;
  no_word_fault = λ last knows. ap (λ f. first_of f None) (is.no_word_fault last knows);
  pairs_are = is.pairs_are;
  word_is = is.word_is;
  named_are = λ cell word e. names_older (IsByTag look tagged cell word) _ source cell (is.named_are cell word e);
}
  where
    no_more : (a b c : ℕ) → a + b ≡ c → a + (0 + b) ≡ c
    no_more a b c e = omega (arith, e)

-- ## The tag of a word

-- the tags of a statement that has this name for a tag, or none
abbrev pub label : Bool → ℕ → List ℕ
label true name = name ∷ []
label false name = []

not_same : (a b : ℕ) → a ≢ b → nat_eq a b ≡ false
not_same a b ne = elim (eqb_tells a b) [ inl same ↦ absurd (ne same.1) | inr other ↦ other.0 ]

pub given_more : (pairs : List (ℕ × ℕ)) (at word cell : ℕ) → is_given (pairs ++ (at, word) ∷ []) cell ≡ (nat_eq at cell || is_given pairs cell)
given_more [] at word cell = refl
given_more (pair ∷ pairs) at word cell =
    ap (λ b. nat_eq pair.0 cell || b) (given_more pairs at word cell) ∙ turned (nat_eq pair.0 cell) (nat_eq at cell) (is_given pairs cell)
  where
    turned : (a b c : Bool) → (a || (b || c)) ≡ (b || (a || c))
    turned true true c = refl
    turned true false c = refl
    turned false b c = refl

-- another name
other_name : (b : Bool) (tag place name : ℕ) (known : Meanings) → tag ≢ name → with_tags (label b tag) place known name ≡ known name
other_name true tag place name known apart = ap (λ (b : Bool). if b then Some place else known name) (not_same tag name apart)
other_name false tag place name known apart = refl

same_name : (a b : ℕ) → a ≡ b → nat_eq a b ≡ true
same_name a b same = elim (eqb_tells a b) [ inl is ↦ is.0 | inr other ↦ absurd (other.1 same) ]

not_tagged : (given tagged : Bool) (value : ℕ) → tagged ≡ false → (if given && tagged then Some value else None) ≡ None
not_tagged true tagged value e = rw e refl
not_tagged false tagged value e = refl

-- a cell's tag after one word more, which is at this cell
same_cell : (look : Look) (tagged : ℕ → Bool) (b : Bool) (given : Bool) (at cell : ℕ) (known : Meanings) → tagged at ≡ b → at ≡ cell
    → known (name_in look.name cell) ≡ (if given && tagged cell then Some (cell % 4096) else None)
    → with_tags (label b (name_in look.name at)) (at % 4096) known (name_in look.name cell) ≡ (if tagged cell then Some (cell % 4096) else None)
same_cell look tagged true given at cell known marked same before =
    ap (λ (t : Bool). if t then Some (at % 4096) else known (name_in look.name cell)) (same_name (name_in look.name at) (name_in look.name cell) (ap (name_in look.name) same))
    ∙ ap (λ n. Some (n % 4096)) same
    ∙ sym (ap (λ (t : Bool). if t then Some (cell % 4096) else None) (ap tagged (sym same) ∙ marked))
same_cell look tagged false given at cell known marked same before =
    let none : tagged cell ≡ false = ap tagged (sym same) ∙ marked in
    before ∙ not_tagged given (tagged cell) (cell % 4096) none ∙ sym (ap (λ (t : Bool). if t then Some (cell % 4096) else None) none)

-- which is at another
other_cell : (look : Look) (b : Bool) (at cell place : ℕ) (known : Meanings) → IsNaming look.name → at < 32768 → cell < 32768 → at ≢ cell
    → with_tags (label b (name_in look.name at)) place known (name_in look.name cell) ≡ known (name_in look.name cell)
other_cell look b at cell place known naming inside small ne =
    other_name b (name_in look.name at) place (name_in look.name cell) known (λ e. ne (naming.differ at cell inside small e))

tag_after : (look : Look) (tagged : ℕ → Bool) (pairs : List (ℕ × ℕ)) (at word cell : ℕ) (known : Meanings) → IsNaming look.name → at < 32768 → cell < 32768
    → known (name_in look.name cell) ≡ tag_value tagged pairs cell
    → with_tags (label (tagged at) (name_in look.name at)) (at % 4096) known (name_in look.name cell) ≡ tag_value tagged (pairs ++ (at, word) ∷ []) cell
tag_after look tagged pairs at word cell known naming inside small before =
    elim (eqb_tells at cell) [
      | inl same ↦
          same_cell look tagged (tagged at) (is_given pairs cell) at cell known refl same.1 before
          ∙ ap (λ g. if (g || is_given pairs cell) && tagged cell then Some (cell % 4096) else None) (sym same.0)
      | inr other ↦
          other_cell look (tagged at) at cell (at % 4096) known naming inside small other.1
          ∙ before
          ∙ ap (λ g. if (g || is_given pairs cell) && tagged cell then Some (cell % 4096) else None) (sym other.0)
    ]
    ∙ ap (λ g. if g && tagged cell then Some (cell % 4096) else None) (sym (given_more pairs at word cell))

-- ## A tag has no fault

not_past : (place : ℕ) → place < 4096 → nat_lt 4095 place ≡ false
not_past place small = grind (arith, nat_tests)

same_number : (n : ℕ) → nat_eq n n ≡ true
same_number n = grind (arith, nat_tests)

-- nothing, or this
abbrev Is : Option ℕ → ℕ → Type 0
Is o value = (o ≡ None) ⊎ (o ≡ Some value)

tag_value_is : (tagged : ℕ → Bool) (pairs : List (ℕ × ℕ)) (cell : ℕ) → Is (tag_value tagged pairs cell) (cell % 4096)
tag_value_is tagged pairs cell = either (is_given pairs cell && tagged cell) (cell % 4096)
  where
    either : (b : Bool) (value : ℕ) → Is (if b then Some value else None) value
    either true value = inr refl
    either false value = inl refl

no_other : (place : ℕ) (o : Option ℕ) → Is o place → defined_otherwise DT place o ≡ None
no_other place o (inl none) = ap (defined_otherwise DT place) none
no_other place o (inr some) = ap (defined_otherwise DT place) some ∙ ap (λ (b : Bool). if b then None else Some DT) (same_number place)

tag_fault : (b : Bool) (place tag : ℕ) (known : Meanings) → place < 4096 → Is (known tag) place → tags_fault known place (label b tag) ≡ None
tag_fault true place tag known small before =
    ap (λ (t : Bool). first_of (first_of (if t then Some PF else None) (defined_otherwise DT place (known tag))) None) (not_past place small)
    ∙ ap (λ f. first_of f None) (no_other place (known tag) before)
tag_fault false place tag known small before = refl

-- ## What names stand for in a word

-- In a word after statements names stand for what they stand for there, or at last.
knows_there : (look : Look) (tagged : ℕ → Bool) (there last : Meanings) → Keeps there → ((cell : ℕ) → cell < 32768 → Is (there (name_in look.name cell)) (cell % 4096))
    → Knows look tagged last → Knows look tagged (λ name. if_none (there name) (last name))
knows_there look tagged there last keeps tags knows = record {
  keeps = λ name value e. ap (λ o. if_none o (last name)) (keeps name value e);
  tags_are = λ cell small marked. first (there (name_in look.name cell)) (last (name_in look.name cell)) (cell % 4096) (tags cell small) (knows.tags_are cell small marked);
}
  where
    first : (o later : Option ℕ) (value : ℕ) → Is o value → later ≡ Some value → if_none o later ≡ Some value
    first o later value (inl none) e = ap (λ o. if_none o later) none ∙ e
    first o later value (inr some) e = ap (λ o. if_none o later) some

knows_here : (look : Look) (tagged : ℕ → Bool) (source : Source) (field : ℕ) (pairs : List (ℕ × ℕ)) (at word : ℕ) (last : Meanings) → IsNaming look.name → at < 32768
    → Stands look tagged source (at % 4096) field pairs → Knows look tagged last → Knows look tagged (word_values last (label (tagged at) (name_in look.name at)) source)
knows_here look tagged source field pairs at word last naming small is knows =
    let tag = name_in look.name at in
    subst (λ p. Knows look tagged (λ name. if_none (with_tags (label (tagged at) tag) p (values source) name) (last name))) (sym is.place_is)
    (knows_there look tagged (with_tags (label (tagged at) tag) (at % 4096) (values source)) last
    (λ name value e.
    let free = permanent_is_no_tag look naming name value e in
    other_name (tagged at) tag (at % 4096) name (values source) (free at small) ∙ is.others_are name free ∙ e)
    (λ cell inside. subst (λ o. Is o (cell % 4096)) (sym (tag_after look tagged pairs at word cell (values source) naming small inside (is.values_are cell inside)))
    (tag_value_is tagged (pairs ++ (at, word) ∷ []) cell))
    knows)

-- ## A word

-- a body is this word at a place, where names stand for what the source makes of them
pub record IsWordOf (look : Look) (tagged : ℕ → Bool) (body : Body) (place word : ℕ) : Type 0 where
  pub is_word : is_word body ≡ true
  pub value : (known : Meanings) → Knows look tagged known → body_word known place body ≡ Some word
  pub no_fault : (known : Meanings) → Knows look tagged known → word_fault known place body ≡ None

-- what the statement of a word changes
record IsStated (source : Source) (s : Statement) : Type 0 where
  place : place_at (Ok s ∷ source) ≡ last_setting source + (1 + words_since source)
  field : field_at (Ok s ∷ source) ≡ field_at source
  values_are : (name : ℕ) → values (Ok s ∷ source) name ≡ with_tags s.tags (place_at source) (values source) name
  radix_is : radix_after (Ok s ∷ source) ≡ radix_after source
  fault : statement_fault s source ≡ first_of (tags_fault (values source) (place_at source) s.tags) (past (place_at source))
  word_is : has_word (Ok s ∷ source) ≡ true

word_stated : (source : Source) (line : ℕ) (tokens : List Token) (tags : List ℕ) (body : Body) → is_word body ≡ true → IsStated source (statement_of line false tokens tags body)
word_stated source line tokens tags Nothing e = absurd (cc e)
word_stated source line tokens tags (Origin x) e = absurd (cc e)
word_stated source line tokens tags (Define name x) e = absurd (cc e)
word_stated source line tokens tags Decimal e = absurd (cc e)
word_stated source line tokens tags Pause e = absurd (cc e)
word_stated source line tokens tags Octal e = absurd (cc e)
word_stated source line tokens tags (Field x) e = absurd (cc e)
word_stated source line tokens tags (Reference op indirect address) e =
    record { place = refl; field = refl; values_are = λ name. refl; radix_is = refl; fault = refl; word_is = refl }
word_stated source line tokens tags (Word x) e =
    record { place = refl; field = refl; values_are = λ name. refl; radix_is = refl; fault = refl; word_is = refl }

pub listed_more : (name : ℕ → List ℕ) (tagged : ℕ → Bool) (pairs : List (ℕ × ℕ)) (cell word : ℕ)
    → tags_of name tagged (pairs ++ (cell, word) ∷ []) ≡ tags_of name tagged pairs ++ label (tagged cell) (name_in name cell)
listed_more name tagged [] cell word = append-nil _ ∙ labelled (tagged cell)
  where
    labelled : (b : Bool) → (if b then name_in name cell ∷ [] else []) ≡ label b (name_in name cell)
    labelled true = refl
    labelled false = refl
listed_more name tagged (pair ∷ pairs) cell word =
    let first = if tagged pair.0 then name_in name pair.0 ∷ [] else [] in
    ap (λ l. first ++ l) (listed_more name tagged pairs cell word) ∙ sym (append_assoc first (tags_of name tagged pairs) (label (tagged cell) (name_in name cell)))

again : (cell : ℕ) → 4096 * (cell / 4096) + cell % 4096 ≡ cell
again cell = omega arith

names_here : (Is : Body → Type 0) (look : Look) (tagged : ℕ → Bool) (source : Source) (pairs : List (ℕ × ℕ)) (s : Statement) (cell : ℕ) → Is s.body
    → Stands look tagged source (cell % 4096) (cell / 4096) pairs → IsThere Is (Ok s ∷ source) cell
names_here Is look tagged source pairs s cell names is = record {
  newer = [];
  older = source;
  statement = s;
  split = refl;
  place = ap (λ f. 4096 * f + place_at source) is.field_is ∙ ap (λ p. 4096 * (cell / 4096) + p) is.place_is ∙ again cell;
  is = names;
}

same_word : (a b : ℕ) → Some a ≡ Some b → a ≡ b
same_word a b e = cc

names_following : (look : Look) (tagged : ℕ → Bool) (source : Source) (pairs : List (ℕ × ℕ)) (s : Statement) (cell word : ℕ) → IsByTag look tagged cell word s.body
    → Stands look tagged source (cell % 4096) (cell / 4096) pairs
    → (other there : ℕ) → last_word (pairs ++ (cell, word) ∷ []) other ≡ Some there → IsThere (IsByTag look tagged other there) (Ok s ∷ source) other
names_following look tagged source pairs s cell word names is other there e =
    let step = sym (last_append pairs cell word other) ∙ e in
    elim (eqb_tells cell other) [
      | inl same ↦
          let word_is = same_word word there (ap (λ (b : Bool). if b then Some word else last_word pairs other) (sym same.0) ∙ step) in
          subst (λ (c : ℕ). IsThere (IsByTag look tagged c there) (Ok s ∷ source) c) same.1
          (subst (λ (w : ℕ). IsThere (IsByTag look tagged cell w) (Ok s ∷ source) cell) word_is (names_here (IsByTag look tagged cell word) look tagged source pairs s cell names is))
      | inr apart ↦
          names_older (IsByTag look tagged other there) (Ok s) source other
          (is.named_are other there (ap (λ (b : Bool). if b then Some word else last_word pairs other) (sym apart.0) ∙ step))
    ]

pub word_step : (look : Look) (tagged : ℕ → Bool) (source : Source) (pairs : List (ℕ × ℕ)) (line : ℕ) (tokens : List Token) (body : Body) (cell word : ℕ) → IsNaming look.name
    → cell < 32768 → IsWordOf look tagged body (cell % 4096) word → IsByTag look tagged cell word body → Stands look tagged source (cell % 4096) (cell / 4096) pairs
    → Stands look tagged (Ok (statement_of line false tokens (label (tagged cell) (name_in look.name cell)) body) ∷ source) (cell % 4096 + 1) (cell / 4096) (pairs ++ (cell, word) ∷ [])
word_step look tagged source pairs line tokens body cell word naming small means names is =
    let tag = name_in look.name cell in
    let tags = label (tagged cell) tag in
    let place = cell % 4096 in
    let stated = word_stated source line tokens tags body means.is_word in
    let inside : place < 4096 = omega arith in
    let here = λ (last : Meanings) (knows : Knows look tagged last). knows_here look tagged source (cell / 4096) pairs cell word last naming small is knows in
    record {
      place_is = stated.place ∙ next (last_setting source) (words_since source) place is.place_is;
      field_is = stated.field ∙ is.field_is;
      others_are = λ name free. stated.values_are name ∙ other_name (tagged cell) tag (place_at source) name (values source) (free cell small) ∙ is.others_are name free;
      values_are = λ other low.
          stated.values_are (name_in look.name other)
          ∙ ap (λ p. with_tags tags p (values source) (name_in look.name other)) is.place_is
          ∙ tag_after look tagged pairs cell word other (values source) naming small low (is.values_are other low);
      tags_are = ap (λ l. l ++ tags) is.tags_are ∙ sym (listed_more look.name tagged pairs cell word);
      radix_is = stated.radix_is ∙ is.radix_is;
      no_fault =
          ap (λ f. first_of (first_order source) (at_line line f)) (stated.fault ∙ ap (λ p. first_of (tags_fault (values source) p tags) (past p)) is.place_is)
          ∙ ap (λ f. first_of (first_order source) (at_line line (first_of f (past place))))
          (tag_fault (tagged cell) place tag (values source) inside (subst (λ o. Is o place) (sym (is.values_are cell small)) (tag_value_is tagged pairs cell)))
          ∙ word_first (first_order source) line place inside is.no_fault;
      no_word_fault = λ last knows.
          ap (λ p. first_of (words_fault last source) (at_line line (word_fault (word_values last tags source) p body))) is.place_is
          ∙ ap (λ f. first_of (words_fault last source) (at_line line f)) (means.no_fault (word_values last tags source) (here last knows))
          ∙ ap (λ f. first_of f None) (is.no_word_fault last knows);
      pairs_are = λ last knows.
          ap (λ p. with_pair (pairs_by last source) (4096 * field_at source + p) (body_word (word_values last tags source) p body)) is.place_is
          ∙ ap (λ w. with_pair (pairs_by last source) (4096 * field_at source + place) w) (means.value (word_values last tags source) (here last knows))
          ∙ ap (λ l. l ++ (4096 * field_at source + place, word) ∷ []) (is.pairs_are last knows)
          ∙ ap (λ f. pairs ++ (4096 * f + place, word) ∷ []) is.field_is
          ∙ ap (λ c. pairs ++ (c, word) ∷ []) (again cell);
      word_is = stated.word_is ∙ one_more pairs (cell, word);
      named_are = names_following look tagged source pairs (statement_of line false tokens tags body) cell word names is;
    }
  where
    next : (a b c : ℕ) → a + b ≡ c → a + (1 + b) ≡ c + 1
    next a b c e = omega (arith, e)

    word_first : (older : Option AsmFault) (line place : ℕ) → place < 4096 → older ≡ None → first_of older (at_line line (first_of None (past place))) ≡ None
    word_first older line place small none = rw (none, not_past place small) refl

-- an octal number is its word
pub number_word : (look : Look) (tagged : ℕ → Bool) (place word : ℕ) → word < 4096 → IsWordOf look tagged (Word (number_parts word)) place word
number_word look tagged place word small = record { is_word = refl; value = λ known knows. ap (λ n. Some n) (small_mod word small); no_fault = λ known knows. refl }
  where
    small_mod : (a : ℕ) → a < 4096 → (0 + a) % 4096 ≡ a
    small_mod a small = omega arith

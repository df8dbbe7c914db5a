-- The tags of a tape's source are all different, and its references name them.
use Rattle.std.proofs.Common.{◌≡◌, ◌≢◌, ℕ, ◌<◌, ◌≤◌, Bool, true, false, Option, Some, None, Ok, zero, suc, reverse, List, [], ◌∷◌, ◌++◌, refl, ap, sym, subst, ◌∙◌, arith, append-nil}
use Rattle.std.proofs.lemmas.List.{reverse-append}
use Rattle.bin_tape.specs.Items.{Item, IsPrefix, tape_map}
use Rattle.bin_tape.specs.Pairs.{last_word}
use Rattle.pal_lex.specs.declared.phrases.Body.TheVariants.{Nothing}
use Rattle.pal_asm.specs.Places.{Source}
use Rattle.tape_source.specs.Named.{IsByTag, IsThere, NamesTags}
use Rattle.tape_source.specs.Looks.{Look, AreNotes, is_tagged, name_in, IsNaming}
use Rattle.tape_source.specs.Lines.{source_with}
use Rattle.tape_source.specs.Sources.{with_word, words_below, words_of_tape}
use Rattle.tape_source.specs.Defined.{tags_of, IsNoneOf, Differ, DefinesTags}
use Rattle.tape_source.proofs.StepLemmas.{names_older, statement_of, label, listed_more}
use Rattle.tape_source.proofs.WholeLemmas.{source_whole, source_tags}
use Rattle.tape_source.proofs.TapeLemmas.{last_of_tape, below_none, below_more, below_pairs}
use Rattle.tape_source.proofs.ShownLemmas.{are_shown}

-- ## Names of cells below another

-- a name is the tag of a cell below a number
record IsTagBelow (name : ℕ → List ℕ) (bound other : ℕ) : Type 0 where
  cell : ℕ
  low : cell < bound
  is : name_in name cell ≡ other

abbrev AreBelow : (ℕ → List ℕ) → List ℕ → ℕ → Type 0
AreBelow name [] bound = Unit {0}
AreBelow name (first ∷ others) bound = IsTagBelow name bound first × AreBelow name others bound

higher : (name : ℕ → List ℕ) (bound other : ℕ) → IsTagBelow name bound other → IsTagBelow name (suc bound) other
higher name bound other is = let low = is.low in record { cell = is.cell; low = omega (arith, low); is = is.is }

all_higher : (name : ℕ → List ℕ) (names : List ℕ) (bound : ℕ) → AreBelow name names bound → AreBelow name names (suc bound)
all_higher name [] bound all = tt
all_higher name (first ∷ others) bound all = (higher name bound first all.0, all_higher name others bound all.1)

below_more_names : (name : ℕ → List ℕ) (names : List ℕ) (b : Bool) (cell : ℕ) → AreBelow name names cell → AreBelow name (names ++ label b (name_in name cell)) (suc cell)
below_more_names name [] true cell all = (record { cell = cell; low = omega arith; is = refl }, tt)
below_more_names name [] false cell all = tt
below_more_names name (first ∷ names) b cell all = (higher name cell first all.0, below_more_names name names b cell all.1)

none_more : (names : List ℕ) (name last : ℕ) → IsNoneOf names name → name ≢ last → IsNoneOf (names ++ last ∷ []) name
none_more [] name last all ne = (ne, tt)
none_more (other ∷ names) name last all ne = (all.0, none_more names name last all.1 ne)

-- a cell below another has another tag
other_than : (name : ℕ → List ℕ) (cell other : ℕ) → IsNaming name → cell < 32768 → IsTagBelow name cell other → other ≢ name_in name cell
other_than name cell other naming small is e =
    let low = is.low in
    let same = naming.differ is.cell cell (omega (arith, low, small)) small (is.is ∙ e) in
    omega (arith, low, same)

differ_more : (name : ℕ → List ℕ) (names : List ℕ) (b : Bool) (cell : ℕ) → IsNaming name → cell < 32768 → Differ names → AreBelow name names cell
    → Differ (names ++ label b (name_in name cell))
differ_more name names false cell naming small differ low = subst Differ (sym (append-nil names)) differ
differ_more name [] true cell naming small differ low = (tt, tt)
differ_more name (first ∷ names) true cell naming small differ low = (
  none_more names first (name_in name cell) differ.0 (other_than name cell first naming small low.0),
  differ_more name names true cell naming small differ.1 low.1,
)

-- ## The tags below a cell

tags_more : (name : ℕ → List ℕ) (tagged : ℕ → Bool) (pair : ℕ × ℕ) (older : List (ℕ × ℕ))
    → tags_of name tagged (reverse (pair ∷ older)) ≡ tags_of name tagged (reverse older) ++ label (tagged pair.0) (name_in name pair.0)
tags_more name tagged pair older = ap (tags_of name tagged) (reverse-append (pair ∷ []) older) ∙ listed_more name tagged (reverse older) pair.0 pair.1

-- tags of cells with a word, where one cell more is looked at
one_cell_below : (name : ℕ → List ℕ) (tagged : ℕ → Bool) (word : Option ℕ) (cell : ℕ) (below : List (ℕ × ℕ)) → AreBelow name (tags_of name tagged (reverse below)) cell
    → AreBelow name (tags_of name tagged (reverse (with_word word cell below))) (suc cell)
one_cell_below name tagged None cell below all = all_higher name (tags_of name tagged (reverse below)) cell all
one_cell_below name tagged (Some word) cell below all =
    subst (λ names. AreBelow name names (suc cell)) (sym (tags_more name tagged (cell, word) below)) (below_more_names name (tags_of name tagged (reverse below)) (tagged cell) cell all)

one_cell_differs : (name : ℕ → List ℕ) (tagged : ℕ → Bool) (word : Option ℕ) (cell : ℕ) (below : List (ℕ × ℕ)) → IsNaming name → cell < 32768
    → Differ (tags_of name tagged (reverse below)) → AreBelow name (tags_of name tagged (reverse below)) cell → Differ (tags_of name tagged (reverse (with_word word cell below)))
one_cell_differs name tagged None cell below naming small differ low = differ
one_cell_differs name tagged (Some word) cell below naming small differ low =
    subst Differ (sym (tags_more name tagged (cell, word) below)) (differ_more name (tags_of name tagged (reverse below)) (tagged cell) cell naming small differ low)

tags_below : (name : ℕ → List ℕ) (tagged : ℕ → Bool) (items : List Item) (count : ℕ) → AreBelow name (tags_of name tagged (reverse (words_below items count))) count
tags_below name tagged items zero = rw (below_none items) tt
tags_below name tagged items (suc count) =
    rw (below_more items count) (one_cell_below name tagged (tape_map items count) count (words_below items count) (tags_below name tagged items count))

pub tags_all_differ : (name : ℕ → List ℕ) (tagged : ℕ → Bool) (items : List Item) (count : ℕ) → IsNaming name → count ≤ 32768
    → Differ (tags_of name tagged (reverse (words_below items count)))
tags_all_differ name tagged items zero naming enough = rw (below_none items) tt
tags_all_differ name tagged items (suc count) naming enough =
    rw (below_more items count)
    (one_cell_differs name tagged (tape_map items count) count (words_below items count) naming (omega (arith, enough))
    (tags_all_differ name tagged items count naming (omega (arith, enough)))
    (tags_below name tagged items count))

pub tape_tags : (look : Look) (items : List Item) → AreNotes look → IsNaming look.name → IsPrefix items → DefinesTags look (source_with look (words_of_tape items)) (words_of_tape items)
tape_tags look items notes naming prefix =
    let words = words_of_tape items in
    let tagged = is_tagged look words in
    source_tags look words notes naming (are_shown look tagged words naming (below_pairs items 32768 prefix)) (tags_all_differ look.name tagged items 32768 naming (omega arith))

pub tape_names : (look : Look) (items : List Item) → AreNotes look → IsNaming look.name → IsPrefix items → NamesTags look (source_with look (words_of_tape items)) items
tape_names look items notes naming prefix = λ cell word there.
    let words = words_of_tape items in
    let tagged = is_tagged look words in
    let whole = source_whole look words notes naming (are_shown look tagged words naming (below_pairs items 32768 prefix)) in
    let last : last_word (reverse words) cell ≡ Some word = last_of_tape 32768 items (omega arith) prefix cell ∙ there in
    subst (λ (s : Source). IsThere (IsByTag look tagged cell word) s cell) (sym whole.statements_are)
    (names_older (IsByTag look tagged cell word) (Ok (statement_of whole.line true [] [] Nothing)) whole.lines cell (whole.stands.named_are cell word last))

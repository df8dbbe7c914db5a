use Rattle.std.proofs.Common.{◌≡◌, ℕ, ◌%◌, ◌<◌, Bool, ◌&&◌, false, length, Option, None, List, is_some, slice_index_or, refl, ap, sym, ◌∙◌, arith}
use Rattle.std.proofs.lemmas.List.{get_or_default}
use Rattle.bin_tape.specs.Items.{Item, tape_map}
use Rattle.tape_source.specs.References.{is_reference}
use Rattle.tape_source.specs.Steps.{HoldsMap, HoldsFlags}
use Rattle.tape_source.proofs.ByteLemmas.{both}
use Rattle.tape_source.proofs.MarkLemmas.{mark_none, mark_no_reference, mark_reference}
use Rattle.tape_source.proofs.tags.mark.Goals as goal

-- what is read of the words of a tape
read : (words : List (Option ℕ)) (items : List Item) (index cell : ℕ) (result : Option ℕ) → length words ≡ 32768 → result ≡ slice_index_or words index result → index ≡ cell
    → index < 32768 → HoldsMap items words → result ≡ tape_map items cell
read words items index cell result size is same inside holds =
    is ∙ get_or_default words index result None (omega (arith, size, inside)) ∙ holds index inside ∙ ap (tape_map items) same

-- what is told of the word at a cell
told_of : (is_code : ℕ → Bool) (code : List Bool) (index cell at word : ℕ) (result : Bool) → result ≡ (slice_index_or code index false && is_reference at word)
    → index ≡ cell → index < 32768 → at ≡ cell % 4096 → HoldsFlags is_code code → (is_code cell && is_reference (cell % 4096) word) ≡ result
told_of is_code code index cell at word result is same inside here told =
    sym (is ∙ ap (λ (b : Bool). b && is_reference at word) (told index inside ∙ ap is_code same) ∙ ap (λ a. is_code cell && is_reference a word) here)

pub returns-then-refers : goal.returns-then-refers
returns-then-refers c = λ look items holds told before.
    let there = read c.args.words.now items c.index.result c.args.cell c.index-words-index.result c.requires.words c.index-words-index.is c.index.ensures.value c.index.ensures.range holds in
    let named = read c.args.words.now items c.index-named.result c.index-named.result c.index-words-named.result c.requires.words c.index-words-named.is refl c.index-named.ensures.range holds in
    let refers =
    told_of look.is_code c.args.code.now c.index-in-Some.result c.args.cell c.address.result c.in-Some.word c.refers.result c.refers.ensures c.index-in-Some.ensures.value
    c.index-in-Some.ensures.range c.address.ensures.value told in
    let parts = both (look.is_code c.args.cell) (is_reference (c.args.cell % 4096) c.in-Some.word) (refers ∙ c.if-refers.true) in
    mark_reference look items c.args.cell c.in-Some.word c.index-named.result c.is_some.result c.args.tags.now c.requires.size
    (sym there ∙ c.in-Some.is) parts.0 parts.1
    (c.index-named.ensures.value ∙ c.referred_cell.ensures.number) c.index-named.ensures.range
    (c.is_some.ensures ∙ ap (λ o. is_some o) named)
    before

pub returns-else-refers : goal.returns-else-refers
returns-else-refers c = λ look items holds told.
    let there = read c.args.words.now items c.index.result c.args.cell c.index-words-index.result c.requires.words c.index-words-index.is c.index.ensures.value c.index.ensures.range holds in
    let refers =
    told_of look.is_code c.args.code.now c.index-in-Some.result c.args.cell c.address.result c.in-Some.word c.refers.result c.refers.ensures c.index-in-Some.ensures.value
    c.index-in-Some.ensures.range c.address.ensures.value told in
    mark_no_reference look items c.args.cell c.in-Some.word c.args.tags.now (sym there ∙ c.in-Some.is) (refers ∙ c.if-refers.false)

pub returns-in_default : goal.returns-in_default
returns-in_default c = λ look items holds told.
    let there = read c.args.words.now items c.index.result c.args.cell c.index-words-index.result c.requires.words c.index-words-index.is c.index.ensures.value c.index.ensures.range holds in
    mark_none look items c.args.cell c.args.tags.now (sym there ∙ c.in_default.is)

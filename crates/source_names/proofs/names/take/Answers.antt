use Rattle.std.proofs.Common.{◌+◌, ap, sym, ◌∙◌}
use Rattle.pal_sym.specs.Values.{symbol_value}
use Rattle.flow8.specs.Flow.{word_in}
use Rattle.source_names.specs.Names.{why_taken}
use Rattle.source_names.proofs.NameLemmas.{gives, is_new, judged, nothing_said, number_is, read_word, refused}
use Rattle.source_names.proofs.names.take.Goals as goal

pub returns-then-says_nothing : goal.returns-then-says_nothing
returns-then-says_nothing c = λ read number holds. (
  record read { lines = read.lines + 1 },
  nothing_said (word_in c.args.words.now) read c.args.line.now
      (sym c.says_nothing.ensures ∙ c.if-says_nothing.true),
  holds,
)

pub returns-in-Some-why_taken : goal.returns-in-Some-why_taken
returns-in-Some-why_taken c = λ read number holds.
    let word =
    read_word c.args.words.now c.index.result c.in-Some.cell c.index-words-index.result c.requires.words c.index-words-index.is
    c.index.ensures.value c.index.ensures.range in
    let is =
    judged (word_in c.args.words.now) read c.args.table.now c.args.given.now c.args.line.now c.name_in-name.result.now c.in-Some.cell
    c.in-Some-short_name.symbol
    c.is_given-is_given.result c.index-words-index.result holds (sym c.says_nothing.ensures ∙ c.if-says_nothing.false)
    (sym c.cell_in.ensures ∙ c.in-Some.is)
    c.name_in-name.ensures (sym c.short_name.ensures ∙ c.in-Some-short_name.is) word c.is_given-is_given.ensures in
    refused (word_in c.args.words.now) read c.args.line.now c.name_in-name.result.now c.in-Some.cell c.args.number _ c.in-Some-why_taken.why number is
    (sym c.why_taken.ensures ∙ c.in-Some-why_taken.is)

pub returns : goal.returns
returns c = λ read number holds.
    let word =
    read_word c.args.words.now c.index.result c.in-Some.cell c.index-words-index.result c.requires.words c.index-words-index.is
    c.index.ensures.value c.index.ensures.range in
    let is =
    judged (word_in c.args.words.now) read c.args.table.now c.args.given.now c.args.line.now c.name_in-name.result.now c.in-Some.cell
    c.in-Some-short_name.symbol
    c.is_given-is_given.result c.index-words-index.result holds (sym c.says_nothing.ensures ∙ c.if-says_nothing.false)
    (sym c.cell_in.ensures ∙ c.in-Some.is)
    c.name_in-name.ensures (sym c.short_name.ensures ∙ c.in-Some-short_name.is) word c.is_given-is_given.ensures in
    let number = number_is c.name_in-name.result.now c.in-Some-short_name.symbol (sym c.short_name.ensures ∙ c.in-Some-short_name.is) in
    let none = sym c.why_taken.ensures ∙ c.in_default-why_taken.is in
    let new =
    is_new c.index-words-index.result c.name_in-name.result.now c.in-Some-short_name.symbol
    (symbol_value c.args.given.now c.in-Some-short_name.symbol) _
    (sym (ap (λ g. why_taken c.index-words-index.result g c.name_in-name.result.now c.in-Some-short_name.symbol) c.is_given-is_given.ensures) ∙
    none) in
    gives (word_in c.args.words.now) read c.args.line.now c.name_in-name.result.now c.in-Some.cell _ c.give.new.table c.give.new.given c.give.result
    is none
    (c.give.ensures.ok read.entries holds number new) c.give.ensures.err

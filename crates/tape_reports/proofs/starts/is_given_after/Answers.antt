use Rattle.std.proofs.Common.{◌≡◌, Bool, true, false, ◌||◌, ap, sym, ◌∙◌}
use Rattle.bin_tape.specs.Reading.{words_in}
use Rattle.tape_reports.specs.Starts.{gives_word}
use Rattle.tape_reports.proofs.StartLemmas.{joined_words}
use Rattle.tape_reports.proofs.starts.is_given_after.Goals as goal

pub returns-then-is_given : goal.returns-then-is_given
returns-then-is_given c = λ out is.
    let given : gives_word out c.args.cell ≡ true = sym is ∙ c.if-is_given.true in
    c.if-is_given.true
    ∙ sym (joined_words out (words_in c.args.came) c.args.cell ∙ ap (λ (b : Bool). b || gives_word (words_in c.args.came) c.args.cell) given)

pub returns-else-is_given : goal.returns-else-is_given
returns-else-is_given c = λ out is.
    let given : gives_word out c.args.cell ≡ false = sym is ∙ c.if-is_given.false in
    c.is_word_of.ensures
    ∙ sym (joined_words out (words_in c.args.came) c.args.cell ∙ ap (λ (b : Bool). b || gives_word (words_in c.args.came) c.args.cell) given)

use Rattle.std.proofs.Common.{ℕ, true, Ok, List, [], All, ◌<◌, ◌∙◌, sym, ap, subst}
use Rattle.archive_files.specs.declared.forms.GetForm.TheVariants as get_as
use Rattle.archive_files.specs.Getting.{line_feeds}
use Rattle.archive_files.specs.Laws.{whole_blocks}
use Rattle.keeper_laws.specs.GettingBack.{IsPrinted}
use Rattle.keeper_laws.proofs.QuestionLemmas.{block-end, bytes-are, got-as, lf-alone, name-is, one, plain-form, text-form}
use Rattle.keeper_laws.proofs.questions.got_as_put.Goals as goal

pub returns-clause-frames : goal.returns-clause-frames
returns-clause-frames c form old new source bytes puts are apart had usual none small =
    let stored = c.ended_changes.ensures.puts form old (Ok tt) new puts in
    let file = one form old new stored source bytes are apart had in
    let is = bytes-are form old new stored source bytes are apart had in
    let name = name-is form old new stored source bytes are apart had in
    got-as form old new stored source bytes are apart had get_as.Frames _ (λ again begun ended answer strict p. c.found_again.ensures.looks again begun ended answer strict p)
    (subst (λ (b : List ℕ). IsPrinted form.image stored.has.file name.0 get_as.Frames b) (sym (block-end bytes))
    (subst (λ (b : List ℕ). IsPrinted form.image stored.has.file name.0 get_as.Frames (whole_blocks b)) is
    (c.put_comes_back.ensures.frames form true old new stored [] [] file.0 name.0 file.1 tt name.2 (file.2.form ∙ plain-form form.texts file.0.name usual none)
    (subst (λ (b : List ℕ). All (λ byte. byte < 256) b) (sym is) small))))

pub returns-clause-text : goal.returns-clause-text
returns-clause-text c form old new source bytes puts are apart had usual =
    let stored = c.ended_changes.ensures.puts form old (Ok tt) new puts in
    let file = one form old new stored source bytes are apart had in
    let is = bytes-are form old new stored source bytes are apart had in
    let name = name-is form old new stored source bytes are apart had in
    got-as form old new stored source bytes are apart had get_as.Text _ (λ again begun ended answer strict p. c.found_again.ensures.looks again begun ended answer strict p)
    (subst (λ (b : List ℕ). IsPrinted form.image stored.has.file name.0 get_as.Text b) (sym (lf-alone bytes))
    (subst (λ (b : List ℕ). IsPrinted form.image stored.has.file name.0 get_as.Text (line_feeds b)) is
    (c.put_comes_back.ensures.text form true old new stored file.0 name.0 file.1 name.2 (file.2.form ∙ text-form form.texts file.0.name usual))))

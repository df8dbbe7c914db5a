use Rattle.std.proofs.Common.{◌↔◌, ℕ, refl, ap, sym, subst, ◌∙◌}
use Rattle.flow8.specs.Flow.{word_in}
use Rattle.pointer_flow.specs.Flow.{IsCandidate, IsKnown, IsLeftOut}
use Rattle.pointer_flow.specs.Programs.{program_of}
use Rattle.pointer_flow.specs.Steps.{IsFlaggedIn, is_written_zero, unwritten_word}
use Rattle.pointer_flow.specs.Tables.{GivesPointers}
use Rattle.pointer_flow.proofs.FlowLemmas.{known_are, left_out_are}
use Rattle.pointer_flow.proofs.flows.pointer_flow.Goals as goal

pub returns : goal.returns
returns c =
    let p = program_of c.args.words.now c.args.data_flags.now c.args.starts.now c.args.handlers.now in
    let facts = c.in_ok-facts.ensures c.args.starts.now in
    let candidates = c.in_ok-candidates.candidates.items in
    let known = c.in_ok-known_words.known_words.items in
    let writers = c.in_ok-wide.wide.all.items in
    let gives = c.in_ok-candidates.ensures.candidates p facts refl in
    let lent = subst (λ l. GivesPointers l (IsCandidate p)) (sym c.deref.ensures.value) gives in
    let answers = c.in_ok-wide.ensures.writers p facts refl lent in
    let knows = known_are p candidates known writers (sym c.in_ok-candidates.candidates.ok.0 ∙ c.in_ok-candidates.ensures.size)
    (sym c.in_ok-known_words.known_words.ok.0 ∙ c.in_ok-known_words.ensures.size) gives answers
    (λ cell small.
    c.in_ok-known_words.ensures.words cell small
    ∙ ap (λ l. unwritten_word (word_in l cell) (word_in c.deref-3.result.now cell)) c.deref-2.ensures.value
    ∙ ap (λ l. unwritten_word (word_in candidates cell) (word_in l cell)) c.deref-3.ensures.value) in
    let left = left_out_are p c.args.words.now writers c.in_ok-no_skip_cells.no_skip_cells.items refl c.requires.words
    (sym c.in_ok-no_skip_cells.no_skip_cells.ok.0 ∙ c.in_ok-no_skip_cells.ensures.size) answers
    (λ cell small.
    c.in_ok-no_skip_cells.ensures.cells cell small
    ∙ ap (λ l. is_written_zero (word_in c.args.words.now cell) (word_in l cell)) c.deref-4.ensures.value) in
    record {
      facts = facts;
      states =
          c.in_ok-states.ensures p facts refl (subst (λ l. GivesPointers l (IsKnown p)) (sym c.deref-5.ensures.value) knows)
          (subst (λ l. (cell : ℕ) → IsFlaggedIn l cell ↔ IsLeftOut p cell) (sym c.deref-6.ensures.value) left);
      known = knows;
      writers_size = sym c.in_ok-wide.wide.all.ok.0 ∙ c.in_ok-wide.ensures.size;
      writers = answers;
      returns = c.in_ok-wide.ensures.returns p facts refl lent;
    }

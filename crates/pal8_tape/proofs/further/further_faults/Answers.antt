use Rattle.std.proofs.Common.{◌≡◌, ◌≤◌, Bool, None, length, map, take, ap, refl, sym, subst, ◌∙◌, arith}
use Rattle.pal8_tape.specs.Joins.{bytes_in}
use Rattle.pal8_tape.specs.Further.{ended_texts, faults_after, further_fault, is_passed, next_texts}
use Rattle.pal8_tape.specs.MendSteps.{Mends}
use Rattle.pal8_tape.specs.declared.further.TheConstants.{MOST_HARMLESS}
use Rattle.pal8_tape.proofs.FurtherLemmas.{ends_here, few_more, goes_on, no_others, no_step}
use Rattle.pal8_tape.proofs.further.further_faults.Goals as goal

pub returns-then-not-is_mended-clause-faults : goal.returns-then-not-is_mended-clause-faults
returns-then-not-is_mended-clause-faults c =
    let passed = c.in_ok-passed.passed in
    let sources = c.args.sources.now in
    let texts = map (λ text. text.items) c.loop-left.texts.items in
    let first = ended_texts (bytes_in sources) in
    no_others c.args.most c.loop-left.faults.items (faults_after c.args.options passed sources c.loop-left.left texts) (faults_after c.args.options passed sources MOST_HARMLESS first)
    c.loop-left.invariant.same
    (ends_here c.args.options passed sources texts c.loop-left.left c.loop-left-test.true (next_texts c.args.options passed texts) refl
    (subst (λ (is : Bool). Mends (next_texts c.args.options passed texts) is c.mend_first.new.texts.items) c.if-not-is_mended.true (c.in_ok-is_mended.ensures {u = tt}).mends))
    c.loop-left.invariant.few
    ∙ ap (λ p. take c.args.most (faults_after c.args.options p sources MOST_HARMLESS first))
    (c.in_ok-passed.ensures.passed ∙ ap (λ l. is_passed c.args.options (map (λ text. text.items) l)) c.deref.ensures.value ∙ ap (is_passed c.args.options) c.in_ok-texts.ensures)

pub loop-left-preserved : goal.loop-left-preserved
loop-left-preserved c =
    let passed = c.in_ok-passed.passed in
    let sources = c.args.sources.now in
    let texts = map (λ text. text.items) c.loop-left.texts.items in
    let later = map (λ text. text.items) c.mend_first.new.texts.items in
    let first = ended_texts (bytes_in sources) in
    let faults = c.loop-left.faults.items in
    record {
      same = goes_on c.args.options passed sources texts c.loop-left.left c.loop-left-test.true later c.in_ok-fault.fault faults c.put.new.items.items
          (faults_after c.args.options passed sources MOST_HARMLESS first)
          (sym (subst (λ (is : Bool). Mends (next_texts c.args.options passed texts) is c.mend_first.new.texts.items) c.if-not-is_mended.false (c.in_ok-is_mended.ensures {u = tt}).mends))
          (c.in_ok-fault.ensures.found ∙ ap (λ l. further_fault c.args.options passed sources (map (λ text. text.items) l)) c.deref-in-loop-left.ensures.value)
          c.in_ok-put.ensures c.loop-left.invariant.same;
      few = subst (λ l. length l ≤ c.args.most) (sym c.in_ok-put.ensures)
          (few_more c.args.most faults c.in_ok-fault.fault (omega (arith, c.if-len-most.false, c.len.ensures)));
    }

pub returns-clause-faults : goal.returns-clause-faults
returns-clause-faults c =
    let passed = c.in_ok-passed.passed in
    let sources = c.args.sources.now in
    let texts = map (λ text. text.items) c.loop-left.texts.items in
    let first = ended_texts (bytes_in sources) in
    let none : c.loop-left.left ≡ 0 = omega (arith, c.loop-left-test.false) in
    no_others c.args.most c.loop-left.faults.items (faults_after c.args.options passed sources c.loop-left.left texts) (faults_after c.args.options passed sources MOST_HARMLESS first)
    c.loop-left.invariant.same (ap (λ n. faults_after c.args.options passed sources n texts) none ∙ no_step c.args.options passed sources texts) c.loop-left.invariant.few
    ∙ ap (λ p. take c.args.most (faults_after c.args.options p sources MOST_HARMLESS first))
    (c.in_ok-passed.ensures.passed ∙ ap (λ l. is_passed c.args.options (map (λ text. text.items) l)) c.deref.ensures.value ∙ ap (is_passed c.args.options) c.in_ok-texts.ensures)

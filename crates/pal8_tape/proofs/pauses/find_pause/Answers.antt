use Rattle.std.proofs.Common.{Option, get_or, refl, subst, take, arith}
use Rattle.pal_lex.specs.Text.{text_of}
use Rattle.pal8_lex.specs.declared.rules.End.{End}
use Rattle.pal8_tape.specs.Steps.{IsPassing, MeetsByte}
use Rattle.pal8_tape.proofs.JoinTextLemmas.{text_whole}
use Rattle.pal8_tape.proofs.PauseLemmas.{byte_passed, byte_pauses, result_at_end}
use Rattle.pal8_tape.proofs.pauses.find_pause.Goals as goal

pub returns-in-Some : goal.returns-in-Some
returns-in-Some c = λ left follows.
    let stands = c.loop-taken.invariant left follows in
    let bytes = c.args.text.now in
    let byte = get_or bytes c.loop-taken.taken 0 in
    let here = text_of (take c.loop-taken.taken bytes) in
    byte_pauses left bytes c.loop-taken.taken c.loop-taken.count byte c.loop-taken.lexer c.meet_byte.new.lexer c.loop-taken.pass c.meet_byte.new.pass c.loop-taken-test.true refl
    stands c.in-Some.end
    (subst (λ (e : Option End). MeetsByte left here byte e c.meet_byte.new.lexer c.meet_byte.new.pass) c.in-Some.is
    (c.in_ok-end.ensures left here stands.has_read stands.follows))

pub loop-taken-preserved : goal.loop-taken-preserved
loop-taken-preserved c = λ left follows.
    let stands = c.loop-taken.invariant left follows in
    let bytes = c.args.text.now in
    let byte = get_or bytes c.loop-taken.taken 0 in
    let here = text_of (take c.loop-taken.taken bytes) in
    byte_passed left bytes c.loop-taken.taken c.loop-taken.count byte c.loop-taken.lexer c.meet_byte.new.lexer c.loop-taken.pass c.meet_byte.new.pass c.loop-taken-test.true refl
    stands c.count_after-count.result c.count_after-count.ensures
    (subst (λ (e : Option End). MeetsByte left here byte e c.meet_byte.new.lexer c.meet_byte.new.pass) c.in_default.is
    (c.in_ok-end.ensures left here stands.has_read stands.follows))

pub returns : goal.returns
returns c = λ left follows.
    let bytes = c.args.text.now in
    let before = text_of (take c.loop-taken.count bytes) in
    result_at_end left bytes c.loop-taken.count c.find_at_end.new.pass c.find_at_end.result
    (c.find_at_end.ensures left before
    (subst (λ t. IsPassing left t before c.loop-taken.lexer c.loop-taken.pass) (text_whole bytes c.loop-taken.taken (omega (arith, c.loop-taken-test.false)))
    (c.loop-taken.invariant left follows)))

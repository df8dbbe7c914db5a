use Rattle.std.proofs.Common.{◌∙◌, ap}
use Rattle.pal_lex.specs.Text.{text_of}
use Rattle.pal8_asm.specs.Assembling.{remainder_of}
use Rattle.pal8_asm.proofs.SourceLemmas.{starts, text_closes, text_end, text_fails}
use Rattle.pal8_asm.proofs.assemblers.Assembler.read.Goals as goal

pub returns-in-Err : goal.returns-in-Err
returns-in-Err c = λ options begins.
    text_fails options (text_of c.args.text.now) c.read_on.new.lexer c.read_on.new.at c.read_on.new.self c.in-Err.fault
    (c.in-Err.ensures {u = tt} options (text_of c.args.text.now) (starts options c.args.text.now c.new-lexer.result c.make_room.new.self c.new-lexer.ensures.read (ap remainder_of c.make_room.ensures ∙ begins)))

pub returns : goal.returns
returns c = λ options begins.
    let read = c.in-Ok.ensures {u = tt} options (text_of c.args.text.now) (starts options c.args.text.now c.new-lexer.result c.make_room.new.self c.new-lexer.ensures.read (ap remainder_of c.make_room.ensures ∙ begins)) in
    text_closes options (text_of c.args.text.now) c.read_on.new.lexer c.read_on.new.at c.read_on.new.self read c.close.result
    (c.close.ensures (text_of c.args.text.now) (λ none.
    text_end (text_of c.args.text.now) c.read_on.new.lexer c.read_on.new.at c.next_line-line.result (read.counts none).0 (read.counts none).1 c.next_line-line.ensures))

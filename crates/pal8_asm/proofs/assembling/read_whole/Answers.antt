use Rattle.std.proofs.Common.{length, ◌∙◌, ap, nat_eq}
use Rattle.pal_lex.specs.Text.{text_of}
use Rattle.pal8_asm.proofs.WholeLemmas.{all_words, has_some, read_refused}
use Rattle.pal8_asm.proofs.assembling.read_whole.Goals as goal

pub returns-in-Err : goal.returns-in-Err
returns-in-Err c =
    read_refused c.args.options (text_of c.args.text.now) c.read.new.self c.in-Err.fault (c.in-Err.ensures c.args.options c.new-assembler.ensures)

pub returns : goal.returns
returns c =
    let reads = c.in-Ok.ensures c.args.options c.new-assembler.ensures in
    let made = c.in-Ok-words.ensures in
    record {
      assembled =
          all_words c.args.options (text_of c.args.text.now) c.read.new.self c.in-Ok.end c.in-Ok-words.made.pools c.in-Ok-words.made.pairs.items c.push_pool.new.pairs.items reads made
          (has_some c.in-Ok-words.made.pairs.items (c.if-is_empty.ensures ∙ ap (λ n. nat_eq n 0) c.in-Ok-words.made.pairs.ok.0)) (c.in_ok-push_pool.ensures made.made.asks made.made.punched made.holds);
      count = c.len-word_count.ensures ∙ c.in-Ok-words.made.pairs.ok.0 ∙ ap length made.words;
      leaves = reads.0;
    }

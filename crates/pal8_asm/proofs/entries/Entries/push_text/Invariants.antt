use Rattle.std.proofs.Common.{◌≡◌, ◌<◌, length}
use Rattle.pal8_asm.specs.Sources.{text_words, with_entries}
use Rattle.pal8_asm.proofs.entries.Entries.push_text.Given as goal

-- the words that are left come after those that were put
abbrev pub invariant-loop-rest : goal.invariant-loop-rest
invariant-loop-rest l = record {
  same :
      with_entries l.at.place l.at.spot (text_words l.fn.options l.rest) l.self ≡ with_entries l.fn.stand.place l.fn.stand.spot (text_words l.fn.options l.fn.string) l.fn.self;
  field : l.at.spot.field < 8;
}

abbrev pub decreases-loop-rest : goal.decreases-loop-rest
decreases-loop-rest l = length l.rest

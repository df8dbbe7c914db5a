-- A tape that was stored is one of the words of its sources.
use Rattle.std.proofs.Common.{◌≡◌, ◌<◌, ℕ, Bool, true, false, List, ◌++◌, ◌*◌, ◌-◌, length, replicate, refl, subst, sym}
use Rattle.std.specs.Borrow.{Bor}
use Rattle.bin_tape.specs.Pairs.{ArePairs, IsTapeOf}
use Rattle.bin_tape.specs.Writing.{tape_of}
use Rattle.char_pack.specs.Packing.{block_count, block_frames}
use Rattle.archive_files.specs.Laws.{whole_blocks}
use Rattle.host_sources.specs.Sources.{newest_first}
use Rattle.pal_asm.specs.Laws as pal3
use Rattle.pal_asm.specs.Words.{pairs_of}
use Rattle.pal_lex.specs.Text.{text_of}
use Rattle.pal8_tape.specs.Joins.{bytes_in, joined_bytes}
use Rattle.pal8_tape.specs.Laws as pal8
use Rattle.program_tasks.specs.declared.tasks.AssembleForm.{AssembleForm}
use Rattle.assemble_commands.specs.Assembling.{options_of}
use Rattle.program_laws.specs.Assembled.{AreWordsIn, IsMapOf, IsTapeIn}

abbrev pub WrittenTape : Type 0
WrittenTape = (pairs : List (ℕ × ℕ)) (rest : List ℕ) → ArePairs pairs → 0 < length pairs → IsTapeOf (tape_of pairs ++ rest) pairs

-- the frames of words, with zeros after them
of-words : WrittenTape → (pairs : List (ℕ × ℕ)) (tape : List ℕ) → tape ≡ tape_of pairs → 0 < length pairs → ArePairs pairs → IsTapeOf (whole_blocks tape) pairs
of-words law pairs tape is some are =
    subst (λ (t : List ℕ). IsTapeOf (t ++ replicate (block_frames * block_count (length tape) - length tape) 0) pairs) (sym is)
    (law pairs (replicate (block_frames * block_count (length tape) - length tape) 0) are some)

pub map-of : WrittenTape → pal3.HasWords → pal8.HasWords → (form : AssembleForm) (is_pal8 : Bool) → form.is_pal8 ≡ is_pal8 → (sources : List (Bor (List ℕ))) (tape : List ℕ) → IsTapeIn is_pal8 form sources tape
    → IsMapOf form sources (whole_blocks tape)
map-of law some3 some8 form true is sources tape p = record {
  pairs = p.pairs;
  are = subst (λ (b : Bool). AreWordsIn b form sources p.pairs) (sym is) p.are_all;
  tape = of-words law p.pairs tape p.are (some8 (options_of form) (text_of (joined_bytes (options_of form) (bytes_in sources))) p.pairs p.are_all);
}
map-of law some3 some8 form false is sources tape p = record {
  pairs = pairs_of (newest_first sources);
  are = subst (λ (b : Bool). AreWordsIn b form sources (pairs_of (newest_first sources))) (sym is) (p.0, refl);
  tape = of-words law (pairs_of (newest_first sources)) tape p.1 (some3 (newest_first sources) p.0);
}

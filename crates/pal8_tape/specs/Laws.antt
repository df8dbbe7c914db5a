-- What holds of each source.
use Rattle.std.specs.Prelude.{◌≡◌, ℕ, ◌≤◌, ◌<◌, take, drop, length, List}
use Rattle.pal8_asm.specs.Assembled.{result_of_text}
use Rattle.pal8_asm.specs.Assembling.{IsAssembled}
use Rattle.pal8_places.specs.declared.options.Options.{Options}
use Rattle.pal8_tape.specs.Mending.{with_part}

-- a text with no fault has a word
abbrev pub HasWords : Type 0
HasWords = (options : Options) (text : List ℕ) (pairs : List (ℕ × ℕ)) → IsAssembled (result_of_text options text) pairs → 0 < length pairs

-- A text in which a statement is made harmless has as many bytes. Those before it and those after it are the same, at the same places.
abbrev pub KeepsOthers : Type 0
KeepsOthers =
    (start end : ℕ) (part text : List ℕ) → start ≤ end → end ≤ length text
    → (length (with_part start end part text) ≡ length text) × (take start (with_part start end part text) ≡ take start text)
    × (drop end (with_part start end part text) ≡ drop end text)

-- The BIN tape of a core image whose words are given by their frames.
use Rattle.std.specs.Prelude.{◌≡◌, ℕ, ◌⊎◌, List}
use Rattle.char_pack.specs.Packing.{words_of_bytes}
use Rattle.core_image.specs.Fault.{IsFault}
use Rattle.core_image.specs.declared.faults.CoreFault.{CoreFault}
use Rattle.core_image.specs.declared.faults.CoreFault.TheVariants.{Memory}

-- memory ran out, or the words of these frames, three for each two of them, are no core image
abbrev pub IsCoreFault : List ℕ → CoreFault → Type 0
IsCoreFault frames fault = (fault ≡ Memory) ⊎ IsFault (words_of_bytes frames) fault

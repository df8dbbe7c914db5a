-- What holds of an image in which a word was patched.
use Rattle.std.specs.Prelude.{◌≡◌, ℕ, ◌+◌, ◌*◌, ◌<◌, Ok, List, length}
use Rattle.volume_image.specs.Image.{AreBytes, image_word}
use Rattle.block_words.specs.Patching.{IsPatched, Patches}

-- patched, and patched back to what stood there, it is as it was
abbrev pub PatchedBack : Type 0
PatchedBack =
    (old new back : List ℕ) (place word : ℕ) → AreBytes old → AreBytes back → 2 * place + 1 < length old → IsPatched old new place word
    → IsPatched new back place (image_word old place) → back ≡ old

-- patched, and patched again with the two words turned round, it is as it was
abbrev pub PatchedTwice : Type 0
PatchedTwice =
    (old new back : List ℕ) (block number one other : ℕ) → AreBytes old → AreBytes back → Patches old block number one other (Ok tt) new
    → Patches new block number other one (Ok tt) back → back ≡ old

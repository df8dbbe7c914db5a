-- What the iterators over words have left to yield.
use Rattle.std.specs.Prelude.{ℕ, List, drop}
use Rattle.char_pack.specs.Packing.{frames}
use Rattle.char_pack.specs.Texts.{characters}
use Rattle.char_pack.specs.declared.reading.Frames.{Frames}
use Rattle.char_pack.specs.declared.texts.Text.{Text}

-- the frames that are left
unfoldable pub frames_left : Frames → List ℕ
frames_left it = drop it.index (frames it.words.now)

-- the characters that are left
unfoldable pub text_left : Text → List ℕ
text_left it = characters (frames_left it.frames)

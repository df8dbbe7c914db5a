-- A file that was fitted, and of which the top bits of words were then taken off, is mended.
use Rattle.std.proofs.Common.{◌≡◌, ◌⊎◌, ℕ, Bool, ◌+◌, ◌-◌, ◌*◌, ◌/◌, ◌%◌, ◌<◌, ◌≤◌, Option, List, length, slice_index, ap, arith, subst, sym, ◌∙◌, inl, inr}
use Rattle.disk_layouts.specs.declared.layouts.Layout.{Layout}
use Rattle.image_kind.specs.Volumes.{volumes_in}
use Rattle.image_kind.specs.Margins.{margins_in}
use Rattle.image_kind.specs.Sizes.{block_words}
use Rattle.image_kind.specs.declared.mending.MendedFile.{MendedFile}
use Rattle.image_kind.specs.Mending.{IsMended, first_of, size_of, wide_words, word_from, words_of}
use Rattle.image_kind.specs.Steps.{AreOff}
use Rattle.image_kind.proofs.WideLemmas.{same_wide, same_words}

-- the words lie within the file
pub words_lie : (given : Option Layout) (is_plain : Bool) (file : List ℕ) → words_of given is_plain file ≤ (size_of given is_plain file - first_of given is_plain file) / 2
words_lie given is_plain file = half (size_of given is_plain file) (margins_in given is_plain file).before (margins_in given is_plain file).after
  where
    half : (z b a : ℕ) → (z - b - a) / 2 ≤ (z - b) / 2
    half z b a = omega arith

pub is_mended : (given : Option Layout) (is_plain : Bool) (file fitted : List ℕ) (it : MendedFile)
    → length fitted ≡ size_of given is_plain file
    → ((k : ℕ) → k < size_of given is_plain file → slice_index fitted k ≡ slice_index file k)
    → AreOff (first_of given is_plain file) (words_of given is_plain file) fitted it.bytes.items
    → it.wide.items ≡ wide_words (block_words (volumes_in given is_plain file)) fitted (first_of given is_plain file) (words_of given is_plain file)
    → it.zeros ≡ size_of given is_plain file - length file → it.cut ≡ length file - size_of given is_plain file
    → IsMended given is_plain file it
is_mended given is_plain file fitted it long same off wide zeros cut =
    let words : (k : ℕ) → k < words_of given is_plain file → word_from fitted (first_of given is_plain file) k ≡ word_from file (first_of given is_plain file) k =
    same_words fitted file (first_of given is_plain file) (words_of given is_plain file) (size_of given is_plain file) (words_lie given is_plain file) same in
    record {
      size = off.size ∙ long;
      words = λ k h. off.words k h ∙ ap (λ w. w % 4096) (words k h);
      others = λ j h out. off.others j out ∙ same j h;
      wide = wide ∙ same_wide (block_words (volumes_in given is_plain file)) fitted file (first_of given is_plain file) (words_of given is_plain file) words;
      zeros = zeros;
      cut = cut;
    }

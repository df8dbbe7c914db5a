-- What is the image of some blocks is an image.
use Rattle.std.proofs.Common.{◌≡◌, ◌*◌, ◌%◌, ◌/◌, ℕ, List, length, arith}
use Rattle.volume_image.specs.Image.{IsImage, IsImageOf}

whole : (size count : ℕ) → size ≡ 512 * count → size % 512 ≡ 0
whole size count is = omega (arith, is)

blocks : (size count : ℕ) → size ≡ 512 * count → size / 512 ≡ count
blocks size count is = omega (arith, is)

pub image_of : (bytes : List ℕ) (volume : List (List ℕ)) → IsImageOf bytes volume → IsImage bytes
image_of bytes volume is = record {
  size = record {
    whole = whole (length bytes) (length volume) is.size;
    least = let same = blocks (length bytes) (length volume) is.size in omega (arith, same, is.volume.least);
    most = let same = blocks (length bytes) (length volume) is.size in omega (arith, same, is.volume.most);
  };
  range = is.range;
}

-- Each piece that is found is a text.
use Rattle.std.proofs.Common.{◌≡◌, ◌∙◌, ℕ, zero, suc, ◌+◌, ◌-◌, ◌*◌, ◌<◌, ◌≤◌, Bool, true, false, Result, Ok, Err, List, [], ◌∷◌, ◌++◌, length, take, drop, length-append, append_assoc, append-nil, refl, sym, ap, subst, arith}
use Rattle.std.specs.Global.{Vec}
use Rattle.std.specs.Prelude.{IfOk}
use Rattle.os8_dir.specs.Files.{join_blocks}
use Rattle.char_pack.specs.declared.packing.TheConstants.{BLOCK_FRAMES}
use Rattle.block_scan.specs.Passages.{passage}
use Rattle.block_scan.specs.Pieces.{AreInside, blocks_in, piece_before, open_after, texts_from}
use Rattle.block_scan.specs.Laws.{ArePieces, EachPieceIsText, IsPiece}
use Rattle.block_scan.specs.declared.passages.Passage.{Passage}
use Rattle.block_scan.specs.declared.passages.Passage.TheVariants.{Goes, Ends, Breaks}
use Rattle.block_scan.specs.declared.texts.Stretch.{Stretch}
use Rattle.block_scan.specs.declared.texts.TextPiece.{TextPiece}
use Rattle.block_scan.proofs.PassageLemmas.{ended-text, goes-on}

-- one block more
pub scan-more : (left block : ℕ) (stretch next : Stretch) (rest here following : List ℕ) (out new all : List TextPiece) → 0 < left → here ≡ take BLOCK_FRAMES rest → following ≡ drop BLOCK_FRAMES rest
    → new ≡ out ++ piece_before stretch (block + 1) (passage stretch.has_graphic here) → next ≡ open_after stretch (block + 1) (passage stretch.has_graphic here)
    → out ++ texts_from stretch block (blocks_in left rest) ≡ all → new ++ texts_from next (block + 1) (blocks_in (left - 1) following) ≡ all
unfolding blocks_in
scan-more zero block stretch next rest here following out new all some is_here is_following is_new is_next before = absurd (omega (arith, some))
scan-more (suc left) block stretch next rest here following out new all some is_here is_following is_new is_next before =
    let less : suc left - 1 ≡ left = omega arith in
    let one : block + 1 ≡ suc block = omega arith in
    let now = take BLOCK_FRAMES rest in
    let later = drop BLOCK_FRAMES rest in
    let way = passage stretch.has_graphic now in
    rw (less, is_new, is_next, is_here, is_following, one)
    (append_assoc out (piece_before stretch (suc block) way) (texts_from (open_after stretch (suc block) way) (suc block) (blocks_in left later)) ∙ before)

pub scan-done : (left block : ℕ) (stretch : Stretch) (rest : List ℕ) (out all : List TextPiece) → left ≡ 0 → out ++ texts_from stretch block (blocks_in left rest) ≡ all → out ≡ all
unfolding blocks_in
scan-done zero block stretch rest out all none before = sym (append-nil out) ∙ before
scan-done (suc left) block stretch rest out all none before = absurd (omega (arith, none))

pub fewer : (count block size rest : ℕ) → block < count → BLOCK_FRAMES * (count - block) ≤ rest → size + BLOCK_FRAMES ≡ rest → BLOCK_FRAMES * (count - (block + 1)) ≤ size
fewer count block size rest low is less = omega (arith, low, is, less)

-- ## Lists

drop-all : {X : Type 0} (xs ys : List X) → drop (length xs) (xs ++ ys) ≡ ys
drop-all [] ys = refl
drop-all (x ∷ xs) ys = drop-all xs ys

take-all : {X : Type 0} (xs ys : List X) → take (length xs) (xs ++ ys) ≡ xs
take-all [] ys = refl
take-all (x ∷ xs) ys = ap (λ l. x ∷ l) (take-all xs ys)

joined-more : (bs : List (List ℕ)) (w : List ℕ) → join_blocks (bs ++ w ∷ []) ≡ join_blocks bs ++ w
joined-more [] w = append-nil w
joined-more (b ∷ bs) w = ap (λ r. b ++ r) (joined-more bs w) ∙ sym (append_assoc b (join_blocks bs) w)

-- ## Where the pieces are

-- of all blocks these are before a stretch, and these are its own; a text goes through them so
record IsOpen (all before own rest : List (List ℕ)) (stretch : Stretch) (block : ℕ) : Type 0 where
  pub split : all ≡ before ++ (own ++ rest)
  pub first : stretch.first ≡ length before
  pub block_is : block ≡ length before + length own
  pub goes : passage false (join_blocks own) ≡ Goes stretch.has_graphic

through : (own : List (List ℕ)) (frames : List ℕ) (seen : Bool) (way : Passage) → passage false (join_blocks own) ≡ Goes seen → passage seen frames ≡ way
    → passage false (join_blocks (own ++ frames ∷ [])) ≡ way
through own frames seen way goes is = ap (passage false) (joined-more own frames) ∙ goes-on (join_blocks own) frames false seen goes ∙ is

-- the stretch with one block more
longer : (all before own rest : List (List ℕ)) (frames : List ℕ) (stretch : Stretch) (block : ℕ) (now : Bool) → IsOpen all before own (frames ∷ rest) stretch block
    → passage stretch.has_graphic frames ≡ Goes now → IsOpen all before (own ++ frames ∷ []) rest (record { first = stretch.first; has_graphic = now }) (suc block)
longer all before own rest frames stretch block now so is = record {
  split = so.split ∙ ap (λ l. before ++ l) (sym (append_assoc own (frames ∷ []) rest));
  first = so.first;
  block_is = omega (arith, so.block_is, length-append own (frames ∷ []));
  goes = through own frames stretch.has_graphic (Goes now) so.goes is;
}

-- a new stretch after the block
anew : (all before own rest : List (List ℕ)) (frames : List ℕ) (stretch : Stretch) (block : ℕ) → IsOpen all before own (frames ∷ rest) stretch block
    → IsOpen all (before ++ (own ++ frames ∷ [])) [] rest (record { first = suc block; has_graphic = false }) (suc block)
anew all before own rest frames stretch block so = record {
  split = so.split ∙ ap (λ l. before ++ l) (sym (append_assoc own (frames ∷ []) rest)) ∙ sym (append_assoc before (own ++ frames ∷ []) rest);
  first = omega (arith, so.block_is, length-append before (own ++ frames ∷ []), length-append own (frames ∷ []));
  block_is = omega (arith, so.block_is, length-append before (own ++ frames ∷ []), length-append own (frames ∷ []));
  goes = refl;
}

piece-there : (all before own rest : List (List ℕ)) (frames : List ℕ) (stretch : Stretch) (block : ℕ) → IsOpen all before own (frames ∷ rest) stretch block
    → passage stretch.has_graphic frames ≡ Ends true → IsPiece all (record { place = stretch.first; size = suc block - stretch.first })
piece-there all before own rest frames stretch block so is =
    let text = own ++ frames ∷ [] in
    let whole : all ≡ before ++ (text ++ rest) = so.split ∙ ap (λ l. before ++ l) (sym (append_assoc own (frames ∷ []) rest)) in
    let size : suc block - stretch.first ≡ length text = omega (arith, so.block_is, so.first, length-append own (frames ∷ [])) in
    record {
      inside = omega (arith, so.block_is, so.first, ap length whole, length-append before (text ++ rest), length-append text rest, length-append own (frames ∷ []));
      text = rw (size, so.first, whole, drop-all before (text ++ rest), take-all text rest) (ended-text (join_blocks text) (through own frames stretch.has_graphic (Ends true) so.goes is));
    }

pieces-by : (way : Passage) (all before own rest : List (List ℕ)) (frames : List ℕ) (stretch : Stretch) (block : ℕ) → IsOpen all before own (frames ∷ rest) stretch block
    → passage stretch.has_graphic frames ≡ way
    → ((before own : List (List ℕ)) (stretch : Stretch) → IsOpen all before own rest stretch (suc block) → ArePieces all (texts_from stretch (suc block) rest))
    → ArePieces all (piece_before stretch (suc block) way ++ texts_from (open_after stretch (suc block) way) (suc block) rest)
pieces-by (Goes now) all before own rest frames stretch block so is next =
    next before (own ++ frames ∷ []) (record { first = stretch.first; has_graphic = now }) (longer all before own rest frames stretch block now so is)
pieces-by (Ends true) all before own rest frames stretch block so is next = (
  piece-there all before own rest frames stretch block so is,
  next (before ++ (own ++ frames ∷ [])) [] (record { first = suc block; has_graphic = false }) (anew all before own rest frames stretch block so),
)
pieces-by (Ends false) all before own rest frames stretch block so is next =
    next (before ++ (own ++ frames ∷ [])) [] (record { first = suc block; has_graphic = false }) (anew all before own rest frames stretch block so)
pieces-by Breaks all before own rest frames stretch block so is next =
    next (before ++ (own ++ frames ∷ [])) [] (record { first = suc block; has_graphic = false }) (anew all before own rest frames stretch block so)

pieces-from : (rest all before own : List (List ℕ)) (stretch : Stretch) (block : ℕ) → IsOpen all before own rest stretch block → ArePieces all (texts_from stretch block rest)
pieces-from [] all before own stretch block so = tt
pieces-from (frames ∷ rest) all before own stretch block so =
    pieces-by (passage stretch.has_graphic frames) all before own rest frames stretch block so refl (λ before' own' stretch' open'. pieces-from rest all before' own' stretch' (suc block) open')

pub all-are-pieces : (blocks : List (List ℕ)) → ArePieces blocks (texts_from (record { first = 0; has_graphic = false }) 0 blocks)
all-are-pieces blocks = pieces-from blocks blocks [] [] (record { first = 0; has_graphic = false }) 0 (record { split = refl; first = refl; block_is = refl; goes = refl })

-- ## Inside

pub blocks-count : (count : ℕ) (frames : List ℕ) → length (blocks_in count frames) ≡ count
unfolding blocks_in
blocks-count zero frames = refl
blocks-count (suc count) frames = ap suc (blocks-count count (drop BLOCK_FRAMES frames))

are-inside : (count : ℕ) (blocks : List (List ℕ)) (pieces : List TextPiece) → length blocks ≡ count → ArePieces blocks pieces → AreInside count pieces
are-inside count blocks [] size are = tt
are-inside count blocks (piece ∷ pieces) size are = (omega (arith, are.0.inside, size), are-inside count blocks pieces size are.1)

-- those that were found, by the law of all
pub found-inside : EachPieceIsText → (count : ℕ) (frames : List ℕ) (pieces : List TextPiece) → pieces ≡ texts_from (record { first = 0; has_graphic = false }) 0 (blocks_in count frames)
    → AreInside count pieces
found-inside each count frames pieces is =
    are-inside count (blocks_in count frames) pieces (blocks-count count frames) (subst (ArePieces (blocks_in count frames)) (sym is) (each (blocks_in count frames)))

pub ok-inside : {E : Type 0} (each : EachPieceIsText) (count : ℕ) (frames : List ℕ) (result : Result (Vec TextPiece) E)
    → IfOk result (λ pieces. pieces.items ≡ texts_from (record { first = 0; has_graphic = false }) 0 (blocks_in count frames)) → IfOk result (λ pieces. AreInside count pieces.items)
ok-inside each count frames (Ok pieces) is = found-inside each count frames pieces.items is
ok-inside each count frames (Err fault) is = tt

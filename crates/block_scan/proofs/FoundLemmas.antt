-- Each whole text is found.
use Rattle.std.proofs.Common.{◌≡◌, ◌∙◌, ℕ, suc, ◌+◌, ◌≤◌, Bool, true, false, List, [], ◌∷◌, ◌++◌, length, ap, subst, arith, inl, inr}
use Rattle.block_scan.specs.Passages.{passage}
use Rattle.block_scan.specs.Pieces.{piece_before, open_after, texts_from}
use Rattle.block_scan.specs.Laws.{Covers, IsWhole}
use Rattle.block_scan.specs.declared.passages.Passage.{Passage}
use Rattle.block_scan.specs.declared.passages.Passage.TheVariants.{Goes, Ends, Breaks}
use Rattle.block_scan.specs.declared.texts.Stretch.{Stretch}
use Rattle.block_scan.specs.declared.texts.TextPiece.{TextPiece}
use Rattle.block_scan.proofs.PassageLemmas.{seen-before, with_seen}

covers-following : (xs ys : List TextPiece) (place end : ℕ) → Covers ys place end → Covers (xs ++ ys) place end
covers-following [] ys place end is = is
covers-following (x ∷ xs) ys place end is = inr (covers-following xs ys place end is)

-- a whole text is one too where a graphic character came before
whole-seen : (text : List (List ℕ)) (seen : Bool) → IsWhole seen text → IsWhole true text
whole-seen [] seen whole = whole
whole-seen (frames ∷ []) seen whole = seen-before frames seen ∙ ap with_seen whole
whole-seen (frames ∷ more ∷ rest) seen whole = (true, seen-before frames seen ∙ ap with_seen whole.1, whole-seen (more ∷ rest) whole.0 whole.2)

-- a text that begins at the block, where a stretch comes to it that has just this before
covered : (text following : List (List ℕ)) (stretch : Stretch) (block place : ℕ) → stretch.first ≤ place → stretch.first ≤ block → IsWhole stretch.has_graphic text
    → Covers (texts_from stretch block (text ++ following)) place (block + length text)
covered [] following stretch block place first low whole = absurd whole
covered (frames ∷ []) following stretch block place first low whole = rw whole (inl (first, omega (arith, low)))
covered (frames ∷ more ∷ rest) following stretch block place first low whole =
    rw whole.1
    (subst (Covers (texts_from (record { first = stretch.first; has_graphic = whole.0 }) (suc block) ((more ∷ rest) ++ following)) place) (omega arith)
    (covered (more ∷ rest) following (record { first = stretch.first; has_graphic = whole.0 }) (suc block) place first (omega (arith, low)) whole.2))

first-following : (stretch : Stretch) (block : ℕ) (way : Passage) → stretch.first ≤ block → (open_after stretch (suc block) way).first ≤ suc block
first-following stretch block (Goes seen) low = omega (arith, low)
first-following stretch block (Ends seen) low = omega arith
first-following stretch block Breaks low = omega arith

whole-by : (seen : Bool) (text : List (List ℕ)) → IsWhole false text → IsWhole seen text
whole-by true text whole = whole-seen text false whole
whole-by false text whole = whole

found-following : (before text following : List (List ℕ)) (stretch : Stretch) (block : ℕ) → stretch.first ≤ block → IsWhole false text
    → Covers (texts_from stretch block (before ++ (text ++ following))) (block + length before) (block + length before + length text)
found-following [] text following stretch block low whole =
    let here : block + 0 ≡ block = omega arith in
    rw here (covered text following stretch block block low low (whole-by stretch.has_graphic text whole))
found-following (frames ∷ before) text following stretch block low whole =
    let way = passage stretch.has_graphic frames in
    let one : block + suc (length before) ≡ suc block + length before = omega arith in
    rw one
    (covers-following (piece_before stretch (suc block) way) (texts_from (open_after stretch (suc block) way) (suc block) (before ++ (text ++ following))) (suc block + length before)
    (suc block + length before + length text)
    (found-following before text following (open_after stretch (suc block) way) (suc block) (first-following stretch block way low) whole))

pub text-is-found : (before text following : List (List ℕ)) → IsWhole false text
    → Covers (texts_from (record { first = 0; has_graphic = false }) 0 (before ++ (text ++ following))) (length before) (length before + length text)
text-is-found before text following whole =
    let here : 0 + length before ≡ length before = omega arith in
    rw here at (found-following before text following (record { first = 0; has_graphic = false }) 0 (omega arith) whole)

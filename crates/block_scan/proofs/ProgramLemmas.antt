-- Programs with more after them, and which of them are found.
use Rattle.std.proofs.Common.{◌≡◌, ◌∙◌, ℕ, zero, suc, ◌+◌, ◌-◌, ◌*◌, ◌/◌, ◌<◌, ◌≤◌, false, true≢false, List, [], ◌∷◌, ◌++◌, length, length-append, take, drop, append_assoc, append-nil, refl, sym, ap, subst, arith, inl, inr}
use Rattle.std.specs.Prelude.{slice_index}
use Rattle.std.proofs.lemmas.Bool.{cases_lt}
use Rattle.word12.specs.declared.sizes.TheConstants.{BLOCK}
use Rattle.char_pack.specs.Packing.{frames}
use Rattle.char_pack.specs.declared.packing.TheConstants.{BLOCK_FRAMES}
use Rattle.bin_tape.specs.Items.{Item}
use Rattle.bin_tape.specs.Tape.{IsTape}
use Rattle.core_image.specs.Segments.{AreSegments}
use Rattle.core_image.specs.Fault.{IsSomeImage}
use Rattle.rim_tape.specs.Fault.{IsSomeRim}
use Rattle.file_kind.specs.Kinds.{IsSomeTape}
use Rattle.block_scan.specs.Laws.{ArePrograms, EachProgramGoesOn, HasBlock}
use Rattle.block_scan.specs.Programs.{AreProgramsFrom, AreProgramsOf, BeginsAt, BeginsNone, BeginsNoneIn, Heads, IsProgram, frames_from, is_blank, words_from}
use Rattle.block_scan.specs.declared.kinds.ProgramKind.{ProgramKind}
use Rattle.block_scan.specs.declared.kinds.ProgramKind.TheVariants.{Core, Bin, Rim}
use Rattle.block_scan.specs.declared.programs.Program.{Program}

-- ## Lists

index-front : (xs ys : List ℕ) (i : ℕ) → i < length xs → slice_index (xs ++ ys) i ≡ slice_index xs i
index-front [] ys i low = absurd (omega (arith, low))
index-front (x ∷ xs) ys zero low = refl
index-front (x ∷ xs) ys (suc i) low = index-front xs ys i (omega (arith, low))

take-nil : (n : ℕ) → take {A = ℕ} n [] ≡ []
take-nil zero = refl
take-nil (suc n) = refl

take-more : (n k : ℕ) (xs : List ℕ) → take (n + k) xs ≡ take n xs ++ take k (drop n xs)
take-more zero k xs =
    let same : 0 + k ≡ k = omega arith in
    ap (λ m. take m xs) same
take-more (suc n) k [] = take-nil (suc n + k) ∙ sym (take-nil k)
take-more (suc n) k (x ∷ xs) =
    let same : suc n + k ≡ suc (n + k) = omega arith in
    ap (λ m. take m (x ∷ xs)) same ∙ ap (λ l. x ∷ l) (take-more n k xs)

-- ## With more after

pub more-tape : ((frames more : List ℕ) (items : List Item) → IsTape frames items → IsTape (frames ++ more) items) → (frames more : List ℕ) → IsSomeTape frames → IsSomeTape (frames ++ more)
more-tape law frames more tape = record { items = tape.items; is_tape = law frames more tape.items tape.is_tape }

pub more-rim : (frames more : List ℕ) → IsSomeRim frames → IsSomeRim (frames ++ more)
more-rim frames more rim = record {
  pairs = rim.pairs;
  is_rim = record {
    leader = rim.is_rim.leader;
    rest = rim.is_rim.rest ++ more;
    frames_are = ap (λ f. f ++ more) rim.is_rim.frames_are ∙ append_assoc _ (0o200 ∷ rim.is_rim.rest) more;
    some = rim.is_rim.some;
    words = rim.is_rim.words;
  };
}

more-segments : (words more : List ℕ) (segments : List (ℕ × ℕ)) → length segments ≤ 126 → BLOCK ≤ length words → AreSegments words segments → AreSegments (words ++ more) segments
more-segments words more [] few whole are = tt
more-segments words more (segment ∷ older) few whole are = (
  index-front words more (4 + 2 * length older) (omega (arith, few, whole)) ∙ are.0,
  index-front words more (5 + 2 * length older) (omega (arith, few, whole)) ∙ are.1,
  are.2,
  are.3,
  omega (arith, are.4, length-append words more),
  more-segments words more older (omega (arith, few)) whole are.5,
)

more-image : (words more : List ℕ) → IsSomeImage words → IsSomeImage (words ++ more)
more-image words more image =
    let is = image.is_image in
    let first : slice_index (words ++ more) 0 ≡ slice_index words 0 = index-front words more 0 (omega (arith, is.head.whole)) in
    let second : slice_index (words ++ more) 1 ≡ slice_index words 1 = index-front words more 1 (omega (arith, is.head.whole)) in
    record {
      pairs = _;
      start = _;
      status = _;
      is_image = record {
        head = record {
          whole = omega (arith, is.head.whole, length-append words more);
          count = rw first is.head.count;
          start = rw second is.head.start;
        };
        segments = is.segments;
        are = more-segments words more is.segments (omega (arith, is.all, is.head.count.0)) is.head.whole is.are;
        all = rw first is.all;
        pairs_are = refl;
        start_is = refl;
        status_is = refl;
      };
    }

more-program : ((frames more : List ℕ) (items : List Item) → IsTape frames items → IsTape (frames ++ more) items) → (kind : ProgramKind) (words all more_words more : List ℕ) → IsProgram kind words all
    → IsProgram kind (words ++ more_words) (all ++ more)
more-program law Core words all more_words more is = more-image words more_words is
more-program law Bin words all more_words more is = more-tape law all more is
more-program law Rim words all more_words more is = more-rim all more is

pub goes-on : ((frames more : List ℕ) (items : List Item) → IsTape frames items → IsTape (frames ++ more) items) → EachProgramGoesOn
goes-on law kind words all few many low heads =
    let block : BLOCK * many ≡ BLOCK * few + BLOCK * (many - few) = omega (arith, low) in
    let frame : BLOCK_FRAMES * many ≡ BLOCK_FRAMES * few + BLOCK_FRAMES * (many - few) = omega (arith, low) in
    rw (block, frame, take-more (BLOCK * few) (BLOCK * (many - few)) words, take-more (BLOCK_FRAMES * few) (BLOCK_FRAMES * (many - few)) all)
    (more-program law kind (take (BLOCK * few) words) (take (BLOCK_FRAMES * few) all) _ _ heads)

-- ## One after another

none-from : (words : List ℕ) (count block to : ℕ) → BeginsNone (words_from words block) (frames_from words block) (count - block) → BeginsNoneIn words count (block + 1) to → BeginsNoneIn words count block to
none-from words count block to none later = λ place from before.
    elim (cases_lt block place) [
      | inl above ↦ later place (omega (arith, above)) before
      | inr below ↦ let same : block ≡ place = omega (arith, from, below) in rw same at none
    ]

pub skip-one : (words : List ℕ) (count block : ℕ) (programs : List Program) → BeginsNone (words_from words block) (frames_from words block) (count - block) → AreProgramsFrom words count (block + 1) programs
    → AreProgramsFrom words count block programs
skip-one words count block [] none are = none-from words count block count none are
skip-one words count block (program ∷ programs) none are = (omega (arith, are.0), none-from words count block program.place none are.1, are.2, are.3)

pub one-more : (words : List ℕ) (count block : ℕ) (program : Program) (programs : List Program) → program.place ≡ block → BeginsAt words count program → AreProgramsFrom words count (block + program.size) programs
    → AreProgramsFrom words count block (program ∷ programs)
one-more words count block program programs here begins later = (
  omega (arith, here),
  λ place from before. absurd (omega (arith, here, from, before)),
  begins,
  rw here later,
)

pub none-left : (words : List ℕ) (count block : ℕ) → count ≤ block → AreProgramsFrom words count block []
none-left words count block done = λ place from before. absurd (omega (arith, done, from, before))

pub skip-here : (words all here there : List ℕ) (count block : ℕ) (programs : List Program) → here ≡ drop (BLOCK * block) words → there ≡ drop (BLOCK_FRAMES * block) all → all ≡ frames words
    → BeginsNone here there (count - block) → AreProgramsFrom words count (block + 1) programs → AreProgramsFrom words count block programs
skip-here words all here there count block programs is_here is_there is_all none later =
    skip-one words count block programs
    (subst (λ w. BeginsNone w (frames_from words block) (count - block)) is_here
    (subst (λ f. BeginsNone here f (count - block)) (is_there ∙ ap (drop (BLOCK_FRAMES * block)) is_all) none)) later

pub all-told : (words : List ℕ) (count block : ℕ) (programs : List Program) → count ≡ length words / BLOCK
    → ((more : List Program) → AreProgramsFrom words count block more → AreProgramsFrom words count 0 (programs ++ more)) → count ≤ block → AreProgramsOf words programs
all-told words count block programs is_count are done =
    subst (λ n. AreProgramsFrom words n 0 programs) is_count (subst (λ l. AreProgramsFrom words count 0 l) (append-nil programs) (are [] (none-left words count block done)))

-- ## What is told is there, and all of it

pub are-there : (words : List ℕ) (count block : ℕ) (programs : List Program) → AreProgramsFrom words count block programs → ArePrograms words programs
are-there words count block [] are = tt
are-there words count block (program ∷ programs) are = (are.2.fewest.heads, are-there words count (program.place + program.size) programs are.3)

none-is-headed : (words all : List ℕ) (left size : ℕ) (kind : ProgramKind) → BeginsNone words all left → is_blank all ≡ false → 0 < size → size ≤ left → Heads kind words all size → ⊥
none-is-headed words all left size kind (inl blank) not some few heads = true≢false (sym blank ∙ not)
none-is-headed words all left size Core (inr none) not some few heads = none.0 size some few heads
none-is-headed words all left size Bin (inr none) not some few heads = none.1 size some few heads
none-is-headed words all left size Rim (inr none) not some few heads = none.2 size some few heads

pub is-found : (words : List ℕ) (count block : ℕ) (programs : List Program) (kind : ProgramKind) (place size : ℕ) → AreProgramsFrom words count block programs → block ≤ place → place + size ≤ count → 0 < size
    → is_blank (frames_from words place) ≡ false → Heads kind (words_from words place) (frames_from words place) size → HasBlock programs place
is-found words count block [] kind place size are following inside some not heads =
    none-is-headed (words_from words place) (frames_from words place) (count - place) size kind (are place following (omega (arith, inside, some))) not some (omega (arith, inside)) heads
is-found words count block (program ∷ programs) kind place size are following inside some not heads =
    elim (cases_lt place program.place) [
      | inl before ↦ absurd
          (none-is-headed (words_from words place) (frames_from words place) (count - place) size kind (are.1 place following before) not some (omega (arith, inside)) heads)
      | inr from ↦ elim (cases_lt place (program.place + program.size)) [
        | inl within ↦ inl (from, within)
        | inr after ↦ inr (is-found words count (program.place + program.size) programs kind place size are.3 after inside some not heads)
      ]
    ]

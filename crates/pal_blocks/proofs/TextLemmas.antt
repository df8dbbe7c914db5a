-- Characters of texts and of blocks.
use Rattle.std.proofs.Common.{◌≡◌, ◌≢◌, ◌∙◌, inl, inr, ℕ, ◌+◌, ◌*◌, ◌%◌, ◌<◌, ◌≤◌, nat_eq, true, false, if◌then◌else◌, suc, List, [], ◌∷◌, ◌++◌, length, take, drop, slice_index, refl, ap, sym, arith, add-one, append_assoc, append-nil}
use Rattle.std.proofs.Math.Seq.{take-suc, take-add, drop-cons}
use Rattle.std.proofs.lemmas.List.{take-append-drop, take_all, length-take-le}
use Rattle.std.proofs.lemmas.Bool.Decides.{eqb_tells}
use Rattle.char_pack.specs.Packing.{frames}
use Rattle.char_pack.specs.Texts.{characters, is_ended, text}
use Rattle.pal_lex.specs.Text.{text_from, text_of}
use Rattle.char_pack.proofs.FrameLemmas.{length-frames}
use Rattle.pal_blocks.specs.Blocks.{first_blocks, block_at}
use Rattle.pal_blocks.specs.Passing.{text_in, characters_added}

-- the laws of texts that are used
abbrev pub JoinedCharacters : Type 0
JoinedCharacters = (frames others : List ℕ) → characters (frames ++ others) ≡ characters frames ++ (if is_ended frames then [] else characters others)

abbrev pub JoinedEnd : Type 0
JoinedEnd = (frames others : List ℕ) → is_ended (frames ++ others) ≡ (if is_ended frames then true else is_ended others)

-- ## Texts

-- more bytes stand before a text, which has its newest first
pub from_after : (bytes text : List ℕ) → (later : List ℕ) × (text_from text bytes ≡ later ++ text)
from_after [] text = ([], refl)
from_after (b ∷ bytes) text =
    let rest = from_after bytes (b ∷ text) in
    (rest.0 ++ b ∷ [], rest.1 ∙ sym (append_assoc rest.0 (b ∷ []) text))

pub from_both : (bytes others text : List ℕ) → text_from text (bytes ++ others) ≡ text_from (text_from text bytes) others
from_both [] others text = refl
from_both (b ∷ bytes) others text = from_both bytes others (b ∷ text)

pub the_rest : (here bytes : List ℕ) (i : ℕ) → text_from here bytes ≡ text_from (text_from here (take i bytes)) (drop i bytes)
the_rest here bytes i = ap (text_from here) (sym (take-append-drop i bytes)) ∙ from_both (take i bytes) (drop i bytes) here

pub all_taken : (here bytes : List ℕ) (i : ℕ) → length bytes ≤ i → text_from here (take i bytes) ≡ text_from here bytes
all_taken here bytes i long = ap (text_from here) (take_all i bytes long)

-- ## Frames

pub block_frames : (block : List ℕ) → length block ≡ 256 → length (frames block) ≡ 384
block_frames block whole = omega (arith, length-frames block, whole)

pub is_eq : (n m : ℕ) → n ≡ m → nat_eq n m ≡ true
is_eq n m same = elim (eqb_tells n m) [ inl h ↦ h.0 | inr h ↦ absurd (h.1 same) ]

pub not_eq : (n m : ℕ) → n ≢ m → nat_eq n m ≡ false
not_eq n m other = elim (eqb_tells n m) [ inl h ↦ absurd (other h.1) | inr h ↦ h.0 ]

-- the first control Z among frames ends their text
pub ended_at : JoinedCharacters → JoinedEnd → (fs : List ℕ) (i frame : ℕ) → i < length fs → frame ≡ slice_index fs i → nat_eq (frame % 128) 26 ≡ true → is_ended (take i fs) ≡ false
    → (characters fs ≡ characters (take i fs)) × (is_ended fs ≡ true)
ended_at chars ends fs i frame inside is last not = (
  ap characters split ∙ chars (take i fs) (frame ∷ drop (suc i) fs) ∙ ap (λ b. characters (take i fs) ++ (if b then [] else characters (frame ∷ drop (suc i) fs))) not
      ∙ ap (λ b. characters (take i fs) ++ (if b then [] else (frame % 128) ∷ characters (drop (suc i) fs))) last ∙ append-nil (characters (take i fs)),
  ap is_ended split ∙ ends (take i fs) (frame ∷ drop (suc i) fs) ∙ ap (λ b. if b then true else is_ended (frame ∷ drop (suc i) fs)) not
      ∙ ap (λ b. if b then true else is_ended (drop (suc i) fs)) last,
)
  where
    split : fs ≡ take i fs ++ frame ∷ drop (suc i) fs
    split = sym (take-append-drop i fs) ∙ ap (λ l. take i fs ++ l) (drop-cons fs i 0 inside) ∙ ap (λ f. take i fs ++ f ∷ drop (suc i) fs) (sym is)

-- another frame adds a character
pub one_character : JoinedCharacters → JoinedEnd → (fs : List ℕ) (i frame : ℕ) → i < length fs → frame ≡ slice_index fs i → nat_eq (frame % 128) 26 ≡ false → is_ended (take i fs) ≡ false
    → (characters (take (i + 1) fs) ≡ characters (take i fs) ++ (frame % 128) ∷ []) × (is_ended (take (i + 1) fs) ≡ false)
one_character chars ends fs i frame inside is other not = (
  ap characters split ∙ chars (take i fs) (frame ∷ []) ∙ ap (λ b. characters (take i fs) ++ (if b then [] else characters (frame ∷ []))) not
      ∙ ap (λ b. characters (take i fs) ++ (if b then [] else (frame % 128) ∷ [])) other,
  ap is_ended split ∙ ends (take i fs) (frame ∷ []) ∙ ap (λ b. if b then true else is_ended (frame ∷ [])) not
      ∙ ap (λ b. if b then true else false) other,
)
  where
    one : take (i + 1) fs ≡ take i fs ++ slice_index fs i ∷ []
    one = rw add-one (take-suc fs i 0 inside)

    split : take (i + 1) fs ≡ take i fs ++ frame ∷ []
    split = one ∙ ap (λ f. take i fs ++ f ∷ []) (sym is)

-- ## Blocks

pub frames-append : (words others : List ℕ) → length words % 2 ≡ 0 → frames (words ++ others) ≡ frames words ++ frames others
frames-append [] others even = refl
frames-append (first ∷ []) others even = absurd (omega (arith, even))
frames-append (first ∷ second ∷ words) others even = rw (frames-append words others (omega (arith, even))) refl

-- one block more
pub one_block : (done : ℕ) (words : List ℕ) → 256 * (done + 1) ≤ length words
    → frames (first_blocks (done + 1) words) ≡ frames (first_blocks done words) ++ frames (block_at done words)
one_block done words inside =
    let more : 256 * (done + 1) ≡ 256 * done + 256 = omega arith in
    ap (λ n. frames (take n words)) more
    ∙ ap frames (take-add (256 * done) 256 words)
    ∙ frames-append (take (256 * done) words) (take 256 (drop (256 * done) words)) (omega (arith, length-take-le (256 * done) words (omega (arith, inside))))

-- the text of frames and a block, by the characters that the block adds
pub block_text : JoinedCharacters → (given block : List ℕ) → text_in (given ++ frames block) ≡ text_from (text_in given) (characters_added given block)
block_text chars given block = ap text_of (chars given (frames block)) ∙ from_both (characters given) (characters_added given block) []

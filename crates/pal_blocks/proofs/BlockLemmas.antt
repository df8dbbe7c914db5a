-- A pass in a source, a block at a time.
use Rattle.std.proofs.Common.{◌≡◌, ◌∙◌, inl, inr, ℕ, ◌≤◌, Bool, true, false, true≢false, if◌then◌else◌, None, List, [], ◌∷◌, ◌++◌, length, take, drop, Result, Ok, Err, refl, ap, sym, subst, arith, append_assoc}
use Rattle.char_pack.specs.Packing.{frames}
use Rattle.char_pack.specs.Texts.{characters, is_ended}
use Rattle.pal_lex.specs.Text.{text_from}
use Rattle.pal_lex.specs.Progress as lex
use Rattle.pal_lex.specs.Joins.{join_of}
use Rattle.pal_asm.specs.Places.{Source, values}
use Rattle.pal_asm.specs.Faults.{first_order, words_fault}
use Rattle.pal_faults.specs.declared.assembling.AsmFault.{AsmFault}
use Rattle.pal_faults.specs.declared.assembling.AsmFault.TheVariants.{At, Memory}
use Rattle.pal_asm.specs.declared.passing.Pass.{Pass}
use Rattle.pal_blocks.specs.Passing.{text_in, characters_added}
use Rattle.pal_asm.specs.Passing.{Counts, Pause, Stands, StandsAfter, TellsJoinFault, HasPassed, SettlesIn, PassesTo, HasMade, IsWithin, MakesTo}
use Rattle.pal_blocks.specs.Steps.{PassesBlock, MakesBlock}
use Rattle.pal_blocks.proofs.TextLemmas.{JoinedCharacters, JoinedEnd, block_text, from_after, the_rest, all_taken}

-- after PAUSE anything may come
pub paused_more : (lexer : lex.Progress) (prefix : List ℕ) (several : Bool) (here bytes : List ℕ) (Fits : Source → Type 0) → Pause lexer prefix several here Fits → Pause lexer prefix several (text_from here bytes) Fits
paused_more lexer prefix several here bytes Fits p =
    let rest = from_after bytes here in
    record {
      cut = p.cut;
      paused = p.paused;
      clear = p.clear;
      follows = p.follows;
      joins = λ later next others.
          ap (λ t. join_of (t ∷ next ∷ others) ++ prefix) (ap (λ t. later ++ t) rest.1 ∙ sym (append_assoc later rest.0 here)) ∙ p.joins (later ++ rest.0) next others;
      at = p.at;
    }

-- the characters that a block adds where no control Z has come
pub all_added : (given block text : List ℕ) → is_ended given ≡ false → text ≡ characters (frames block) → characters_added given block ≡ text
all_added given block text not is = ap (λ b. if b then [] else characters (frames block)) not ∙ sym is

-- a block is read from a place on
pub begins_block : (lexer : lex.Progress) (ended : Bool) (prefix : List ℕ) (several : Bool) (given block text : List ℕ) (offset : ℕ) (Fits : Source → Type 0) → ended ≡ false → text ≡ characters (frames block)
    → Stands lexer ended prefix several (text_from (text_in given) (take offset (characters_added given block))) (is_ended given) Fits
    → (is_ended given ≡ false) × Stands lexer ended prefix several (text_from (text_in given) (take offset text)) false Fits
begins_block lexer ended prefix several given block text offset Fits going is stands = elim stands [
  | inl counts ↦
      let not = sym counts.0 ∙ going in
      (not, inl (going, subst (λ l. Counts lexer prefix several (text_from (text_in given) (take offset l)) Fits) (all_added given block text not is) counts.1))
  | inr paused ↦ absurd (true≢false (sym paused.0 ∙ going))
]

whether : (last : Bool) → (if last then true else false) ≡ last
whether true = refl
whether false = refl

either_way : (last : Bool) → (if last then true else true) ≡ true
either_way true = refl
either_way false = refl

-- a block was read to its end
pub ends_block : JoinedCharacters → JoinedEnd → (lexer : lex.Progress) (ended : Bool) (prefix : List ℕ) (several : Bool) (given block text : List ℕ) (offset : ℕ) (last : Bool) (Fits : Source → Type 0) → is_ended given ≡ false
    → text ≡ characters (frames block) → length text ≤ offset → is_ended (frames block) ≡ last
    → Stands lexer ended prefix several (text_from (text_in given) (take offset text)) false Fits
    → Stands lexer (if last then true else ended) prefix several (text_in (given ++ frames block)) (is_ended (given ++ frames block)) Fits
ends_block chars ends lexer ended prefix several given block text offset last Fits not is long at_end stands = elim stands [
  | inl counts ↦
      inl (ap (λ e. if last then true else e) counts.0 ∙ whether last ∙ sym ended_is, subst (λ t. Counts lexer prefix several t Fits) (sym text_is) counts.1)
  | inr paused ↦
      inr (ap (λ e. if last then true else e) paused.0 ∙ either_way last, subst (λ t. Pause lexer prefix several t Fits) (sym text_is) paused.1)
]
  where
    ended_is : is_ended (given ++ frames block) ≡ last
    ended_is = ends given (frames block) ∙ ap (λ b. if b then true else is_ended (frames block)) not ∙ at_end

    text_is : text_in (given ++ frames block) ≡ text_from (text_in given) (take offset text)
    text_is = block_text chars given block ∙ ap (text_from (text_in given)) (all_added given block text not is) ∙ sym (all_taken (text_in given) text offset long)

-- nothing more of the source is read
pub skips_block : JoinedCharacters → JoinedEnd → (lexer : lex.Progress) (ended : Bool) (prefix : List ℕ) (several : Bool) (given block : List ℕ) (offset : ℕ) (Fits : Source → Type 0) → ended ≡ true
    → Stands lexer ended prefix several (text_from (text_in given) (take offset (characters_added given block))) (is_ended given) Fits
    → Stands lexer ended prefix several (text_in (given ++ frames block)) (is_ended (given ++ frames block)) Fits
skips_block chars ends lexer ended prefix several given block offset Fits done stands = elim stands [
  | inl counts ↦
      let last = sym counts.0 ∙ done in
      inl (
        done ∙ sym (ends given (frames block) ∙ ap (λ b. if b then true else is_ended (frames block)) last),
        subst (λ t. Counts lexer prefix several t Fits) (all_taken (text_in given) (characters_added given block) offset (nothing last) ∙ sym (block_text chars given block)) counts.1,
      )
  | inr paused ↦
      inr (
        paused.0,
        subst (λ t. Pause lexer prefix several t Fits) (sym (block_text chars given block ∙ the_rest (text_in given) (characters_added given block) offset))
            (paused_more lexer prefix several (text_from (text_in given) (take offset (characters_added given block))) (drop offset (characters_added given block)) Fits paused.1),
      )
]
  where
    nothing : is_ended given ≡ true → length (characters_added given block) ≤ offset
    nothing last = subst (λ (l : List ℕ). length l ≤ offset) (sym (ap (λ b. if b then [] else characters (frames block)) last)) (omega arith)

-- ## The first pass

-- a block after the end of what is read of a source
pub block_skipped : JoinedCharacters → JoinedEnd → (pass new : Pass) (prefix : List ℕ) (several : Bool) (given block : List ℕ) (offset : ℕ) (r : Result (Unit {0}) AsmFault) → pass.is_at_end ≡ true
    → ((prefix here : List ℕ) (several is_last : Bool) → HasPassed pass prefix several here is_last → SettlesIn prefix several here is_last r new) → (r ≡ Ok tt → new.waiting ≡ None)
    → HasPassed pass prefix several (text_from (text_in given) (take offset (characters_added given block))) (is_ended given) → PassesBlock prefix several given block offset r new
block_skipped chars ends pass new prefix several given block offset (Ok tt) done settles none has = (
  settles prefix (text_in (given ++ frames block)) several (is_ended (given ++ frames block))
      (skips_block chars ends pass.lexer pass.is_at_end prefix several given block offset (λ s. StandsAfter pass.waiting pass.assembler s) done has),
  none refl,
)
block_skipped chars ends pass new prefix several given block offset (Err Memory) done settles none has = settles prefix _ several (is_ended given) has
block_skipped chars ends pass new prefix several given block offset (Err (At code line)) done settles none has =
    settles prefix (text_in (given ++ frames block)) several (is_ended (given ++ frames block))
    (skips_block chars ends pass.lexer pass.is_at_end prefix several given block offset (λ s. StandsAfter pass.waiting pass.assembler s) done has)

-- characters of a block were refused, or memory ran out
pub block_refused : JoinedCharacters → (prefix : List ℕ) (several : Bool) (given block text : List ℕ) (offset : ℕ) (new : Pass) (f : AsmFault) → is_ended given ≡ false → text ≡ characters (frames block)
    → PassesTo prefix several (text_in given) text offset (Err f) new → PassesBlock prefix several given block offset (Err f) new
block_refused chars prefix several given block text offset new (At code line) not is tells =
    subst (λ t. TellsJoinFault first_order prefix several t (At code line)) (sym (block_text chars given block ∙ ap (text_from (text_in given)) (all_added given block text not is))) tells
block_refused chars prefix several given block text offset new Memory not is has =
    subst (λ b. HasPassed new prefix several (text_from (text_in given) (take offset (characters_added given block))) b) (sym not)
    (subst (λ l. HasPassed new prefix several (text_from (text_in given) (take offset l)) false) (sym (all_added given block text not is)) has)

-- ## The second pass

pub block_not_made : JoinedCharacters → (whole : Source) (prefix : List ℕ) (several : Bool) (given block text : List ℕ) (offset : ℕ) (new : Pass) (pairs : List (ℕ × ℕ)) (f : AsmFault) → is_ended given ≡ false → text ≡ characters (frames block)
    → MakesTo whole prefix several (text_in given) text offset (Err f) new pairs → MakesBlock whole prefix several given block offset (Err f) new pairs
block_not_made chars whole prefix several given block text offset new pairs (At code line) not is tells =
    subst (λ t. TellsJoinFault (words_fault (values whole)) prefix several t (At code line)) (sym (block_text chars given block ∙ ap (text_from (text_in given)) (all_added given block text not is))) tells
block_not_made chars whole prefix several given block text offset new pairs Memory not is has =
    subst (λ b. HasMade whole new pairs prefix several (text_from (text_in given) (take offset (characters_added given block))) b) (sym not)
    (subst (λ l. HasMade whole new pairs prefix several (text_from (text_in given) (take offset l)) false) (sym (all_added given block text not is)) has)

-- the characters of a block are in the whole where the block is
pub within_block : JoinedCharacters → (whole : Source) (prefix : List ℕ) (several : Bool) (given block text : List ℕ) → is_ended given ≡ false → text ≡ characters (frames block)
    → IsWithin whole prefix several (text_in (given ++ frames block)) → IsWithin whole prefix several (text_from (text_in given) text)
within_block chars whole prefix several given block text not is within =
    subst (λ t. IsWithin whole prefix several t) (block_text chars given block ∙ ap (text_from (text_in given)) (all_added given block text not is)) within

-- The beginning.
use Rattle.std.proofs.Common.{◌≡◌, ◌∙◌, inl, inr, ℕ, ◌+◌, ◌-◌, ◌<◌, ◌≤◌, nat_lt, true, false, if◌then◌else◌, suc, Option, None, List, [], ◌∷◌, length, refl, ap, sym, subst, arith, append-nil}
use Rattle.std.proofs.lemmas.Bool.Decides.{leb_tells}
use Rattle.pal_lex.specs.Statements.{statements, first_fault}
use Rattle.char_pack.specs.Packing.{frames}
use Rattle.pal_lex.specs.Laws.{has_next}
use Rattle.pal_lex.specs.Reading.{HasRead}
use Rattle.char_pack.specs.Texts.{is_ended}
use Rattle.pal_asm.specs.Passes.{IsFirst}
use Rattle.pal_asm.specs.Faults.{first_of, first_order, no_end}
use Rattle.pal_faults.specs.declared.assembling.AsmFault.{AsmFault}
use Rattle.pal_asm.proofs.TextLemmas.{nothing_read}
use Rattle.pal_blocks.specs.Blocks.{blocks_among, blocks_of_each, first_blocks, first_among, AreFiles, assembling_turns, turn_of}
use Rattle.pal_blocks.specs.Sources.{newest_first}
use Rattle.pal_blocks.specs.Schedule.{joined_blocks, from_turn, known_again, fault_at_turn}
use Rattle.pal_asm.specs.Passing.{StandsAfter, Counts}
use Rattle.pal_blocks.specs.Progress.{Place, GoesOn, text_taken, IsAssembling}
use Rattle.pal_blocks.specs.declared.assembling.Assembling.{Assembling}

pub lt_true : (a b : ℕ) → a < b → nat_lt a b ≡ true
lt_true a b low = elim (leb_tells (suc a) b) [ inl h ↦ h.0 | inr h ↦ absurd (omega (arith, h.1, low)) ]

pub lt_false : (a b : ℕ) → b ≤ a → nat_lt a b ≡ false
lt_false a b high = elim (leb_tells (suc a) b) [ inl h ↦ absurd (omega (arith, h.1, high)) | inr h ↦ h.0 ]

-- no block has a text
pub no_text : (sources : List (List ℕ)) → newest_first (first_among 0 sources) ≡ []
no_text [] = refl
no_text (words ∷ []) = refl
no_text (words ∷ next ∷ others) = refl

pub some_block : (sources : List (List ℕ)) → 0 < length sources → AreFiles sources → 0 < blocks_among sources
some_block [] some are = absurd (omega (arith, some))
some_block (words ∷ others) some are = omega (arith, are.1)

pub some_joined : (sources : List (List ℕ)) → 0 < length sources → AreFiles sources → 0 < joined_blocks sources
some_joined [] some are = absurd (omega (arith, some))
some_joined (words ∷ []) some are = are.1
some_joined (words ∷ next ∷ others) some are = omega (arith, are.1)

pub not_yet : (least turn : ℕ) (fault : Option AsmFault) → turn < least → from_turn least turn fault ≡ None
not_yet least turn fault low = ap (λ test. if test then None else fault) (lt_true turn least low)

-- before the first turn nothing is known
none_at_first : (sources : List (List ℕ)) → 0 < length sources → AreFiles sources → fault_at_turn 0 sources ≡ None
none_at_first sources some are =
    ap (λ o. first_of o (first_of (from_turn (joined_blocks sources) 0 (no_end (newest_first sources))) (from_turn (blocks_among sources) 0 (known_again (0 - blocks_among sources) sources))))
    (ap (λ t. first_order (statements t)) (no_text sources) ∙ ap first_order nothing_read)
    ∙ ap (λ o. first_of o (from_turn (blocks_among sources) 0 (known_again (0 - blocks_among sources) sources))) (not_yet (joined_blocks sources) 0 _ (some_joined sources some are))
    ∙ not_yet (blocks_among sources) 0 _ (some_block sources some are)

pub none_before_first : (sources : List (List ℕ)) → 0 < length sources → AreFiles sources → (earlier : ℕ) → earlier < turn_of (assembling_turns (blocks_among sources)) (assembling_turns (blocks_among sources))
    → fault_at_turn earlier sources ≡ None
none_before_first sources some are earlier low =
    let is : earlier ≡ 0 = omega (arith, low) in
    ap (λ t. fault_at_turn t sources) is ∙ none_at_first sources some are

pub as_many : (sources : List (List ℕ)) → length (blocks_of_each sources) ≡ length sources
as_many [] = refl
as_many (words ∷ others) = ap suc (as_many others)

pub has_others : (words : List ℕ) (others : List (List ℕ)) → has_next others ≡ nat_lt 1 (length (words ∷ others))
has_others words [] = refl
has_others words (next ∷ others) = sym (lt_true 1 (length (words ∷ next ∷ others)) (omega arith))

pub nothing_more : (n : ℕ) → 0 + n ≡ n
nothing_more n = omega arith

-- nothing is read of the sources
pub begun : (sources : List (List ℕ)) (it : Assembling) → 0 < length sources → AreFiles sources → it.blocks.items ≡ blocks_of_each sources
    → it.source ≡ 0 → it.block ≡ 0 → it.offset ≡ 0 → it.again ≡ false → it.pass.is_at_end ≡ false → it.pass.waiting ≡ None → it.pairs.items ≡ []
    → HasRead it.pass.lexer 0 [] → it.pass.lexer.may_pause ≡ nat_lt 1 (length it.blocks.items) → IsFirst it.pass.assembler []
    → IsAssembling sources it (assembling_turns (blocks_among sources))
begun [] it some are each source block offset again ended waiting none read several first = absurd (omega (arith, some))
begun (words ∷ others) it some are each source block offset again ended waiting none read several first = record {
  files = are;
  each = each;
  more = omega arith;
  none = none_before_first (words ∷ others) some are;
  at = inl (record {
    again = again;
    none = none;
    place = place;
    turns = omega (arith, block);
    pass = inl ([], goes, inl (ended ∙ sym (ap (λ n. is_ended (frames (first_blocks n words))) block), counts));
  });
}
  where
    place : Place (words ∷ others) it.source it.block
    place = record {
      before = [];
      words = words;
      others = others;
      split = refl;
      count = source;
      inside = omega (arith, block, are.1);
    }

    goes : GoesOn (words ∷ others) 0 (words ∷ others) []
    goes = record {
      joins = λ count. ap (λ n. newest_first (first_among n (words ∷ others))) (nothing_more count) ∙ sym (append-nil (newest_first (first_among count (words ∷ others))));
      blocks = sym (nothing_more (joined_blocks (words ∷ others)));
    }

    here : text_taken words it.block it.offset ≡ []
    here = ap (λ n. text_taken words n it.offset) block ∙ ap (λ n. text_taken words 0 n) offset

    counts : Counts it.pass.lexer [] (has_next others) (text_taken words it.block it.offset) (λ s. StandsAfter it.pass.waiting it.pass.assembler s)
    counts = subst (λ t. Counts it.pass.lexer [] (has_next others) t (λ s. StandsAfter it.pass.waiting it.pass.assembler s)) (sym here) (record {
      read = read;
      may_pause = several ∙ ap (λ l. nat_lt 1 (length l)) each ∙ ap (nat_lt 1) (as_many (words ∷ others)) ∙ sym (has_others words others);
      clear = (refl, refl);
      fine = ap first_fault nothing_read;
      at = subst (λ w. StandsAfter w it.pass.assembler (statements [])) (sym waiting) (subst (λ s. IsFirst it.pass.assembler s) (sym nothing_read) first);
    })

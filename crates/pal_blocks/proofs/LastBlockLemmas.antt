-- The last block of all.
use Rattle.std.proofs.Common.{◌≡◌, ◌∙◌, inl, inr, ℕ, ◌+◌, ◌-◌, ◌*◌, ◌<◌, ◌≤◌, nat_lt, Bool, true, false, true≢false, not, if◌then◌else◌, suc, Option, Some, None, List, [], ◌∷◌, ◌++◌, length, length-append, take, get_or, Result, Ok, Err, refl, ap, sym, subst, arith, append_assoc, append-nil, OnOk}
use Rattle.std.proofs.Math.Seq.{get_or-append_seam}
use Rattle.std.proofs.lemmas.Bool.Decides.{leb_tells}
use Rattle.char_pack.specs.Packing.{frames}
use Rattle.char_pack.specs.Texts.{is_ended}
use Rattle.pal_lex.specs.Text.{text_from, text_of, is_over, line_after}
use Rattle.pal_faults.specs.declared.assembling.Code.TheVariants.{NE}
use Rattle.char_pack.specs.Texts.{text}
use Rattle.std.proofs.lemmas.List.{take_all}
use Rattle.pal_lex.specs.Joins.{before_pause}
use Rattle.pal_lex.specs.Statements.{statements, first_fault}
use Rattle.pal_lex.specs.Laws.{has_next, EndsJoin}
use Rattle.pal_lex.specs.Reading.{HasRead}
use Rattle.pal_lex.specs.Progress as lex
use Rattle.pal_asm.specs.Places.{Source, values}
use Rattle.pal_asm.specs.Faults.{first_of, first_order, no_end, no_word, words_fault, fault_of}
use Rattle.pal_asm.specs.Laws.{NoWordIsTold}
use Rattle.pal_asm.specs.Passes.{IsFirst}
use Rattle.pal_faults.specs.declared.assembling.AsmFault.{AsmFault}
use Rattle.pal_faults.specs.declared.assembling.AsmFault.TheVariants.{At, Memory}
use Rattle.pal_asm.specs.declared.passing.Pass.{Pass}
use Rattle.pal_blocks.specs.declared.assembling.Assembling.{Assembling}
use Rattle.pal_blocks.specs.Blocks.{blocks_in, blocks_among, blocks_of_each, first_blocks, first_among, block_at, AreFiles, assembling_turns, turn_of}
use Rattle.pal_blocks.specs.Sources.{texts_of, newest_first}
use Rattle.pal_blocks.specs.Schedule.{statements_in, joined_blocks, from_turn, known_again, fault_at_turn}
use Rattle.pal_blocks.specs.Schedule.{if_paused}
use Rattle.pal_blocks.specs.Passing.{text_in, characters_added, IsOver}
use Rattle.pal_asm.specs.Passing.{Counts, IsMade, StandsAfter}
use Rattle.pal_asm.specs.Passing.{TellsJoinFault, HasPassed, Settles, EndsSource, BeginsSecondPass}
use Rattle.pal_blocks.specs.Steps.{PassesBlock}
use Rattle.pal_blocks.specs.Progress.{due_of, block_of, Place, text_taken, IsInPass, IsFirstPass, IsSecondPass, IsAssembling}
use Rattle.pal_blocks.specs.Turns.{TakesBlock}
use Rattle.pal_asm.proofs.TextLemmas.{nothing_read}
use Rattle.pal_blocks.proofs.BeginLemmas.{lt_true, lt_false, not_yet, no_text, as_many, has_others, nothing_more}
use Rattle.pal_blocks.proofs.TextLemmas.{JoinedCharacters, one_block}
use Rattle.pal_blocks.proofs.PlaceLemmas.{among_append, files_at, each_at, all_among, IsAfter, whole_join, whole_text, told_in, told_whole, so_far, joined_least, over_none, no_pause, next_source}
use Rattle.pal_blocks.proofs.TurnLemmas.{the_first, none_more, known_all, known_end, from_none, from_now, fault_end, takes_fault, PassesClause, EndedClause, after_first, settled_first, turn_is, most_left, last_block, how_many, no_others, whole_words}

-- ## The last block of all

-- all sources were read
pub all_read : (sources before : List (List ℕ)) (words : List ℕ) (count : ℕ) (lexer : lex.Progress) (ended : Bool) (Fits : Source → Type 0) → AreFiles sources → sources ≡ before ++ words ∷ [] → count ≡ blocks_in words
    → IsAfter sources before words [] count lexer ended Fits → (so : List ℕ) × ((seam : ℕ) × ((newest_first sources ≡ so) × HasRead lexer seam so × Fits (statements so)))
all_read sources before words count lexer ended Fits are split is after = elim after [
  | inl here ↦ elim here.2 [
    | inl counts ↦ (
      text_in (frames (first_blocks count words)) ++ here.0,
      (
        length here.0,
        (whole_join sources before (words ∷ []) here.0 are split here.1 ∙ ap (λ w. text_in (frames w) ++ here.0) (sym (whole_words words count (files_at before (words ∷ []) (subst AreFiles split are)).0 is)), counts.1.read, counts.1.at),
      ),
    )
    | inr paused ↦ absurd (true≢false (sym paused.1.follows))
  ]
  | inr o ↦ (o.0, (o.2.seam, (whole_text sources before (words ∷ []) o.0 are split o.1, o.2.read, o.2.at)))
]

pub joined_most : (sources : List (List ℕ)) → joined_blocks sources ≤ blocks_among sources
joined_most [] = omega arith
joined_most (words ∷ []) = omega arith
joined_most (words ∷ next ∷ others) = omega (arith, joined_most (next ∷ others), no_more (before_pause (text_of (text words))) (joined_blocks (next ∷ others)))
  where
    no_more : (o : Option (List ℕ)) (n : ℕ) → if_paused o n ≤ n
    no_more None n = omega arith
    no_more (Some cut) n = omega arith

none_again : (sources : List (List ℕ)) (n : ℕ) → n ≡ 0 → words_fault (values (statements (newest_first sources))) (statements_in n sources) ≡ None
none_again sources n is =
    ap (λ k. words_fault (values (statements (newest_first sources))) (statements_in k sources)) is
    ∙ ap (λ t. words_fault (values (statements (newest_first sources))) (statements t)) (no_text sources) ∙ ap (words_fault (values (statements (newest_first sources)))) nothing_read

pub first_turn : EndsJoin → NoWordIsTold → (sources : List (List ℕ)) (left : ℕ) (it : Assembling) (block : List ℕ) (offset count total : ℕ) (pass pass2 : Pass) (r : Result (Unit {0}) AsmFault) → IsAssembling sources it left → 2 ≤ left → it.again ≡ false
    → block ≡ block_of sources (due_of it) → count ≡ get_or it.blocks.items it.source 0 → nat_lt (it.block + 1) count ≡ false → total ≡ length it.blocks.items → nat_lt (it.source + 1) total ≡ false
    → PassesClause it.pass block it.offset offset (Ok tt) pass → EndedClause it.pass (Ok tt) pass → pass.waiting ≡ None
    → ((seam : ℕ) (text : List ℕ) → HasRead pass.lexer seam text → IsFirst pass.assembler (statements text) → BeginsSecondPass text r pass2)
    → (r ≡ Ok tt → HasRead pass2.lexer 0 [] × (pass2.lexer.may_pause ≡ nat_lt 1 (length it.blocks.items)) × (pass2.is_at_end ≡ false))
    → TakesBlock sources left r (record { blocks = it.blocks; source = 0; block = 0; offset = 0; again = true; pass = pass2; pairs = it.pairs })
first_turn law noword sources left it block offset count total pass pass2 r is more again this counted test many stops passes settles none turns fresh = by_result r refl (turns read.1.0 read.0 read.1.1.1 done)
  where
    first : IsFirstPass sources it left
    first = the_first sources it left is more again

    new : Assembling
    new = record { blocks = it.blocks; source = 0; block = 0; offset = 0; again = true; pass = pass2; pairs = it.pairs }

    at_end : it.block + 1 ≡ blocks_in first.place.words
    at_end = last_block sources it first.place count is.each counted test

    alone : first.place.others ≡ []
    alone = no_others total it.source first.place.others (how_many sources it first.place total is.each many) stops

    split : sources ≡ first.place.before ++ first.place.words ∷ []
    split = first.place.split ∙ ap (λ l. first.place.before ++ first.place.words ∷ l) alone

    all : blocks_among sources ≡ blocks_among first.place.before + (it.block + 1)
    all = omega (arith, ap blocks_among split, among_append first.place.before (first.place.words ∷ []), at_end)

    turn_at : turn_of (assembling_turns (blocks_among sources)) left ≡ blocks_among sources
    turn_at = turn_is (blocks_among sources) (blocks_among first.place.before) it.block left first.turns ∙ sym all

    after : IsAfter sources first.place.before first.place.words [] (it.block + 1) pass.lexer pass.is_at_end (λ s. StandsAfter pass.waiting pass.assembler s)
    after = subst (λ l. IsAfter sources first.place.before first.place.words l (it.block + 1) pass.lexer pass.is_at_end (λ s. StandsAfter pass.waiting pass.assembler s)) alone (after_first sources it left block offset pass is.files first this passes settles)

    read : (so : List ℕ) × ((seam : ℕ) × ((newest_first sources ≡ so) × HasRead pass.lexer seam so × StandsAfter pass.waiting pass.assembler (statements so)))
    read = all_read sources first.place.before first.place.words (it.block + 1) pass.lexer pass.is_at_end (λ s. StandsAfter pass.waiting pass.assembler s) is.files split at_end after

    done : IsFirst pass.assembler (statements read.0)
    done = settled_first pass none (statements read.0) read.1.1.2

    whole : newest_first sources ≡ read.0
    whole = read.1.1.0

    fine : first_order (statements (newest_first sources)) ≡ None
    fine = ap (λ t. first_order (statements t)) whole ∙ done.no_fault

    so_fine : first_order (statements_in (blocks_among sources) sources) ≡ None
    so_fine = ap (λ l. first_order (statements (newest_first l))) (all_among sources (blocks_among sources) is.files (omega arith)) ∙ fine

    nothing_left : (n : ℕ) → n - n ≡ 0
    nothing_left n = omega arith

    again_is : (what : Option AsmFault) → no_word (statements (newest_first sources)) ≡ what → from_turn (blocks_among sources) (blocks_among sources) (known_again (blocks_among sources - blocks_among sources) sources) ≡ what
    again_is what word =
        from_now (blocks_among sources) (blocks_among sources) _ (omega arith)
        ∙ ap (λ o. first_of o (no_word (statements (newest_first sources)))) (none_again sources (blocks_among sources - blocks_among sources) (nothing_left (blocks_among sources))) ∙ word

    by_result : (a : Result (Unit {0}) AsmFault) → r ≡ a → BeginsSecondPass read.0 a pass2 → TakesBlock sources left a new
    by_result (Ok tt) e turned = (
      record {
        files = is.files;
        each = is.each;
        more = omega (arith, more);
        none = none_more sources (assembling_turns (blocks_among sources)) left (blocks_among sources) more (most_left (blocks_among sources) (blocks_among first.place.before) it.block left first.turns) turn_at is.none now;
        at = inr (inl (by_sources sources refl));
      },
      ap (λ t. fault_at_turn t sources) turn_at ∙ now,
    )
      where
        ends : no_end (newest_first sources) ≡ None
        ends = ap no_end whole ∙ turned.0

        made : IsMade (statements (newest_first sources)) pass2 [] []
        made = subst (λ t. IsMade (statements t) pass2 [] []) (sym whole) turned.1

        now : fault_at_turn (blocks_among sources) sources ≡ None
        now = known_all sources (blocks_among sources) None so_fine (ap (λ o. from_turn (joined_blocks sources) (blocks_among sources) o) ends ∙ from_none (joined_blocks sources) (blocks_among sources)) (again_is None made.1.has_word)

        by_sources : (l : List (List ℕ)) → sources ≡ l → IsSecondPass sources new (left - 1)
        by_sources [] none_there = absurd (omega (arith, ap length none_there, ap length split, length-append first.place.before (first.place.words ∷ [])))
        by_sources (words ∷ others) are = record {
          again = refl;
          ends = ends;
          place = record { before = []; words = words; others = others; split = are; count = refl; inside = (subst AreFiles are is.files).1 };
          turns = omega (arith, first.turns, all, more);
          pass = inl (
            [],
            record {
              joins = λ c. ap (λ n. newest_first (first_among n sources)) (nothing_more c) ∙ ap (λ l. newest_first (first_among c l)) are ∙ sym (append-nil (newest_first (first_among c (words ∷ others))));
              blocks = ap joined_blocks are ∙ sym (nothing_more (joined_blocks (words ∷ others)));
            },
            inl (
              (fresh e).2,
              record {
                read = (fresh e).0;
                may_pause = (fresh e).1 ∙ ap (λ l. nat_lt 1 (length l)) is.each ∙ ap (nat_lt 1) (as_many sources ∙ ap length are) ∙ sym (has_others words others);
                clear = (refl, refl);
                fine = ap first_fault nothing_read;
                at = subst (λ s. IsMade (statements (newest_first sources)) pass2 it.pairs.items s) (sym nothing_read) (subst (λ (l : List (ℕ × ℕ)). IsMade (statements (newest_first sources)) pass2 l []) (sym first.none) made);
              },
            ),
          );
        }
    by_result (Err Memory) e turned = absurd turned
    by_result (Err (At code line)) e turned = by_end (no_end (newest_first sources)) refl
      where
        told : first_of (no_end (newest_first sources)) (no_word (statements (newest_first sources))) ≡ Some (At code line)
        told = ap (λ t. first_of (no_end t) (no_word (statements t))) whole ∙ turned

        never : At code line ≡ Memory → ⊥
        never same = cc

        by_end : (o : Option AsmFault) → no_end (newest_first sources) ≡ o → TakesBlock sources left (Err (At code line)) new
        by_end None ends =
            let word = sym (ap (λ o. first_of o (no_word (statements (newest_first sources)))) ends) ∙ told in
            takes_fault sources left (blocks_among sources) (At code line) new turn_at is.none (λ m. never m)
            (known_all sources (blocks_among sources) (Some (At code line)) so_fine (ap (λ o. from_turn (joined_blocks sources) (blocks_among sources) o) ends ∙ from_none (joined_blocks sources) (blocks_among sources)) (again_is (Some (At code line)) word))
            (noword (newest_first sources) (At code line) fine ends word)
        by_end (Some g) ends =
            let same = ends ∙ sym (ap (λ o. first_of o (no_word (statements (newest_first sources)))) ends) ∙ told in
            takes_fault sources left (blocks_among sources) (At code line) new turn_at is.none (λ m. never m)
            (known_end sources (blocks_among sources) (At code line) so_fine (from_now (joined_blocks sources) (blocks_among sources) _ (joined_most sources) ∙ same))
            (fault_end (newest_first sources) (At code line) fine same)

-- the second pass begins with a lexer of no byte
pub fresh_lexer : (r : Result (Unit {0}) AsmFault) (lexer new : lex.Progress) (ended : Bool) (many : ℕ) → OnOk r ((new ≡ lexer) × (ended ≡ false)) → HasRead lexer 0 [] → lexer.may_pause ≡ nat_lt 1 many → r ≡ Ok tt
    → HasRead new 0 [] × (new.may_pause ≡ nat_lt 1 many) × (ended ≡ false)
fresh_lexer (Ok done) lexer new ended many both read may e = (subst (λ (l : lex.Progress). HasRead l 0 []) (sym both.0) read, ap (λ (l : lex.Progress). l.may_pause) both.0 ∙ may, both.1)
fresh_lexer (Err f) lexer new ended many both read may e = absurd (never e)
  where
    never : Err f ≡ Ok (tt {0}) → ⊥
    never e = cc

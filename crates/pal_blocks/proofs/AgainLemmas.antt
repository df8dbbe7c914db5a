-- Turns of the second pass, and the last turn.
use Rattle.std.proofs.Common.{◌≡◌, ◌∙◌, inl, inr, ℕ, ◌+◌, ◌-◌, ◌*◌, ◌<◌, ◌≤◌, nat_lt, Bool, true, false, not, Option, Some, None, List, [], ◌∷◌, ◌++◌, length, take, get_or, Result, Ok, Err, IfOk, IfErr, refl, ap, sym, subst, arith}
use Rattle.std.specs.Global.{Vec}
use Rattle.char_pack.specs.Packing.{frames, IsBlockPacking}
use Rattle.char_pack.specs.Texts.{is_ended}
use Rattle.bin_tape.specs.Tape.{IsTape}
use Rattle.bin_tape.specs.Pairs.{ArePairs, IsTapeOf}
use Rattle.bin_tape.specs.Writing.{tape_of}
use Rattle.pal_lex.specs.Text.{text_from}
use Rattle.pal_lex.specs.Statements.{statements}
use Rattle.pal_lex.specs.Laws.{has_next, EndsJoin}
use Rattle.pal_asm.specs.Places.{Source, values}
use Rattle.pal_asm.specs.Words.{pairs_of}
use Rattle.pal_asm.specs.Faults.{first_of, first_order, no_end, no_word, words_fault}
use Rattle.pal_asm.specs.Laws.{HasWords}
use Rattle.pal_faults.specs.declared.assembling.AsmFault.{AsmFault}
use Rattle.pal_faults.specs.declared.assembling.AsmFault.TheVariants.{At, Memory}
use Rattle.pal_asm.specs.declared.passing.Pass.{Pass}
use Rattle.pal_blocks.specs.declared.assembling.Assembling.{Assembling}
use Rattle.pal_blocks.specs.Blocks.{blocks_in, blocks_among, first_blocks, AreFiles, assembling_turns, turn_of}
use Rattle.pal_blocks.specs.Sources.{newest_first, IsTapeOfSources}
use Rattle.pal_blocks.specs.Schedule.{statements_in, joined_blocks, from_turn, fault_at_turn}
use Rattle.pal_blocks.specs.Passing.{text_in, characters_added, IsOver}
use Rattle.pal_asm.specs.Passing.{IsMade}
use Rattle.pal_asm.specs.Passing.{TellsJoinFault, IsWithin, HasMade, EndsSource}
use Rattle.pal_blocks.specs.Steps.{MakesBlock, HoldsTape}
use Rattle.pal_blocks.specs.Progress.{due_of, block_of, Place, GoesOn, IsInPass, IsSecondPass, IsAtEnd, IsAssembling}
use Rattle.pal_blocks.specs.Turns.{TakesBlock, MakesTarget}
use Rattle.pal_blocks.proofs.BeginLemmas.{as_many}
use Rattle.pal_blocks.proofs.TextLemmas.{JoinedCharacters}
use Rattle.pal_blocks.proofs.PlaceLemmas.{among_append, all_among, IsAfter, told_in, told_whole, within_whole, so_far, next_source}
use Rattle.pal_blocks.proofs.TurnLemmas.{the_second, due_block, block_inside, more_frames, count_is, none_more, known_all, from_none, from_now, fault_all, takes_fault, lt_from, last_block, how_many, no_others, may_pause_next, next_place, end_missing}
use Rattle.pal_blocks.proofs.LastBlockLemmas.{all_read}

abbrev pub MakesClause : Pass → List (ℕ × ℕ) → List ℕ → ℕ → ℕ → Result (Unit {0}) AsmFault → Pass → List (ℕ × ℕ) → Type 0
MakesClause old pairs block offset offset' result new pairs' =
    (whole : Source) (prefix given : List ℕ) (several : Bool) → HasMade whole old pairs prefix several (text_from (text_in given) (take offset (characters_added given block))) (is_ended given)
    → IsWithin whole prefix several (text_in (given ++ frames block)) → MakesBlock whole prefix several given block offset' result new pairs'

abbrev pub SkipsClause : Pass → Vec (ℕ × ℕ) → Result (Unit {0}) AsmFault → Pass → Vec (ℕ × ℕ) → Type 0
SkipsClause old pairs result new pairs' = old.is_at_end ≡ true → (result ≡ Ok tt) × (new ≡ old) × (pairs' ≡ pairs)

-- the whole of sources, as statements
abbrev Whole : List (List ℕ) → Source
Whole sources = statements (newest_first sources)

-- a block was taken
pub after_second : JoinedCharacters → (sources : List (List ℕ)) (it : Assembling) (left : ℕ) (block : List ℕ) (offset : ℕ) (new : Pass) (pairs : Vec (ℕ × ℕ)) → AreFiles sources → (second : IsSecondPass sources it left) → block ≡ block_of sources (due_of it)
    → MakesClause it.pass it.pairs.items block it.offset offset (Ok tt) new pairs.items → SkipsClause it.pass it.pairs (Ok tt) new pairs
    → IsAfter sources second.place.before second.place.words second.place.others (it.block + 1) new.lexer new.is_at_end (λ s. IsMade (Whole sources) new pairs.items s)
after_second chars sources it left block offset new pairs are second is makes skips = elim second.pass [
  | inl here ↦
      let has = makes (Whole sources) here.0 given (has_next second.place.others)
      (subst (λ b. HasMade (Whole sources) it.pass it.pairs.items here.0 (has_next second.place.others) (text_from (text_in given) (take it.offset (characters_added given b))) (is_ended given)) (sym (due_block sources it second.place block is)) here.2)
      (subst (λ l. IsWithin (Whole sources) here.0 (has_next second.place.others) (text_in l)) (sym (more_frames sources it second.place block are is))
      (within_whole chars sources second.place.before second.place.words second.place.others here.0 (it.block + 1) are second.place.split (block_inside sources it.source it.block second.place are) here.1)) in
      inl (here.0, here.1, subst (λ l. HasMade (Whole sources) new pairs.items here.0 (has_next second.place.others) (text_in l) (is_ended l)) (more_frames sources it second.place block are is) has)
  | inr over ↦
      let now = skips over.2.no_more in
      inr (
        over.0,
        over.1,
        subst (λ (n : Pass). IsOver n.lexer n.is_at_end over.0 (λ s. IsMade (Whole sources) n pairs.items s)) (sym now.1)
            (subst (λ (l : Vec (ℕ × ℕ)). IsOver it.pass.lexer it.pass.is_at_end over.0 (λ s. IsMade (Whole sources) it.pass l.items s)) (sym now.2) over.2),
      )
]
  where
    given : List ℕ
    given = frames (first_blocks it.block second.place.words)

-- the whole has no fault before its words, and a word
pub some_second : (sources : List (List ℕ)) (it : Assembling) (left : ℕ) (second : IsSecondPass sources it left) → EndsJoin → JoinedCharacters → AreFiles sources → (first_order (Whole sources) ≡ None) × (no_word (Whole sources) ≡ None)
some_second sources it left second law chars are = elim second.pass [
  | inl here ↦ elim here.2 [
    | inl counts ↦ (counts.1.at.1.no_fault, counts.1.at.1.has_word)
    | inr paused ↦ (paused.1.at.1.no_fault, paused.1.at.1.has_word)
  ]
  | inr over ↦ (over.2.at.1.no_fault, over.2.at.1.has_word)
]

turn_again : (n base k left : ℕ) → n + base + k + left ≡ 2 * n + 1 → turn_of (assembling_turns n) left ≡ n + (base + (k + 1))
turn_again n base k left turns = omega (arith, turns)

most_left : (n base k left : ℕ) → n + base + k + left ≡ 2 * n + 1 → left ≤ assembling_turns n
most_left n base k left turns = omega (arith, turns)

first_whole : (sources : List (List ℕ)) (more : ℕ) → AreFiles sources → first_order (Whole sources) ≡ None → first_order (statements_in (blocks_among sources + more) sources) ≡ None
first_whole sources more are fine = ap (λ l. first_order (statements (newest_first l))) (all_among sources (blocks_among sources + more) are (omega arith)) ∙ fine

-- what is known when so many blocks were read again
known_later : (sources : List (List ℕ)) (more : ℕ) (what : Option AsmFault) → AreFiles sources → first_order (Whole sources) ≡ None → no_end (newest_first sources) ≡ None
    → first_of (words_fault (values (Whole sources)) (statements_in more sources)) (no_word (Whole sources)) ≡ what → fault_at_turn (blocks_among sources + more) sources ≡ what
known_later sources more what are fine ends known =
    known_all sources (blocks_among sources + more) what (first_whole sources more are fine)
    (ap (λ o. from_turn (joined_blocks sources) (blocks_among sources + more) o) ends ∙ from_none (joined_blocks sources) (blocks_among sources + more))
    (from_now (blocks_among sources) (blocks_among sources + more) _ (omega arith)
    ∙ ap (λ k. first_of (words_fault (values (Whole sources)) (statements_in k sources)) (no_word (Whole sources))) (rest (blocks_among sources)) ∙ known)
  where
    rest : (n : ℕ) → n + more - n ≡ more
    rest n = omega arith

-- no fault of a word is known so far
pub no_words_fault : EndsJoin → (sources before : List (List ℕ)) (words : List ℕ) (others : List (List ℕ)) (count : ℕ) (pass : Pass) (pairs : List (ℕ × ℕ)) → count ≤ blocks_in words
    → IsAfter sources before words others count pass.lexer pass.is_at_end (λ s. IsMade (Whole sources) pass pairs s) → words_fault (values (Whole sources)) (statements_in (blocks_among before + count) sources) ≡ None
no_words_fault law sources before words others count pass pairs low after =
    let so = so_far law sources before words others count pass.lexer pass.is_at_end (λ s. IsMade (Whole sources) pass pairs s) low after in
    ap (λ t. words_fault (values (Whole sources)) (statements t)) so.1.0 ∙ so.1.1.1.words

known_none : EndsJoin → (sources before : List (List ℕ)) (words : List ℕ) (others : List (List ℕ)) (count : ℕ) (pass : Pass) (pairs : List (ℕ × ℕ)) → AreFiles sources → first_order (Whole sources) ≡ None → no_word (Whole sources) ≡ None → no_end (newest_first sources) ≡ None → count ≤ blocks_in words
    → IsAfter sources before words others count pass.lexer pass.is_at_end (λ s. IsMade (Whole sources) pass pairs s) → fault_at_turn (blocks_among sources + (blocks_among before + count)) sources ≡ None
known_none law sources before words others count pass pairs are fine word ends low after =
    known_later sources (blocks_among before + count) None are fine ends
    (ap (λ o. first_of o (no_word (Whole sources))) (no_words_fault law sources before words others count pass pairs low after) ∙ word)

-- the second pass goes on at a block
pub second_stands : EndsJoin → (sources : List (List ℕ)) (it new : Assembling) (left turn : ℕ) → IsAssembling sources it left → 2 ≤ left → turn_of (assembling_turns (blocks_among sources)) left ≡ turn → left ≤ assembling_turns (blocks_among sources)
    → first_order (Whole sources) ≡ None → no_word (Whole sources) ≡ None → no_end (newest_first sources) ≡ None
    → new.blocks.items ≡ it.blocks.items → new.again ≡ true → new.offset ≡ 0 → (place : Place sources new.source new.block) → blocks_among sources + (blocks_among place.before + new.block) ≡ turn
    → IsAfter sources place.before place.words place.others new.block new.pass.lexer new.pass.is_at_end (λ s. IsMade (Whole sources) new.pass new.pairs.items s)
    → TakesBlock sources left (Ok tt) new
second_stands law sources it new left turn is more turn_at most fine word ends same again offset place at after = (
  record {
    files = is.files;
    each = same ∙ is.each;
    more = omega (arith, more);
    none = none_more sources (assembling_turns (blocks_among sources)) left turn more most turn_at is.none now;
    at = inr (inl (record {
      again = again;
      ends = ends;
      place = place;
      turns = omega (arith, turn_at, at, more, most);
      pass = subst (λ o. IsInPass sources new.source new.block o place new.pass (λ s. IsMade (Whole sources) new.pass new.pairs.items s)) (sym offset) after;
    }));
  },
  ap (λ t. fault_at_turn t sources) turn_at ∙ now,
)
  where
    now : fault_at_turn turn sources ≡ None
    now = ap (λ t. fault_at_turn t sources) (sym at) ∙ known_none law sources place.before place.words place.others new.block new.pass new.pairs.items is.files fine word ends (omega (arith, place.inside)) after

pub second_on : JoinedCharacters → EndsJoin → (sources : List (List ℕ)) (left : ℕ) (it : Assembling) (block : List ℕ) (offset count : ℕ) (pass : Pass) (pairs : Vec (ℕ × ℕ)) → IsAssembling sources it left → 2 ≤ left → it.again ≡ true → block ≡ block_of sources (due_of it)
    → count ≡ get_or it.blocks.items it.source 0 → nat_lt (it.block + 1) count ≡ true → MakesClause it.pass it.pairs.items block it.offset offset (Ok tt) pass pairs.items → SkipsClause it.pass it.pairs (Ok tt) pass pairs
    → TakesBlock sources left (Ok tt) (record { blocks = it.blocks; source = it.source; block = it.block + 1; offset = 0; again = it.again; pass = pass; pairs = pairs })
second_on chars law sources left it block offset count pass pairs is more again this counted test makes skips =
    second_stands law sources it (record { blocks = it.blocks; source = it.source; block = it.block + 1; offset = 0; again = it.again; pass = pass; pairs = pairs }) left _ is more
    (turn_again (blocks_among sources) (blocks_among second.place.before) it.block left second.turns) (most_left (blocks_among sources) (blocks_among second.place.before) it.block left second.turns)
    fine.0 fine.1 second.ends refl again refl place refl (after_second chars sources it left block offset pass pairs is.files second this makes skips)
  where
    second : IsSecondPass sources it left
    second = the_second sources it left is more again

    fine : (first_order (Whole sources) ≡ None) × (no_word (Whole sources) ≡ None)
    fine = some_second sources it left second law chars is.files

    place : Place sources it.source (it.block + 1)
    place = record {
      before = second.place.before;
      words = second.place.words;
      others = second.place.others;
      split = second.place.split;
      count = second.place.count;
      inside = subst (λ n. it.block + 1 < n) (counted ∙ count_is sources it second.place is.each) (lt_from (it.block + 1) count test);
    }

-- a fault of a word
pub second_not : JoinedCharacters → EndsJoin → (sources : List (List ℕ)) (left : ℕ) (it : Assembling) (block : List ℕ) (offset : ℕ) (pass : Pass) (pairs : Vec (ℕ × ℕ)) (f : AsmFault) → IsAssembling sources it left → 2 ≤ left → it.again ≡ true → block ≡ block_of sources (due_of it)
    → MakesClause it.pass it.pairs.items block it.offset offset (Err f) pass pairs.items → SkipsClause it.pass it.pairs (Err f) pass pairs
    → TakesBlock sources left (Err f) (record { blocks = it.blocks; source = it.source; block = it.block; offset = offset; again = it.again; pass = pass; pairs = pairs })
second_not chars law sources left it block offset pass pairs f is more again this makes skips = elim second.pass [
  | inl here ↦
      by_fault f here.0 here.1
      (makes (Whole sources) here.0 given (has_next second.place.others)
      (subst (λ b. HasMade (Whole sources) it.pass it.pairs.items here.0 (has_next second.place.others) (text_from (text_in given) (take it.offset (characters_added given b))) (is_ended given)) (sym (due_block sources it second.place block this)) here.2)
      (subst (λ l. IsWithin (Whole sources) here.0 (has_next second.place.others) (text_in l)) (sym (more_frames sources it second.place block is.files this))
      (within_whole chars sources second.place.before second.place.words second.place.others here.0 (it.block + 1) is.files second.place.split (block_inside sources it.source it.block second.place is.files) here.1)))
  | inr over ↦ absurd (never (skips over.2.no_more).0)
]
  where
    never : Err f ≡ Ok (tt {0}) → ⊥
    never e = cc

    second : IsSecondPass sources it left
    second = the_second sources it left is more again

    given : List ℕ
    given = frames (first_blocks it.block second.place.words)

    new : Assembling
    new = record { blocks = it.blocks; source = it.source; block = it.block; offset = offset; again = it.again; pass = pass; pairs = pairs }

    fine : (first_order (Whole sources) ≡ None) × (no_word (Whole sources) ≡ None)
    fine = some_second sources it left second law chars is.files

    by_fault : (g : AsmFault) (prefix : List ℕ) → GoesOn sources (blocks_among second.place.before) (second.place.words ∷ second.place.others) prefix
        → MakesBlock (Whole sources) prefix (has_next second.place.others) given block offset (Err g) pass pairs.items → TakesBlock sources left (Err g) new
    by_fault (At code line) prefix goes tells =
        takes_fault sources left (blocks_among sources + (blocks_among second.place.before + (it.block + 1))) (At code line) new (turn_again (blocks_among sources) (blocks_among second.place.before) it.block left second.turns) is.none (λ e. other e)
        (known_later sources (blocks_among second.place.before + (it.block + 1)) (Some (At code line)) is.files fine.0 second.ends
        (ap (λ o. first_of o (no_word (Whole sources))) (told_in (words_fault (values (Whole sources))) sources second.place.before second.place.words second.place.others prefix (it.block + 1) (At code line) goes here)))
        (fault_all (newest_first sources) (Some (At code line)) fine.0 second.ends
        (ap (λ o. first_of o (no_word (Whole sources)))
        (told_whole chars (words_fault (values (Whole sources))) sources second.place.before second.place.words second.place.others prefix (it.block + 1) (At code line) is.files second.place.split (block_inside sources it.source it.block second.place is.files) goes here)))
      where
        other : At code line ≡ Memory → ⊥
        other e = cc

        here : TellsJoinFault (words_fault (values (Whole sources))) prefix (has_next second.place.others) (text_in (frames (first_blocks (it.block + 1) second.place.words))) (At code line)
        here = subst (λ l. TellsJoinFault (words_fault (values (Whole sources))) prefix (has_next second.place.others) (text_in l) (At code line)) (more_frames sources it second.place block is.files this) tells
    by_fault Memory prefix goes has = record {
      files = is.files;
      each = is.each;
      more = is.more;
      none = is.none;
      at = inr (inl (record {
        again = again;
        ends = second.ends;
        place = second.place;
        turns = second.turns;
        pass = inl (prefix, goes, subst (λ b. HasMade (Whole sources) pass pairs.items prefix (has_next second.place.others) (text_from (text_in given) (take offset (characters_added given b))) (is_ended given)) (due_block sources it second.place block this) has);
      }));
    }

-- the last block of a source
pub second_next : JoinedCharacters → EndsJoin → (sources : List (List ℕ)) (left : ℕ) (it : Assembling) (block : List ℕ) (offset count total : ℕ) (pass pass2 : Pass) (pairs : Vec (ℕ × ℕ)) (last : Bool) (r : Result (Unit {0}) AsmFault) → IsAssembling sources it left → 2 ≤ left → it.again ≡ true
    → block ≡ block_of sources (due_of it) → count ≡ get_or it.blocks.items it.source 0 → nat_lt (it.block + 1) count ≡ false → total ≡ length it.blocks.items → nat_lt (it.source + 1) total ≡ true → last ≡ not (nat_lt (it.source + 1 + 1) total)
    → MakesClause it.pass it.pairs.items block it.offset offset (Ok tt) pass pairs.items → SkipsClause it.pass it.pairs (Ok tt) pass pairs → EndsSource pass.lexer last r pass2.lexer pass2.is_at_end → pass2.assembler ≡ pass.assembler → pass2.waiting ≡ pass.waiting
    → TakesBlock sources left r (record { blocks = it.blocks; source = it.source + 1; block = 0; offset = 0; again = it.again; pass = pass2; pairs = pairs })
second_next chars law sources left it block offset count total pass pass2 pairs last r is more again this counted test many goes lasts makes skips ends same_assembler same_waiting = by_others second.place.others refl
  where
    second : IsSecondPass sources it left
    second = the_second sources it left is more again

    new : Assembling
    new = record { blocks = it.blocks; source = it.source + 1; block = 0; offset = 0; again = it.again; pass = pass2; pairs = pairs }

    fine : (first_order (Whole sources) ≡ None) × (no_word (Whole sources) ≡ None)
    fine = some_second sources it left second law chars is.files

    at_end : it.block + 1 ≡ blocks_in second.place.words
    at_end = last_block sources it second.place count is.each counted test

    by_others : (others : List (List ℕ)) → second.place.others ≡ others → TakesBlock sources left r new
    by_others [] e = absurd (omega (arith, how_many sources it second.place total is.each many, ap length e, lt_from (it.source + 1) total goes))
    by_others (next ∷ others) e = by_result r ends
      where
        split : sources ≡ second.place.before ++ second.place.words ∷ next ∷ others
        split = second.place.split ∙ ap (λ l. second.place.before ++ second.place.words ∷ l) e

        after : IsAfter sources second.place.before second.place.words (next ∷ others) (it.block + 1) pass.lexer pass.is_at_end (λ s. IsMade (Whole sources) pass pairs.items s)
        after = subst (λ l. IsAfter sources second.place.before second.place.words l (it.block + 1) pass.lexer pass.is_at_end (λ s. IsMade (Whole sources) pass pairs.items s)) e (after_second chars sources it left block offset pass pairs is.files second this makes skips)

        next_turn : blocks_among sources + (blocks_among (second.place.before ++ second.place.words ∷ []) + 0) ≡ blocks_among sources + (blocks_among second.place.before + (it.block + 1))
        next_turn = omega (arith, among_append second.place.before (second.place.words ∷ []), at_end)

        by_result : (a : Result (Unit {0}) AsmFault) → EndsSource pass.lexer last a pass2.lexer pass2.is_at_end → TakesBlock sources left a new
        by_result (Ok done) ended =
            second_stands law sources it new left _ is more (turn_again (blocks_among sources) (blocks_among second.place.before) it.block left second.turns) (most_left (blocks_among sources) (blocks_among second.place.before) it.block left second.turns)
            fine.0 fine.1 second.ends refl again refl
            (next_place sources second.place.before second.place.words next others it.source is.files second.place.count split)
            next_turn
            (subst (λ w. IsAfter sources (second.place.before ++ second.place.words ∷ []) next others 0 pass2.lexer pass2.is_at_end (λ s. IsMade (Whole sources) (record { lexer = pass2.lexer; assembler = pass2.assembler; waiting = w; is_at_end = pass2.is_at_end }) pairs.items s)) (sym same_waiting)
            (subst (λ a. IsAfter sources (second.place.before ++ second.place.words ∷ []) next others 0 pass2.lexer pass2.is_at_end (λ s. IsMade (Whole sources) (record { lexer = pass2.lexer; assembler = a; waiting = pass.waiting; is_at_end = pass2.is_at_end }) pairs.items s)) (sym same_assembler)
            (next_source law sources second.place.before second.place.words next others (it.block + 1) pass.lexer pass2.lexer last pass2.is_at_end pass.is_at_end (λ s. IsMade (Whole sources) pass pairs.items s) is.files split at_end
            (may_pause_next last total it.source others (omega (arith, how_many sources it second.place total is.each many, ap length e)) lasts) ended after)))
        by_result (Err f) ended =
            absurd (never (sym (end_missing law sources second.place.before second.place.words next others (it.block + 1) pass.lexer pass2.lexer last pass2.is_at_end pass.is_at_end (λ s. IsMade (Whole sources) pass pairs.items s) f is.files split at_end ended after).0 ∙ second.ends))
          where
            never : Some f ≡ None → ⊥
            never e = cc

-- the last block of all
pub second_end : JoinedCharacters → EndsJoin → (sources : List (List ℕ)) (left : ℕ) (it : Assembling) (block : List ℕ) (offset count total : ℕ) (pass : Pass) (pairs : Vec (ℕ × ℕ)) → IsAssembling sources it left → 2 ≤ left → it.again ≡ true
    → block ≡ block_of sources (due_of it) → count ≡ get_or it.blocks.items it.source 0 → nat_lt (it.block + 1) count ≡ false → total ≡ length it.blocks.items → nat_lt (it.source + 1) total ≡ false
    → MakesClause it.pass it.pairs.items block it.offset offset (Ok tt) pass pairs.items → SkipsClause it.pass it.pairs (Ok tt) pass pairs
    → TakesBlock sources left (Ok tt) (record { blocks = it.blocks; source = total; block = 0; offset = 0; again = it.again; pass = pass; pairs = pairs })
second_end chars law sources left it block offset count total pass pairs is more again this counted test many stops makes skips = (
  record {
    files = is.files;
    each = is.each;
    more = omega (arith, more);
    none = none_more sources (assembling_turns (blocks_among sources)) left _ more (most_left (blocks_among sources) (blocks_among second.place.before) it.block left second.turns) turn_at is.none now;
    at = inr (inr (record {
      one = omega (arith, second.turns, all, more);
      source = many ∙ ap length is.each ∙ as_many sources;
      no_fault = fault_all (newest_first sources) None fine.0 second.ends (ap (λ o. first_of o (no_word (Whole sources))) made.1.words ∙ fine.1);
      pairs = made.2;
    }));
  },
  ap (λ t. fault_at_turn t sources) turn_at ∙ now,
)
  where
    second : IsSecondPass sources it left
    second = the_second sources it left is more again

    fine : (first_order (Whole sources) ≡ None) × (no_word (Whole sources) ≡ None)
    fine = some_second sources it left second law chars is.files

    at_end : it.block + 1 ≡ blocks_in second.place.words
    at_end = last_block sources it second.place count is.each counted test

    alone : second.place.others ≡ []
    alone = no_others total it.source second.place.others (how_many sources it second.place total is.each many) stops

    split : sources ≡ second.place.before ++ second.place.words ∷ []
    split = second.place.split ∙ ap (λ l. second.place.before ++ second.place.words ∷ l) alone

    all : blocks_among sources ≡ blocks_among second.place.before + (it.block + 1)
    all = omega (arith, ap blocks_among split, among_append second.place.before (second.place.words ∷ []), at_end)

    turn_at : turn_of (assembling_turns (blocks_among sources)) left ≡ blocks_among sources + (blocks_among second.place.before + (it.block + 1))
    turn_at = turn_again (blocks_among sources) (blocks_among second.place.before) it.block left second.turns

    after : IsAfter sources second.place.before second.place.words [] (it.block + 1) pass.lexer pass.is_at_end (λ s. IsMade (Whole sources) pass pairs.items s)
    after = subst (λ l. IsAfter sources second.place.before second.place.words l (it.block + 1) pass.lexer pass.is_at_end (λ s. IsMade (Whole sources) pass pairs.items s)) alone (after_second chars sources it left block offset pass pairs is.files second this makes skips)

    now : fault_at_turn (blocks_among sources + (blocks_among second.place.before + (it.block + 1))) sources ≡ None
    now = known_none law sources second.place.before second.place.words [] (it.block + 1) pass pairs.items is.files fine.0 fine.1 second.ends (omega (arith, at_end)) after

    made : IsMade (Whole sources) pass pairs.items (Whole sources)
    made =
        let read = all_read sources second.place.before second.place.words (it.block + 1) pass.lexer pass.is_at_end (λ s. IsMade (Whole sources) pass pairs.items s) is.files split at_end after in
        subst (λ t. IsMade (Whole sources) pass pairs.items (statements t)) (sym read.1.1.0) read.1.1.2

-- ## The last turn

pub at_last : (sources : List (List ℕ)) (it : Assembling) → IsAssembling sources it 1 → IsAtEnd sources it 1
at_last sources it is = elim is.at [
  | inl f ↦ absurd (omega (arith, f.turns, f.place.inside, ap blocks_among f.place.split, among_append f.place.before (f.place.words ∷ f.place.others)))
  | inr rest ↦ elim rest [
    | inl s ↦ absurd (omega (arith, s.turns, s.place.inside, ap blocks_among s.place.split, among_append s.place.before (s.place.words ∷ s.place.others)))
    | inr e ↦ e
  ]
]

-- before it there are sources to read
pub goes_on : (sources : List (List ℕ)) (it : Assembling) (left : ℕ) → IsAssembling sources it left → 2 ≤ left → it.source < length it.blocks.items
goes_on sources it left is more = elim is.at [
  | inl f ↦ omega (arith, how_many sources it f.place _ is.each refl)
  | inr rest ↦ elim rest [
    | inl s ↦ omega (arith, how_many sources it s.place _ is.each refl)
    | inr e ↦ absurd (omega (arith, e.one, more))
  ]
]

-- at it there are none
pub is_over : (sources : List (List ℕ)) (it : Assembling) → IsAssembling sources it 1 → it.source ≡ length it.blocks.items
is_over sources it is = (at_last sources it is).source ∙ sym (ap length is.each ∙ as_many sources)

pub some_pairs : HasWords → (sources : List (List ℕ)) (it : Assembling) → IsAssembling sources it 1 → 0 < length it.pairs.items
some_pairs has sources it is =
    let e = at_last sources it is in
    subst (λ (l : List (ℕ × ℕ)). 0 < length l) (sym e.pairs) (has (newest_first sources) e.no_fault)

-- packed blocks of the tape of pairs are a tape of them
tape_of_sources : ((pairs : List (ℕ × ℕ)) (rest : List ℕ) → ArePairs pairs → 0 < length pairs → IsTapeOf (tape_of pairs ++ rest) pairs)
    → (sources : List (List ℕ)) (words : List ℕ) → ArePairs (pairs_of (newest_first sources)) → 0 < length (pairs_of (newest_first sources)) → IsBlockPacking (tape_of (pairs_of (newest_first sources))) words → IsTapeOfSources sources words
tape_of_sources written sources words are some packing =
    let tape = written (pairs_of (newest_first sources)) _ are some in
    record { items = tape.items; is_tape = subst (λ l. IsTape l tape.items) (sym packing.reads_back) tape.is_tape; map = tape.map }

target_made : HasWords → ((pairs : List (ℕ × ℕ)) (rest : List ℕ) → ArePairs pairs → 0 < length pairs → IsTapeOf (tape_of pairs ++ rest) pairs)
    → (sources : List (List ℕ)) (it : Assembling) (target : Vec ℕ) → IsAssembling sources it 1 → (0 < length it.pairs.items → HoldsTape it.pairs.items target.items) → MakesTarget sources (Ok target)
target_made has written sources it target is holds =
    (tape.1, e.no_fault, tape_of_sources written sources target.items tape.0 (has (newest_first sources) e.no_fault) tape.2)
  where
    e : IsAtEnd sources it 1
    e = at_last sources it is

    tape : HoldsTape (pairs_of (newest_first sources)) target.items
    tape = subst (λ (l : List (ℕ × ℕ)). HoldsTape l target.items) e.pairs (holds (some_pairs has sources it is))

-- the last turn answers the words, or that memory ran out
pub last_turn : HasWords → ((pairs : List (ℕ × ℕ)) (rest : List ℕ) → ArePairs pairs → 0 < length pairs → IsTapeOf (tape_of pairs ++ rest) pairs)
    → (sources : List (List ℕ)) (it : Assembling) (pairs : List (ℕ × ℕ)) (r : Result (Vec ℕ) AsmFault) → IsAssembling sources it 1 → pairs ≡ it.pairs.items
    → IfOk r (λ words. 0 < length pairs → HoldsTape pairs words.items) → IfErr r (λ fault. fault ≡ Memory) → MakesTarget sources r
last_turn has written sources it pairs (Ok target) is same holds fault =
    target_made has written sources it target is (λ some. subst (λ (l : List (ℕ × ℕ)). HoldsTape l target.items) same (holds (subst (λ (l : List (ℕ × ℕ)). 0 < length l) (sym same) some)))
last_turn has written sources it pairs (Err f) is same holds fault = subst (λ g. MakesTarget sources (Err g)) (sym fault) tt

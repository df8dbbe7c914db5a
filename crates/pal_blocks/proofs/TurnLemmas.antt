-- Turns of the first pass, and what turns of both have in common.
use Rattle.std.proofs.Common.{◌≡◌, ◌∙◌, inl, inr, ℕ, ◌+◌, ◌-◌, ◌*◌, ◌<◌, ◌≤◌, nat_lt, Bool, true, false, true≢false, not, if◌then◌else◌, suc, Option, Some, None, List, [], ◌∷◌, ◌++◌, length, length-append, take, get_or, Result, Ok, Err, refl, ap, sym, subst, arith, append_assoc, append-nil, OnOk}
use Rattle.std.proofs.Math.Seq.{get_or-append_seam}
use Rattle.std.proofs.lemmas.Bool.Decides.{leb_tells}
use Rattle.char_pack.specs.Packing.{frames}
use Rattle.char_pack.specs.Texts.{is_ended}
use Rattle.pal_lex.specs.Text.{text_from, text_of, is_over, line_after}
use Rattle.pal_faults.specs.declared.assembling.Code.TheVariants.{NE}
use Rattle.char_pack.specs.Texts.{text}
use Rattle.std.proofs.lemmas.List.{take_all}
use Rattle.pal_lex.specs.Joins.{before_pause}
use Rattle.pal_lex.specs.Statements.{statements, first_fault}
use Rattle.pal_lex.specs.Laws.{has_next, EndsJoin}
use Rattle.pal_lex.specs.Reading.{HasRead}
use Rattle.pal_lex.specs.Progress as lex
use Rattle.pal_asm.specs.Places.{Source, values}
use Rattle.pal_asm.specs.Faults.{first_of, first_order, no_end, no_word, words_fault, fault_of}
use Rattle.pal_asm.specs.Laws.{NoWordIsTold}
use Rattle.pal_asm.specs.Passes.{IsFirst}
use Rattle.pal_faults.specs.declared.assembling.AsmFault.{AsmFault}
use Rattle.pal_faults.specs.declared.assembling.AsmFault.TheVariants.{At, Memory}
use Rattle.pal_asm.specs.declared.passing.Pass.{Pass}
use Rattle.pal_asm.proofs.TextLemmas.{nothing_read}
use Rattle.pal_blocks.specs.declared.assembling.Assembling.{Assembling}
use Rattle.pal_blocks.specs.Blocks.{blocks_in, blocks_among, blocks_of_each, first_blocks, first_among, block_at, AreFiles, assembling_turns, turn_of}
use Rattle.pal_blocks.specs.Sources.{texts_of, newest_first}
use Rattle.pal_blocks.specs.Schedule.{statements_in, joined_blocks, from_turn, known_again, fault_at_turn}
use Rattle.pal_blocks.specs.Schedule.{if_paused}
use Rattle.pal_blocks.specs.Passing.{text_in, characters_added, IsOver}
use Rattle.pal_asm.specs.Passing.{Counts, IsMade, StandsAfter}
use Rattle.pal_asm.specs.Passing.{TellsJoinFault, HasPassed, Settles, EndsSource, BeginsSecondPass}
use Rattle.pal_blocks.specs.Steps.{PassesBlock}
use Rattle.pal_blocks.specs.Progress.{due_of, block_of, Place, text_taken, IsInPass, IsFirstPass, IsSecondPass, IsAssembling}
use Rattle.pal_blocks.specs.Turns.{TakesBlock}
use Rattle.pal_blocks.proofs.BeginLemmas.{lt_true, lt_false, not_yet, no_text, as_many, has_others, nothing_more}
use Rattle.pal_blocks.proofs.TextLemmas.{JoinedCharacters, one_block}
use Rattle.pal_blocks.proofs.PlaceLemmas.{among_append, files_at, each_at, all_among, IsAfter, whole_join, whole_text, told_in, told_whole, so_far, joined_least, over_none, no_pause, next_source}

-- ## Which pass it is

pub the_first : (sources : List (List ℕ)) (it : Assembling) (left : ℕ) → IsAssembling sources it left → 2 ≤ left → it.again ≡ false → IsFirstPass sources it left
the_first sources it left is more first = elim is.at [
  | inl f ↦ f
  | inr rest ↦ elim rest [ inl s ↦ absurd (true≢false (sym s.again ∙ first)) | inr e ↦ absurd (omega (arith, e.one, more)) ]
]

pub the_second : (sources : List (List ℕ)) (it : Assembling) (left : ℕ) → IsAssembling sources it left → 2 ≤ left → it.again ≡ true → IsSecondPass sources it left
the_second sources it left is more second = elim is.at [
  | inl f ↦ absurd (true≢false (sym second ∙ f.again))
  | inr rest ↦ elim rest [ inl s ↦ s | inr e ↦ absurd (omega (arith, e.one, more)) ]
]

-- ## The block that is due

pub due_block : (sources : List (List ℕ)) (it : Assembling) (place : Place sources it.source it.block) (block : List ℕ) → block ≡ block_of sources (due_of it) → block ≡ block_at it.block place.words
due_block sources it place block is =
    is ∙ ap (block_at it.block)
    (ap (λ s. get_or s it.source []) place.split ∙ ap (λ n. get_or (place.before ++ place.words ∷ place.others) n []) place.count ∙ get_or-append_seam place.before place.words place.others [])

pub file_here : (sources : List (List ℕ)) (source block : ℕ) (place : Place sources source block) → AreFiles sources → 256 * blocks_in place.words ≡ length place.words
file_here sources source block place are = (files_at place.before (place.words ∷ place.others) (subst AreFiles place.split are)).0

pub block_inside : (sources : List (List ℕ)) (source block : ℕ) (place : Place sources source block) → AreFiles sources → 256 * (block + 1) ≤ length place.words
block_inside sources source block place are = omega (arith, file_here sources source block place are, place.inside)

pub more_frames : (sources : List (List ℕ)) (it : Assembling) (place : Place sources it.source it.block) (block : List ℕ) → AreFiles sources → block ≡ block_of sources (due_of it)
    → frames (first_blocks it.block place.words) ++ frames block ≡ frames (first_blocks (it.block + 1) place.words)
more_frames sources it place block are is =
    ap (λ b. frames (first_blocks it.block place.words) ++ frames b) (due_block sources it place block is) ∙ sym (one_block it.block place.words (block_inside sources it.source it.block place are))

pub lt_from : (a b : ℕ) → nat_lt a b ≡ true → a < b
lt_from a b is = elim (leb_tells (suc a) b) [ inl h ↦ omega (arith, h.1) | inr h ↦ absurd (true≢false (sym is ∙ h.0)) ]

pub lt_not : (a b : ℕ) → nat_lt a b ≡ false → b ≤ a
lt_not a b is = elim (leb_tells (suc a) b) [ inl h ↦ absurd (true≢false (sym h.0 ∙ is)) | inr h ↦ omega (arith, h.1) ]

pub count_is : (sources : List (List ℕ)) (it : Assembling) (place : Place sources it.source it.block) → it.blocks.items ≡ blocks_of_each sources → get_or it.blocks.items it.source 0 ≡ blocks_in place.words
count_is sources it place each =
    ap (λ l. get_or l it.source 0) (each ∙ ap blocks_of_each place.split) ∙ ap (λ n. get_or (blocks_of_each (place.before ++ place.words ∷ place.others)) n 0) place.count ∙ each_at place.before place.words place.others

-- ## What is known

pub none_more : (sources : List (List ℕ)) (total left turn : ℕ) → 2 ≤ left → left ≤ total → turn_of total left ≡ turn → ((earlier : ℕ) → earlier < turn_of total left → fault_at_turn earlier sources ≡ None)
    → fault_at_turn turn sources ≡ None → (earlier : ℕ) → earlier < turn_of total (left - 1) → fault_at_turn earlier sources ≡ None
none_more sources total left turn more most is none now earlier low = elim (leb_tells (suc earlier) turn) [
  | inl h ↦ none earlier (omega (arith, h.1, is))
  | inr h ↦ ap (λ t. fault_at_turn t sources) (same h.1) ∙ now
]
  where
    same : turn < suc earlier → earlier ≡ turn
    same high = omega (arith, high, is, low, more, most)

pub known_all : (sources : List (List ℕ)) (turn : ℕ) (what : Option AsmFault) → first_order (statements_in turn sources) ≡ None → from_turn (joined_blocks sources) turn (no_end (newest_first sources)) ≡ None
    → from_turn (blocks_among sources) turn (known_again (turn - blocks_among sources) sources) ≡ what → fault_at_turn turn sources ≡ what
known_all sources turn what first ends again =
    ap (λ o. first_of o (first_of (from_turn (joined_blocks sources) turn (no_end (newest_first sources))) (from_turn (blocks_among sources) turn (known_again (turn - blocks_among sources) sources)))) first
    ∙ ap (λ o. first_of o (from_turn (blocks_among sources) turn (known_again (turn - blocks_among sources) sources))) ends
    ∙ again

pub known_first : (sources : List (List ℕ)) (turn : ℕ) (f : AsmFault) → first_order (statements_in turn sources) ≡ Some f → fault_at_turn turn sources ≡ Some f
known_first sources turn f told =
    ap (λ o. first_of o (first_of (from_turn (joined_blocks sources) turn (no_end (newest_first sources))) (from_turn (blocks_among sources) turn (known_again (turn - blocks_among sources) sources)))) told

pub known_end : (sources : List (List ℕ)) (turn : ℕ) (f : AsmFault) → first_order (statements_in turn sources) ≡ None → from_turn (joined_blocks sources) turn (no_end (newest_first sources)) ≡ Some f → fault_at_turn turn sources ≡ Some f
known_end sources turn f first told =
    ap (λ o. first_of o (first_of (from_turn (joined_blocks sources) turn (no_end (newest_first sources))) (from_turn (blocks_among sources) turn (known_again (turn - blocks_among sources) sources)))) first
    ∙ ap (λ o. first_of o (from_turn (blocks_among sources) turn (known_again (turn - blocks_among sources) sources))) told

pub from_none : (least turn : ℕ) → from_turn least turn None ≡ None
from_none least turn = by_test (nat_lt turn least) None refl
  where
    by_test : (test : Bool) (o : Option AsmFault) → o ≡ None → (if test then None else o) ≡ None
    by_test true o none = refl
    by_test false o none = none

pub from_now : (least turn : ℕ) (fault : Option AsmFault) → least ≤ turn → from_turn least turn fault ≡ fault
from_now least turn fault high = ap (λ b. if b then None else fault) (lt_false turn least high)

pub fault_all : (text : List ℕ) (what : Option AsmFault) → first_order (statements text) ≡ None → no_end text ≡ None → first_of (words_fault (values (statements text)) (statements text)) (no_word (statements text)) ≡ what → fault_of text ≡ what
fault_all text what first ends rest =
    ap (λ o. first_of o (first_of (no_end text) (first_of (words_fault (values (statements text)) (statements text)) (no_word (statements text))))) first
    ∙ ap (λ o. first_of o (first_of (words_fault (values (statements text)) (statements text)) (no_word (statements text)))) ends
    ∙ rest

pub fault_first : (text : List ℕ) (f : AsmFault) → first_order (statements text) ≡ Some f → fault_of text ≡ Some f
fault_first text f told = ap (λ o. first_of o (first_of (no_end text) (first_of (words_fault (values (statements text)) (statements text)) (no_word (statements text))))) told

pub fault_end : (text : List ℕ) (f : AsmFault) → first_order (statements text) ≡ None → no_end text ≡ Some f → fault_of text ≡ Some f
fault_end text f first told =
    ap (λ o. first_of o (first_of (no_end text) (first_of (words_fault (values (statements text)) (statements text)) (no_word (statements text))))) first
    ∙ ap (λ o. first_of o (first_of (words_fault (values (statements text)) (statements text)) (no_word (statements text)))) told

-- a fault ends the turn
pub takes_fault : (sources : List (List ℕ)) (left turn : ℕ) (f : AsmFault) (new : Assembling) → turn_of (assembling_turns (blocks_among sources)) left ≡ turn
    → ((earlier : ℕ) → earlier < turn_of (assembling_turns (blocks_among sources)) left → fault_at_turn earlier sources ≡ None) → (f ≡ Memory → ⊥)
    → fault_at_turn turn sources ≡ Some f → fault_of (newest_first sources) ≡ Some f → TakesBlock sources left (Err f) new
takes_fault sources left turn (At code line) new is none not now fault = (record { now = ap (λ t. fault_at_turn t sources) is ∙ now; before = none }, fault)
takes_fault sources left turn Memory new is none not now fault = absurd (not refl)

pub not_memory : (text : List ℕ) (f : AsmFault) → no_end text ≡ Some f → f ≡ Memory → ⊥
not_memory text f told is = by_test (is_over text) (told ∙ ap (λ g. Some g) is)
  where
    never : None ≡ Some Memory → ⊥
    never e = cc

    neither : Some (At NE (line_after text)) ≡ Some Memory → ⊥
    neither e = cc

    by_test : (test : Bool) → (if test then None else Some (At NE (line_after text))) ≡ Some Memory → ⊥
    by_test true e = never e
    by_test false e = neither e

-- ## The first pass

abbrev pub PassesClause : Pass → List ℕ → ℕ → ℕ → Result (Unit {0}) AsmFault → Pass → Type 0
PassesClause old block offset offset' result new =
    (prefix given : List ℕ) (several : Bool) → HasPassed old prefix several (text_from (text_in given) (take offset (characters_added given block))) (is_ended given) → PassesBlock prefix several given block offset' result new

abbrev pub EndedClause : Pass → Result (Unit {0}) AsmFault → Pass → Type 0
EndedClause old result new = old.is_at_end ≡ true → (source : Source) → StandsAfter old.waiting old.assembler source → Settles source result old new

-- a block was taken
pub after_first : (sources : List (List ℕ)) (it : Assembling) (left : ℕ) (block : List ℕ) (offset : ℕ) (new : Pass) → AreFiles sources → (first : IsFirstPass sources it left) → block ≡ block_of sources (due_of it)
    → PassesClause it.pass block it.offset offset (Ok tt) new → EndedClause it.pass (Ok tt) new
    → IsAfter sources first.place.before first.place.words first.place.others (it.block + 1) new.lexer new.is_at_end (λ s. StandsAfter new.waiting new.assembler s)
after_first sources it left block offset new are first is passes settles = elim first.pass [
  | inl here ↦
      let has = passes here.0 given (has_next first.place.others)
      (subst (λ b. HasPassed it.pass here.0 (has_next first.place.others) (text_from (text_in given) (take it.offset (characters_added given b))) (is_ended given)) (sym (due_block sources it first.place block is)) here.2) in
      inl (here.0, here.1, subst (λ l. HasPassed new here.0 (has_next first.place.others) (text_in l) (is_ended l)) (more_frames sources it first.place block are is) has.0)
  | inr over ↦
      let now = settles over.2.no_more (statements over.0) over.2.at in
      inr (
        over.0,
        over.1,
        subst (λ (n : Pass). IsOver n.lexer n.is_at_end over.0 (λ s. StandsAfter n.waiting n.assembler s)) (sym now.0)
            (record { no_more = over.2.no_more; seam = over.2.seam; read = over.2.read; over = over.2.over; fine = over.2.fine; at = now.1 }),
      )
]
  where
    given : List ℕ
    given = frames (first_blocks it.block first.place.words)

pub settled_first : (pass : Pass) → pass.waiting ≡ None → (s : Source) → StandsAfter pass.waiting pass.assembler s → IsFirst pass.assembler s
settled_first pass none s is = subst (λ w. StandsAfter w pass.assembler s) none is

pub turn_is : (n base k left : ℕ) → base + k + left ≡ 2 * n + 1 → turn_of (assembling_turns n) left ≡ base + (k + 1)
turn_is n base k left turns = omega (arith, turns)

-- where a source goes on, no `$` is missing yet
pub ends_none : (sources before : List (List ℕ)) (words : List ℕ) (others : List (List ℕ)) (count : ℕ) (lexer : lex.Progress) (ended : Bool) (Fits : Source → Type 0) → AreFiles sources → sources ≡ before ++ words ∷ others → count < blocks_in words
    → IsAfter sources before words others count lexer ended Fits → from_turn (joined_blocks sources) (blocks_among before + count) (no_end (newest_first sources)) ≡ None
ends_none sources before words others count lexer ended Fits are split low after = elim after [
  | inl here ↦ not_yet (joined_blocks sources) (blocks_among before + count) _ (omega (arith, here.1.blocks, joined_least words others, low))
  | inr over ↦
      ap (λ o. from_turn (joined_blocks sources) (blocks_among before + count) o) (ap no_end (whole_text sources before (words ∷ others) over.0 are split over.1) ∙ over_none over.0 over.2.over)
      ∙ from_none (joined_blocks sources) (blocks_among before + count)
]

-- the first pass goes on at a block
pub first_stands : EndsJoin → (sources : List (List ℕ)) (it new : Assembling) (left turn : ℕ) → IsAssembling sources it left → 2 ≤ left → turn_of (assembling_turns (blocks_among sources)) left ≡ turn → left ≤ assembling_turns (blocks_among sources)
    → new.blocks.items ≡ it.blocks.items → new.again ≡ false → new.pairs.items ≡ [] → new.offset ≡ 0 → new.pass.waiting ≡ None → (place : Place sources new.source new.block) → blocks_among place.before + new.block ≡ turn
    → IsAfter sources place.before place.words place.others new.block new.pass.lexer new.pass.is_at_end (λ s. StandsAfter new.pass.waiting new.pass.assembler s)
    → TakesBlock sources left (Ok tt) new
first_stands law sources it new left turn is more turn_at most same again none offset waiting place at after = (
  record {
    files = is.files;
    each = same ∙ is.each;
    more = omega (arith, more);
    none = none_more sources (assembling_turns (blocks_among sources)) left turn more most turn_at is.none now;
    at = inl (record {
      again = again;
      none = none;
      place = place;
      turns = omega (arith, turn_at, at, more, most);
      pass = subst (λ o. IsInPass sources new.source new.block o place new.pass (λ s. StandsAfter new.pass.waiting new.pass.assembler s)) (sym offset) after;
    });
  },
  ap (λ t. fault_at_turn t sources) turn_at ∙ now,
)
  where
    so : (text : List ℕ) × ((newest_first (first_among (blocks_among place.before + new.block) sources) ≡ text) × StandsAfter new.pass.waiting new.pass.assembler (statements text))
    so = so_far law sources place.before place.words place.others new.block new.pass.lexer new.pass.is_at_end (λ s. StandsAfter new.pass.waiting new.pass.assembler s) (omega (arith, place.inside)) after

    low : turn < blocks_among sources
    low = omega (arith, at, place.inside, ap blocks_among place.split, among_append place.before (place.words ∷ place.others))

    now : fault_at_turn turn sources ≡ None
    now = known_all sources turn None
        (ap (λ t. first_order (statements_in t sources)) (sym at) ∙ ap (λ t. first_order (statements t)) so.1.0 ∙ (settled_first new.pass waiting (statements so.0) so.1.1).no_fault)
        (ap (λ t. from_turn (joined_blocks sources) t (no_end (newest_first sources))) (sym at)
        ∙ ends_none sources place.before place.words place.others new.block new.pass.lexer new.pass.is_at_end (λ s. StandsAfter new.pass.waiting new.pass.assembler s) is.files place.split place.inside after)
        (not_yet (blocks_among sources) turn _ low)

pub most_left : (n base k left : ℕ) → base + k + left ≡ 2 * n + 1 → left ≤ assembling_turns n
most_left n base k left turns = omega (arith, turns)

-- a block that isn't the last of its source
pub first_on : EndsJoin → (sources : List (List ℕ)) (left : ℕ) (it : Assembling) (block : List ℕ) (offset count : ℕ) (pass : Pass) → IsAssembling sources it left → 2 ≤ left → it.again ≡ false → block ≡ block_of sources (due_of it)
    → count ≡ get_or it.blocks.items it.source 0 → nat_lt (it.block + 1) count ≡ true → PassesClause it.pass block it.offset offset (Ok tt) pass → EndedClause it.pass (Ok tt) pass → pass.waiting ≡ None
    → TakesBlock sources left (Ok tt) (record { blocks = it.blocks; source = it.source; block = it.block + 1; offset = 0; again = it.again; pass = pass; pairs = it.pairs })
first_on law sources left it block offset count pass is more again this counted test passes settles none =
    first_stands law sources it (record { blocks = it.blocks; source = it.source; block = it.block + 1; offset = 0; again = it.again; pass = pass; pairs = it.pairs }) left _ is more
    (turn_is (blocks_among sources) (blocks_among first.place.before) it.block left first.turns) (most_left (blocks_among sources) (blocks_among first.place.before) it.block left first.turns)
    refl again first.none refl none place refl (after_first sources it left block offset pass is.files first this passes settles)
  where
    first : IsFirstPass sources it left
    first = the_first sources it left is more again

    place : Place sources it.source (it.block + 1)
    place = record {
      before = first.place.before;
      words = first.place.words;
      others = first.place.others;
      split = first.place.split;
      count = first.place.count;
      inside = subst (λ n. it.block + 1 < n) (counted ∙ count_is sources it first.place is.each) (lt_from (it.block + 1) count test);
    }

-- a fault of a statement
pub first_not : JoinedCharacters → (sources : List (List ℕ)) (left : ℕ) (it : Assembling) (block : List ℕ) (offset : ℕ) (pass : Pass) (f : AsmFault) → IsAssembling sources it left → 2 ≤ left → it.again ≡ false → block ≡ block_of sources (due_of it)
    → PassesClause it.pass block it.offset offset (Err f) pass → EndedClause it.pass (Err f) pass
    → TakesBlock sources left (Err f) (record { blocks = it.blocks; source = it.source; block = it.block; offset = offset; again = it.again; pass = pass; pairs = it.pairs })
first_not chars sources left it block offset pass f is more again this passes settles = by_fault f passes settles
  where
    first : IsFirstPass sources it left
    first = the_first sources it left is more again

    given : List ℕ
    given = frames (first_blocks it.block first.place.words)

    new : Assembling
    new = record { blocks = it.blocks; source = it.source; block = it.block; offset = offset; again = it.again; pass = pass; pairs = it.pairs }

    turn_at : turn_of (assembling_turns (blocks_among sources)) left ≡ blocks_among first.place.before + (it.block + 1)
    turn_at = turn_is (blocks_among sources) (blocks_among first.place.before) it.block left first.turns

    in_block : (prefix : List ℕ) → HasPassed it.pass prefix (has_next first.place.others) (text_taken first.place.words it.block it.offset) (is_ended given)
        → HasPassed it.pass prefix (has_next first.place.others) (text_from (text_in given) (take it.offset (characters_added given block))) (is_ended given)
    in_block prefix has = subst (λ b. HasPassed it.pass prefix (has_next first.place.others) (text_from (text_in given) (take it.offset (characters_added given b))) (is_ended given)) (sym (due_block sources it first.place block this)) has

    told : (g : AsmFault) → (g ≡ Memory → ⊥) → first_order (statements_in (blocks_among first.place.before + (it.block + 1)) sources) ≡ Some g → first_order (statements (newest_first sources)) ≡ Some g → TakesBlock sources left (Err g) new
    told g not here whole =
        takes_fault sources left (blocks_among first.place.before + (it.block + 1)) g new turn_at is.none not (known_first sources _ g here) (fault_first (newest_first sources) g whole)

    by_fault : (g : AsmFault) → PassesClause it.pass block it.offset offset (Err g) pass → EndedClause it.pass (Err g) pass → TakesBlock sources left (Err g) new
    by_fault (At code line) passed settled = elim first.pass [
      | inl here ↦
          let tells : TellsJoinFault first_order here.0 (has_next first.place.others) (text_in (frames (first_blocks (it.block + 1) first.place.words))) (At code line) =
          subst (λ l. TellsJoinFault first_order here.0 (has_next first.place.others) (text_in l) (At code line)) (more_frames sources it first.place block is.files this)
          (passed here.0 given (has_next first.place.others) (in_block here.0 here.2)) in
          told (At code line) (λ e. never e)
          (told_in first_order sources first.place.before first.place.words first.place.others here.0 (it.block + 1) (At code line) here.1 tells)
          (told_whole chars first_order sources first.place.before first.place.words first.place.others here.0 (it.block + 1) (At code line) is.files first.place.split (block_inside sources it.source it.block first.place is.files) here.1 tells)
      | inr over ↦
          let now = settled over.2.no_more (statements over.0) over.2.at in
          told (At code line) (λ e. never e)
          (ap (λ t. first_order (statements t)) (over.1 (it.block + 1)) ∙ now)
          (ap (λ t. first_order (statements t)) (whole_text sources first.place.before (first.place.words ∷ first.place.others) over.0 is.files first.place.split over.1) ∙ now)
    ]
      where
        never : At code line ≡ Memory → ⊥
        never e = cc
    by_fault Memory passed settled = record {
      files = is.files;
      each = is.each;
      more = is.more;
      none = is.none;
      at = inl (record {
        again = again;
        none = first.none;
        place = first.place;
        turns = first.turns;
        pass = elim first.pass [
          | inl here ↦
              inl (
                here.0,
                here.1,
                subst (λ b. HasPassed pass here.0 (has_next first.place.others) (text_from (text_in given) (take offset (characters_added given b))) (is_ended given)) (due_block sources it first.place block this)
                    (passed here.0 given (has_next first.place.others) (in_block here.0 here.2)),
              )
          | inr over ↦
              inr (over.0, over.1, subst (λ (n : Pass). IsOver n.lexer n.is_at_end over.0 (λ s. StandsAfter n.waiting n.assembler s)) (sym (settled over.2.no_more (statements over.0) over.2.at)) over.2)
        ];
      });
    }

-- ## The last block of a source

pub last_block : (sources : List (List ℕ)) (it : Assembling) (place : Place sources it.source it.block) (count : ℕ) → it.blocks.items ≡ blocks_of_each sources → count ≡ get_or it.blocks.items it.source 0 → nat_lt (it.block + 1) count ≡ false
    → it.block + 1 ≡ blocks_in place.words
last_block sources it place count each counted test =
    omega (arith, place.inside, lt_not (it.block + 1) count test, counted ∙ count_is sources it place each)

pub how_many : (sources : List (List ℕ)) (it : Assembling) (place : Place sources it.source it.block) (total : ℕ) → it.blocks.items ≡ blocks_of_each sources → total ≡ length it.blocks.items
    → total ≡ it.source + 1 + length place.others
how_many sources it place total each is =
    omega (arith, is ∙ ap length each ∙ as_many sources ∙ ap length place.split, length-append place.before (place.words ∷ place.others), place.count)

pub no_others : (total source : ℕ) (others : List (List ℕ)) → total ≡ source + 1 + length others → nat_lt (source + 1) total ≡ false → others ≡ []
no_others total source [] is test = refl
no_others total source (next ∷ others) is test = absurd (omega (arith, is, lt_not (source + 1) total test))

pub whole_words : (words : List ℕ) (count : ℕ) → 256 * blocks_in words ≡ length words → count ≡ blocks_in words → first_blocks count words ≡ words
whole_words words count whole is = take_all (256 * count) words (omega (arith, whole, is))

pub may_pause_next : (last : Bool) (total source : ℕ) (others : List (List ℕ)) → total ≡ source + 1 + (1 + length others) → last ≡ not (nat_lt (source + 1 + 1) total) → (if last then false else true) ≡ has_next others
may_pause_next last total source [] is e = ap (λ b. if b then false else true) (e ∙ ap not (lt_false (source + 1 + 1) total (omega (arith, is))))
may_pause_next last total source (next ∷ others) is e = ap (λ b. if b then false else true) (e ∙ ap not (lt_true (source + 1 + 1) total (omega (arith, is))))

abbrev pub next_place : (sources before : List (List ℕ)) (words next : List ℕ) (others : List (List ℕ)) (source : ℕ) → AreFiles sources → source ≡ length before → sources ≡ before ++ words ∷ next ∷ others → Place sources (source + 1) 0
next_place sources before words next others source are count split = record {
  before = before ++ words ∷ [];
  words = next;
  others = others;
  split = split ∙ sym (append_assoc before (words ∷ []) (next ∷ others));
  count = omega (arith, count, length-append before (words ∷ []));
  inside = (files_at before (words ∷ next ∷ others) (subst AreFiles split are)).2.1;
}

-- a `$` is missing at the end of a source
pub end_missing : EndsJoin → (sources before : List (List ℕ)) (words next : List ℕ) (others : List (List ℕ)) (count : ℕ) (old new : lex.Progress) (last over ended : Bool) (Fits : Source → Type 0) (f : AsmFault) → AreFiles sources → sources ≡ before ++ words ∷ next ∷ others
    → count ≡ blocks_in words → EndsSource old last (Err f) new over → IsAfter sources before words (next ∷ others) count old ended Fits
    → (no_end (newest_first sources) ≡ Some f) × (joined_blocks sources ≡ blocks_among before + count) × Fits (statements (newest_first sources))
end_missing law sources before words next others count old new last over ended Fits f are split is ends after = elim after [
  | inl here ↦ elim here.2 [
    | inl counts ↦
        let c : Counts old here.0 true (text_in (frames words)) Fits = subst (λ w. Counts old here.0 true (text_in (frames w)) Fits) whole counts.1 in
        let all = whole_join sources before (words ∷ next ∷ others) here.0 are split here.1 ∙ ap (λ t. t ++ here.0) (law here.0 (text_in (frames words)) (texts_of (next ∷ others)) c.clear c.fine) in (
          ap no_end all ∙ ends.1 (length here.0) (text_in (frames words) ++ here.0) c.read c.fine,
          omega (arith, here.1.blocks, no_pause law old here.0 true (text_in (frames words)) Fits (joined_blocks (next ∷ others)) c, is),
          subst (λ t. Fits (statements t)) (sym all) c.at,
        )
    | inr paused ↦ absurd (ends.0 paused.1.cut paused.1.paused)
  ]
  | inr o ↦ absurd (never (sym (over_none o.0 o.2.over) ∙ ends.1 o.2.seam o.0 o.2.read o.2.fine))
]
  where
    never : None ≡ Some f → ⊥
    never e = cc

    whole : first_blocks count words ≡ words
    whole = whole_words words count (files_at before (words ∷ next ∷ others) (subst AreFiles split are)).0 is

pub first_next : EndsJoin → (sources : List (List ℕ)) (left : ℕ) (it : Assembling) (block : List ℕ) (offset count total : ℕ) (pass pass2 : Pass) (last : Bool) (r : Result (Unit {0}) AsmFault) → IsAssembling sources it left → 2 ≤ left → it.again ≡ false
    → block ≡ block_of sources (due_of it) → count ≡ get_or it.blocks.items it.source 0 → nat_lt (it.block + 1) count ≡ false → total ≡ length it.blocks.items → nat_lt (it.source + 1) total ≡ true → last ≡ not (nat_lt (it.source + 1 + 1) total)
    → PassesClause it.pass block it.offset offset (Ok tt) pass → EndedClause it.pass (Ok tt) pass → pass.waiting ≡ None → EndsSource pass.lexer last r pass2.lexer pass2.is_at_end → pass2.assembler ≡ pass.assembler → pass2.waiting ≡ pass.waiting
    → TakesBlock sources left r (record { blocks = it.blocks; source = it.source + 1; block = 0; offset = 0; again = it.again; pass = pass2; pairs = it.pairs })
first_next law sources left it block offset count total pass pass2 last r is more again this counted test many goes lasts passes settles none ends same_assembler same_waiting = by_others first.place.others refl
  where
    first : IsFirstPass sources it left
    first = the_first sources it left is more again

    new : Assembling
    new = record { blocks = it.blocks; source = it.source + 1; block = 0; offset = 0; again = it.again; pass = pass2; pairs = it.pairs }

    at_end : it.block + 1 ≡ blocks_in first.place.words
    at_end = last_block sources it first.place count is.each counted test

    turn_at : turn_of (assembling_turns (blocks_among sources)) left ≡ blocks_among first.place.before + (it.block + 1)
    turn_at = turn_is (blocks_among sources) (blocks_among first.place.before) it.block left first.turns

    by_others : (others : List (List ℕ)) → first.place.others ≡ others → TakesBlock sources left r new
    by_others [] e = absurd (omega (arith, how_many sources it first.place total is.each many, ap length e, lt_from (it.source + 1) total goes))
    by_others (next ∷ others) e = by_result r ends
      where
        split : sources ≡ first.place.before ++ first.place.words ∷ next ∷ others
        split = first.place.split ∙ ap (λ l. first.place.before ++ first.place.words ∷ l) e

        after : IsAfter sources first.place.before first.place.words (next ∷ others) (it.block + 1) pass.lexer pass.is_at_end (λ s. StandsAfter pass.waiting pass.assembler s)
        after = subst (λ l. IsAfter sources first.place.before first.place.words l (it.block + 1) pass.lexer pass.is_at_end (λ s. StandsAfter pass.waiting pass.assembler s)) e (after_first sources it left block offset pass is.files first this passes settles)

        next_turn : blocks_among (first.place.before ++ first.place.words ∷ []) + 0 ≡ blocks_among first.place.before + (it.block + 1)
        next_turn = omega (arith, among_append first.place.before (first.place.words ∷ []), at_end)

        by_result : (a : Result (Unit {0}) AsmFault) → EndsSource pass.lexer last a pass2.lexer pass2.is_at_end → TakesBlock sources left a new
        by_result (Ok done) ended =
            first_stands law sources it new left _ is more turn_at (most_left (blocks_among sources) (blocks_among first.place.before) it.block left first.turns) refl again first.none refl (same_waiting ∙ none)
            (next_place sources first.place.before first.place.words next others it.source is.files first.place.count split)
            next_turn
            (subst (λ w. IsAfter sources (first.place.before ++ first.place.words ∷ []) next others 0 pass2.lexer pass2.is_at_end (λ s. StandsAfter w pass2.assembler s)) (sym same_waiting)
            (subst (λ a. IsAfter sources (first.place.before ++ first.place.words ∷ []) next others 0 pass2.lexer pass2.is_at_end (λ s. StandsAfter pass.waiting a s)) (sym same_assembler)
            (next_source law sources first.place.before first.place.words next others (it.block + 1) pass.lexer pass2.lexer last pass2.is_at_end pass.is_at_end (λ s. StandsAfter pass.waiting pass.assembler s) is.files split at_end
            (may_pause_next last total it.source others (omega (arith, how_many sources it first.place total is.each many, ap length e)) lasts) ended after)))
        by_result (Err f) ended =
            let missing = end_missing law sources first.place.before first.place.words next others (it.block + 1) pass.lexer pass2.lexer last pass2.is_at_end pass.is_at_end (λ s. StandsAfter pass.waiting pass.assembler s) f is.files split at_end ended after in
            let so = so_far law sources first.place.before first.place.words (next ∷ others) (it.block + 1) pass.lexer pass.is_at_end (λ s. StandsAfter pass.waiting pass.assembler s) (omega (arith, at_end)) after in
            takes_fault sources left _ f new turn_at is.none (not_memory (newest_first sources) f missing.0)
            (known_end sources _ f (ap (λ t. first_order (statements t)) so.1.0 ∙ (settled_first pass none (statements so.0) so.1.1).no_fault)
            (from_now (joined_blocks sources) (blocks_among first.place.before + (it.block + 1)) (no_end (newest_first sources)) (omega (arith, missing.1)) ∙ missing.0))
            (fault_end (newest_first sources) f (settled_first pass none (statements (newest_first sources)) missing.2).no_fault missing.0)

-- Where a pass is among the sources.
use Rattle.std.proofs.Common.{◌≡◌, ◌∙◌, ◌⊎◌, inl, inr, ℕ, ◌+◌, ◌-◌, ◌*◌, ◌≤◌, Bool, true, false, true≢false, if◌then◌else◌, suc, Option, Some, None, List, [], ◌∷◌, ◌++◌, length, length-append, take, drop, get_or, Ok, refl, ap, sym, subst, arith}
use Rattle.std.proofs.Math.Seq.{get_or-append_seam}
use Rattle.std.proofs.lemmas.List.{take-append-drop, take_all, length-take-le}
use Rattle.char_pack.specs.Packing.{frames}
use Rattle.char_pack.specs.Texts.{characters, is_ended, text}
use Rattle.pal_lex.specs.Text.{text_of, is_over, line_after}
use Rattle.pal_lex.specs.Statements.{statements, first_fault}
use Rattle.pal_lex.specs.Joins.{before_pause, text_with_next, join_of}
use Rattle.pal_lex.specs.Laws.{has_next, EndsJoin}
use Rattle.pal_lex.specs.Reading.{HasRead, HasPaused}
use Rattle.pal_lex.specs.Progress as lex
use Rattle.pal_asm.specs.Places.{Source}
use Rattle.pal_asm.specs.Faults.{no_end}
use Rattle.pal_faults.specs.declared.assembling.AsmFault.{AsmFault}
use Rattle.pal_faults.specs.declared.assembling.AsmFault.TheVariants.{At}
use Rattle.pal_faults.specs.declared.assembling.Code.TheVariants.{NE}
use Rattle.pal_blocks.specs.Blocks.{blocks_in, blocks_among, blocks_of_each, first_blocks, first_among, AreFiles}
use Rattle.pal_blocks.specs.Sources.{texts_of, newest_first}
use Rattle.pal_blocks.specs.Schedule.{statements_in, joined_blocks, if_paused}
use Rattle.pal_blocks.specs.Passing.{text_in, IsOver}
use Rattle.pal_asm.specs.Passing.{Counts, Pause, Stands}
use Rattle.pal_asm.specs.Passing.{TellsJoinFault, IsWithin, EndsSource}
use Rattle.pal_blocks.specs.Progress.{GoesOn, IsJoined}
use Rattle.pal_blocks.proofs.TextLemmas.{JoinedCharacters, frames-append}
use Rattle.pal_blocks.proofs.TextLemmas.{from_after, from_both}

fine_there : (lexer : lex.Progress) (text : List ℕ) → HasPaused lexer text → first_fault (statements text) ≡ None
unfolding HasPaused
fine_there lexer text paused = paused.no_fault

-- ## Files among others

pub among_append : (before rest : List (List ℕ)) → blocks_among (before ++ rest) ≡ blocks_among before + blocks_among rest
among_append [] rest = omega arith
among_append (words ∷ before) rest = omega (arith, among_append before rest)

pub files_at : (before rest : List (List ℕ)) → AreFiles (before ++ rest) → AreFiles rest
files_at [] rest are = are
files_at (words ∷ before) rest are = files_at before rest are.2

pub each_at : (before : List (List ℕ)) (words : List ℕ) (others : List (List ℕ)) → get_or (blocks_of_each (before ++ words ∷ others)) (length before) 0 ≡ blocks_in words
each_at before words others = ap (λ l. get_or l (length before) 0) (each_append before) ∙ ap (λ n. get_or (blocks_of_each before ++ blocks_in words ∷ blocks_of_each others) n 0) (sym (as_many before)) ∙ get_or-append_seam (blocks_of_each before) (blocks_in words) (blocks_of_each others) 0
  where
    each_append : (l : List (List ℕ)) → blocks_of_each (l ++ words ∷ others) ≡ blocks_of_each l ++ blocks_in words ∷ blocks_of_each others
    each_append [] = refl
    each_append (w ∷ l) = ap (λ r. blocks_in w ∷ r) (each_append l)

    as_many : (l : List (List ℕ)) → length (blocks_of_each l) ≡ length l
    as_many [] = refl
    as_many (w ∷ l) = ap suc (as_many l)

-- so many blocks are all
pub all_among : (sources : List (List ℕ)) (count : ℕ) → AreFiles sources → blocks_among sources ≤ count → first_among count sources ≡ sources
all_among [] count are enough = refl
all_among (words ∷ others) count are enough =
    ap (λ w. w ∷ first_among (count - blocks_in words) others) (take_all (256 * count) words (omega (arith, are.0, enough)))
    ∙ ap (λ l. words ∷ l) (all_among others (count - blocks_in words) are.2 (omega (arith, enough)))

has_texts : (count : ℕ) (others : List (List ℕ)) → has_next (texts_of (first_among count others)) ≡ has_next others
has_texts count [] = refl
has_texts count (words ∷ others) = refl

has_all_texts : (others : List (List ℕ)) → has_next (texts_of others) ≡ has_next others
has_all_texts [] = refl
has_all_texts (words ∷ others) = refl

-- no block of the others
none_of : (others : List (List ℕ)) → newest_first (first_among 0 others) ≡ []
none_of [] = refl
none_of (words ∷ []) = refl
none_of (words ∷ next ∷ others) = refl

none_at : (count : ℕ) (others : List (List ℕ)) → count ≡ 0 → newest_first (first_among count others) ≡ []
none_at count others is = ap (λ n. newest_first (first_among n others)) is ∙ none_of others

-- a file is its first blocks and what stands after
pub blocks_text : JoinedCharacters → (words : List ℕ) (count : ℕ) → 256 * count ≤ length words → (later : List ℕ) × (text_in (frames words) ≡ later ++ text_in (frames (first_blocks count words)))
blocks_text chars words count inside =
    let rest = from_after (if is_ended (frames (first_blocks count words)) then [] else characters (frames (drop (256 * count) words))) (text_in (frames (first_blocks count words))) in (
      rest.0,
      ap text_in split ∙ ap text_of (chars (frames (first_blocks count words)) (frames (drop (256 * count) words)))
          ∙ from_both (characters (frames (first_blocks count words))) (if is_ended (frames (first_blocks count words)) then [] else characters (frames (drop (256 * count) words))) [] ∙ rest.1,
    )
  where
    split : frames words ≡ frames (first_blocks count words) ++ frames (drop (256 * count) words)
    split = ap frames (sym (take-append-drop (256 * count) words)) ∙ frames-append (take (256 * count) words) (drop (256 * count) words) (omega (arith, length-take-le (256 * count) words inside))

-- ## The join

-- The pass stands after so many blocks of a source.
abbrev pub IsAfter : List (List ℕ) → List (List ℕ) → List ℕ → List (List ℕ) → ℕ → lex.Progress → Bool → (Source → Type 0) → Type 0
IsAfter sources before words others count lexer ended Fits =
    ((prefix : List ℕ) × GoesOn sources (blocks_among before) (words ∷ others) prefix
    × Stands lexer ended prefix (has_next others) (text_in (frames (first_blocks count words))) (is_ended (frames (first_blocks count words))) Fits)
    ⊎ ((text : List ℕ) × IsJoined sources (blocks_among before) text × IsOver lexer ended text Fits)

enough : (before rest : List (List ℕ)) (sources : List (List ℕ)) → sources ≡ before ++ rest → blocks_among sources ≡ blocks_among before + blocks_among rest
enough before rest sources split = ap blocks_among split ∙ among_append before rest

pub whole_join : (sources before rest : List (List ℕ)) (prefix : List ℕ) → AreFiles sources → sources ≡ before ++ rest → GoesOn sources (blocks_among before) rest prefix → newest_first sources ≡ newest_first rest ++ prefix
whole_join sources before rest prefix are split goes =
    ap newest_first (sym (all_among sources (blocks_among before + blocks_among rest) are (omega (arith, enough before rest sources split))))
    ∙ goes.joins (blocks_among rest) ∙ ap (λ l. newest_first l ++ prefix) (all_among rest (blocks_among rest) (files_at before rest (subst AreFiles split are)) (omega arith))

pub whole_text : (sources before rest : List (List ℕ)) (text : List ℕ) → AreFiles sources → sources ≡ before ++ rest → IsJoined sources (blocks_among before) text → newest_first sources ≡ text
whole_text sources before rest text are split joined =
    ap newest_first (sym (all_among sources (blocks_among before + blocks_among rest) are (omega (arith, enough before rest sources split)))) ∙ joined (blocks_among rest)

-- a fault that is told by so many blocks is told by the statements up to there
pub told_in : (fault_in : Source → Option AsmFault) (sources before : List (List ℕ)) (words : List ℕ) (others : List (List ℕ)) (prefix : List ℕ) (count : ℕ) (f : AsmFault) → GoesOn sources (blocks_among before) (words ∷ others) prefix
    → TellsJoinFault fault_in prefix (has_next others) (text_in (frames (first_blocks count words))) f → fault_in (statements_in (blocks_among before + count) sources) ≡ Some f
told_in fault_in sources before words others prefix count f goes tells =
    ap (λ t. fault_in (statements t)) (goes.joins count) ∙ tells [] (texts_of (first_among (count - blocks_in words) others)) (has_texts (count - blocks_in words) others)

-- and by those of the whole
pub told_whole : JoinedCharacters → (fault_in : Source → Option AsmFault) (sources before : List (List ℕ)) (words : List ℕ) (others : List (List ℕ)) (prefix : List ℕ) (count : ℕ) (f : AsmFault) → AreFiles sources → sources ≡ before ++ words ∷ others
    → 256 * count ≤ length words → GoesOn sources (blocks_among before) (words ∷ others) prefix
    → TellsJoinFault fault_in prefix (has_next others) (text_in (frames (first_blocks count words))) f → fault_in (statements (newest_first sources)) ≡ Some f
told_whole chars fault_in sources before words others prefix count f are split inside goes tells =
    let later = blocks_text chars words count inside in
    ap (λ t. fault_in (statements t)) (whole_join sources before (words ∷ others) prefix are split goes ∙ ap (λ t. join_of (t ∷ texts_of others) ++ prefix) later.1) ∙ tells later.0 (texts_of others) (has_all_texts others)

-- so many blocks are in the whole
pub within_whole : JoinedCharacters → (sources before : List (List ℕ)) (words : List ℕ) (others : List (List ℕ)) (prefix : List ℕ) (count : ℕ) → AreFiles sources → sources ≡ before ++ words ∷ others
    → 256 * count ≤ length words → GoesOn sources (blocks_among before) (words ∷ others) prefix → IsWithin (statements (newest_first sources)) prefix (has_next others) (text_in (frames (first_blocks count words)))
within_whole chars sources before words others prefix count are split inside goes =
    let later = blocks_text chars words count inside in
    (later.0, (texts_of others, (has_all_texts others, ap statements (whole_join sources before (words ∷ others) prefix are split goes ∙ ap (λ t. join_of (t ∷ texts_of others) ++ prefix) later.1))))

-- the join so far, and what stands after its statements
pub so_far : EndsJoin → (sources before : List (List ℕ)) (words : List ℕ) (others : List (List ℕ)) (count : ℕ) (lexer : lex.Progress) (ended : Bool) (Fits : Source → Type 0) → count ≤ blocks_in words
    → IsAfter sources before words others count lexer ended Fits → (so : List ℕ) × ((newest_first (first_among (blocks_among before + count) sources) ≡ so) × Fits (statements so))
so_far law sources before words others count lexer ended Fits low after = elim after [
  | inl here ↦ by_stands here.0 here.1 here.2
  | inr over ↦ (over.0, (over.1 count, over.2.at))
]
  where
    more : ℕ
    more = count - blocks_in words

    none : more ≡ 0
    none = omega (arith, low)

    by_paused : (os : List (List ℕ)) (prefix : List ℕ) → Pause lexer prefix (has_next os) (text_in (frames (first_blocks count words))) Fits
        → (so : List ℕ) × ((join_of (text_in (frames (first_blocks count words)) ∷ texts_of (first_among more os)) ++ prefix ≡ so) × Fits (statements so))
    by_paused [] prefix p = absurd (true≢false (sym p.follows))
    by_paused (next ∷ os) prefix p =
        (p.cut, (p.joins [] (text_of (text (first_blocks more next))) (texts_of (first_among (more - blocks_in next) os)) ∙ ap (λ l. l ++ p.cut) (none_at more (next ∷ os) none), p.at))

    by_stands : (prefix : List ℕ) → GoesOn sources (blocks_among before) (words ∷ others) prefix
        → Stands lexer ended prefix (has_next others) (text_in (frames (first_blocks count words))) (is_ended (frames (first_blocks count words))) Fits
        → (so : List ℕ) × ((newest_first (first_among (blocks_among before + count) sources) ≡ so) × Fits (statements so))
    by_stands prefix goes stands = elim stands [
      | inl counts ↦ (
        text_in (frames (first_blocks count words)) ++ prefix,
        (goes.joins count ∙ ap (λ l. l ++ prefix) (law prefix (text_in (frames (first_blocks count words))) (texts_of (first_among more others)) counts.1.clear counts.1.fine), counts.1.at),
      )
      | inr paused ↦
          let there = by_paused others prefix paused.1 in
          (there.0, (goes.joins count ∙ there.1.0, there.1.1))
    ]

-- ## PAUSE

too_long : {C : Type 0} (a b c d : List ℕ) → a ++ b ≡ (0 ∷ a ++ b) ++ d → C
too_long a b c d e = absurd (omega (arith, ap length e, length-append (0 ∷ a ++ b) d))

pub some_pause : (lexer : lex.Progress) (prefix : List ℕ) (several : Bool) (here : List ℕ) (Fits : Source → Type 0) (following : ℕ) → Pause lexer prefix several here Fits → if_paused (before_pause here) following ≡ following
some_pause lexer prefix several here Fits following p = by_pause (before_pause here) refl
  where
    by_pause : (o : Option (List ℕ)) → before_pause here ≡ o → if_paused o following ≡ following
    by_pause None e =
        too_long here prefix [] p.cut
        (ap (λ o. text_with_next here o (0 ∷ here ++ prefix) ++ prefix) (sym e) ∙ p.joins [] (0 ∷ here ++ prefix) [])
    by_pause (Some cut) e = refl

pub no_pause : EndsJoin → (lexer : lex.Progress) (prefix : List ℕ) (several : Bool) (here : List ℕ) (Fits : Source → Type 0) (following : ℕ) → Counts lexer prefix several here Fits → if_paused (before_pause here) following ≡ 0
no_pause law lexer prefix several here Fits following counts = by_pause (before_pause here) refl
  where
    by_pause : (o : Option (List ℕ)) → before_pause here ≡ o → if_paused o following ≡ 0
    by_pause None e = refl
    by_pause (Some cut) e =
        absurd (omega (arith, ap length (ap (λ o. text_with_next here o (0 ∷ here)) (sym e) ∙ law prefix here ((0 ∷ here) ∷ []) counts.clear counts.fine), length-append (0 ∷ here) cut))

pub joined_least : (words : List ℕ) (others : List (List ℕ)) → blocks_in words ≤ joined_blocks (words ∷ others)
joined_least words [] = omega arith
joined_least words (next ∷ others) = omega arith

-- ## The end of a source

pub over_none : (text : List ℕ) → is_over text ≡ true → no_end text ≡ None
over_none text over = ap (λ b. if b then None else Some (At NE (line_after text))) over

-- the next source begins, or all has ended
pub next_source : EndsJoin → (sources before : List (List ℕ)) (words next : List ℕ) (others : List (List ℕ)) (count : ℕ) (old new : lex.Progress) (last over ended : Bool) (Fits : Source → Type 0) → AreFiles sources → sources ≡ before ++ words ∷ next ∷ others
    → count ≡ blocks_in words → (if last then false else true) ≡ has_next others → EndsSource old last (Ok tt) new over
    → IsAfter sources before words (next ∷ others) count old ended Fits
    → IsAfter sources (before ++ words ∷ []) next others 0 new over Fits
next_source law sources before words next others count old new last over ended Fits are split is may ends after = elim after [
  | inl here ↦ by_stands here.0 here.1 here.2
  | inr o ↦
      let now = ends.1 o.2.seam o.0 o.2.read o.2.fine in
      inr (
        o.0,
        all_joined (λ c. o.1 (blocks_in words + c)),
        record {
          no_more = now.1;
          seam = o.2.seam;
          read = subst (λ (l : lex.Progress). HasRead l o.2.seam o.0) (sym now.0) o.2.read;
          over = o.2.over;
          fine = o.2.fine;
          at = o.2.at;
        },
      )
]
  where
    here_is : (256 * blocks_in words ≡ length words)
    here_is = (files_at before (words ∷ next ∷ others) (subst AreFiles split are)).0

    base_is : blocks_among (before ++ words ∷ []) ≡ blocks_among before + blocks_in words
    base_is = omega (arith, among_append before (words ∷ []))

    all : (c : ℕ) → blocks_in words ≤ c → first_blocks c words ≡ words
    all c high = take_all (256 * c) words (omega (arith, here_is, high))

    further : (c : ℕ) → blocks_among (before ++ words ∷ []) + c ≡ blocks_among before + (blocks_in words + c)
    further c = omega (arith, base_is)

    all_joined : {so : List ℕ} → ((c : ℕ) → newest_first (first_among (blocks_among before + (blocks_in words + c)) sources) ≡ so) → IsJoined sources (blocks_among (before ++ words ∷ [])) so
    all_joined joined c = ap (λ n. newest_first (first_among n sources)) (further c) ∙ joined c

    following : (c : ℕ) → newest_first (first_among (blocks_in words + c) (words ∷ next ∷ others)) ≡ join_of (text_in (frames words) ∷ texts_of (first_among c (next ∷ others)))
    following c =
        ap (λ w. join_of (text_of (text w) ∷ texts_of (first_among (blocks_in words + c - blocks_in words) (next ∷ others)))) (all (blocks_in words + c) (omega arith))
        ∙ ap (λ n. join_of (text_of (text words) ∷ texts_of (first_among n (next ∷ others)))) (rest c)
      where
        rest : (n : ℕ) → blocks_in words + n - blocks_in words ≡ n
        rest n = omega arith

    whole_here : text_in (frames (first_blocks count words)) ≡ text_in (frames words)
    whole_here = ap (λ w. text_in (frames w)) (all count (omega (arith, is)))

    by_stands : (prefix : List ℕ) → GoesOn sources (blocks_among before) (words ∷ next ∷ others) prefix
        → Stands old ended prefix true (text_in (frames (first_blocks count words))) (is_ended (frames (first_blocks count words))) Fits
        → IsAfter sources (before ++ words ∷ []) next others 0 new over Fits
    by_stands prefix goes stands = elim stands [
      | inl counts ↦
          let now = ends.1 (length prefix) (text_in (frames (first_blocks count words)) ++ prefix) counts.1.read counts.1.fine in
          inr (
            text_in (frames (first_blocks count words)) ++ prefix,
            all_joined (λ c. goes.joins (blocks_in words + c) ∙ ap (λ l. l ++ prefix) (following c ∙ ap (λ t. join_of (t ∷ texts_of (first_among c (next ∷ others)))) (sym whole_here)
                ∙ law prefix (text_in (frames (first_blocks count words))) (texts_of (first_among c (next ∷ others))) counts.1.clear counts.1.fine)),
            record {
              no_more = now.1;
              seam = length prefix;
              read = subst (λ (l : lex.Progress). HasRead l (length prefix) (text_in (frames (first_blocks count words)) ++ prefix)) (sym now.0) counts.1.read;
              over = now.2;
              fine = counts.1.fine;
              at = counts.1.at;
            },
          )
      | inr paused ↦
          let p : Pause old prefix true (text_in (frames words)) Fits = subst (λ t. Pause old prefix true t Fits) whole_here paused.1 in
          let begins = ends.0 p.cut p.paused p.clear in
          inl (
            p.cut,
            record {
              joins = λ c. ap (λ n. newest_first (first_among n sources)) (further c) ∙ goes.joins (blocks_in words + c) ∙ ap (λ l. l ++ prefix) (following c)
                  ∙ p.joins [] (text_of (text (first_blocks c next))) (texts_of (first_among (c - blocks_in next) others));
              blocks = goes.blocks ∙ ap (λ n. blocks_among before + (blocks_in words + n)) (some_pause old prefix true (text_in (frames words)) Fits (joined_blocks (next ∷ others)) p) ∙ omega (arith, base_is);
            },
            inl (
              begins.counts,
              record {
                read = begins.read;
                may_pause = begins.may_pause ∙ may;
                clear = p.clear;
                fine = fine_there old p.cut p.paused;
                at = p.at;
              },
            ),
          )
    ]

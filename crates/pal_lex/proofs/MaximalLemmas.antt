-- Letters and digits that stand together are one run.
use Rattle.std.proofs.Common.{◌≡◌, ℕ, ◌+◌, nat_eq, Bool, true, false, ◌&&◌, ◌||◌, not, if◌then◌else◌, Option, Some, None, is_some, List, [], ◌∷◌, ◌++◌, refl, ap, sym, ◌∙◌}
use Rattle.pal_lex.specs.Cutting.{Piece, Run, Mark, is_coded, is_space, sign_of, is_legal, has_illegal, is_operand, with_character, with_blank, with_sign, with_byte, pieces}
use Rattle.pal_lex.specs.Laws.{all_coded, ends_coded, RunsAreMaximal, RunsEnd}
use Rattle.pal_lex.specs.declared.pieces.Term.TheVariants.{Here}
use Rattle.pal_lex.specs.declared.pieces.Kind.{Kind}
use Rattle.pal_lex.specs.declared.pieces.Kind.TheVariants.{Term, Blank}

both : (a b : Bool) → (a && b) ≡ true → (a ≡ true) × (b ≡ true)
both true b e = (refl, e)
both false b e = absurd cc

neither : (a b : Bool) → (a || b) ≡ false → (a ≡ false) × (b ≡ false)
neither true b e = absurd cc
neither false b e = (refl, e)

abbrev ends_run : List Piece → Bool
ends_run [] = false
ends_run (Run first others start end ∷ before) = true
ends_run (Mark kind place ∷ before) = false

blank_by : (operand : Bool) (place at : ℕ) (kind : Kind) (before : List Piece) → ends_run (if operand then Mark Blank place ∷ Mark kind at ∷ before else Mark kind at ∷ before) ≡ false
blank_by true place at kind before = refl
blank_by false place at kind before = refl

blank_ends : (place : ℕ) (before : List Piece) → ends_run (with_blank place before) ≡ false
blank_ends place [] = refl
blank_ends place (Run first others start end ∷ before) = refl
blank_ends place (Mark kind at ∷ before) = blank_by (is_operand kind) place at kind before

other_ends : (b place : ℕ) (before : List Piece) (coded space dot : Bool) (sign : Option Kind) → coded ≡ false → (coded || space || dot || is_some sign) ≡ true
    → ends_run (if coded then with_character b place before
    else (if space then with_blank place before else (if dot then Mark (Term Here) place ∷ before else with_sign sign place before))) ≡ false
other_ends b place before true space dot sign e legal = absurd cc
other_ends b place before false true dot sign e legal = blank_ends place before
other_ends b place before false false true sign e legal = refl
other_ends b place before false false false (Some kind) e legal = refl
other_ends b place before false false false None e legal = absurd cc

not_not : (a : Bool) → not a ≡ false → a ≡ true
not_not true e = refl
not_not false e = sym e

no_run : (before : List (ℕ × ℕ)) → ends_coded before ≡ false → has_illegal before ≡ false → ends_run (pieces before) ≡ false
no_run [] e legal = refl
no_run (live ∷ older) e legal =
    other_ends live.0 live.1 (pieces older) (is_coded live.0) (is_space live.0) (nat_eq live.0 46) (sign_of live.0) e
    (not_not (is_legal live.0) (neither (not (is_legal live.0)) (has_illegal older) legal).0)

begins : (b place : ℕ) (before : List Piece) → ends_run before ≡ false → with_character b place before ≡ Run b [] place (place + 1) ∷ before
begins b place [] e = refl
begins b place (Run first others start end ∷ before) e = absurd cc
begins b place (Mark kind at ∷ before) e = refl

coded_byte : (b place : ℕ) (before : List Piece) → is_coded b ≡ true → with_byte b place before ≡ with_character b place before
coded_byte b place before e = rw e refl

pub runs_are_maximal : RunsAreMaximal
runs_are_maximal b place [] before coded apart legal =
    (b, ([], (coded_byte b place (pieces before) (both (is_coded b) true coded).0 ∙ begins b place (pieces before) (no_run before apart legal), refl)))
runs_are_maximal b place (live ∷ run) before coded apart legal =
    let parts = both (is_coded b) (all_coded (live ∷ run)) coded in
    let rest = runs_are_maximal live.0 live.1 run before parts.1 apart legal in
    (rest.0, (rest.1.0 ++ b ∷ [], (coded_byte b place (pieces (live ∷ run ++ before)) parts.0 ∙ ap (with_character b place) rest.1.1.0, ap (λ l. l ++ b ∷ []) rest.1.1.1)))

end_by : (b place start end first : ℕ) (others : List ℕ) (before : List Piece) (coded space dot : Bool) (sign : Option Kind) → coded ≡ false → (coded || space || dot || is_some sign) ≡ true
    → (kind : Kind) × ((if coded then with_character b place (Run first others start end ∷ before)
    else (if space then with_blank place (Run first others start end ∷ before)
    else (if dot then Mark (Term Here) place ∷ Run first others start end ∷ before else with_sign sign place (Run first others start end ∷ before))))
    ≡ Mark kind place ∷ Run first others start end ∷ before)
end_by b place start end first others before true space dot sign e legal = absurd cc
end_by b place start end first others before false true dot sign e legal = (Blank, refl)
end_by b place start end first others before false false true sign e legal = (Term Here, refl)
end_by b place start end first others before false false false (Some kind) e legal = (kind, refl)
end_by b place start end first others before false false false None e legal = absurd cc

pub runs_end : RunsEnd
runs_end b place live first others start end before coded legal is =
    let ended = end_by b place start end first others before (is_coded b) (is_space b) (nat_eq b 46) (sign_of b) coded legal in
    (ended.0, ap (with_byte b place) is ∙ ended.1)

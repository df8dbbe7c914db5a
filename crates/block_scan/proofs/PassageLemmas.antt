-- How a text goes through frames.
use Rattle.std.proofs.Common.{◌≡◌, ◌∙◌, ℕ, zero, suc, ◌%◌, Bool, true, false, true≢false, ◌||◌, ◌&&◌, nat_eq, if◌then◌else◌, List, [], ◌∷◌, ◌++◌, refl, sym, ap, arith, inl, inr}
use Rattle.std.proofs.lemmas.Bool.Decides.{eqb_tells}
use Rattle.file_kind.specs.Texts.{all_stand, all_zero, has_graphic, is_end, is_graphic, is_text, is_text_character}
use Rattle.block_scan.specs.Passages.{end_or_break, passage}
use Rattle.block_scan.specs.declared.passages.Passage.{Passage}
use Rattle.block_scan.specs.declared.passages.Passage.TheVariants.{Goes, Ends, Breaks}

or-false : (a : Bool) → a ≡ (a || false)
or-false true = refl
or-false false = refl

or-more : (a g b : Bool) → ((a || g) || b) ≡ (a || (if g then true else b))
or-more true g b = refl
or-more false true b = refl
or-more false false b = refl

not-zero : (n : ℕ) → nat_eq (suc n) 0 ≡ false
not-zero n = elim (eqb_tells (suc n) 0) [ inl p ↦ absurd (omega (arith, p.1)) | inr p ↦ p.0 ]

ends-same : (a b : Bool) → Ends a ≡ Ends b → b ≡ a
ends-same a b is = cc

-- zeros have no graphic character
zeros-none : (frames : List ℕ) → all_zero frames ≡ true → has_graphic frames ≡ false
zeros-none [] is = refl
zeros-none (zero ∷ frames) is = zeros-none frames is
zeros-none (suc frame ∷ frames) is = absurd (true≢false (sym (rw (not-zero frame) at is)))

-- what is said of frames among which a text ends
abbrev IsEnded : Bool → Bool → List ℕ → Type 0
IsEnded seen now frames = (all_stand frames ≡ true) × (now ≡ (seen || has_graphic frames))

ended-by : (e z m g az all graphic : Bool) (seen now : Bool) (next : Passage) → (z ≡ true → g ≡ false) → (az ≡ true → graphic ≡ false)
    → (next ≡ Ends now → (all ≡ true) × (now ≡ ((seen || g) || graphic)))
    → (if e then Ends seen else if z then end_or_break seen az else if m then next else Breaks) ≡ Ends now
    → ((if e then true else if z then az else if m then all else false) ≡ true) × (now ≡ (seen || (if e then false else if g then true else graphic)))
ended-by true z m g az all graphic seen now next plain none following is = (refl, ends-same seen now is ∙ or-false seen)
ended-by false true m g true all graphic seen now next plain none following is = (refl, rw (plain refl, none refl) (ends-same seen now is ∙ or-false seen))
ended-by false true m g false all graphic seen now next plain none following is = absurd (cc)
ended-by false false true g az all graphic seen now next plain none following is = ((following is).0, (following is).1 ∙ or-more seen g graphic)
ended-by false false false g az all graphic seen now next plain none following is = absurd (cc)

zero-none : (frame : ℕ) → nat_eq frame 0 ≡ true → is_graphic (frame % 0o200) ≡ false
zero-none zero is = refl
zero-none (suc frame) is = absurd (true≢false (sym is ∙ not-zero frame))

pub ended : (frames : List ℕ) (seen now : Bool) → passage seen frames ≡ Ends now → IsEnded seen now frames
ended [] seen now is = absurd (cc)
ended (frame ∷ frames) seen now is =
    ended-by (is_end frame) (nat_eq frame 0) (is_text_character (frame % 0o200)) (is_graphic (frame % 0o200)) (all_zero frames) (all_stand frames) (has_graphic frames) seen now
    (passage (seen || is_graphic (frame % 0o200)) frames) (zero-none frame) (zeros-none frames) (ended frames (seen || is_graphic (frame % 0o200)) now) is

both : (a b : Bool) → a ≡ true → b ≡ true → (a && b) ≡ true
both true true is one = refl
both true false is one = absurd (true≢false (sym one))
both false b is one = absurd (true≢false (sym is))

pub ended-text : (frames : List ℕ) → passage false frames ≡ Ends true → is_text frames ≡ true
ended-text frames is = let p = ended frames false true is in both (all_stand frames) (has_graphic frames) p.0 (sym p.1)

-- ## Frames after others

goes-by : (e z m az az' : Bool) (seen now : Bool) (next next' following : Passage) → (next ≡ Goes now → next' ≡ following)
    → (if e then Ends seen else if z then end_or_break seen az else if m then next else Breaks) ≡ Goes now
    → (if e then Ends seen else if z then end_or_break seen az' else if m then next' else Breaks) ≡ following
goes-by true z m az az' seen now next next' following goes is = absurd (cc)
goes-by false true m true az' seen now next next' following goes is = absurd (cc)
goes-by false true m false az' seen now next next' following goes is = absurd (cc)
goes-by false false true az az' seen now next next' following goes is = goes is
goes-by false false false az az' seen now next next' following goes is = absurd (cc)

-- where a text goes on, those after are its own
pub goes-on : (frames others : List ℕ) (seen now : Bool) → passage seen frames ≡ Goes now → passage seen (frames ++ others) ≡ passage now others
goes-on [] others seen now is = ap (λ p. passage p others) (same seen now is)
  where
    same : (a b : Bool) → Goes a ≡ Goes b → a ≡ b
    same a b is = cc
goes-on (frame ∷ frames) others seen now is =
    goes-by (is_end frame) (nat_eq frame 0) (is_text_character (frame % 0o200)) (all_zero frames) (all_zero (frames ++ others)) seen now (passage (seen || is_graphic (frame % 0o200)) frames)
    (passage (seen || is_graphic (frame % 0o200)) (frames ++ others)) (passage now others) (goes-on frames others (seen || is_graphic (frame % 0o200)) now) is

-- ## A graphic character that came before

-- the same with a graphic character before
abbrev pub with_seen : Passage → Passage
with_seen (Goes now) = Goes true
with_seen (Ends now) = Ends true
with_seen Breaks = Breaks

seen-by : (e z m az : Bool) (seen : Bool) (next next' : Passage) → next' ≡ with_seen next
    → (if e then Ends true else if z then end_or_break true az else if m then next' else Breaks)
    ≡ with_seen (if e then Ends seen else if z then end_or_break seen az else if m then next else Breaks)
seen-by true z m az seen next next' is = refl
seen-by false true m true seen next next' is = refl
seen-by false true m false seen next next' is = refl
seen-by false false true az seen next next' is = is
seen-by false false false az seen next next' is = refl

pub seen-before : (frames : List ℕ) (seen : Bool) → passage true frames ≡ with_seen (passage seen frames)
seen-before [] seen = refl
seen-before (frame ∷ frames) seen =
    seen-by (is_end frame) (nat_eq frame 0) (is_text_character (frame % 0o200)) (all_zero frames) seen (passage (seen || is_graphic (frame % 0o200)) frames) (passage true frames)
    (seen-before frames (seen || is_graphic (frame % 0o200)))

-- What is kept of a stretch, a byte at a time.
use Rattle.std.proofs.Common.{◌≡◌, ℕ, ◌+◌, ◌-◌, ◌/◌, ◌≤◌, Bool, true, false, if◌then◌else◌, suc, length, get_or, List, [], ◌∷◌, ◌++◌, refl, ap, sym, ◌∙◌, arith, length-append}
use Rattle.std.proofs.Math.ListN.{set}
use Rattle.std.proofs.Math.Seq.{set-append_seam}
use Rattle.pal_lex.specs.Text.{limit}
use Rattle.pal_lex.specs.Cutting.{Piece, Run, Mark, is_blank, is_operand, with_character, pieces, has_illegal}
use Rattle.pal_lex.specs.Runs.{base, token, in_order, run_kind}
use Rattle.pal_lex.specs.GrowthSteps.{grown}
use Rattle.pal_lex.specs.Drafting.{Cut, cut_of, cut, weight_after}
use Rattle.pal_lex.specs.declared.pieces.Token.{Token}
use Rattle.pal_lex.specs.declared.drafts.Tail.{Tail}
use Rattle.pal_lex.specs.declared.drafts.Tail.TheVariants as tail
use Rattle.pal_lex.specs.declared.runs.Radix.{Radix}
use Rattle.pal_lex.specs.declared.runs.Radix.TheVariants.{Octal, Decimal}
use Rattle.pal_lex.proofs.GrowthLemmas.{run_grown}

pub base_least : (radix : Radix) → 1 ≤ base radix
base_least Octal = omega arith
base_least Decimal = omega arith

last_at : {A : Type 0} (before : List A) (last other : A) → get_or (before ++ last ∷ []) (length before) other ≡ last
last_at [] last other = refl
last_at (x ∷ before) last other = last_at before last other

last_place : {A : Type 0} (before : List A) (last : A) → length (before ++ last ∷ []) - 1 ≡ length before
last_place before last = omega (arith, length-append before (last ∷ []))

-- the last token goes on
pub lengthened : (tokens before : List Token) (last item : Token) (more : Token → Token) → tokens ≡ before ++ last ∷ []
    → item ≡ get_or tokens (length tokens - 1) item → set tokens (length tokens - 1) (more item) ≡ before ++ more last ∷ []
lengthened tokens before last item more e at =
    let same : item ≡ last = at ∙ ap (λ l. get_or l (length l - 1) item) e ∙ ap (λ n. get_or (before ++ last ∷ []) n item) (last_place before last) ∙ last_at before last item in
    ap (λ l. set l (length l - 1) (more item)) e ∙ ap (λ n. set (before ++ last ∷ []) n (more item)) (last_place before last)
    ∙ set-append_seam before last [] (more item) ∙ ap (λ v. before ++ more v ∷ []) same

-- ## A stretch with no illegal byte

cut_legal : (base : ℕ) (illegal : Bool) (before : List Piece) → (cut_of base illegal before).illegal ≡ illegal
cut_legal base true before = refl
cut_legal base false before = refl

pub cut_illegal : (old : Cut) (base : ℕ) (illegal : Bool) (before : List Piece) → old ≡ cut_of base illegal before → illegal ≡ old.illegal
cut_illegal old base illegal before e = sym (ap (λ (c : Cut). c.illegal) e ∙ cut_legal base illegal before)

pub put_legal : (radix : Radix) (live : List (ℕ × ℕ)) (old : Cut) → old ≡ cut radix live → old.illegal ≡ false → old ≡ cut_of (base radix) false (pieces live)
put_legal radix live old e legal = e ∙ ap (λ (b : Bool). cut_of (base radix) b (pieces live)) (cut_illegal old (base radix) (has_illegal live) (pieces live) e ∙ legal)

abbrev weight_of : Tail → ℕ
weight_of tail.Sign = 0
weight_of tail.Dot = 0
weight_of (tail.Blank place) = 0
weight_of (tail.Run weight) = weight

length_more : (others : List ℕ) (b : ℕ) → length (others ++ b ∷ []) ≡ suc (length others)
length_more [] b = refl
length_more (x ∷ others) b = ap suc (length_more others b)

mark_is_no_run : (blank operand : Bool) (place weight : ℕ) → tail.Run weight ≡ (if blank then tail.Blank place else (if operand then tail.Dot else tail.Sign)) → ⊥
mark_is_no_run true operand place weight e = cc
mark_is_no_run false true place weight e = cc
mark_is_no_run false false place weight e = cc

-- a letter or a digit after others
pub run_more : (base : ℕ) (before : List Piece) (b at weight : ℕ) (is_bad : Bool) (tokens longer : List Token) (end : ℕ)
    → 1 ≤ base → record { illegal = is_bad; tail = tail.Run weight; tokens = tokens } ≡ cut_of base false before
    → end ≡ limit (at + 1)
    → ((prefix : List Token) (last : Token) → tokens ≡ prefix ++ last ∷ []
    → longer ≡ prefix ++ record { kind = grown base weight b last.kind; start = last.start; end = end } ∷ [])
    → record { illegal = is_bad; tail = tail.Run (weight / 64); tokens = longer } ≡ cut_of base false (with_character b at before)
run_more base [] b at weight is_bad tokens longer end least e ends more =
    let no : tail.Run weight ≡ tail.Sign = ap (λ (cut : Cut). cut.tail) e in cc
run_more base (Mark kind place ∷ before) b at weight is_bad tokens longer end least e ends more =
    absurd (mark_is_no_run (is_blank kind) (is_operand kind) (limit place) weight (ap (λ (cut : Cut). cut.tail) e))
run_more base (Run first others start stop ∷ before) b at weight is_bad tokens longer end least e ends more =
    let weighs : weight ≡ weight_after (suc (length others)) = ap (λ (cut : Cut). weight_of cut.tail) e in
    let listed : tokens ≡ in_order base before ++ token base (Run first others start stop) ∷ [] = ap (λ (cut : Cut). cut.tokens) e in
    let new : longer ≡ in_order base before ++ token base (Run first (others ++ b ∷ []) start (at + 1)) ∷ [] =
    more (in_order base before) (token base (Run first others start stop)) listed
    ∙ ap (λ k. in_order base before ++ record { kind = k; start = limit start; end = end } ∷ [])
    (ap (λ w. grown base w b (run_kind base first others)) weighs ∙ run_grown base first others b least)
    ∙ ap (λ n. in_order base before ++ record { kind = run_kind base first (others ++ b ∷ []); start = limit start; end = n } ∷ []) ends in
    let lighter : weight / 64 ≡ weight_after (suc (length (others ++ b ∷ []))) =
    ap (λ w. w / 64) weighs ∙ ap (λ n. weight_after (suc n)) (sym (length_more others b)) in
    ap (λ bad. record { illegal = bad; tail = tail.Run (weight / 64); tokens = longer }) (ap (λ (cut : Cut). cut.illegal) e)
    ∙ ap (λ w. record { illegal = false; tail = tail.Run w; tokens = longer }) lighter
    ∙ ap (λ l. record { illegal = false; tail = tail.Run (weight_after (suc (length (others ++ b ∷ [])))); tokens = l }) new

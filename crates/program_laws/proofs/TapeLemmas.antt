-- The words of a tape in core.
use Rattle.std.proofs.Common.{◌≡◌, ◌∙◌, ◌+◌, ◌*◌, ℕ, Bool, true, false, if◌then◌else◌, nat_eq, unwrap_or, None, Some, Err, List, [], ◌∷◌, ◌++◌, refl, sym, ap, slice_index, eq-eqb, ne_eqb}
use Rattle.std.specs.Option.{option_or}
use Rattle.bin_tape.specs.Items.{Item, Leader, Field, Origin, Word, cell_after, tape_map, words_of}
use Rattle.bin_tape.specs.Pairs.{last_word}
use Rattle.bin_tape.specs.declared.faults.TapeFault.{TapeFault}
use Rattle.bin_tape.specs.declared.faults.TapeFault.TheVariants.{BadFrame, NoOrigin, CheckSum, NoTrailer, Memory}
use Rattle.core_load.specs.Load.{IsLoaded, LoadsTape}
use Rattle.program_laws.specs.Tapes.{AreLaid, HaveNone}

last-one : (pairs : List (ℕ × ℕ)) (pair : ℕ × ℕ) (cell : ℕ) → last_word (pairs ++ pair ∷ []) cell ≡ (if nat_eq pair.0 cell then Some pair.1 else last_word pairs cell)
last-one [] pair cell = refl
last-one (p ∷ ps) pair cell =
    ap (λ o. option_or o (if nat_eq p.0 cell then Some p.1 else None)) (last-one ps pair cell)
    ∙ elim (nat_eq pair.0 cell) as (λ b.
    option_or (if b then Some pair.1 else last_word ps cell) (if nat_eq p.0 cell then Some p.1 else None)
    ≡ (if b then Some pair.1 else option_or (last_word ps cell) (if nat_eq p.0 cell then Some p.1 else None)))
    [ true ↦ refl | false ↦ refl ]

-- the map of a tape is the last of its words at each cell
map-of-words : (items : List Item) (cell : ℕ) → tape_map items cell ≡ last_word (words_of items) cell
map-of-words [] cell = refl
map-of-words (Leader f ∷ older) cell = map-of-words older cell
map-of-words (Field n ∷ older) cell = map-of-words older cell
map-of-words (Origin high low ∷ older) cell = map-of-words older cell
map-of-words (Word high low ∷ older) cell =
    ap (λ o. if nat_eq (cell_after older) cell then Some (64 * high + low) else o) (map-of-words older cell)
    ∙ sym (last-one (words_of older) (cell_after older, 64 * high + low) cell)

none-there : (pairs : List (ℕ × ℕ)) (cell : ℕ) → HaveNone cell pairs → last_word pairs cell ≡ None
none-there [] cell none = refl
none-there (pair ∷ others) cell none =
    ap (λ o. option_or o (if nat_eq pair.0 cell then Some pair.1 else None)) (none-there others cell none.1)
    ∙ ap (λ (b : Bool). if b then Some pair.1 else None) (ne_eqb pair.0 cell none.0)

some-there : (before after : List (ℕ × ℕ)) (cell word : ℕ) → HaveNone cell after → last_word (before ++ (cell, word) ∷ after) cell ≡ Some word
some-there [] after cell word none =
    ap (λ o. option_or o (if nat_eq cell cell then Some word else None)) (none-there after cell none)
    ∙ ap (λ (b : Bool). if b then Some word else None) (eq-eqb cell cell refl)
some-there (pair ∷ before) after cell word none = ap (λ o. option_or o (if nat_eq pair.0 cell then Some pair.1 else None)) (some-there before after cell word none)

pub laid : (items : List Item) (pairs : List (ℕ × ℕ)) → words_of items ≡ pairs → (frames old new : List ℕ) (loaded : IsLoaded frames old new) → loaded.items ≡ items → AreLaid pairs old new
laid items pairs words frames old new loaded same = record {
  same_size = loaded.overlaid.same_size;
  last = λ before after cell word are none within.
      loaded.overlaid.cells cell within ∙ ap (λ o. unwrap_or o (slice_index old cell)) (has cell ∙ ap (λ ps. last_word ps cell) are ∙ some-there before after cell word none);
  others = λ cell none within. loaded.overlaid.cells cell within ∙ ap (λ o. unwrap_or o (slice_index old cell)) (has cell ∙ none-there pairs cell none);
}
  where
    has : (cell : ℕ) → tape_map loaded.items cell ≡ last_word pairs cell
    has cell = ap (λ is. tape_map is cell) same ∙ map-of-words items cell ∙ ap (λ ps. last_word ps cell) words

pub not-laid : (frames old new : List ℕ) (fault : TapeFault) → LoadsTape frames old new (Err fault) → new ≡ old
not-laid frames old new (BadFrame at) p = p.1
not-laid frames old new NoOrigin p = p.1
not-laid frames old new (CheckSum found computed) p = p.1
not-laid frames old new NoTrailer p = p.1
not-laid frames old new Memory p = p.1

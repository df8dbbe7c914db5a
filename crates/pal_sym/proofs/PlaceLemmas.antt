-- What a search finds among entries whose names rise, and what an edit at that place does.
use Rattle.std.proofs.Common.{◌≡◌, ℕ, ◌+◌, ◌-◌, ◌<◌, ◌≤◌, nat_eq, if◌then◌else◌, length, get_or, set, Some, None, Result, Ok, Err, IfOk, IfErr, sym, ap, subst, ◌∙◌, arith}
use Rattle.std.specs.List.{insert}
use Rattle.std.specs.List.Sorted.{IsSearchInRange, IsBinarySearchResult, IsNonDecreasingBy}
use Rattle.std.specs.Ordering.{nat_cmp, ordering_index}
use Rattle.std.specs.FinMap.{find}
use Rattle.std.proofs.lemmas.Cmp.{ranked}
use Rattle.std.proofs.lemmas.List.Sorted.{IsNonDecreasingBy-from_default}
use Rattle.std.proofs.lemmas.List.{get_or_default}
use Rattle.std.proofs.lemmas.List.Edits.{length-insert, get_or-insert_below, get_or-insert_at, get_or-insert_above}
use Rattle.std.proofs.lemmas.Bool.Decides.{nat_tests}
use Rattle.std.proofs.lemmas.Grind.{common_steps}
use Rattle.pal_sym.specs.declared.symbols.Symbol.{Symbol}
use Rattle.pal_sym.specs.Entries.{Entries, no_entry, name_at, Rise}
use Rattle.pal_sym.specs.Steps.{IsAt, IsGapFor, PutsSymbol}
use Rattle.pal_sym.proofs.EntryLemmas.{NoneBefore, Sets, found_sought, sought_absent, sought_present, sought_set, sought_insert}

-- entries that rise and have one name set
puts : (old new : Entries) (name : ℕ) (symbol : Symbol) → Rise new → Sets old new name symbol → PutsSymbol name symbol old new
puts old new name symbol rise sets = record {
  rise = rise;
  found = λ n. found_sought new n ∙ sets n ∙ ap (λ o. if nat_eq name n then Some symbol else o) (sym (found_sought old n));
}

module _ (entries : Entries) (rise : Rise entries) (name : ℕ) where
  -- the comparisons with a name rise along the entries, as a binary search asks
  comparisons_rise : IsNonDecreasingBy (λ entry. ordering_index (nat_cmp entry.0 name)) entries
  comparisons_rise = IsNonDecreasingBy-from_default (λ entry. ordering_index (nat_cmp entry.0 name)) entries no_entry (λ i j le in_range.
      let names_rise : name_at entries i ≤ name_at entries j = grind (arith, rise i j, λ (same : i ≡ j). ap (name_at entries) same) in
      grind (arith, nat_tests))

  -- a binary search ends at the name, or at the gap for it
  pub searched : (r : Result ℕ ℕ) → IsSearchInRange r (length entries) → IsBinarySearchResult (λ entry. nat_cmp entry.0 name) entries r
      → record { found : IfOk r (IsAt entries name); absent : IfErr r (IsGapFor entries name) }
  searched (Ok place) in_range equal = record { found = record { in_range = in_range; has_name = ranked _ name _ (sym (equal no_entry)) }; absent = tt }
  searched (Err place) in_range parted = record {
    found = tt;
    absent = record {
      in_range = in_range;
      smaller_before = λ j lt. ranked _ name _ (sym ((parted comparisons_rise).0 j no_entry (omega arith) lt));
      greater_after = λ j le lt. ranked _ name _ (sym ((parted comparisons_rise).1 j no_entry le lt));
    };
  }

module _ (entries : Entries) (rise : Rise entries) (name place : ℕ) (is_at : IsAt entries name place) where
  -- the names before the place are smaller
  none_before_at : NoneBefore entries name place
  none_before_at j lt same = omega (arith, rise j place lt is_at.in_range, is_at.has_name)

  -- the entry at the place says what the name is
  pub found_at : find nat_cmp name entries ≡ Some (get_or entries place no_entry).1
  found_at = found_sought entries name ∙ sought_present entries name place is_at none_before_at

  -- the same, where the entry was read
  pub found_there : (entry : ℕ × Symbol) → entry ≡ get_or entries place entry → find nat_cmp name entries ≡ Some entry.1
  found_there entry is = found_at ∙ ap (λ e. Some e.1) (get_or_default _ _ no_entry entry is_at.in_range ∙ sym is)

  -- every name stays
  rise_set : (symbol : Symbol) → Rise (set entries place (name, symbol))
  rise_set symbol i j lt in_range = grind (arith, common_steps, rise i j, rise i place, rise place j, is_at.in_range, is_at.has_name)

  pub put_over : (symbol : Symbol) → PutsSymbol name symbol entries (set entries place (name, symbol))
  put_over symbol = puts entries _ name symbol (rise_set symbol) (sought_set entries name symbol place is_at none_before_at)

module _ (entries : Entries) (name place : ℕ) (gap : IsGapFor entries name place) where
  -- a name that has a gap is not found
  pub found_in_gap : find nat_cmp name entries ≡ None
  found_in_gap = found_sought entries name ∙ sought_absent entries name (λ j lt same. grind (arith, gap.smaller_before j, gap.greater_after j))

  -- each new name is an old one below the gap, this at it, or an old one moved up by one
  rise_insert : (symbol : Symbol) → Rise entries → Rise (insert entries place (name, symbol))
  rise_insert symbol rise i j lt in_range =
      let new = insert entries place (name, symbol) in
      let key = λ (entry : ℕ × Symbol). entry.0 in
      let length_new = length-insert entries place (name, symbol) gap.in_range in
      let below : (i : ℕ) → i < place → name_at new i ≡ name_at entries i = λ i lt. ap key (get_or-insert_below entries place (name, symbol) no_entry i lt gap.in_range) in
      let here : (i : ℕ) → i ≡ place → name_at new i ≡ name = λ i same. rw same (ap key (get_or-insert_at entries place (name, symbol) no_entry gap.in_range)) in
      let above : (i : ℕ) → place < i → name_at new i ≡ name_at entries (i - 1) =
      λ i lt. subst (λ q. name_at new q ≡ name_at entries (i - 1)) {x = i - 1 + 1} (omega arith) (ap key (get_or-insert_above entries place (name, symbol) no_entry (i - 1) (omega arith) gap.in_range)) in
      grind (arith, below i, here i, above i, below j, here j, above j, rise i j, rise i (j - 1), rise (i - 1) (j - 1), gap.smaller_before i, gap.greater_after (j - 1))

  pub put_in_gap : (symbol : Symbol) → Rise entries → PutsSymbol name symbol entries (insert entries place (name, symbol))
  put_in_gap symbol rise =
      puts entries _ name symbol (rise_insert symbol rise) (sought_insert entries name symbol place (λ j lt same. omega (arith, gap.smaller_before j lt)))

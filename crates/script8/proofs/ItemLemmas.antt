-- The items of a text and those of what stands after them.
use Rattle.std.proofs.Common.{◌≡◌, ◌≢◌, subst, ◌<◌, ◌≤◌, ◌+◌, ◌-◌, zero, suc, arith, true≢false, ℕ, refl, sym, ◌∙◌, ap, inl, inr, Bool, true, false, List, [], ◌∷◌, ◌++◌, length, take, drop, append_assoc, append-nil, Result, Ok, Err}
use Rattle.std.specs.Prelude.{nat_lt}
use Rattle.std.proofs.lemmas.Bool.Decides.{leb_tells}
use Rattle.std.proofs.lemmas.List.{append_cancel_right, drop-drop, drop_all}
use Rattle.script8.specs.Lines.{says, HasName, Parses}
use Rattle.script8.proofs.LineLemmas.{says_err}
use Rattle.script8.specs.Items.{lines_of, ended_lines, text_of, items_of_line, lines_taken, items_of, script_of, whole_of, lines_wanted, GivesItems, WaitsForLines, HasNoItem, BeginsWith, BeginsWithName}
use Rattle.script8.proofs.CutLemmas.{ends_append}
use Rattle.script8.specs.declared.items.Next.{Next}
use Rattle.script8.specs.declared.items.Next.TheVariants as next
use Rattle.script8.specs.CutSteps.{with_line_end, HasPrefix, Cuts, FirstLineSays, TooFew}
use Rattle.script8.specs.declared.entries.Entry.TheVariants as entry
use Rattle.script8.specs.declared.entries.FileEntry.TheVariants as files
use Rattle.refusals.specs.declared.faults.SessionFault.{SessionFault}
use Rattle.refusals.specs.declared.faults.SessionFault.TheVariants.{BadLine, Memory}
use Rattle.script8.specs.declared.lines.Line.{Line}
use Rattle.script8.specs.declared.lines.Line.TheVariants as line
use Rattle.script8.specs.declared.items.Item.{Item}
use Rattle.script8.specs.declared.items.Item.TheVariants.{Do, Refused}

no_lines : (lines : List (List ℕ)) → length lines < 1 → lines ≡ []
no_lines [] few = refl
no_lines (line ∷ lines) few = absurd (some_line (length lines) few)
  where
    some_line : (n : ℕ) → suc n < 1 → ⊥
    some_line n h = omega (arith, h)

-- a text with no line has no item
pub is_out : (text : List ℕ) (is_end : Bool) (missing : ℕ) → TooFew text is_end 1 missing → HasNoItem text is_end missing
unfolding script_of whole_of
is_out text true missing few = (ap (items_of (Refused BadLine ∷ []) 0) (no_lines (lines_of text) few.0), omega (arith, few.1, few.2))
is_out text false missing few = (
  few.0,
  (omega (arith, few.0, few.1)) ∙ ap lines_wanted (sym (no_lines (ended_lines text) (omega (arith, few.0, few.1)))),
  λ more fewer. ap (items_of [] 0) (no_lines (ended_lines (text ++ more)) (omega (arith, few.0, few.1, fewer, ends_append text more))),
)

one_line : (prefix : List (List ℕ)) → length prefix ≡ 1 → (line : List ℕ) × (prefix ≡ line ∷ [])
one_line [] size = absurd (no_line size)
  where
    no_line : ◌≡◌ {A = ℕ} 0 1 → ⊥
    no_line h = omega (arith, h)
one_line (line ∷ []) size = (line, refl)
one_line (line ∷ next ∷ lines) size = absurd (two_lines (length lines) size)
  where
    two_lines : (n : ℕ) → suc (suc n) ≡ 1 → ⊥
    two_lines n h = omega (arith, h)

some_bytes : (text line : List ℕ) (bytes : ℕ) → line ++ 10 ∷ [] ≡ with_line_end (take bytes text) → 0 < bytes
some_bytes text line zero is = absurd (no_end line is)
  where
    no_end : (line : List ℕ) → line ++ 10 ∷ [] ≡ [] → ⊥
    no_end line is = none line (ap length is)
      where
        none : (line : List ℕ) → length (line ++ 10 ∷ []) ≡ 0 → ⊥
        none [] h = omega (arith, h)
        none (b ∷ bs) h = omega (arith, h)
some_bytes text line (suc n) is = omega arith

-- the first line of a text, without its LF
pub opens : (text prefix command : List ℕ) (is_end : Bool) (bytes : ℕ) (said : Result Line SessionFault) → Cuts text is_end 1 bytes → prefix ≡ take bytes text → with_line_end prefix ≡ command ++ 10 ∷ []
    → said ≡ says command → FirstLineSays text is_end said bytes
opens text prefix command is_end bytes said cuts prefix_is command_is meaning_is =
    let one = one_line cuts.prefix cuts.size in
    let whole_line = sym (ap text_of one.1) ∙ cuts.content in
    let same = append_cancel_right one.0 command (10 ∷ []) (whole_line ∙ ap with_line_end (sym prefix_is) ∙ command_is) in
    record {
      line = one.0;
      meaning_is = ap says same ∙ sym meaning_is;
      some = some_bytes text one.0 bytes whole_line;
      within = cuts.within;
      script = cuts.script ∙ ap (λ f. f ++ lines_of (drop bytes text)) one.1;
      on = λ goes_on. subst (λ (f : List (List ℕ)). HasPrefix text f (drop bytes text)) one.1 (cuts.on goes_on);
    }

-- the items of a first line, and those after it
script_opens : (text line rest : List ℕ) (said : Result Line SessionFault) → says line ≡ said → lines_of text ≡ line ∷ lines_of rest
    → script_of text ≡ items_of_line (Refused BadLine ∷ []) said (lines_of rest) ++ items_of (Refused BadLine ∷ []) (lines_taken said) (lines_of rest)
unfolding script_of
script_opens text line rest said meaning_is first =
    ap (items_of (Refused BadLine ∷ []) 0) first
    ∙ ap (λ s. items_of_line (Refused BadLine ∷ []) s (lines_of rest) ++ items_of (Refused BadLine ∷ []) (lines_taken s) (lines_of rest)) meaning_is

whole_opens : (text line rest : List ℕ) (said : Result Line SessionFault) → says line ≡ said → ended_lines text ≡ line ∷ ended_lines rest
    → whole_of text ≡ items_of_line [] said (ended_lines rest) ++ items_of [] (lines_taken said) (ended_lines rest)
unfolding whole_of
whole_opens text line rest said meaning_is first =
    ap (items_of [] 0) first
    ∙ ap (λ s. items_of_line [] s (ended_lines rest) ++ items_of [] (lines_taken s) (ended_lines rest)) meaning_is

-- a line that takes no others
pub gives : (text : List ℕ) (is_end : Bool) (said : Result Line SessionFault) (items : List Item) (bytes : ℕ) → lines_taken said ≡ 0
    → ((short : List Item) (lines : List (List ℕ)) → items_of_line short said lines ≡ items) → FirstLineSays text is_end said bytes → GivesItems text is_end items bytes
unfolding script_of whole_of
gives text is_end said items bytes none are o = record {
  some = o.some;
  within = o.within;
  script = script text (drop bytes text) o.script;
  on = λ goes_on. record {
    script = λ more. script (text ++ more) (drop bytes text ++ more) ((o.on goes_on).script more);
    whole = λ more. whole (text ++ more) (drop bytes text ++ more) ((o.on goes_on).whole more);
  };
}
  where
    script : (text rest : List ℕ) → lines_of text ≡ o.line ∷ lines_of rest → script_of text ≡ items ++ script_of rest
    script text rest first =
        script_opens text o.line rest said o.meaning_is first
        ∙ ap (λ n. items_of_line (Refused BadLine ∷ []) said (lines_of rest) ++ items_of (Refused BadLine ∷ []) n (lines_of rest)) none
        ∙ ap (λ l. l ++ script_of rest) (are (Refused BadLine ∷ []) (lines_of rest))

    whole : (text rest : List ℕ) → ended_lines text ≡ o.line ∷ ended_lines rest → whole_of text ≡ items ++ whole_of rest
    whole text rest first =
        whole_opens text o.line rest said o.meaning_is first
        ∙ ap (λ n. items_of_line [] said (ended_lines rest) ++ items_of [] n (ended_lines rest)) none
        ∙ ap (λ l. l ++ whole_of rest) (are [] (ended_lines rest))

-- lines that belong to a STORE give no items
past : (short : List Item) (prefix more : List (List ℕ)) (count : ℕ) → length prefix ≡ count → items_of short count (prefix ++ more) ≡ items_of short 0 more
past short [] more zero size = refl
past short [] more (suc n) size = absurd (no_line n size)
  where
    no_line : (n : ℕ) → 0 ≡ suc n → ⊥
    no_line n h = omega (arith, h)
past short (line ∷ prefix) more zero size = absurd (some_line (length prefix) size)
  where
    some_line : (n : ℕ) → suc n ≡ 0 → ⊥
    some_line n h = omega (arith, h)
past short (line ∷ prefix) more (suc n) size = past short prefix more n (omega (arith, size))

-- the lines of a STORE are its text
lines_done : (short : List Item) (name : List ℕ) (prefix more : List (List ℕ)) (count : ℕ) → length prefix ≡ count → items_of_line short (Ok (line.Store name count)) (prefix ++ more) ≡ Do (entry.Files (files.Store name (text_of prefix))) ∷ []
lines_done short name prefix more count size = rw (enough prefix more count size) (ap (λ l. Do (entry.Files (files.Store name (text_of l))) ∷ []) (first prefix more count size))
  where
    within : (prefix more : List (List ℕ)) → length prefix ≤ length (prefix ++ more)
    within [] more = omega arith
    within (line ∷ prefix) more = omega (arith, within prefix more)

    not_less : (sum less count : ℕ) → less ≡ count → less ≤ sum → suc sum ≤ count → ⊥
    not_less sum less count is most below = omega (arith, is, most, below)

    enough : (prefix more : List (List ℕ)) (count : ℕ) → length prefix ≡ count → nat_lt (length (prefix ++ more)) count ≡ false
    enough prefix more count size = elim (leb_tells (suc (length (prefix ++ more))) count) [ inl h ↦ absurd (not_less _ _ count size (within prefix more) h.1) | inr h ↦ h.0 ]

    first : (prefix more : List (List ℕ)) (count : ℕ) → length prefix ≡ count → take count (prefix ++ more) ≡ prefix
    first [] more zero size = refl
    first [] more (suc n) size = absurd (no_line n size)
      where
        no_line : (n : ℕ) → 0 ≡ suc n → ⊥
        no_line n h = omega (arith, h)
    first (line ∷ prefix) more zero size = absurd (some_line (length prefix) size)
      where
        some_line : (n : ℕ) → suc n ≡ 0 → ⊥
        some_line n h = omega (arith, h)
    first (line ∷ prefix) more (suc n) size = ap (λ l. line ∷ l) (first prefix more n (omega (arith, size)))

-- a STORE with its lines
pub stores : (text rest prefix content name : List ℕ) (is_end : Bool) (count bytes more sum : ℕ) → FirstLineSays text is_end (Ok (line.Store name count)) bytes → rest ≡ drop bytes text → Cuts rest is_end count more
    → prefix ≡ take more rest → content ≡ with_line_end prefix → sum ≡ bytes + more → GivesItems text is_end (Do (entry.Files (files.Store name content)) ∷ []) sum
unfolding script_of whole_of
stores text rest prefix content name is_end count bytes more sum o rest_is cuts prefix_is content_is sum_is = record {
  some = omega (arith, o.some, sum_is);
  within = omega (arith, sum_is, cuts.within, o.within, rest_length);
  script = script text (drop bytes text) (drop more rest) o.script (ap lines_of (sym rest_is) ∙ cuts.script) ∙ ap (λ r. Do (entry.Files (files.Store name content)) ∷ script_of r) following;
  on = λ goes_on. record {
    script = λ last. script (text ++ last) (drop bytes text ++ last) (drop more rest ++ last) ((o.on goes_on).script last) (ap (λ r. lines_of (r ++ last)) (sym rest_is) ∙ (cuts.on goes_on).script last)
        ∙ ap (λ r. Do (entry.Files (files.Store name content)) ∷ script_of (r ++ last)) following;
    whole = λ last. whole (text ++ last) (drop bytes text ++ last) (drop more rest ++ last) ((o.on goes_on).whole last) (ap (λ r. ended_lines (r ++ last)) (sym rest_is) ∙ (cuts.on goes_on).whole last)
        ∙ ap (λ r. Do (entry.Files (files.Store name content)) ∷ whole_of (r ++ last)) following;
  };
}
  where
    following : drop more rest ≡ drop sum text
    following = ap (drop more) rest_is ∙ drop-drop more bytes text ∙ ap (λ n. drop n text) (sym sum_is)

    content_same : text_of cuts.prefix ≡ content
    content_same = cuts.content ∙ ap with_line_end (sym prefix_is) ∙ sym content_is

    script : (text rest last : List ℕ) → lines_of text ≡ o.line ∷ lines_of rest → lines_of rest ≡ cuts.prefix ++ lines_of last → script_of text ≡ Do (entry.Files (files.Store name content)) ∷ script_of last
    script text rest last first next =
        script_opens text o.line rest _ o.meaning_is first
        ∙ ap (λ r. items_of_line (Refused BadLine ∷ []) (Ok (line.Store name count)) r ++ items_of (Refused BadLine ∷ []) count r) next
        ∙ ap (λ l. l ++ items_of (Refused BadLine ∷ []) count (cuts.prefix ++ lines_of last)) (lines_done (Refused BadLine ∷ []) name cuts.prefix (lines_of last) count cuts.size)
        ∙ ap (λ l. Do (entry.Files (files.Store name (text_of cuts.prefix))) ∷ l) (past (Refused BadLine ∷ []) cuts.prefix (lines_of last) count cuts.size)
        ∙ ap (λ t. Do (entry.Files (files.Store name t)) ∷ script_of last) content_same

    whole : (text rest last : List ℕ) → ended_lines text ≡ o.line ∷ ended_lines rest → ended_lines rest ≡ cuts.prefix ++ ended_lines last → whole_of text ≡ Do (entry.Files (files.Store name content)) ∷ whole_of last
    whole text rest last first next =
        whole_opens text o.line rest _ o.meaning_is first
        ∙ ap (λ r. items_of_line [] (Ok (line.Store name count)) r ++ items_of [] count r) next
        ∙ ap (λ l. l ++ items_of [] count (cuts.prefix ++ ended_lines last)) (lines_done [] name cuts.prefix (ended_lines last) count cuts.size)
        ∙ ap (λ l. Do (entry.Files (files.Store name (text_of cuts.prefix))) ∷ l) (past [] cuts.prefix (ended_lines last) count cuts.size)
        ∙ ap (λ t. Do (entry.Files (files.Store name t)) ∷ whole_of last) content_same

    drop_length : (n : ℕ) (text : List ℕ) → n ≤ length text → length (drop n text) + n ≡ length text
    drop_length zero text within = omega arith
    drop_length (suc n) [] within = absurd (no_byte n within)
      where
        no_byte : (n : ℕ) → suc n ≤ 0 → ⊥
        no_byte n h = omega (arith, h)
    drop_length (suc n) (b ∷ bs) within = omega (arith, drop_length n bs (omega (arith, within)))

    rest_length : length rest + bytes ≡ length text
    rest_length = ap (λ r. length r + bytes) rest_is ∙ drop_length bytes text o.within

-- too few lines give no item
few_items : (short : List Item) (lines : List (List ℕ)) (count : ℕ) → length lines < count → items_of short count lines ≡ []
few_items short [] zero few = refl
few_items short [] (suc n) few = refl
few_items short (line ∷ lines) zero few = absurd (no_line (length lines) few)
  where
    no_line : (n : ℕ) → suc n < 0 → ⊥
    no_line n h = omega (arith, h)
few_items short (line ∷ lines) (suc n) few = few_items short lines n (omega (arith, few))

few_line : (short : List Item) (name : List ℕ) (lines : List (List ℕ)) (count : ℕ) → length lines < count → items_of_line short (Ok (line.Store name count)) lines ≡ short
few_line short name lines count few = rw (less lines count few) refl
  where
    not_less : (sum count : ℕ) → sum < count → count < suc sum → ⊥
    not_less sum count below most = omega (arith, below, most)

    less : (lines : List (List ℕ)) (count : ℕ) → length lines < count → nat_lt (length lines) count ≡ true
    less lines count few = elim (leb_tells (suc (length lines)) count) [ inl h ↦ h.0 | inr h ↦ absurd (not_less (length lines) count few h.1) ]

-- a STORE whose lines are not all there at a script's end
pub cut_short : (text rest name : List ℕ) (count bytes missing : ℕ) → FirstLineSays text true (Ok (line.Store name count)) bytes → rest ≡ drop bytes text → TooFew rest true count missing
    → GivesItems text true (Refused BadLine ∷ []) (length text)
unfolding script_of
cut_short text rest name count bytes missing o rest_is few = record {
  some = omega (arith, o.some, o.within);
  within = omega arith;
  script = script_opens text o.line (drop bytes text) _ o.meaning_is o.script
      ∙ ap (λ r. items_of_line (Refused BadLine ∷ []) (Ok (line.Store name count)) r ++ items_of (Refused BadLine ∷ []) count r) (ap lines_of (sym rest_is))
      ∙ ap (λ l. l ++ items_of (Refused BadLine ∷ []) count (lines_of rest)) (few_line (Refused BadLine ∷ []) name (lines_of rest) count few.0)
      ∙ ap (λ l. Refused BadLine ∷ l) (few_items (Refused BadLine ∷ []) (lines_of rest) count few.0)
      ∙ ap (λ t. Refused BadLine ∷ script_of t) (sym (drop_all (length text) text (omega arith)));
  on = λ goes_on. absurd (true≢false goes_on);
}

-- and in a text that goes on
pub waits : (text rest name : List ℕ) (count bytes missing : ℕ) → FirstLineSays text false (Ok (line.Store name count)) bytes → rest ≡ drop bytes text → TooFew rest false count missing → HasNoItem text false missing
waits text rest name count bytes missing o rest_is few = (few.0, wanted, waiting)
  where
    first : ended_lines text ≡ o.line ∷ ended_lines rest
    first = ap ended_lines (sym (append-nil text)) ∙ (o.on refl).whole [] ∙ ap (λ r. o.line ∷ ended_lines r) (append-nil (drop bytes text) ∙ sym rest_is)

    wanted : missing ≡ lines_wanted (ended_lines text)
    wanted = omega (arith, few.1) ∙ ap (λ s. lines_taken s - length (ended_lines rest)) (sym o.meaning_is) ∙ ap lines_wanted (sym first)

    waiting : WaitsForLines text missing
    waiting more fewer =
        let less : length (ended_lines (rest ++ more)) < count = omega (arith, few.1, fewer, ends_append rest more) in
        whole_opens (text ++ more) o.line (rest ++ more) _ o.meaning_is ((o.on refl).whole more ∙ ap (λ r. o.line ∷ ended_lines (r ++ more)) (sym rest_is))
        ∙ ap (λ l. l ++ items_of [] count (ended_lines (rest ++ more))) (few_line [] name (ended_lines (rest ++ more)) count less)
        ∙ few_items [] (ended_lines (rest ++ more)) count less

-- a STORE whose lines are not all there
pub few_lines : (text rest name : List ℕ) (is_end : Bool) (count bytes missing : ℕ) (found : Next) → FirstLineSays text is_end (Ok (line.Store name count)) bytes → rest ≡ drop bytes text → TooFew rest is_end count missing
    → (is_end ≡ true → found ≡ next.Item (Refused BadLine) (length text)) → (is_end ≡ false → found ≡ next.End missing) → BeginsWith text is_end (Ok found)
few_lines text rest name true count bytes missing found o rest_is few over on = rw (over refl) (cut_short text rest name count bytes missing o rest_is few)
few_lines text rest name false count bytes missing found o rest_is few over on = rw (on refl) (waits text rest name count bytes missing o rest_is few)

pub one_wanted : WaitsForLines [] 1
unfolding whole_of
one_wanted more few = ap (items_of [] 0) (no_lines (ended_lines more) few)

-- lines that a text wants are fewer by those that come
pub fewer_wanted : (text bytes : List ℕ) (lines left : ℕ) → left ≡ lines - length (ended_lines bytes) → WaitsForLines text lines → WaitsForLines (text ++ bytes) left
fewer_wanted text bytes lines left is waits more fewer =
    ap whole_of (append_assoc text bytes more) ∙ waits (bytes ++ more) (omega (arith, is, fewer, ends_append bytes more))

abbrev LineReply : Type 0
LineReply = Result Line SessionFault

ok_err : (x : Line) → ◌≡◌ {A = LineReply} (Ok x) (Err Memory) → ⊥
ok_err x same = cc

err_err : ◌≡◌ {A = LineReply} (Err BadLine) (Err Memory) → ⊥
err_err same = cc

-- what a line says that was read
pub said_ok : (read said : Line) (command : List ℕ) → Parses (says command) (Ok read) → read ≡ said → Ok said ≡ says command
said_ok read said command (inl is) same = sym (ap Ok same) ∙ is
said_ok read said command (inr is) same = absurd (ok_err read is.0)

pub said_bad : (why : SessionFault) (command : List ℕ) → Parses (says command) (Err why) → why ≡ BadLine → Err BadLine ≡ says command
said_bad why command (inl is) same = sym (ap Err same) ∙ is
said_bad why command (inr is) same = absurd (err_err (sym (ap Err same) ∙ is.0))

memory_err : (why : SessionFault) → ◌≡◌ {A = LineReply} (Err why) (Err Memory) → why ≡ Memory
memory_err why same = cc

-- a fault that is no bad line is want of memory, at a line with a name
pub said_other : (why : SessionFault) (command : List ℕ) → Parses (says command) (Err why) → why ≢ BadLine → (why ≡ Memory) × HasName (says command)
said_other why command (inl is) other = absurd (other (says_err command why (sym is)))
said_other why command (inr is) other = (memory_err why is.0, is.1)

-- a text whose first line says a name begins with one
pub begins_name : (text : List ℕ) (is_end : Bool) (said : Result Line SessionFault) (bytes : ℕ) → FirstLineSays text is_end said bytes → HasName said → BeginsWithName text
begins_name text is_end said bytes o has = (o.line, lines_of (drop bytes text), o.script, subst HasName (sym o.meaning_is) has)

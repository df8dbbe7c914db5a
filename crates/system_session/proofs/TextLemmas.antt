-- Runs of the texts that readers give.
use Rattle.std.proofs.Common.{arith, true, false, Bool, ℕ, ◌+◌, ◌≡◌, ◌<◌, ◌≤◌, ◌⊎◌, OnOk, IfErr, inl, inr, refl, sym, ◌∙◌, ap, subst, List, [], ◌∷◌, ◌++◌, drop, drop-drop, length, length-append, append_assoc, append-nil, Option, None, Result, Ok, Err}
use Rattle.std.specs.Io.KnownBytes.{Appends, Consumes}
use Rattle.std.proofs.KnownBytes.{Appends-nil}
use Rattle.script8.specs.Items.{script_of, whole_of, HasNoItem, LeadsWith, GivesItems, WaitsForLines}
use Rattle.refusals.specs.declared.faults.SessionFault.{SessionFault}
use Rattle.refusals.specs.declared.faults.SessionFault.TheVariants as fault
use Rattle.script8.specs.declared.items.Item.{Item}
use Rattle.script8.specs.Reading.{IsRead, IsReadWithin, TakesBytes}
use Rattle.system_session.specs.Reading.{IsTaken}
use Rattle.system_session.specs.declared.endings.Ending.{Ending}
use Rattle.system_session.specs.declared.endings.Ending.TheVariants as ending
use Rattle.system_session.specs.declared.pending.Begun.TheVariants.{Ran, Waiting}
use Rattle.system_session.specs.State.{State}
use Rattle.system_session.specs.RunSteps.{EndsWith, IsTold, RunsItems, RunsNext, RunsPrefix, RunsGiven, RunsRead, IsRunTo, IsEnded, StartsWithItems, Tells, WasShown, Watch, WritesShown, items_in, fault_of}
use Rattle.system_session.specs.ShownAnswers.{ShownAnswer, ShowsAll, ShowsFault, ShowsOne, ShowsText, all_shown}
use Rattle.script8.proofs.ByteLemmas.{consumes_more, consumes_none}
use Rattle.system_session.proofs.ToldLemmas.{all_written, breaks_off_more, part_none, prefix_all, prefix_none, after_more, shown_more, tells_more, tells_none, writes_prefix_more, writes_append}

-- last answers after what is written
pub writes_last : (old : State) (items : List Item) (new : State) (w w1 w2 : Watch) (last : List ShownAnswer) → WritesShown old items new w w1 [] → Tells w1 w2 last → WritesShown old items new w w2 last
writes_last old items new w w1 w2 last told more = record {
  groups = told.groups;
  told = told.told;
  written = subst (λ (l : List ShownAnswer). Tells w w2 l) (ap (λ l. l ++ last) (append-nil _)) (tells_more w w1 w2 (all_shown told.groups ++ []) last told.written more);
}

-- the items of a text are those at its prefix and those of the rest
heads_items : (text rest : List ℕ) (is_end : Bool) (prefix : List Item) → StartsWithItems text is_end prefix rest → items_in text is_end ≡ prefix ++ items_in rest is_end
heads_items text rest true prefix heads = heads
heads_items text rest false prefix heads = ap whole_of (sym (append-nil text)) ∙ heads.whole [] ∙ ap (λ r. prefix ++ whole_of r) (append-nil rest)

leads_script : (text rest : List ℕ) (prefix : List Item) → LeadsWith text prefix rest → script_of text ≡ prefix ++ script_of rest
leads_script text rest prefix leads = ap script_of (sym (append-nil text)) ∙ leads.script [] ∙ ap (λ r. prefix ++ script_of r) (append-nil rest)

-- a prefix, and the prefix of what stands after it
heads_more : (a b c : List ℕ) (is_end : Bool) (f g : List Item) → StartsWithItems a is_end f b → StartsWithItems b is_end g c → StartsWithItems a is_end (f ++ g) c
heads_more a b c true f g first second = first ∙ ap (λ (l : List Item). f ++ l) second ∙ sym (append_assoc f g _)
heads_more a b c false f g first second = record {
  script = λ more. first.script more ∙ ap (λ (l : List Item). f ++ l) (second.script more) ∙ sym (append_assoc f g _);
  whole = λ more. first.whole more ∙ ap (λ (l : List Item). f ++ l) (second.whole more) ∙ sym (append_assoc f g _);
}

gives_heads : (text : List ℕ) (is_end : Bool) (items : List Item) (bytes : ℕ) → GivesItems text is_end items bytes → StartsWithItems text is_end items (drop bytes text)
gives_heads text true items bytes gives = gives.script
gives_heads text false items bytes gives = gives.on refl

-- nothing is run
pub heads_none : (text : List ℕ) (is_end : Bool) → StartsWithItems text is_end [] text
heads_none text true = refl
heads_none text false = record { script = λ more. refl; whole = λ more. refl }

pub writes_none : (old : State) (w : Watch) → WritesShown old [] old w w []
writes_none old w = record { groups = []; told = refl; written = tells_none w }

-- the rest of a text begins with an item that want of memory or the writer stopped
pub prefix_stopped : (text rest : List ℕ) (is_end : Bool) (prefix : List Item) (old mid new : State) (w w1 w2 : Watch) (why : Ending)
    → StartsWithItems text is_end prefix rest → WritesShown old prefix mid w w1 [] → RunsNext rest is_end mid new w1 w2 (Err why) → RunsPrefix text is_end old new w w2 (Err why)
prefix_stopped text rest is_end prefix old mid new w w1 w2 ending.Memory heads first run = writes_prefix_more (items_in text is_end) prefix (items_in rest is_end) [] old mid new w w1 w2 (heads_items text rest is_end prefix heads ∙ ap (λ (l : List Item). prefix ++ l) (sym (append-nil _))) first run
prefix_stopped text rest is_end prefix old mid new w w1 w2 ending.Writer heads first run = breaks_off_more (items_in text is_end) prefix (items_in rest is_end) [] old mid new w w1 w2 (heads_items text rest is_end prefix heads ∙ ap (λ (l : List Item). prefix ++ l) (sym (append-nil _))) first run
prefix_stopped text rest is_end prefix old mid new w w1 w2 ending.Reader heads first run = absurd run

-- nothing is printed or shown where an item begins
pub nothing_begun : (w w1 : Watch) → w1.printed ≡ w.printed → ((shown : List ShownAnswer) → w.was_shown shown → w1.was_shown shown) → Tells w w1 []
nothing_begun w w1 same was = record {
  printed = subst (λ (p : Option (List ℕ)). Appends w.printed p []) (sym same) (Appends-nil w.printed);
  was_shown = λ before is. subst (λ (l : List ShownAnswer). w1.was_shown l) (sym (append-nil before)) (was before is);
}

-- an item that want of memory or the writer stopped
pub item_stopped : (text : List ℕ) (is_end : Bool) (item : Item) (bytes : ℕ) (old new : State) (w w1 w2 : Watch) (why : Ending)
    → Tells w w1 [] → GivesItems text is_end (item ∷ []) bytes → RunsItems (item ∷ []) old new w1 w2 (Err why) → RunsNext text is_end old new w w2 (Err why)
item_stopped text is_end item bytes old new w w1 w2 ending.Memory begun gives run =
    (run.0, after_more (item ∷ []) (items_in (drop bytes text) is_end) (items_in text is_end) old new run.0 (heads_items text _ is_end (item ∷ []) (gives_heads text is_end (item ∷ []) bytes gives)) run.1, tells_more w w1 w2 [] _ begun run.2)
item_stopped text is_end item bytes old new w w1 w2 ending.Writer begun gives run =
    (run.0, after_more (item ∷ []) (items_in (drop bytes text) is_end) (items_in text is_end) old new run.0 (heads_items text _ is_end (item ∷ []) (gives_heads text is_end (item ∷ []) bytes gives)) run.1, shown_more w w1 w2 [] _ begun.was_shown run.2)
item_stopped text is_end item bytes old new w w1 w2 ending.Reader begun gives run = absurd run

-- an item that was run
pub item_ran : (item : Item) (old new : State) (w w1 w2 : Watch) → Tells w w1 [] → WritesShown old (item ∷ []) new w1 w2 [] → WritesShown old (item ∷ []) new w w2 []
item_ran item old new w w1 w2 begun run = record { groups = run.groups; told = run.told; written = tells_more w w1 w2 [] _ begun run.written }

-- one more item, or a blank line
pub prefix_next : (text : List ℕ) (is_end : Bool) (done bytes : ℕ) (prefix items : List Item) → StartsWithItems text is_end prefix (drop done text) → GivesItems (drop done text) is_end items bytes
    → StartsWithItems text is_end (prefix ++ items) (drop (done + bytes) text)
prefix_next text is_end done bytes prefix items heads gives =
    heads_more text (drop done text) (drop (done + bytes) text) is_end prefix items heads (subst (λ (r : List ℕ). StartsWithItems (drop done text) is_end items r) (drop-drop bytes done text) (gives_heads (drop done text) is_end items bytes gives))

-- a text of which a prefix is answered up to some bytes, after which these lines are written
abbrev pub IsRunUpTo : List ℕ → Bool → List ℕ → State → State → Watch → Watch → Type 0
IsRunUpTo text is_end rest old new w w' = (items : List Item) × StartsWithItems text is_end items rest × WritesShown old items new w w' []

-- one more item
pub up_to_next : (text rest : List ℕ) (is_end : Bool) (done bytes : ℕ) (old mid new : State) (w w1 w2 : Watch) → rest ≡ drop done text
    → IsRunUpTo text is_end (drop done text) old mid w w1 → RunsNext rest is_end mid new w1 w2 (Ok (Ran bytes)) → IsRunUpTo text is_end (drop (done + bytes) text) old new w w2
up_to_next text rest is_end done bytes old mid new w w1 w2 back first next = (
  first.0 ++ next.0,
  prefix_next text is_end done bytes first.0 next.0 first.1 (subst (λ (l : List ℕ). GivesItems l is_end next.0 bytes) back next.1),
  writes_append first.0 next.0 old mid new w w1 w2 [] first.2 next.2,
)

-- an item that ends the run
pub up_to_stopped : (text rest : List ℕ) (is_end : Bool) (done : ℕ) (old mid new : State) (w w1 w2 : Watch) (why : Ending) → rest ≡ drop done text
    → IsRunUpTo text is_end (drop done text) old mid w w1 → RunsNext rest is_end mid new w1 w2 (Err why) → RunsPrefix text is_end old new w w2 (Err why)
up_to_stopped text rest is_end done old mid new w w1 w2 why back first next =
    prefix_stopped text rest is_end first.0 old mid new w w1 w2 why (subst (λ (l : List ℕ). StartsWithItems text is_end first.0 l) (sym back) first.1) first.2 next

-- nothing of the rest is an item
pub up_to_waiting : (text rest : List ℕ) (is_end : Bool) (done lines : ℕ) (old mid new : State) (w w1 w2 : Watch) → rest ≡ drop done text
    → IsRunUpTo text is_end (drop done text) old mid w w1 → RunsNext rest is_end mid new w1 w2 (Ok (Waiting lines)) → RunsPrefix text is_end old new w w2 (Ok (done, lines))
up_to_waiting text rest is_end done lines old mid new w w1 w2 back first next = (
  first.0,
  first.1,
  subst (λ (l : List ℕ). HasNoItem l is_end lines) back next.0,
  subst (λ (s : State). WritesShown old first.0 s w w2 []) (sym next.1) (writes_last old first.0 mid w w1 w2 [] first.2 next.2),
)

-- a text that is a script's end
pub end_done : (text : List ℕ) (bytes lines : ℕ) (old new : State) (w w' : Watch) → RunsPrefix text true old new w w' (Ok (bytes, lines)) → WritesShown old (script_of text) new w w' []
end_done text bytes lines old new w w' run = subst (λ (l : List Item). WritesShown old l new w w' []) (sym (run.1 ∙ (ap (λ (l : List Item). run.0 ++ l) run.2.0 ∙ append-nil run.0))) run.3

pub end_stopped : (text : List ℕ) (old new : State) (w w' : Watch) (why : Ending) → RunsPrefix text true old new w w' (Err why) → RunsItems (script_of text) old new w w' (Err why)
end_stopped text old new w w' ending.Memory run = run
end_stopped text old new w w' ending.Writer run = run
end_stopped text old new w w' ending.Reader run = run

pub given_stopped : (text rest : List ℕ) (old new : State) (w w' : Watch) (why : Ending) → RunsPrefix text false old new w w' (Err why) → RunsGiven text rest old new w w' (Err why)
given_stopped text rest old new w w' ending.Memory run = run
given_stopped text rest old new w w' ending.Writer run = run
given_stopped text rest old new w w' ending.Reader run = run

pub given_done : (text rest : List ℕ) (bytes lines : ℕ) (old new : State) (w w1 w2 : Watch) (r : Result (Unit {0}) Ending) → rest ≡ drop bytes text → RunsPrefix text false old new w w1 (Ok (bytes, lines))
    → OnOk r (Tells w1 w2 []) → IfErr r (λ e. e ≡ ending.Writer) → WasShown w1 w2 [] → RunsGiven text rest old new w w2 r
given_done text rest bytes lines old new w w1 w2 (Ok done) is run ok err was =
    (run.0, subst (λ (l : List ℕ). LeadsWith text run.0 l) (sym is) run.1, writes_last old run.0 new w w1 w2 [] run.3 ok)
given_done text rest bytes lines old new w w1 w2 (Err e) is run ok err was =
    let all : whole_of text ≡ run.0 ++ whole_of (drop bytes text) = heads_items text (drop bytes text) false run.0 run.1 in
    subst (λ (e : Ending). RunsGiven text rest old new w w2 (Err e)) (sym err) (breaks_off_more (whole_of text) run.0 (whole_of (drop bytes text)) [] old new new w w1 w2 (all ∙ ap (λ (l : List Item). run.0 ++ l) (sym (append-nil _))) run.3 ([], prefix_none _ new new refl, was))

-- nothing was taken of a reader
pub none_run : (old : State) (r : Option (List ℕ)) (w : Watch) (rest : List ℕ) → rest ≡ [] → IsRunTo old old r r w w 0 rest
none_run old r w rest is = subst (λ (l : List ℕ). IsRunTo old old r r w w 0 l) (sym is) (record { text = []; taken = consumes_none r; size = refl; prefix = []; leads = heads_none [] false; writes = writes_none old w })

-- more bytes were taken
pub run_fed : (old mid : State) (r r1 r2 : Option (List ℕ)) (w w1 : Watch) (count : ℕ) (rest bytes : List ℕ) → IsRunTo old mid r r1 w w1 count rest → Consumes r1 r2 bytes → IsRunTo old mid r r2 w w1 (count + length bytes) (rest ++ bytes)
run_fed old mid r r1 r2 w w1 count rest bytes run taken = record {
  text = run.text ++ bytes;
  taken = consumes_more r r1 r2 run.text bytes run.taken taken;
  size = length-append run.text bytes ∙ ap (λ n. n + length bytes) run.size;
  prefix = run.prefix;
  leads = record {
    script = λ more. ap script_of (append_assoc run.text bytes more) ∙ run.leads.script (bytes ++ more) ∙ ap (λ l. run.prefix ++ script_of l) (sym (append_assoc rest bytes more));
    whole = λ more. ap whole_of (append_assoc run.text bytes more) ∙ run.leads.whole (bytes ++ more) ∙ ap (λ l. run.prefix ++ whole_of l) (sym (append_assoc rest bytes more));
  };
  writes = run.writes;
}

-- and their whole items are run
pub run_on : (old mid new : State) (r r1 : Option (List ℕ)) (w w1 w2 : Watch) (count : ℕ) (text rest : List ℕ) → IsRunTo old mid r r1 w w1 count text → RunsGiven text rest mid new w1 w2 (Ok tt) → IsRunTo old new r r1 w w2 count rest
run_on old mid new r r1 w w1 w2 count text rest run given = record {
  text = run.text;
  taken = run.taken;
  size = run.size;
  prefix = run.prefix ++ given.0;
  leads = heads_more run.text text rest false run.prefix given.0 run.leads given.1;
  writes = writes_append run.prefix given.0 old mid new w w1 w2 [] run.writes given.2;
}

-- so many bytes were taken, and none more
taken_so_far : (most : ℕ) (old mid : State) (r r1 : Option (List ℕ)) (w w1 : Watch) (count : ℕ) (rest : List ℕ) → (run : IsRunTo old mid r r1 w w1 count rest) → count ≤ most → IsTaken most r r1 run.text
taken_so_far most old mid r r1 w w1 count rest run within = record {
  more = [];
  taken = subst (λ (l : List ℕ). Consumes r r1 l) (sym (append-nil run.text)) run.taken;
  within = omega (arith, run.size, within);
  past = inl refl;
}

-- want of memory or the writer stopped the whole items of what a reader gave
pub run_stopped : (most : ℕ) (old mid new : State) (r r1 : Option (List ℕ)) (w w1 w2 : Watch) (count : ℕ) (text rest : List ℕ) (why : Ending) → IsRunTo old mid r r1 w w1 count text → count ≤ most
    → RunsGiven text rest mid new w1 w2 (Err why) → RunsRead most old new r r1 w w2 (Err why)
run_stopped most old mid new r r1 w w1 w2 count text rest ending.Memory run within given = (
  run.text,
  taken_so_far most old mid r r1 w w1 count text run within,
  whole_of run.text,
  inl refl,
  writes_prefix_more (whole_of run.text) run.prefix (whole_of text) [] old mid new w w1 w2 (heads_items run.text text false run.prefix run.leads ∙ ap (λ (l : List Item). run.prefix ++ l) (sym (append-nil _))) run.writes given,
)
run_stopped most old mid new r r1 w w1 w2 count text rest ending.Writer run within given = (
  run.text,
  taken_so_far most old mid r r1 w w1 count text run within,
  whole_of run.text,
  inl refl,
  breaks_off_more (whole_of run.text) run.prefix (whole_of text) [] old mid new w w1 w2 (heads_items run.text text false run.prefix run.leads ∙ ap (λ (l : List Item). run.prefix ++ l) (sym (append-nil _))) run.writes given,
)
run_stopped most old mid new r r1 w w1 w2 count text rest ending.Reader run within given = absurd given

-- memory for bytes that were taken was refused
pub run_unread : (most : ℕ) (old mid : State) (r r1 r2 : Option (List ℕ)) (w w1 : Watch) (count : ℕ) (rest lost : List ℕ) → IsRunTo old mid r r1 w w1 count rest → Consumes r1 r2 lost → count + length lost ≤ most
    → RunsRead most old mid r r2 w w1 (Err ending.Memory)
run_unread most old mid r r1 r2 w w1 count rest lost run taken within =
    let fed = run_fed old mid r r1 r2 w w1 count rest lost run taken in
    run_stopped most old mid mid r r2 w w1 w1 (count + length lost) (rest ++ lost) rest ending.Memory fed within (part_none _ mid mid w1 refl)

-- the reader failed, or gave one byte more than may be taken, where no whole item is left
pub run_cut : (most : ℕ) (old mid : State) (r r1 r2 : Option (List ℕ)) (w w1 : Watch) (count lines : ℕ) (rest more : List ℕ) → IsRunTo old mid r r1 w w1 count rest → 0 < lines → WaitsForLines rest lines → Consumes r1 r2 more → count ≤ most
    → (more ≡ []) ⊎ ((count ≡ most) × (length more ≤ 1)) → RunsRead most old mid r r2 w w1 (Err ending.Reader)
run_cut most old mid r r1 r2 w w1 count lines rest more run some waits taken within past = (
  run.text,
  record {
    more = more;
    taken = consumes_more r r1 r2 run.text more run.taken taken;
    within = omega (arith, run.size, within);
    past = elim past [ inl is ↦ inl is | inr is ↦ inr (run.size ∙ is.0, is.1) ];
  },
  (script_of rest, leads_script run.text rest run.prefix run.leads ∙ ap (λ (l : List Item). l ++ script_of rest) (sym all)),
  subst (λ (l : List Item). WritesShown old l mid w w1 []) (sym all) run.writes,
)
  where
    none : whole_of rest ≡ []
    none = ap whole_of (sym (append-nil rest)) ∙ waits [] some

    all : whole_of run.text ≡ run.prefix
    all = heads_items run.text rest false run.prefix run.leads ∙ ap (λ (l : List Item). run.prefix ++ l) none ∙ append-nil run.prefix

-- the reader is at its end, and what is left is run
pub run_over : (most : ℕ) (old mid new : State) (r r1 r2 : Option (List ℕ)) (w w1 w2 : Watch) (count : ℕ) (rest text : List ℕ) (result : Result (Unit {0}) Ending) → IsRunTo old mid r r1 w w1 count rest → count ≤ most → IsRead r1 r2 []
    → text ≡ rest → RunsItems (script_of text) mid new w1 w2 result → RunsRead most old new r r2 w w2 result
run_over most old mid new r r1 r2 w w1 w2 count rest text result run within read is items =
    over result (subst (λ (l : List ℕ). RunsItems (script_of l) mid new w1 w2 result) is items)
  where
    all : script_of run.text ≡ run.prefix ++ script_of rest
    all = leads_script run.text rest run.prefix run.leads

    taken : Consumes r r2 run.text
    taken = subst (λ (l : List ℕ). Consumes r r2 l) (append-nil run.text) (consumes_more r r1 r2 run.text [] run.taken read.taken)

    known : IsTaken most r r2 run.text
    known = record { more = []; taken = consumes_more r r1 r2 run.text [] run.taken read.taken; within = omega (arith, run.size, within); past = inl refl }

    over : (result : Result (Unit {0}) Ending) → RunsItems (script_of rest) mid new w1 w2 result → RunsRead most old new r r2 w w2 result
    over (Ok done) items = (
      run.text,
      record { read = record { taken = taken; at_end = read.at_end }; within = omega (arith, run.size, within) },
      subst (λ (l : List Item). WritesShown old l new w w2 []) (sym all) (writes_append run.prefix (script_of rest) old mid new w w1 w2 [] run.writes items),
    )
    over (Err ending.Memory) items = (
      run.text,
      known,
      script_of run.text,
      inr (read.at_end, refl),
      writes_prefix_more (script_of run.text) run.prefix (script_of rest) [] old mid new w w1 w2 (all ∙ ap (λ (l : List Item). run.prefix ++ l) (sym (append-nil _))) run.writes items,
    )
    over (Err ending.Writer) items = (
      run.text,
      known,
      script_of run.text,
      inr (read.at_end, refl),
      breaks_off_more (script_of run.text) run.prefix (script_of rest) [] old mid new w w1 w2 (all ∙ ap (λ (l : List Item). run.prefix ++ l) (sym (append-nil _))) run.writes items,
    )
    over (Err ending.Reader) items = absurd items

-- so many bytes were taken, and more
pub takes_more : (r r1 r2 : Option (List ℕ)) (count : ℕ) (bytes : List ℕ) → TakesBytes r r1 count → Consumes r1 r2 bytes → TakesBytes r r2 (count + length bytes)
takes_more r r1 r2 count bytes takes more = record {
  bytes = takes.bytes ++ bytes;
  taken = consumes_more r r1 r2 takes.bytes bytes takes.taken more;
  count_is = length-append takes.bytes bytes ∙ ap (λ n. n + length bytes) takes.count_is;
}

-- all that a reader gave
taken_all : (most : ℕ) (r r' : Option (List ℕ)) (bytes : List ℕ) → IsReadWithin most r r' bytes → IsTaken most r r' bytes
taken_all most r r' bytes read = record { more = []; taken = subst (λ (l : List ℕ). Consumes r r' l) (sym (append-nil bytes)) read.read.taken; within = read.within; past = inl refl }

-- ## The end

-- what is shown of all items
written_all : (old : State) (items : List Item) (new : State) (w w' : Watch) → (run : WritesShown old items new w w' []) → ShowsAll old items (all_shown run.groups) new
written_all old items new w w' run = (run.groups, run.told, refl)

-- what is shown in a run of a text, and that a watcher was shown it
abbrev pub ShowsRun : ℕ → State → State → Option (List ℕ) → Option (List ℕ) → Watch → Watch → Result (Unit {0}) SessionFault → Type 0
ShowsRun most old new r r' w w' result = (shown : List ShownAnswer) × ShowsText most old shown new r r' w.printed w'.printed result × WasShown w w' shown

-- whatever was run, a prefix of the items is answered
text_broken : (most : ℕ) (old new : State) (r r' : Option (List ℕ)) (w w1 w2 : Watch) (run : Result (Unit {0}) Ending) (last : List ShownAnswer) → RunsRead most old new r r' w w1 run → ShowsFault new last → WasShown w1 w2 last
    → ShowsRun most old new r r' w w2 (Err fault.Writer)
text_broken most old new r r' w w1 w2 (Ok done) last told one was = (
  all_shown told.2.groups ++ last,
  (told.0, taken_all most r r' told.0 told.1, script_of told.0, inr (told.1.read.at_end, refl), all_shown told.2.groups, last, prefix_all (script_of told.0) old new told.2.groups told.2.told, one, refl),
  shown_more w w1 w2 _ last (all_written old _ new w w1 told.2) was,
)
text_broken most old new r r' w w1 w2 (Err ending.Reader) last told one was = (
  all_shown told.3.groups ++ last,
  (told.0, told.1, whole_of told.0, inl refl, all_shown told.3.groups, last, prefix_all (whole_of told.0) old new told.3.groups told.3.told, one, refl),
  shown_more w w1 w2 _ last (all_written old _ new w w1 told.3) was,
)
text_broken most old new r r' w w1 w2 (Err ending.Memory) last told one was = (
  told.4.0 ++ last,
  (told.0, told.1, told.2, told.3, told.4.0, last, told.4.1, one, refl),
  shown_more w w1 w2 told.4.0 last (subst (λ (l : List ShownAnswer). WasShown w w1 l) (append-nil _) told.4.2.was_shown) was,
)
text_broken most old new r r' w w1 w2 (Err ending.Writer) last told one was = (
  told.4.0 ++ last,
  (told.0, told.1, told.2, told.3, told.4.0, last, told.4.1, one, refl),
  shown_more w w1 w2 told.4.0 last told.4.2 was,
)

-- last answers after those of a run
then_last : (w w1 w2 : Watch) (shown last : List ShownAnswer) → Tells w w1 (shown ++ []) → Tells w1 w2 last → Tells w w2 (shown ++ last)
then_last w w1 w2 shown last first more = subst (λ (l : List ShownAnswer). Tells w w2 l) (ap (λ l. l ++ last) (append-nil _)) (tells_more w w1 w2 (shown ++ []) last first more)

-- a fault's line after a run that it ended
fault_ends : (most : ℕ) (old new : State) (r r' : Option (List ℕ)) (w w1 w2 : Watch) (why : Ending) (last : List ShownAnswer) → RunsRead most old new r r' w w1 (Err why) → ShowsOne None (Err (fault_of why)) new last → Tells w1 w2 last
    → ShowsRun most old new r r' w w2 (Err (fault_of why))
fault_ends most old new r r' w w1 w2 ending.Reader last told one more =
    let all = then_last w w1 w2 (all_shown told.3.groups) last told.3.written more in
    (all_shown told.3.groups ++ last, (told.0, told.1, told.2, all_shown told.3.groups, last, (told.3.groups, told.3.told, refl), one, refl, all.printed), all.was_shown)
fault_ends most old new r r' w w1 w2 ending.Memory last told one more =
    let all = then_last w w1 w2 told.4.0 last told.4.2 more in
    (told.4.0 ++ last, (told.0, told.1, told.2, told.3, told.4.0, last, told.4.1, one, refl, all.printed), all.was_shown)
fault_ends most old new r r' w w1 w2 ending.Writer last told one more = text_broken most old new r r' w w1 w2 (Err ending.Writer) last told (inr (fault.Writer, one)) more.was_shown

-- the end of a run
pub text_ended : (most : ℕ) (old new : State) (r r' : Option (List ℕ)) (w w1 w2 : Watch) (run : Result (Unit {0}) Ending) (result : Result (Unit {0}) SessionFault) → RunsRead most old new r r' w w1 run → IsEnded new run w1 w2 result → ShowsRun most old new r r' w w2 result
text_ended most old new r r' w w1 w2 run (Ok done) told ended =
    let run : RunsRead most old new r r' w w1 (Ok done) = subst (λ (x : Result (Unit {0}) Ending). RunsRead most old new r r' w w1 x) ended.0 told in
    let all : Tells w w2 (all_shown run.2.groups) = subst (λ (l : List ShownAnswer). Tells w w2 l) (append-nil _) (then_last w w1 w2 (all_shown run.2.groups) [] run.2.written ended.1) in
    (all_shown run.2.groups, (run.0, run.1, (run.2.groups, run.2.told, refl), all.printed), all.was_shown)
text_ended most old new r r' w w1 w2 run (Err why) told ended = elim ended [
  | inl is ↦ subst (λ (e : SessionFault). ShowsRun most old new r r' w w2 (Err e)) (sym is.0) (text_broken most old new r r' w w1 w2 run is.1 told is.2 is.3)
  | inr is ↦ subst (λ (e : SessionFault). ShowsRun most old new r r' w w2 (Err e)) (sym is.2) (fault_ends most old new r r' w w1 w2 is.0 is.3 (subst (λ (x : Result (Unit {0}) Ending). RunsRead most old new r r' w w1 x) is.1 told)
      (subst (λ (e : SessionFault). ShowsOne None (Err e) new is.3) is.2 is.4) is.5)
]

-- ## The last line

-- the last line could not be written
pub refuse_stopped : (state : State) (why : Ending) (fault : SessionFault) (e : Ending) (w w' : Watch) → (shown : List ShownAnswer) × ShowsOne None (Err fault) state shown × IsTold w w' (Err fault) shown (Err e) → EndsWith state why w w' (Err e)
refuse_stopped state why fault ending.Writer w w' told = (refl, told.0, inr (fault, told.1), told.2)
refuse_stopped state why fault ending.Memory w w' told = absurd (told.2.1 tt)
refuse_stopped state why fault ending.Reader w w' told = absurd told.2

-- it was written, and then handed on or not
pub refuse_done : (state : State) (why : Ending) (fault : SessionFault) (w w1 w2 : Watch) (r : Result (Unit {0}) Ending) → (shown : List ShownAnswer) × ShowsOne None (Err fault) state shown × Tells w w1 shown → fault ≡ fault_of why
    → OnOk r (Tells w1 w2 []) → IfErr r (λ e. e ≡ ending.Writer) → WasShown w1 w2 [] → EndsWith state why w w2 r
refuse_done state why fault w w1 w2 (Ok done) told is ok err was =
    (told.0, subst (λ (f : SessionFault). ShowsOne None (Err f) state told.0) is told.1, subst (λ (l : List ShownAnswer). Tells w w2 l) (append-nil _) (tells_more w w1 w2 told.0 [] told.2 ok))
refuse_done state why fault w w1 w2 (Err e) told is ok err was =
    (err, told.0, inr (fault, told.1), subst (λ (l : List ShownAnswer). WasShown w w2 l) (append-nil _) (shown_more w w1 w2 told.0 [] told.2.was_shown was))

pub ended_stopped : (state : State) (run : Result (Unit {0}) Ending) (ending e : Ending) (why : SessionFault) (w w' : Watch) → EndsWith state ending w w' (Err e) → why ≡ fault_of e → IsEnded state run w w' (Err why)
ended_stopped state run ending e why w w' told is = inl (is ∙ ap fault_of told.0, told.1, told.2, told.3)

pub ended_so : (state : State) (run : Result (Unit {0}) Ending) (ending : Ending) (why : SessionFault) (w w' : Watch) → EndsWith state ending w w' (Ok tt) → run ≡ Err ending → why ≡ fault_of ending → IsEnded state run w w' (Err why)
ended_so state run ending why w w' told was is = inr (ending, was, is, told.0, subst (λ (f : SessionFault). ShowsOne None (Err f) state told.0) (sym is) told.1, told.2)

-- ## What a run is answered

abbrev is_failed : Result (Unit {0}) Ending → Type 0
is_failed (Ok done) = ⊥
is_failed (Err e) = Unit {0}

abbrev reason_of : Result (Unit {0}) Ending → Ending
reason_of (Ok done) = ending.Reader
reason_of (Err e) = e

-- the reader's end is the reader's fault, unless the writer failed
pub ended_reader : (state : State) (run : Result (Unit {0}) Ending) (w w' : Watch) (result : Result (Unit {0}) SessionFault) → IsEnded state run w w' result → run ≡ Err ending.Reader → (result ≡ Err fault.Reader) ⊎ (result ≡ Err fault.Writer)
ended_reader state run w w' (Ok done) ended was = absurd (subst is_failed (sym was ∙ ended.0) tt)
ended_reader state run w w' (Err why) (inl is) was = inr (ap (λ (e : SessionFault). Err e) is.0)
ended_reader state run w w' (Err why) (inr is) was = inl (ap (λ (e : SessionFault). Err e) (is.2 ∙ ap (λ (r : Result (Unit {0}) Ending). fault_of (reason_of r)) (sym is.1 ∙ was)))

abbrev is_reader : SessionFault → Type 0
is_reader fault.Reader = Unit {0}
is_reader _ = ⊥

of_reader : (e : Ending) → fault_of e ≡ fault.Reader → e ≡ ending.Reader
of_reader ending.Reader is = refl
of_reader ending.Memory is = absurd (subst is_reader (sym is) tt)
of_reader ending.Writer is = absurd (subst is_reader (sym is) tt)

-- only a run that the reader ended is ended with its fault
pub ended_by_reader : (Cause : Type 0) (state : State) (run : Result (Unit {0}) Ending) (w w' : Watch) (result : Result (Unit {0}) SessionFault) → IsEnded state run w w' result
    → IfErr run (λ e. e ≡ ending.Reader → Cause) → IfErr result (λ e. e ≡ fault.Reader → Cause)
ended_by_reader Cause state run w w' (Ok done) ended cause = tt
ended_by_reader Cause state run w w' (Err why) (inl is) cause = λ reader. absurd (subst is_reader (sym (sym is.0 ∙ reader)) tt)
ended_by_reader Cause state run w w' (Err why) (inr is) cause = λ reader.
    subst (λ (r : Result (Unit {0}) Ending). IfErr r (λ e. e ≡ ending.Reader → Cause)) is.1 cause (of_reader is.0 (sym is.2 ∙ reader))

fault_kind : (e : Ending) (why : SessionFault) → why ≡ fault_of e → (why ≡ fault.Reader) ⊎ ((why ≡ fault.Memory) ⊎ (why ≡ fault.Writer))
fault_kind ending.Reader why is = inl is
fault_kind ending.Memory why is = inr (inl is)
fault_kind ending.Writer why is = inr (inr is)

pub ended_kind : (state : State) (run : Result (Unit {0}) Ending) (w w' : Watch) (result : Result (Unit {0}) SessionFault) → IsEnded state run w w' result → IfErr result (λ e. (e ≡ fault.Reader) ⊎ ((e ≡ fault.Memory) ⊎ (e ≡ fault.Writer)))
ended_kind state run w w' (Ok done) ended = tt
ended_kind state run w w' (Err why) (inl is) = inr (inr is.0)
ended_kind state run w w' (Err why) (inr is) = fault_kind is.0 why is.2

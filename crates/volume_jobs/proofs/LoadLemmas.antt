-- What a job that loads meets at its turns.
use Rattle.std.proofs.Common.{◌≡◌, ◌∙◌, ◌⊎◌, inl, inr, ℕ, ◌+◌, ◌-◌, ◌*◌, ◌<◌, ◌≤◌, nat_eq, true, false, true≢false, List, ◌∷◌, ◌++◌, length, take, drop, Result, Ok, Err, refl, ap, sym, subst, arith, append_assoc, append-nil}
use Rattle.std.proofs.Math.Seq.{take-add}
use Rattle.std.proofs.lemmas.List.{take-append-drop, length-take-le, take_all}
use Rattle.std.proofs.lemmas.Bool.Decides.{eqb_tells, leb_tells}
use Rattle.bin_tape.specs.Items.{Item}
use Rattle.bin_tape.specs.Tape.{IsTape}
use Rattle.bin_tape.specs.Fault.{IsFault, RefusesFrame}
use Rattle.bin_tape.specs.declared.faults.TapeFault.{TapeFault}
use Rattle.bin_tape.specs.declared.faults.TapeFault.TheVariants.{BadFrame, NoOrigin, CheckSum, NoTrailer, Memory}
use Rattle.char_pack.specs.Packing.{frames}
use Rattle.core_load.specs.Loading as load
use Rattle.core_load.specs.Load.{IsFed, IsFine, IsComplete, IsLoaded, IsOverlaid}
use Rattle.pal_blocks.specs.Blocks.{blocks_in, first_blocks}
use Rattle.pal_blocks.proofs.TextLemmas.{frames-append, one_block}
use Rattle.volume_jobs.specs.Schedule.{IsMet, IsMetNone, IsFirstMet}
use Rattle.pal_blocks.specs.Blocks.{block_at}
use Rattle.volume_jobs.specs.Reading.{frames_taken, HasTaken, IsLoading}
use Rattle.volume_jobs.specs.Steps.{TakesFrames, ReadsBlock, EndsTape}
use Rattle.volume_jobs.specs.declared.loading.Loading.{Loading}
use Rattle.volume_jobs.specs.declared.faults.JobFault.{JobFault}
use Rattle.volume_jobs.specs.declared.faults.JobFault.TheVariants as fault
use Rattle.volume_jobs.specs.Faults.{fault_of_tape}

-- the laws of tapes that are used
abbrev pub NoFault : Type 0
NoFault = (frames : List ℕ) (items : List Item) (fault : TapeFault) → IsTape frames items → IsFault frames fault → ⊥

abbrev pub OneFault : Type 0
OneFault = (frames : List ℕ) (a b : TapeFault) → IsFault frames a → IsFault frames b → a ≡ b

-- a fault that further frames can't mend
abbrev pub IsEarly : TapeFault → Type 0
IsEarly (BadFrame at) = Unit {0}
IsEarly NoOrigin = Unit {0}
IsEarly (CheckSum found computed) = Unit {0}
IsEarly NoTrailer = ⊥
IsEarly Memory = ⊥

refuses_longer : (fs more : List ℕ) (fault : TapeFault) → RefusesFrame fs fault → RefusesFrame (fs ++ more) fault
refuses_longer fs more fault r = record {
  before = r.before;
  frame = r.frame;
  after = r.after ++ more;
  items = r.items;
  part = r.part;
  split = ap (λ l. l ++ more) r.split ∙ append_assoc r.before (r.frame ∷ r.after) more;
  not_ignore = r.not_ignore;
  not_ignored = r.not_ignored;
  is_open = r.is_open;
  refused = r.refused;
}

-- such a fault stays
longer : (fs more : List ℕ) (fault : TapeFault) → IsEarly fault → IsFault fs fault → IsFault (fs ++ more) fault
longer fs more (BadFrame at) early is = refuses_longer fs more (BadFrame at) is
longer fs more NoOrigin early is = refuses_longer fs more NoOrigin is
longer fs more (CheckSum found computed) early is = refuses_longer fs more (CheckSum found computed) is
longer fs more NoTrailer early is = absurd early
longer fs more Memory early is = absurd early

-- frames that are fine have none
pub fine_none : NoFault → OneFault → (fs : List ℕ) (fault : TapeFault) → IsEarly fault → IsFine fs → IsFault fs fault → ⊥
fine_none none one fs fault early fine is = elim fine [
  | inl tape ↦ none fs tape.0 fault tape.1 is
  | inr prefix ↦ subst IsEarly (one fs fault NoTrailer is (prefix.0, prefix.1, prefix.2)) early
]

met_is : (words : List ℕ) (turn : ℕ) (fault : TapeFault) → IsEarly fault → IsMet words turn fault → IsFault (frames (first_blocks turn words)) fault
met_is words turn (BadFrame at) early met = met
met_is words turn NoOrigin early met = met
met_is words turn (CheckSum found computed) early met = met
met_is words turn NoTrailer early met = absurd early
met_is words turn Memory early met = absurd early

is_met : (words : List ℕ) (turn : ℕ) (fault : TapeFault) → IsEarly fault → IsFault (frames (first_blocks turn words)) fault → IsMet words turn fault
is_met words turn (BadFrame at) early met = met
is_met words turn NoOrigin early met = met
is_met words turn (CheckSum found computed) early met = met
is_met words turn NoTrailer early met = absurd early
is_met words turn Memory early met = absurd early

-- ## Blocks

-- the frames of the first blocks begin those of more of them
pub first_more : (m n : ℕ) (words : List ℕ) → m ≤ n → 256 * n ≤ length words → (more : List ℕ) × (frames (first_blocks n words) ≡ frames (first_blocks m words) ++ more)
first_more m n words low inside =
    let parts : 256 * n ≡ 256 * m + 256 * (n - m) = omega arith in (
      frames (take (256 * (n - m)) (drop (256 * m) words)),
      ap (λ k. frames (take k words)) parts
          ∙ ap frames (take-add (256 * m) (256 * (n - m)) words)
          ∙ frames-append (take (256 * m) words) _ (omega (arith, length-take-le (256 * m) words (omega (arith, low, inside)))),
    )

-- and those of the whole file
pub whole_more : (n : ℕ) (words : List ℕ) → 256 * n ≤ length words → frames words ≡ frames (first_blocks n words) ++ frames (drop (256 * n) words)
whole_more n words inside =
    ap frames (sym (take-append-drop (256 * n) words))
    ∙ frames-append (take (256 * n) words) (drop (256 * n) words) (omega (arith, length-take-le (256 * n) words inside))

-- all blocks are the whole file
pub all_blocks : (n : ℕ) (words : List ℕ) → 256 * n ≡ length words → first_blocks n words ≡ words
all_blocks n words all = take_all (256 * n) words (omega (arith, all))

-- a fault in the frames of one block more is the first that is met
pub first_met : NoFault → OneFault → (words : List ℕ) (done : ℕ) (given : List ℕ) (fault : TapeFault) → IsEarly fault → 256 * (done + 1) ≤ length words
    → IsFine (frames (first_blocks done words) ++ given) → IsFault (frames (first_blocks done words) ++ frames (block_at done words)) fault
    → IsFirstMet words (done + 1) fault
first_met none one words done given fault early inside fine is = record {
  whole = subst (λ l. IsFault l fault) (sym (whole_more (done + 1) words inside)) (longer _ _ fault early here);
  met = is_met words (done + 1) fault early here;
  least = λ earlier met. elim (leb_tells (done + 1) earlier) [
    | inl high ↦ high.1
    | inr low ↦ absurd (never earlier (omega (arith, low.1)) met)
  ];
}
  where
    here : IsFault (frames (first_blocks (done + 1) words)) fault
    here = subst (λ l. IsFault l fault) (sym (one_block done words inside)) is

    never : (earlier : ℕ) → earlier ≤ done → IsMet words earlier fault → ⊥
    never earlier low met =
        let more = first_more earlier done words low (omega (arith, inside)) in
        fine_none none one _ fault early fine
        (longer _ given fault early (subst (λ l. IsFault l fault) (sym more.1) (longer _ more.0 fault early (met_is words earlier fault early met))))

-- no fault is met in blocks that are fine
pub met_none : NoFault → OneFault → (words : List ℕ) (turn : ℕ) → IsFine (frames (first_blocks turn words)) → (turn < blocks_in words) ⊎ ((items : List Item) × IsTape (frames words) items) → IsMetNone words turn
met_none none one words turn fine end (BadFrame at) met = fine_none none one _ (BadFrame at) tt fine met
met_none none one words turn fine end NoOrigin met = fine_none none one _ NoOrigin tt fine met
met_none none one words turn fine end (CheckSum found computed) met = fine_none none one _ (CheckSum found computed) tt fine met
met_none none one words turn fine end NoTrailer met = elim end [
  | inl low ↦ omega (arith, low, met.0)
  | inr tape ↦ none (frames words) tape.0 NoTrailer tape.1 met.1
]
met_none none one words turn fine end Memory met = absurd met

-- ## Turns

pub inside_file : (words : List ℕ) (left : ℕ) (old : Loading) → IsLoading words old left → 2 ≤ left → 256 * (old.blocks_read + 1) ≤ length words
inside_file words left old is more = omega (arith, is.whole, is.turns, more)

-- a block that was taken
pub block_taken : (words : List ℕ) (left : ℕ) (old : Loading) (block : List ℕ) (loader : load.Loading) (offset : ℕ) → IsLoading words old left → 2 ≤ left → block ≡ block_at old.blocks_read words
    → ((before : List ℕ) → HasTaken old.loader (before ++ take old.offset (frames block)) → TakesFrames before block (Ok tt) loader offset)
    → HasTaken loader (frames (first_blocks (old.blocks_read + 1) words))
block_taken words left old block loader offset is more this takes =
    let taken : HasTaken old.loader (frames (first_blocks old.blocks_read words) ++ take old.offset (frames block)) = subst (λ b. HasTaken old.loader (frames (first_blocks old.blocks_read words) ++ take old.offset (frames b))) (sym this) is.taken in
    subst (λ l. HasTaken loader l) (ap (λ b. frames (first_blocks old.blocks_read words) ++ frames b) this ∙ sym (one_block old.blocks_read words (inside_file words left old is more)))
    (takes (frames (first_blocks old.blocks_read words)) taken).0

-- the job after it
abbrev pub next : Loading → load.Loading → Loading
next old loader = record { hold = old.hold; blocks_read = old.blocks_read + 1; offset = 0; loader = loader }

-- fewer turns are left, and none of them is the last
not_last : (words : List ℕ) (left : ℕ) (old : Loading) (loader : load.Loading) → IsLoading words old left → 3 ≤ left → HasTaken loader (frames (first_blocks (old.blocks_read + 1) words)) → IsLoading words (next old loader) (left - 1)
not_last words left old loader is more taken = record {
  whole = is.whole;
  turns = omega (arith, is.turns, more);
  more = omega (arith, more);
  offset = omega arith;
  taken = subst (λ l. HasTaken loader l) (sym (append-nil _)) taken;
  at_end = λ one. absurd (never one);
}
  where
    never : left - 1 ≡ 1 → ⊥
    never one = omega (arith, one, more)

-- a turn that was not the last of those that read
pub went_on : NoFault → OneFault → (words : List ℕ) (left : ℕ) (old : Loading) (loader : load.Loading) → IsLoading words old left → 2 ≤ left → false ≡ nat_eq left 2
    → HasTaken loader (frames (first_blocks (old.blocks_read + 1) words)) → ReadsBlock words old left (Ok tt) (next old loader)
went_on none one words left old loader is more last taken = (
  not_last words left old loader is three taken,
  refl,
  met_none none one words (old.blocks_read + 1) taken.fine (inl (omega (arith, is.turns, three))),
)
  where
    three : 3 ≤ left
    three = elim (eqb_tells left 2) [
      | inl same ↦ absurd (true≢false (sym same.0 ∙ sym last))
      | inr other ↦ omega (arith, other.1, more)
    ]

-- the frames of all blocks are those of the file
all_frames : (words : List ℕ) (old : Loading) → IsLoading words old 2 → frames (first_blocks (old.blocks_read + 1) words) ≡ frames words
all_frames words old is = ap frames (all_blocks (old.blocks_read + 1) words (omega (arith, is.turns, is.whole)))

-- the last turn that reads
pub ended : NoFault → OneFault → (words : List ℕ) (old : Loading) (loader : load.Loading) (r : Result (Unit {0}) JobFault) → IsLoading words old 2
    → HasTaken loader (frames (first_blocks (old.blocks_read + 1) words)) → EndsTape (frames (first_blocks (old.blocks_read + 1) words)) r → ReadsBlock words old 2 r (next old loader)
ended none one words old loader (Ok tt) is taken ends = (
  record {
    whole = is.whole;
    turns = omega (arith, is.turns);
    more = omega arith;
    offset = omega arith;
    taken = subst (λ l. HasTaken loader l) (sym (append-nil _)) taken;
    at_end = λ one. (refl, tape);
  },
  refl,
  met_none none one words (old.blocks_read + 1) taken.fine (inr tape),
)
  where
    tape : (items : List Item) × IsTape (frames words) items
    tape = (ends.0, subst (λ l. IsTape l ends.0) (all_frames words old is) ends.1)
ended none one words old loader (Err (fault.Tape why)) is taken ends = (
  subst (λ f. IsFirstMet words (old.blocks_read + 1) f) (sym ends.0) record {
    whole = missing;
    met = (omega (arith, is.turns), missing);
    least = λ earlier met. omega (arith, is.turns, met.0);
  },
  refl,
)
  where
    missing : IsFault (frames words) NoTrailer
    missing = subst (λ l. IsFault l NoTrailer) (all_frames words old is) ends.1
ended none one words old loader (Err fault.NoJob) is taken ends = absurd ends
ended none one words old loader (Err fault.TooManyJobs) is taken ends = absurd ends
ended none one words old loader (Err (fault.File why)) is taken ends = absurd ends
ended none one words old loader (Err (fault.Asm why)) is taken ends = absurd ends
ended none one words old loader (Err fault.Memory) is taken ends = absurd ends

-- what the end of fine frames is answered
pub end_told : NoFault → OneFault → (given : List ℕ) (fault : TapeFault) → IsFine given → IsFault given fault → (fault ≡ NoTrailer) × IsFault given NoTrailer
end_told none one given (BadFrame at) fine is = absurd (fine_none none one given (BadFrame at) tt fine is)
end_told none one given NoOrigin fine is = absurd (fine_none none one given NoOrigin tt fine is)
end_told none one given (CheckSum found computed) fine is = absurd (fine_none none one given (CheckSum found computed) tt fine is)
end_told none one given NoTrailer fine is = (refl, is)
end_told none one given Memory fine is = absurd is

-- memory ran out in a block
pub broken_off : (words : List ℕ) (left : ℕ) (old : Loading) (block : List ℕ) (loader : load.Loading) (offset : ℕ) → IsLoading words old left → 2 ≤ left → block ≡ block_at old.blocks_read words
    → ((before : List ℕ) → HasTaken old.loader (before ++ take old.offset (frames block)) → TakesFrames before block (Err Memory) loader offset)
    → IsLoading words (record { hold = old.hold; blocks_read = old.blocks_read; offset = offset; loader = loader }) left
broken_off words left old block loader offset is more this takes =
    let taken : HasTaken old.loader (frames (first_blocks old.blocks_read words) ++ take old.offset (frames block)) = subst (λ b. HasTaken old.loader (frames (first_blocks old.blocks_read words) ++ take old.offset (frames b))) (sym this) is.taken in
    let after = takes (frames (first_blocks old.blocks_read words)) taken in
    record {
      whole = is.whole;
      turns = is.turns;
      more = is.more;
      offset = after.1;
      taken = subst (λ b. HasTaken loader (frames (first_blocks old.blocks_read words) ++ take offset (frames b))) this after.0;
      at_end = λ one. absurd (never one);
    }
  where
    never : left ≡ 1 → ⊥
    never one = omega (arith, one, more)

-- a block was not taken to its end
pub not_taken : NoFault → OneFault → (words : List ℕ) (left : ℕ) (old : Loading) (block : List ℕ) (loader : load.Loading) (offset : ℕ) (fault : TapeFault) → IsLoading words old left → 2 ≤ left → block ≡ block_at old.blocks_read words
    → ((before : List ℕ) → HasTaken old.loader (before ++ take old.offset (frames block)) → TakesFrames before block (Err fault) loader offset)
    → ReadsBlock words old left (Err (fault_of_tape fault)) (record { hold = old.hold; blocks_read = old.blocks_read; offset = offset; loader = loader })
not_taken none one words left old block loader offset fault is more this takes = by_fault fault takes
  where
    told_by : (f : TapeFault) → ((before : List ℕ) → HasTaken old.loader (before ++ take old.offset (frames block)) → TakesFrames before block (Err f) loader offset) → TakesFrames (frames (first_blocks old.blocks_read words)) block (Err f) loader offset
    told_by f told = told (frames (first_blocks old.blocks_read words)) (subst (λ b. HasTaken old.loader (frames (first_blocks old.blocks_read words) ++ take old.offset (frames b))) (sym this) is.taken)

    met : (f : TapeFault) → IsEarly f → IsFault (frames (first_blocks old.blocks_read words) ++ frames block) f → IsFirstMet words (old.blocks_read + 1) f
    met f early told =
        first_met none one words old.blocks_read _ f early (inside_file words left old is more) is.taken.fine
        (subst (λ b. IsFault (frames (first_blocks old.blocks_read words) ++ frames b) f) this told)

    by_fault : (f : TapeFault) → ((before : List ℕ) → HasTaken old.loader (before ++ take old.offset (frames block)) → TakesFrames before block (Err f) loader offset)
        → ReadsBlock words old left (Err (fault_of_tape f)) (record { hold = old.hold; blocks_read = old.blocks_read; offset = offset; loader = loader })
    by_fault (BadFrame at) told = (met (BadFrame at) tt (told_by (BadFrame at) told), refl)
    by_fault NoOrigin told = (met NoOrigin tt (told_by NoOrigin told), refl)
    by_fault (CheckSum found computed) told = (met (CheckSum found computed) tt (told_by (CheckSum found computed) told), refl)
    by_fault NoTrailer told = absurd (told_by NoTrailer told)
    by_fault Memory told = (broken_off words left old block loader offset is more this told, refl)

pub ended_at : NoFault → OneFault → (words : List ℕ) (left : ℕ) (old : Loading) (loader : load.Loading) (r : Result (Unit {0}) JobFault) → true ≡ nat_eq left 2 → IsLoading words old left
    → HasTaken loader (frames (first_blocks (old.blocks_read + 1) words)) → EndsTape (frames (first_blocks (old.blocks_read + 1) words)) r → ReadsBlock words old left r (next old loader)
ended_at none one words left old loader r last is taken ends = elim (eqb_tells left 2) [
  | inl same ↦ subst (λ n. ReadsBlock words old n r (next old loader)) (sym same.1) (ended none one words old loader r (subst (λ n. IsLoading words old n) same.1 is) taken ends)
  | inr other ↦ absurd (true≢false (last ∙ other.0))
]

-- the frames that a job with one turn left has taken are those of the file
pub at_last : (words : List ℕ) (job : Loading) → IsLoading words job 1 → frames_taken words job.blocks_read job.offset ≡ frames words
at_last words job is =
    ap (λ n. frames (first_blocks job.blocks_read words) ++ take n (frames (block_at job.blocks_read words))) (is.at_end refl).0
    ∙ append-nil (frames (first_blocks job.blocks_read words))
    ∙ ap frames (all_blocks job.blocks_read words (omega (arith, is.turns, is.whole)))

pub complete : (words : List ℕ) (job : Loading) → IsLoading words job 1 → IsComplete job.loader
complete words job is = record {
  frames = frames words;
  items = (is.at_end refl).1.0;
  fed = subst (λ l. IsFed job.loader l) (at_last words job is) is.taken.fed;
  is_tape = (is.at_end refl).1.1;
}

pub laid_over : (words : List ℕ) (job : Loading) (old new : List ℕ) → IsLoading words job 1
    → ((given : List ℕ) (items : List Item) → IsFed job.loader given → IsTape given items → IsOverlaid items old new) → IsLoaded (frames words) old new
laid_over words job old new is lays = record {
  items = (is.at_end refl).1.0;
  is_tape = (is.at_end refl).1.1;
  overlaid = lays (frames words) (is.at_end refl).1.0 (subst (λ l. IsFed job.loader l) (at_last words job is) is.taken.fed) (is.at_end refl).1.1;
}

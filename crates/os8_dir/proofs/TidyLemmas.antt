-- Tidy lists of entries.
use Rattle.std.proofs.Common.{◌≡◌, ℕ, zero, suc, ◌+◌, ◌<◌, ◌≤◌, List, [], ◌∷◌, ◌++◌, length, refl, ap, sym, ◌∙◌, arith, append_assoc, subst, ◌-◌, take, get_or}
use Rattle.os8_dir.specs.Found.{room_of}
use Rattle.os8_dir.specs.Steps.{last_room}
use Rattle.os8_dir.specs.declared.entries.DirEntry.{DirEntry}
use Rattle.os8_dir.specs.declared.entries.DirEntry.TheVariants.{File, Empty}
use Rattle.os8_dir.specs.Entries.{size_of, total, before, tidy, Apart, IsTidy}

total-before : (e : DirEntry) (es : List DirEntry) → total (before e es) ≡ size_of e + total es
total-before (File name info zero) es = omega arith
total-before (File name info (suc size)) es = refl
total-before (Empty zero) [] = omega arith
total-before (Empty (suc size)) [] = refl
total-before (Empty size) (Empty more ∷ es) = omega arith
total-before (Empty zero) (File name info more ∷ es) = omega arith
total-before (Empty (suc size)) (File name info more ∷ es) = refl

pub total-tidy : (es : List DirEntry) → total (tidy es) ≡ total es
total-tidy [] = refl
total-tidy (e ∷ es) = total-before e (tidy es) ∙ ap (λ n. size_of e + n) (total-tidy es)

pub total-append : (xs ys : List DirEntry) → total (xs ++ ys) ≡ total xs + total ys
total-append [] ys = omega arith
total-append (x ∷ xs) ys = omega (arith, total-append xs ys)

file-apart : (name : ℕ) (info : List ℕ) (size : ℕ) (es : List DirEntry) → Apart (File name info size) es
file-apart name info size [] = tt
file-apart name info size (File other words more ∷ es) = tt
file-apart name info size (Empty more ∷ es) = tt

empty-apart : (size more : ℕ) (es : List DirEntry) → Apart (Empty size) es → Apart (Empty more) es
empty-apart size more [] apart = tt
empty-apart size more (File name info other ∷ es) apart = tt
empty-apart size more (Empty other ∷ es) apart = apart

IsTidy-before : (e : DirEntry) (es : List DirEntry) → IsTidy es → IsTidy (before e es)
IsTidy-before (File name info zero) es neat = neat
IsTidy-before (File name info (suc size)) es neat = (omega arith, file-apart name info (suc size) es, neat)
IsTidy-before (Empty zero) [] neat = tt
IsTidy-before (Empty (suc size)) [] neat = (omega arith, tt, tt)
IsTidy-before (Empty size) (Empty more ∷ es) neat = (omega (arith, neat.0), empty-apart more (size + more) es neat.1, neat.2)
IsTidy-before (Empty zero) (File name info more ∷ es) neat = neat
IsTidy-before (Empty (suc size)) (File name info more ∷ es) neat = (omega arith, tt, neat)

pub IsTidy-tidy : (es : List DirEntry) → IsTidy (tidy es)
IsTidy-tidy [] = tt
IsTidy-tidy (e ∷ es) = IsTidy-before e (tidy es) (IsTidy-tidy es)

-- an entry before a list that it may stand before
before-apart : (e : DirEntry) (es : List DirEntry) → 0 < size_of e → Apart e es → before e es ≡ e ∷ es
before-apart (File name info zero) es some apart = absurd (omega arith)
before-apart (File name info (suc size)) es some apart = refl
before-apart (Empty zero) es some apart = absurd (omega arith)
before-apart (Empty (suc size)) [] some apart = refl
before-apart (Empty (suc size)) (Empty more ∷ es) some apart = absurd apart
before-apart (Empty (suc size)) (File name info more ∷ es) some apart = refl

apart-head : (x y : DirEntry) (ys zs : List DirEntry) → Apart x (y ∷ ys) → Apart x (y ∷ zs)
apart-head (File name info size) (File other words more) ys zs apart = tt
apart-head (File name info size) (Empty more) ys zs apart = tt
apart-head (Empty size) (File other words more) ys zs apart = tt
apart-head (Empty size) (Empty more) ys zs apart = apart

apart-append : (x : DirEntry) (prefix ys ws : List DirEntry) → ((x : DirEntry) → Apart x ys → Apart x ws) → Apart x (prefix ++ ys) → Apart x (prefix ++ ws)
apart-append x [] ys ws same apart = same x apart
apart-append x (y ∷ prefix) ys ws same apart = apart-head x y (prefix ++ ys) (prefix ++ ws) apart

-- what stands after the prefix of a tidy list is made tidy alone, where the prefix may stand before that too
tidy-following : (prefix ys zs ws : List DirEntry) → IsTidy (prefix ++ ys) → tidy zs ≡ ws → ((x : DirEntry) → Apart x ys → Apart x ws) → tidy (prefix ++ zs) ≡ prefix ++ ws
tidy-following [] ys zs ws neat done same = done
tidy-following (x ∷ prefix) ys zs ws neat done same =
    ap (before x) (tidy-following prefix ys zs ws neat.2 done same) ∙ before-apart x (prefix ++ ws) neat.0 (apart-append x prefix ys ws same neat.1)

pub append-nil : (es : List DirEntry) → es ++ [] ≡ es
append-nil [] = refl
append-nil (e ∷ es) = ap (λ xs. e ∷ xs) (append-nil es)

neat-nil : (es : List DirEntry) → IsTidy es → IsTidy (es ++ [])
neat-nil es neat = rw (append-nil es) neat

file-following : (name : ℕ) (info : List ℕ) (size : ℕ) (x : DirEntry) → Apart x [] → Apart x (File name info size ∷ [])
file-following name info size (File other words more) apart = tt
file-following name info size (Empty more) apart = tt

file-empty-following : (name : ℕ) (info : List ℕ) (size more : ℕ) (x : DirEntry) → Apart x (File name info size ∷ []) → Apart x (File name info size ∷ Empty more ∷ [])
file-empty-following name info size more (File other words length) apart = tt
file-empty-following name info size more (Empty length) apart = tt

empties-following : (size more : ℕ) (x : DirEntry) → Apart x (Empty size ∷ []) → Apart x (Empty more ∷ [])
empties-following size more (File other words length) apart = tt
empties-following size more (Empty length) apart = apart

-- an entry of length 0 after a tidy list
pub tidy-none : (es : List DirEntry) (e : DirEntry) → size_of e ≡ 0 → IsTidy es → tidy (es ++ e ∷ []) ≡ es
tidy-none es (File name info zero) none neat = tidy-following es [] (File name info 0 ∷ []) [] (neat-nil es neat) refl (λ x apart. apart) ∙ append-nil es
tidy-none es (Empty zero) none neat = tidy-following es [] (Empty 0 ∷ []) [] (neat-nil es neat) refl (λ x apart. apart) ∙ append-nil es
tidy-none es (File name info (suc size)) none neat = absurd (omega (arith, none))
tidy-none es (Empty (suc size)) none neat = absurd (omega (arith, none))

-- a file after a tidy list
pub tidy-file : (es : List DirEntry) (name : ℕ) (info : List ℕ) (size : ℕ) → 0 < size → IsTidy es → tidy (es ++ File name info size ∷ []) ≡ es ++ File name info size ∷ []
tidy-file es name info zero some neat = absurd (omega arith)
tidy-file es name info (suc size) some neat = tidy-following es [] (File name info (suc size) ∷ []) (File name info (suc size) ∷ []) (neat-nil es neat) refl (file-following name info (suc size))

-- an empty after a tidy list: none stands before it, or one, or a file
pub tidy-empty_first : (size : ℕ) → 0 < size → tidy (Empty size ∷ []) ≡ Empty size ∷ []
tidy-empty_first zero some = absurd (omega arith)
tidy-empty_first (suc size) some = refl

tidy-two : (size more : ℕ) → 0 < more → tidy (Empty size ∷ Empty more ∷ []) ≡ Empty (size + more) ∷ []
tidy-two size zero some = absurd (omega arith)
tidy-two size (suc more) some = refl

pub tidy-empty_empty : (prefix : List DirEntry) (size more : ℕ) → 0 < more → IsTidy (prefix ++ Empty size ∷ []) → tidy ((prefix ++ Empty size ∷ []) ++ Empty more ∷ []) ≡ prefix ++ Empty (size + more) ∷ []
tidy-empty_empty prefix size more some neat = rw append_assoc (tidy-following prefix (Empty size ∷ []) (Empty size ∷ Empty more ∷ []) (Empty (size + more) ∷ []) neat (tidy-two size more some) (empties-following size (size + more)))

last-some : (prefix : List DirEntry) (e : DirEntry) → IsTidy (prefix ++ e ∷ []) → 0 < size_of e
last-some [] e neat = neat.0
last-some (x ∷ prefix) e neat = last-some prefix e neat.2

tidy-file_two : (name : ℕ) (info : List ℕ) (size more : ℕ) → 0 < size → 0 < more → tidy (File name info size ∷ Empty more ∷ []) ≡ File name info size ∷ Empty more ∷ []
tidy-file_two name info zero more some_size some = absurd (omega arith)
tidy-file_two name info (suc size) zero some_size some = absurd (omega arith)
tidy-file_two name info (suc size) (suc more) some_size some = refl

pub tidy-file_empty : (prefix : List DirEntry) (name : ℕ) (info : List ℕ) (size more : ℕ) → 0 < more → IsTidy (prefix ++ File name info size ∷ []) → tidy ((prefix ++ File name info size ∷ []) ++ Empty more ∷ []) ≡ (prefix ++ File name info size ∷ []) ++ Empty more ∷ []
tidy-file_empty prefix name info size more some neat =
    rw append_assoc (tidy-following prefix (File name info size ∷ []) (File name info size ∷ Empty more ∷ []) (File name info size ∷ Empty more ∷ []) neat (tidy-file_two name info size more (last-some prefix (File name info size) neat) some) (file-empty-following name info size more))

pub room-le-size : (e : DirEntry) → room_of e ≤ size_of e
room-le-size (File name info size) = omega arith
room-le-size (Empty size) = omega arith

last-split : (es : List DirEntry) → 0 < length es → (e : DirEntry) × (es ≡ take (length es - 1) es ++ e ∷ [])
last-split [] some = absurd (omega arith)
last-split (e ∷ []) some = (e, refl)
last-split (e ∷ f ∷ es) some =
    let following = last-split (f ∷ es) (omega arith) in
    let more : length (e ∷ f ∷ es) - 1 ≡ suc (length (f ∷ es) - 1) = omega arith in
    (following.0, rw more (ap (λ xs. e ∷ xs) following.1))

last_room-append : (prefix : List DirEntry) (last : DirEntry) → last_room (prefix ++ last ∷ []) ≡ room_of last
last_room-append [] last = refl
last_room-append (e ∷ []) last = refl
last_room-append (e ∷ f ∷ prefix) last = last_room-append (f ∷ prefix) last

tidy-room_after : (prefix : List DirEntry) (last : DirEntry) (more : ℕ) → 0 < more → IsTidy (prefix ++ last ∷ []) → 0 < room_of last → tidy ((prefix ++ last ∷ []) ++ Empty more ∷ []) ≡ prefix ++ Empty (room_of last + more) ∷ []
tidy-room_after prefix (File name info size) more some neat room = absurd (omega arith)
tidy-room_after prefix (Empty size) more some neat room = tidy-empty_empty prefix size more some neat

tidy-file_following : (prefix : List DirEntry) (last : DirEntry) (more : ℕ) → 0 < more → IsTidy (prefix ++ last ∷ []) → room_of last ≡ 0 → tidy ((prefix ++ last ∷ []) ++ Empty more ∷ []) ≡ (prefix ++ last ∷ []) ++ Empty more ∷ []
tidy-file_following prefix (File name info size) more some neat none = tidy-file_empty prefix name info size more some neat
tidy-file_following prefix (Empty size) more some neat none = absurd (omega (arith, last-some prefix (Empty size) neat))

last_room-some : (es : List DirEntry) → 0 < last_room es → 0 < length es
last_room-some [] room = absurd (omega arith)
last_room-some (e ∷ es) room = omega arith

-- an empty after a tidy list whose last entry is an empty
pub tidy-append-room : (es : List DirEntry) (more : ℕ) → 0 < more → IsTidy es → 0 < last_room es → tidy (es ++ Empty more ∷ []) ≡ take (length es - 1) es ++ Empty (last_room es + more) ∷ []
tidy-append-room es more some neat room =
    let split = last-split es (last_room-some es room) in
    let prefix = take (length es - 1) es in
    let same : last_room es ≡ room_of split.0 = ap last_room split.1 ∙ last_room-append prefix split.0 in
    let neat' : IsTidy (prefix ++ split.0 ∷ []) = subst IsTidy split.1 neat in
    let joined = tidy-room_after prefix split.0 more some neat' (omega arith) in
    ap (λ xs. tidy (xs ++ Empty more ∷ [])) split.1 ∙ joined ∙ ap (λ n. prefix ++ Empty (n + more) ∷ []) (sym same)

-- an empty after a tidy list that ends with a file, or has no entry
pub tidy-append-file : (es : List DirEntry) (more : ℕ) → 0 < more → IsTidy es → last_room es ≡ 0 → tidy (es ++ Empty more ∷ []) ≡ es ++ Empty more ∷ []
tidy-append-file [] more some neat none = tidy-empty_first more some
tidy-append-file (e ∷ es) more some neat none =
    let split = last-split (e ∷ es) (omega arith) in
    let prefix = take (length (e ∷ es) - 1) (e ∷ es) in
    let same : last_room (e ∷ es) ≡ room_of split.0 = ap last_room split.1 ∙ last_room-append prefix split.0 in
    let neat' : IsTidy (prefix ++ split.0 ∷ []) = subst IsTidy split.1 neat in
    let following = tidy-file_following prefix split.0 more some neat' (omega arith) in
    ap (λ xs. tidy (xs ++ Empty more ∷ [])) split.1 ∙ following ∙ ap (λ xs. xs ++ Empty more ∷ []) (sym split.1)

-- the size of the last empty is counted
pub last_room-total : (es : List DirEntry) → last_room es ≤ total es
last_room-total [] = omega arith
last_room-total (e ∷ []) = omega (arith, room-le-size e)
last_room-total (e ∷ f ∷ es) = omega (arith, last_room-total (f ∷ es))

pub last_room-at : (es : List DirEntry) (d : DirEntry) → 0 < length es → last_room es ≡ room_of (get_or es (length es - 1) d)
last_room-at [] d some = absurd (omega arith)
last_room-at (e ∷ []) d some = refl
last_room-at (e ∷ f ∷ es) d some =
    let more : length (e ∷ f ∷ es) - 1 ≡ suc (length (f ∷ es) - 1) = omega arith in
    rw more (last_room-at (f ∷ es) d (omega arith))

-- Tidy lists as they stand, and their prefixes.
pub tidy-same : (es : List DirEntry) → IsTidy es → tidy es ≡ es
tidy-same [] neat = refl
tidy-same (e ∷ es) neat = rw (tidy-same es neat.2) (before-apart e es neat.0 neat.1)

apart-prefix : (e : DirEntry) (xs ys : List DirEntry) → Apart e (xs ++ ys) → Apart e xs
apart-prefix (File name info size) [] ys apart = tt
apart-prefix (Empty size) [] ys apart = tt
apart-prefix e (x ∷ xs) ys apart = apart-head e x (xs ++ ys) xs apart

pub IsTidy-prefix : (xs ys : List DirEntry) → IsTidy (xs ++ ys) → IsTidy xs
IsTidy-prefix [] ys neat = tt
IsTidy-prefix (x ∷ xs) ys neat = (neat.0, apart-prefix x xs ys neat.1, IsTidy-prefix xs ys neat.2)

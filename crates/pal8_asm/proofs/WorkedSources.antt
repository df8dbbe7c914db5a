-- Worked sources: what the definitions give for them, by computing.
use Rattle.std.proofs.Common.{◌≡◌, ℕ, false, Result, Ok, Err, List, [], ◌∷◌, ◌++◌, refl}
use Rattle.std.specs.Prelude.{codes}
use Rattle.word12.specs.Sixbit.{name_number}
use Rattle.pal_lex.specs.Text.{text_of}
use Rattle.pal_sym.specs.Permanent.{permanent}
use Rattle.pal8_grammar.specs.Permanent.{permanent as pal8_permanent}
use Rattle.pal8_pools.specs.Asks.{Ask, cell_in}
use Rattle.pal8_asm.specs.declared.faults.Fault.{Fault}
use Rattle.pal8_asm.specs.Tapes.{TapeWords}
use Rattle.pal8_asm.specs.Assembled.{result_of_text}
use Rattle.pal8_places.specs.declared.faults.Code.{Code}
use Rattle.pal8_places.specs.declared.options.Options.{Options}
use Rattle.pal8_places.specs.declared.faults.Code.TheVariants.{IC, SY, NU, UA, DT, RD, IR, II, FD, PG, PF, DZ, RL, PageClash, ZeroClash, PH, NE, NW}

-- each ask with its cell, the oldest first
abbrev cells : List Ask → List Ask → List (ℕ × ℕ)
cells asks [] = []
cells asks (a ∷ older) = cells asks older ++ (cell_in asks a, a.value) ∷ []

-- the words, what all of them ask, and what punched ones ask
abbrev brief : Result TapeWords Fault → Result (List (ℕ × ℕ) × List (ℕ × ℕ) × List (ℕ × ℕ)) (Code × ℕ)
brief (Err fault) = Err (fault.code, fault.place.line)
brief (Ok made) = Ok (made.words, cells made.asks made.asks, cells made.asks made.punched)

-- as the profile says
abbrev plain : Options
plain = record { is_without_links = false; is_without_zero = false; is_without_origin = false; has_stays = false }

abbrev read : List ℕ → Result (List (ℕ × ℕ) × List (ℕ × ℕ) × List (ℕ × ℕ)) (Code × ℕ)
read bytes = brief (result_of_text plain (text_of bytes))

dt : read (codes "A=1;A, 2" ++ 10 ∷ codes "$" ++ 10 ∷ []) ≡ Err (DT (name_number (codes "A")), 1)
unfolding permanent pal8_permanent
dt = refl

dz : read (codes "1%(5)" ++ 10 ∷ codes "1%0" ++ 10 ∷ codes "$" ++ 10 ∷ []) ≡ Err (DZ, 2)
unfolding permanent pal8_permanent
dz = refl

equals_reference : read (codes "*400" ++ 10 ∷ codes "A, 0" ++ 10 ∷ codes "CALL=JMS A" ++ 10 ∷ codes "CALL" ++ 10 ∷ codes "*600" ++ 10 ∷ codes "CALL" ++ 10 ∷ codes "C2=JMS I 20" ++ 10 ∷ codes "C2" ++ 10 ∷ codes "C2 5" ++ 10 ∷ codes "$" ++ 10 ∷ []) ≡ Ok ((0o400, 0) ∷ (0o401, 0o4200) ∷ (0o600, 0o4200) ∷ (0o601, 0o4420) ∷ (0o602, 0o4425) ∷ [], [], [])
unfolding permanent pal8_permanent
equals_reference = refl

fd : read (codes "FIELD 7;1" ++ 10 ∷ codes "FIELD 10" ++ 10 ∷ codes "$" ++ 10 ∷ []) ≡ Err (FD, 2)
unfolding permanent pal8_permanent
fd = refl

ic_character : read (codes "1" ++ 10 ∷ codes "2#3" ++ 10 ∷ codes "$" ++ 10 ∷ []) ≡ Err (IC, 2)
unfolding permanent pal8_permanent
ic_character = refl

ii : read (codes "*200" ++ 10 ∷ codes "TAD I A" ++ 10 ∷ codes "*400" ++ 10 ∷ codes "A, 1" ++ 10 ∷ codes "$" ++ 10 ∷ []) ≡ Err (II, 2)
unfolding permanent pal8_permanent
ii = refl

ir_equals : read (codes "*400" ++ 10 ∷ codes "C=JMS 1234" ++ 10 ∷ codes "C" ++ 10 ∷ codes "$" ++ 10 ∷ []) ≡ Err (IR, 2)
unfolding permanent pal8_permanent
ir_equals = refl

link_in_literal : read (codes "TAD (TAD A" ++ 10 ∷ codes "*400" ++ 10 ∷ codes "A, 0" ++ 10 ∷ codes "$" ++ 10 ∷ []) ≡ Ok ((0o200, 0o1376) ∷ (0o400, 0) ∷ [], (0o377, 0o400) ∷ (0o376, 0o1777) ∷ [], (0o377, 0o400) ∷ (0o376, 0o1777) ∷ [])
unfolding permanent pal8_permanent
link_in_literal = refl

link_on_zero : read (codes "*20" ++ 10 ∷ codes "TAD A" ++ 10 ∷ codes "*200" ++ 10 ∷ codes "A, 1" ++ 10 ∷ codes "$" ++ 10 ∷ []) ≡ Ok ((0o20, 0o1777) ∷ (0o200, 1) ∷ [], (0o177, 0o200) ∷ [], (0o177, 0o200) ∷ [])
unfolding permanent pal8_permanent
link_on_zero = refl

-- a link and a literal share a cell
link_shares : read (codes "*200" ++ 10 ∷ codes "TAD 1234" ++ 10 ∷ codes "TAD (1234" ++ 10 ∷ codes "$" ++ 10 ∷ []) ≡ Ok ((0o200, 0o1777) ∷ (0o201, 0o1377) ∷ [], (0o377, 0o1234) ∷ (0o377, 0o1234) ∷ [], (0o377, 0o1234) ∷ (0o377, 0o1234) ∷ [])
unfolding permanent pal8_permanent
link_shares = refl

-- an address out of reach goes through a link
link : read (codes "*200" ++ 10 ∷ codes "TAD A" ++ 10 ∷ codes "DCA A" ++ 10 ∷ codes "*400" ++ 10 ∷ codes "A, 1" ++ 10 ∷ codes "$" ++ 10 ∷ []) ≡ Ok ((0o200, 0o1777) ∷ (0o201, 0o3777) ∷ (0o400, 1) ∷ [], (0o377, 0o400) ∷ (0o377, 0o400) ∷ [], (0o377, 0o400) ∷ (0o377, 0o400) ∷ [])
unfolding permanent pal8_permanent
link = refl

literal_alone : read (codes "(5" ++ 10 ∷ codes "[5" ++ 10 ∷ codes "(5)+1" ++ 10 ∷ codes "$" ++ 10 ∷ []) ≡ Ok ((0o200, 0o377) ∷ (0o201, 0o177) ∷ (0o202, 0o400) ∷ [], (0o377, 5) ∷ (0o177, 5) ∷ (0o377, 5) ∷ [], (0o377, 5) ∷ (0o177, 5) ∷ (0o377, 5) ∷ [])
unfolding permanent pal8_permanent
literal_alone = refl

-- each field has its own pools, and a page that is come back to keeps its own
literal_fields : read (codes "*200" ++ 10 ∷ codes "TAD (1" ++ 10 ∷ codes "TAD [1" ++ 10 ∷ codes "FIELD 1" ++ 10 ∷ codes "1" ++ 10 ∷ codes "FIELD 0" ++ 10 ∷ codes "*210" ++ 10 ∷ codes "TAD (2" ++ 10 ∷ codes "TAD [2" ++ 10 ∷ codes "$" ++ 10 ∷ []) ≡ Ok ((0o200, 0o1377) ∷ (0o201, 0o1177) ∷ (0o10200, 1) ∷ (0o210, 0o1376) ∷ (0o211, 0o1176) ∷ [], (0o377, 1) ∷ (0o177, 1) ∷ (0o376, 2) ∷ (0o176, 2) ∷ [], (0o377, 1) ∷ (0o177, 1) ∷ (0o376, 2) ∷ (0o176, 2) ∷ [])
unfolding permanent pal8_permanent
literal_fields = refl

literal_indirect : read (codes "TAD I (5" ++ 10 ∷ codes "JMS I (A" ++ 10 ∷ codes "A, 0" ++ 10 ∷ codes "$" ++ 10 ∷ []) ≡ Ok ((0o200, 0o1777) ∷ (0o201, 0o4776) ∷ (0o202, 0) ∷ [], (0o377, 5) ∷ (0o376, 0o202) ∷ [], (0o377, 5) ∷ (0o376, 0o202) ∷ [])
unfolding permanent pal8_permanent
literal_indirect = refl

-- the inner literal asks first
literal_inner : read (codes "*200" ++ 10 ∷ codes "TAD (TAD (5" ++ 10 ∷ codes "TAD (TAD (5))" ++ 10 ∷ codes "$" ++ 10 ∷ []) ≡ Ok ((0o200, 0o1376) ∷ (0o201, 0o1376) ∷ [], (0o377, 5) ∷ (0o376, 0o1377) ∷ (0o377, 5) ∷ (0o376, 0o1377) ∷ [], (0o377, 5) ∷ (0o376, 0o1377) ∷ (0o377, 5) ∷ (0o376, 0o1377) ∷ [])
unfolding permanent pal8_permanent
literal_inner = refl

-- a later name counts in a literal
literal_later_name : read (codes "*200" ++ 10 ∷ codes "TAD (A" ++ 10 ∷ codes "TAD (201" ++ 10 ∷ codes "A, 7" ++ 10 ∷ codes "TAD (202" ++ 10 ∷ codes "$" ++ 10 ∷ []) ≡ Ok ((0o200, 0o1377) ∷ (0o201, 0o1376) ∷ (0o202, 7) ∷ (0o203, 0o1377) ∷ [], (0o377, 0o202) ∷ (0o376, 0o201) ∷ (0o377, 0o202) ∷ [], (0o377, 0o202) ∷ (0o376, 0o201) ∷ (0o377, 0o202) ∷ [])
unfolding permanent pal8_permanent
literal_later_name = refl

-- on page zero both openings ask one pool
literal_on_zero : read (codes "*0" ++ 10 ∷ codes "TAD (5" ++ 10 ∷ codes "TAD [5" ++ 10 ∷ codes "TAD (6" ++ 10 ∷ codes "$" ++ 10 ∷ []) ≡ Ok ((0, 0o1177) ∷ (1, 0o1177) ∷ (2, 0o1176) ∷ [], (0o177, 5) ∷ (0o177, 5) ∷ (0o176, 6) ∷ [], (0o177, 5) ∷ (0o177, 5) ∷ (0o176, 6) ∷ [])
unfolding permanent pal8_permanent
literal_on_zero = refl

-- equal values have one cell, and the first one has the page's last
literal_twice : read (codes "*200" ++ 10 ∷ codes "TAD (5)" ++ 10 ∷ codes "TAD (6)" ++ 10 ∷ codes "TAD (5" ++ 10 ∷ codes "$" ++ 10 ∷ []) ≡ Ok ((0o200, 0o1377) ∷ (0o201, 0o1376) ∷ (0o202, 0o1377) ∷ [], (0o377, 5) ∷ (0o376, 6) ∷ (0o377, 5) ∷ [], (0o377, 5) ∷ (0o376, 6) ∷ (0o377, 5) ∷ [])
unfolding permanent pal8_permanent
literal_twice = refl

ne : read (codes "1" ++ 10 ∷ []) ≡ Err (NE, 2)
unfolding permanent pal8_permanent
ne = refl

no_link : read (codes "+TAD 1" ++ 10 ∷ codes "TAD TAD" ++ 10 ∷ codes "CLL TAD" ++ 10 ∷ codes "TAD -1" ++ 10 ∷ codes "$" ++ 10 ∷ []) ≡ Ok ((0o200, 0o1001) ∷ (0o201, 0o1777) ∷ (0o202, 0o7100) ∷ (0o203, 0o777) ∷ [], (0o377, 0o1000) ∷ [], (0o377, 0o1000) ∷ [])
unfolding permanent pal8_permanent
no_link = refl

nu : read (codes "7777;8" ++ 10 ∷ codes "10000" ++ 10 ∷ codes "$" ++ 10 ∷ []) ≡ Err (NU, 1)
unfolding permanent pal8_permanent
nu = refl

nw : read (codes "A=1" ++ 10 ∷ codes "$" ++ 10 ∷ []) ≡ Err (NW, 2)
unfolding permanent pal8_permanent
nw = refl

-- all operators have one rank
operators : read (codes "7777^2;17%3;12&6!1;1 2+1;2+3^4;-1!1" ++ 10 ∷ codes "$" ++ 10 ∷ []) ≡ Ok ((0o200, 0o7776) ∷ (0o201, 5) ∷ (0o202, 3) ∷ (0o203, 4) ∷ (0o204, 0o24) ∷ (0o205, 0o7777) ∷ [], [], [])
unfolding permanent pal8_permanent
operators = refl

order_nw : read (codes "A=1" ++ 10 ∷ codes "A" ++ 10 ∷ codes "$" ++ 10 ∷ []) ≡ Ok ((0o200, 1) ∷ [], [], [])
unfolding permanent pal8_permanent
order_nw = refl

-- the fault of a later word comes before that
order_ua_pe : read (codes "*377" ++ 10 ∷ codes "TAD (1" ++ 10 ∷ codes "TAD XX" ++ 10 ∷ codes "$" ++ 10 ∷ []) ≡ Err (UA (name_number (codes "XX")), 3)
unfolding permanent pal8_permanent
order_ua_pe = refl

page : read (codes "1" ++ 10 ∷ codes "PAGE" ++ 10 ∷ codes "2" ++ 10 ∷ codes "PAGE 1+2" ++ 10 ∷ codes "PAGE" ++ 10 ∷ codes "." ++ 10 ∷ codes "$" ++ 10 ∷ []) ≡ Ok ((0o200, 1) ∷ (0o400, 2) ∷ (0o600, 0o600) ∷ [], [], [])
unfolding permanent pal8_permanent
page = refl

-- a word may lie on a cell that was asked for long before
pe_later_word : read (codes "*200" ++ 10 ∷ codes "TAD (1" ++ 10 ∷ codes "*400" ++ 10 ∷ codes "1" ++ 10 ∷ codes "*377" ++ 10 ∷ codes "2" ++ 10 ∷ codes "$" ++ 10 ∷ []) ≡ Err (PageClash 0o377, 6)
unfolding permanent pal8_permanent
pe_later_word = refl

pf_text : read (codes "*7777;TEXT /A/" ++ 10 ∷ codes "*7777;TEXT /AB/" ++ 10 ∷ codes "$" ++ 10 ∷ []) ≡ Err (PF, 2)
unfolding permanent pal8_permanent
pf_text = refl

pg : read (codes "PAGE 37;1" ++ 10 ∷ codes "PAGE 40" ++ 10 ∷ codes "$" ++ 10 ∷ []) ≡ Err (PG, 2)
unfolding permanent pal8_permanent
pg = refl

ph_close : read (codes "*200" ++ 10 ∷ codes "1" ++ 10 ∷ codes "2>" ++ 10 ∷ codes "3" ++ 10 ∷ codes "$" ++ 10 ∷ []) ≡ Err (PH, 3)
unfolding permanent pal8_permanent
ph_close = refl

rd : read (codes "A, 1" ++ 10 ∷ codes "CLA=7200" ++ 10 ∷ codes "A=5" ++ 10 ∷ codes "$" ++ 10 ∷ []) ≡ Err (RD, 3)
unfolding permanent pal8_permanent
rd = refl

-- a soft name gives way to a later definition
soft_names : read (codes "BSW" ++ 10 ∷ codes "CDI 10" ++ 10 ∷ codes "MQL" ++ 10 ∷ codes "A=BSW" ++ 10 ∷ codes "A" ++ 10 ∷ codes "BSW=5" ++ 10 ∷ codes "BSW" ++ 10 ∷ codes "$" ++ 10 ∷ []) ≡ Ok ((0o200, 5) ∷ (0o201, 0o6213) ∷ (0o202, 0o7421) ∷ (0o203, 0o7002) ∷ (0o204, 5) ∷ [], [], [])
unfolding permanent pal8_permanent
soft_names = refl

-- a closing of the other kind closes nothing
sy_brackets : read (codes "TAD (5]" ++ 10 ∷ codes "$" ++ 10 ∷ []) ≡ Err (SY, 1)
unfolding permanent pal8_permanent
sy_brackets = refl

sy_literal_in_equals : read (codes "A=(5" ++ 10 ∷ codes "$" ++ 10 ∷ []) ≡ Err (SY, 1)
unfolding permanent pal8_permanent
sy_literal_in_equals = refl

text_empty : read (codes "TEXT //" ++ 10 ∷ codes "1" ++ 10 ∷ codes "$" ++ 10 ∷ []) ≡ Ok ((0o200, 0) ∷ (0o201, 1) ∷ [], [], [])
unfolding permanent pal8_permanent
text_empty = refl

-- an even text has 00 after it
text : read (codes "*200" ++ 10 ∷ codes "TEXT /AB/" ++ 10 ∷ codes "A, TEXT \"CDE\"" ++ 10 ∷ codes "B, A" ++ 10 ∷ codes "B" ++ 10 ∷ codes "$" ++ 10 ∷ []) ≡ Ok ((0o200, 0o102) ∷ (0o201, 0) ∷ (0o202, 0o304) ∷ (0o203, 0o500) ∷ (0o204, 0o202) ∷ (0o205, 0o204) ∷ [], [], [])
unfolding permanent pal8_permanent
text = refl

ua_zblock : read (codes "*200" ++ 10 ∷ codes "ZBLOCK A" ++ 10 ∷ codes "1" ++ 10 ∷ codes "A=2" ++ 10 ∷ codes "$" ++ 10 ∷ []) ≡ Err (UA (name_number (codes "A")), 2)
unfolding permanent pal8_permanent
ua_zblock = refl

ua : read (codes "*200" ++ 10 ∷ codes "TAD (XX" ++ 10 ∷ codes "1" ++ 10 ∷ codes "$" ++ 10 ∷ []) ≡ Err (UA (name_number (codes "XX")), 2)
unfolding permanent pal8_permanent
ua = refl

zblock : read (codes "A=2" ++ 10 ∷ codes "ZBLOCK A" ++ 10 ∷ codes "1" ++ 10 ∷ codes "ZBLOCK 0" ++ 10 ∷ codes "2" ++ 10 ∷ codes "$" ++ 10 ∷ []) ≡ Ok ((0o200, 0) ∷ (0o201, 0) ∷ (0o202, 1) ∷ (0o203, 2) ∷ [], [], [])
unfolding permanent pal8_permanent
zblock = refl

ze : read (codes "*177" ++ 10 ∷ codes "2" ++ 10 ∷ codes "*200" ++ 10 ∷ codes "TAD [1" ++ 10 ∷ codes "$" ++ 10 ∷ []) ≡ Err (ZeroClash 0o177, 4)
unfolding permanent pal8_permanent
ze = refl

-- ## Punching, relocation, and names of files and devices

-- words that aren't punched take their places
nopunch : read (codes "*200" ++ 10 ∷ codes "1" ++ 10 ∷ codes "NOPUNCH" ++ 10 ∷ codes "2" ++ 10 ∷ codes "3" ++ 10 ∷ codes "ENPUNCH" ++ 10 ∷ codes "4" ++ 10 ∷ codes "$" ++ 10 ∷ []) ≡ Ok ((0o200, 1) ∷ (0o203, 4) ∷ [], [], [])
unfolding permanent pal8_permanent
nopunch = refl

-- a word that isn't punched asks, and its literal stays where none that is punched asks for it
nopunch_literal : read (codes "NOPUNCH" ++ 10 ∷ codes "TAD (1" ++ 10 ∷ codes "ENPUNCH" ++ 10 ∷ codes "TAD (2" ++ 10 ∷ codes "$" ++ 10 ∷ []) ≡ Ok ((0o201, 0o1376) ∷ [], (0o377, 1) ∷ (0o376, 2) ∷ [], (0o376, 2) ∷ [])
unfolding permanent pal8_permanent
nopunch_literal = refl

nopunch_asked : read (codes "*200" ++ 10 ∷ codes "TAD (1" ++ 10 ∷ codes "NOPUNCH" ++ 10 ∷ codes "TAD (2" ++ 10 ∷ codes "*400" ++ 10 ∷ codes "ENPUNCH" ++ 10 ∷ codes "4" ++ 10 ∷ codes "$" ++ 10 ∷ []) ≡ Ok ((0o200, 0o1377) ∷ (0o400, 4) ∷ [], (0o377, 1) ∷ (0o376, 2) ∷ [], (0o377, 1) ∷ [])
unfolding permanent pal8_permanent
nopunch_asked = refl

-- RELOC shifts places, not words
reloc : read (codes "*200" ++ 10 ∷ codes "RELOC 400" ++ 10 ∷ codes "A, 1" ++ 10 ∷ codes "JMP A" ++ 10 ∷ codes "B, 2" ++ 10 ∷ codes "RELOC" ++ 10 ∷ codes "A" ++ 10 ∷ codes "B" ++ 10 ∷ codes "C, ." ++ 10 ∷ codes "$" ++ 10 ∷ []) ≡ Ok ((0o200, 1) ∷ (0o201, 0o5200) ∷ (0o202, 2) ∷ (0o203, 0o400) ∷ (0o204, 0o402) ∷ (0o205, 0o205) ∷ [], [], [])
unfolding permanent pal8_permanent
reloc = refl

-- an origin sets the place
reloc_origin : read (codes "*200" ++ 10 ∷ codes "RELOC 423" ++ 10 ∷ codes "*400" ++ 10 ∷ codes "1" ++ 10 ∷ codes "." ++ 10 ∷ codes "$" ++ 10 ∷ []) ≡ Ok ((0o155, 1) ∷ (0o156, 0o401) ∷ [], [], [])
unfolding permanent pal8_permanent
reloc_origin = refl

-- and so does a page
reloc_page : read (codes "*200" ++ 10 ∷ codes "RELOC 423" ++ 10 ∷ codes "1" ++ 10 ∷ codes "PAGE" ++ 10 ∷ codes "2" ++ 10 ∷ codes "." ++ 10 ∷ codes "$" ++ 10 ∷ []) ≡ Ok ((0o200, 1) ∷ (0o355, 2) ∷ (0o356, 0o601) ∷ [], [], [])
unfolding permanent pal8_permanent
reloc_page = refl

-- a field leaves the shift
reloc_field : read (codes "*200" ++ 10 ∷ codes "RELOC 400" ++ 10 ∷ codes "1" ++ 10 ∷ codes "FIELD 1" ++ 10 ∷ codes "." ++ 10 ∷ codes "2" ++ 10 ∷ codes "RELOC" ++ 10 ∷ codes "." ++ 10 ∷ codes "$" ++ 10 ∷ []) ≡ Ok ((0o200, 1) ∷ (0o10200, 0o400) ∷ (0o10201, 2) ∷ (0o10202, 0o202) ∷ [], [], [])
unfolding permanent pal8_permanent
reloc_field = refl

-- a literal lies on the page of the location, and is reached on that of the place
reloc_literal : read (codes "*200" ++ 10 ∷ codes "RELOC 400" ++ 10 ∷ codes "TAD (5" ++ 10 ∷ codes "JMP ." ++ 10 ∷ codes "RELOC" ++ 10 ∷ codes "TAD (6" ++ 10 ∷ codes "$" ++ 10 ∷ []) ≡ Ok ((0o200, 0o1377) ∷ (0o201, 0o5201) ∷ (0o202, 0o1376) ∷ [], (0o377, 5) ∷ (0o376, 6) ∷ [], (0o377, 5) ∷ (0o376, 6) ∷ [])
unfolding permanent pal8_permanent
reloc_literal = refl

-- page zero is never shifted
reloc_zero : read (codes "RELOC 423" ++ 10 ∷ codes "TAD [5" ++ 10 ∷ codes "$" ++ 10 ∷ []) ≡ Ok ((0o200, 0o1177) ∷ [], (0o177, 5) ∷ [], (0o177, 5) ∷ [])
unfolding permanent pal8_permanent
reloc_zero = refl

-- the name of a file fills four words
filename : read (codes "*200" ++ 10 ∷ codes "FILENAME PIP.SV" ++ 10 ∷ codes "FILENAME ABCDEFGH.IJK" ++ 10 ∷ codes "FILENAME 8" ++ 10 ∷ codes "1" ++ 10 ∷ codes "$" ++ 10 ∷ []) ≡ Ok ((0o200, 0o2011) ∷ (0o201, 0o2000) ∷ (0o202, 0) ∷ (0o203, 0o2326) ∷ (0o204, 0o102) ∷ (0o205, 0o304) ∷ (0o206, 0o506) ∷ (0o207, 0o1112) ∷ (0o210, 0o7000) ∷ (0o211, 0) ∷ (0o212, 0) ∷ (0o213, 0) ∷ (0o214, 1) ∷ [], [], [])
unfolding permanent pal8_permanent
filename = refl

device : read (codes "*200" ++ 10 ∷ codes "DEVICE DSK" ++ 10 ∷ codes "device lta1" ++ 10 ∷ codes "1" ++ 10 ∷ codes "$" ++ 10 ∷ []) ≡ Ok ((0o200, 0o423) ∷ (0o201, 0o1300) ∷ (0o202, 0o1424) ∷ (0o203, 0o161) ∷ (0o204, 1) ∷ [], [], [])
unfolding permanent pal8_permanent
device = refl

-- a link under a shift by no whole page
rl : read (codes "*200" ++ 10 ∷ codes "RELOC 423" ++ 10 ∷ codes "A, TAD A" ++ 10 ∷ codes "TAD 577" ++ 10 ∷ codes "TAD 400" ++ 10 ∷ codes "TAD 600" ++ 10 ∷ codes "$" ++ 10 ∷ []) ≡ Err (RL, 6)
unfolding permanent pal8_permanent
rl = refl

rl_literal : read (codes "*200" ++ 10 ∷ codes "RELOC 20" ++ 10 ∷ codes "TAD [6" ++ 10 ∷ codes "TAD (5" ++ 10 ∷ codes "$" ++ 10 ∷ []) ≡ Err (RL, 4)
unfolding permanent pal8_permanent
rl_literal = refl

-- a word that isn't punched asks for a cell, which no punched one may take
pe_unpunched : read (codes "NOPUNCH" ++ 10 ∷ codes "TAD (1" ++ 10 ∷ codes "ENPUNCH" ++ 10 ∷ codes "*377" ++ 10 ∷ codes "5" ++ 10 ∷ codes "$" ++ 10 ∷ []) ≡ Err (PageClash 0o377, 5)
unfolding permanent pal8_permanent
pe_unpunched = refl

-- and has faults
ua_unpunched : read (codes "NOPUNCH" ++ 10 ∷ codes "TAD XX" ++ 10 ∷ codes "$" ++ 10 ∷ []) ≡ Err (UA (name_number (codes "XX")), 2)
unfolding permanent pal8_permanent
ua_unpunched = refl

-- but is no word
nw_unpunched : read (codes "NOPUNCH" ++ 10 ∷ codes "1" ++ 10 ∷ codes "$" ++ 10 ∷ []) ≡ Err (NW, 3)
unfolding permanent pal8_permanent
nw_unpunched = refl

sy_filename : read (codes "FILENAME A.B C" ++ 10 ∷ codes "$" ++ 10 ∷ []) ≡ Err (SY, 1)
unfolding permanent pal8_permanent
sy_filename = refl

-- ## Tables of names

-- EXPUNGE takes permanent names and operations away; FIXMRI makes one anew
expunge : read (codes "EXPUNGE" ++ 10 ∷ codes "FIXMRI TAD=1000" ++ 10 ∷ codes "CLA=7200" ++ 10 ∷ codes "FIXTAB" ++ 10 ∷ codes "*200" ++ 10 ∷ codes "TAD 205" ++ 10 ∷ codes "DECIMAL" ++ 10 ∷ codes "10" ++ 10 ∷ codes "TAD I 205" ++ 10 ∷ codes "$" ++ 10 ∷ []) ≡ Ok ((0o200, 0o1205) ∷ (0o201, 0o12) ∷ (0o202, 0o1715) ∷ [], [], [])
unfolding permanent pal8_permanent
expunge = refl

-- the source's own names stay
expunge_own : read (codes "*200" ++ 10 ∷ codes "A, 1" ++ 10 ∷ codes "EXPUNGE" ++ 10 ∷ codes "A" ++ 10 ∷ codes "TAD, 2" ++ 10 ∷ codes "TAD" ++ 10 ∷ codes "$" ++ 10 ∷ []) ≡ Ok ((0o200, 1) ∷ (0o201, 0o200) ∷ (0o202, 2) ∷ (0o203, 0o202) ∷ [], [], [])
unfolding permanent pal8_permanent
expunge_own = refl

fixmri : read (codes "*400" ++ 10 ∷ codes "FIXMRI CALL=JMS I 20" ++ 10 ∷ codes "CALL 10" ++ 10 ∷ codes "CALL 410" ++ 10 ∷ codes "CALL" ++ 10 ∷ codes "$" ++ 10 ∷ []) ≡ Ok ((0o400, 0o4430) ∷ (0o401, 0o4630) ∷ (0o402, 0o4420) ∷ [], [], [])
unfolding permanent pal8_permanent
fixmri = refl

-- `=` gives an operation another word
fixmri_again : read (codes "EXPUNGE" ++ 10 ∷ codes "FIXMRI LDA=1000" ++ 10 ∷ codes "LDA=2000" ++ 10 ∷ codes "LDA 5" ++ 10 ∷ codes "$" ++ 10 ∷ []) ≡ Ok ((0o200, 0o2005) ∷ [], [], [])
unfolding permanent pal8_permanent
fixmri_again = refl

-- an operation that is indirect by its word gets no link
ii_fixmri : read (codes "FIXMRI JMSI=4400" ++ 10 ∷ codes "JMSI 1000" ++ 10 ∷ codes "$" ++ 10 ∷ []) ≡ Err (II, 2)
unfolding permanent pal8_permanent
ii_fixmri = refl

ua_expunged : read (codes "EXPUNGE" ++ 10 ∷ codes "1" ++ 10 ∷ codes "CLA" ++ 10 ∷ codes "$" ++ 10 ∷ []) ≡ Err (UA (name_number (codes "CLA")), 3)
unfolding permanent pal8_permanent
ua_expunged = refl

-- FIXTAB fixes the names before it alone
rd_fixtab : read (codes "B=1" ++ 10 ∷ codes "A=5" ++ 10 ∷ codes "FIXTAB" ++ 10 ∷ codes "C=1;C=2" ++ 10 ∷ codes "A=5" ++ 10 ∷ codes "A=6" ++ 10 ∷ codes "$" ++ 10 ∷ []) ≡ Err (RD, 6)
unfolding permanent pal8_permanent
rd_fixtab = refl

-- FIXMRI gives a fixed name another value, and `=` does not
rd_fixmri : read (codes "FIXMRI TAD=2000" ++ 10 ∷ codes "TAD 5" ++ 10 ∷ codes "TAD=1000" ++ 10 ∷ codes "$" ++ 10 ∷ []) ≡ Err (RD, 3)
unfolding permanent pal8_permanent
rd_fixmri = refl

-- ## Late definitions

-- a name that is defined later counts in words
late : read (codes "A=B+1;A;B=5" ++ 10 ∷ codes "$" ++ 10 ∷ []) ≡ Ok ((0o200, 6) ∷ [], [], [])
unfolding permanent pal8_permanent
late = refl

-- a late definition rests on none that is late
late_late : read (codes "A=B;B=C;C=5" ++ 10 ∷ codes "$" ++ 10 ∷ []) ≡ Err (UA (name_number (codes "B")), 1)
unfolding permanent pal8_permanent
late_late = refl

-- and no place rests on it
late_place : read (codes "A=B;*A;B=5" ++ 10 ∷ codes "$" ++ 10 ∷ []) ≡ Err (UA (name_number (codes "A")), 1)
unfolding permanent pal8_permanent
late_place = refl

-- each word has the last definition before it
late_again : read (codes "A=B;A;A=1;A;A=C;A;B=7;C=10" ++ 10 ∷ codes "$" ++ 10 ∷ []) ≡ Ok ((0o200, 7) ∷ (0o201, 1) ∷ (0o202, 0o10) ∷ [], [], [])
unfolding permanent pal8_permanent
late_again = refl

-- a fixed name keeps its value
late_rd : read (codes "A, 1;A=B;B=5" ++ 10 ∷ codes "$" ++ 10 ∷ []) ≡ Err (RD, 1)
unfolding permanent pal8_permanent
late_rd = refl

-- before all definitions it has the last one of the source
late_last : read (codes "A;A=B;B=5" ++ 10 ∷ codes "$" ++ 10 ∷ []) ≡ Ok ((0o200, 5) ∷ [], [], [])
unfolding permanent pal8_permanent
late_last = refl

-- ## Places: the line, and the byte in the text as it stands

abbrev place : Result TapeWords Fault → Result (List (ℕ × ℕ)) (Code × ℕ × ℕ)
place (Err fault) = Err (fault.code, fault.place.line, fault.place.start)
place (Ok made) = Ok made.words

-- at the first token, blanks and dropped bytes counted
place_of_token : place (result_of_text plain (text_of (codes "1" ++ 13 ∷ 10 ∷ codes "2;  3#" ++ 10 ∷ codes "$" ++ 10 ∷ []))) ≡ Err (IC, 2, 7)
unfolding permanent pal8_permanent
place_of_token = refl

-- an empty statement at the byte that ends it
place_of_close : place (result_of_text plain (text_of (codes "1; >" ++ 10 ∷ codes "$" ++ 10 ∷ []))) ≡ Err (PH, 1, 3)
unfolding permanent pal8_permanent
place_of_close = refl

-- no word at the `$`, no end after the last byte
place_of_dollar : place (result_of_text plain (text_of (codes "A=1;A=2 $" ++ 10 ∷ []))) ≡ Err (NW, 1, 8)
unfolding permanent pal8_permanent
place_of_dollar = refl

place_of_end : place (result_of_text plain (text_of (codes "1" ++ 10 ∷ codes "2" ++ []))) ≡ Err (NE, 2, 3)
unfolding permanent pal8_permanent
place_of_end = refl

-- the lowest of two cells that clash at once, at the later of two statements
place_of_clash : place (result_of_text plain (text_of (codes "*177;1;*377;2;*200;(TAD [1)" ++ 10 ∷ codes "$" ++ 10 ∷ []))) ≡ Err (ZeroClash 0o177, 1, 19)
unfolding permanent pal8_permanent
place_of_clash = refl

-- Worked sources: what the definitions give for them, by computing.
use Rattle.std.proofs.Common.{◌≡◌, ℕ, Option, Some, None, List, [], ◌∷◌, ◌++◌, refl}
use Rattle.std.specs.Prelude.{codes}
use Rattle.pal_lex.specs.Text.{text_of}
use Rattle.pal_lex.specs.Statements.{statements}
use Rattle.pal_faults.specs.declared.assembling.AsmFault.{AsmFault}
use Rattle.pal_faults.specs.declared.assembling.AsmFault.TheVariants.{At}
use Rattle.pal_faults.specs.declared.assembling.Code.TheVariants.{IC, SY, NU, UA, DT, RD, IR, FD, PF, NE, NW}
use Rattle.pal_asm.specs.Words.{pairs_of}
use Rattle.pal_asm.specs.Faults.{fault_of}
use Rattle.pal_sym.specs.Permanent.{permanent}

abbrev pairs : List ℕ → List (ℕ × ℕ)
pairs bytes = pairs_of (text_of bytes)

abbrev fault : List ℕ → Option AsmFault
fault bytes = fault_of (text_of bytes)

two_origins : (fault (codes "*200;1;*200;2" ++ 13 ∷ codes "$") ≡ None) × (pairs (codes "*200;1;*200;2" ++ 13 ∷ codes "$") ≡ (128, 1) ∷ (128, 2) ∷ [])
unfolding permanent statements
two_origins = (refl, refl)

another_field : (fault (codes "FIELD 1;*200;5" ++ 13 ∷ codes "$") ≡ None) × (pairs (codes "FIELD 1;*200;5" ++ 13 ∷ codes "$") ≡ (4224, 5) ∷ [])
unfolding permanent statements
another_field = (refl, refl)

indirect : (fault (codes "*10;277;*200;TAD I 10;HLT;*300;5" ++ 13 ∷ codes "$") ≡ None) × (pairs (codes "*10;277;*200;TAD I 10;HLT;*300;5" ++ 13 ∷ codes "$") ≡ (8, 191) ∷ (128, 776) ∷ (129, 3842) ∷ (192, 5) ∷ [])
unfolding permanent statements
indirect = (refl, refl)

later_name : (fault (codes "*200;CLL STA;TAD ONE;HLT;ONE, 1" ++ 13 ∷ codes "$") ≡ None) × (pairs (codes "*200;CLL STA;TAD ONE;HLT;ONE, 1" ++ 13 ∷ codes "$") ≡ (128, 3808) ∷ (129, 643) ∷ (130, 3842) ∷ (131, 1) ∷ [])
unfolding permanent statements
later_name = (refl, refl)

radix : (fault (codes "DECIMAL;100;OCTAL;100" ++ 13 ∷ codes "$") ≡ None) × (pairs (codes "DECIMAL;100;OCTAL;100" ++ 13 ∷ codes "$") ≡ (128, 100) ∷ (129, 64) ∷ [])
unfolding permanent statements
radix = (refl, refl)

print : (fault (codes "*200;CLA;TAD C;TLS;TSF;JMP .-1;HLT;C, 301" ++ 13 ∷ codes "$") ≡ None) × (pairs (codes "*200;CLA;TAD C;TLS;TSF;JMP .-1;HLT;C, 301" ++ 13 ∷ codes "$") ≡ (128, 3712) ∷ (129, 646) ∷ (130, 3110) ∷ (131, 3105) ∷ (132, 2691) ∷ (133, 3842) ∷ (134, 193) ∷ [])
unfolding permanent statements
print = (refl, refl)

forms_of_words : (fault (codes "TAD I Z 10; JMP .+1; -1; CLA CLL; TAD -1" ++ 13 ∷ codes "$") ≡ None) × (pairs (codes "TAD I Z 10; JMP .+1; -1; CLA CLL; TAD -1" ++ 13 ∷ codes "$") ≡ (128, 776) ∷ (129, 2690) ∷ (130, 4095) ∷ (131, 3776) ∷ (132, 511) ∷ [])
unfolding permanent statements
forms_of_words = (refl, refl)

short_references : (fault (codes "DCA;TAD I;CLL TAD" ++ 13 ∷ codes "$") ≡ None) × (pairs (codes "DCA;TAD I;CLL TAD" ++ 13 ∷ codes "$") ≡ (128, 1536) ∷ (129, 768) ∷ (130, 3648) ∷ [])
unfolding permanent statements
short_references = (refl, refl)

dollar_in_a_comment : (fault (codes "/ $" ++ 13 ∷ codes "1" ++ 13 ∷ codes "$") ≡ None) × (pairs (codes "/ $" ++ 13 ∷ codes "1" ++ 13 ∷ codes "$") ≡ (128, 1) ∷ [])
unfolding permanent statements
dollar_in_a_comment = (refl, refl)

last_cell : (fault (codes "*7777;1" ++ 13 ∷ codes "$") ≡ None) × (pairs (codes "*7777;1" ++ 13 ∷ codes "$") ≡ (4095, 1) ∷ [])
unfolding permanent statements
last_cell = (refl, refl)

same_value : (fault (codes "A=1;A=1;A" ++ 13 ∷ codes "$") ≡ None) × (pairs (codes "A=1;A=1;A" ++ 13 ∷ codes "$") ≡ (128, 1) ∷ [])
unfolding permanent statements
same_value = (refl, refl)

off_page : fault (codes "*200" ++ 13 ∷ codes "TAD A" ++ 13 ∷ codes "HLT" ++ 13 ∷ codes "*400" ++ 13 ∷ codes "A, 1" ++ 13 ∷ codes "$") ≡ Some (At IR 2)
unfolding permanent statements
off_page = refl

past_7777 : fault (codes "*7777;1;2" ++ 13 ∷ codes "$") ≡ Some (At PF 1)
unfolding permanent statements
past_7777 = refl

no_words : fault (codes "$") ≡ Some (At NW 1)
unfolding permanent statements
no_words = refl

no_dollar : fault (codes "1" ++ 13 ∷ codes "") ≡ Some (At NE 2)
unfolding permanent statements
no_dollar = refl

nothing : fault (codes "") ≡ Some (At NE 1)
unfolding permanent statements
nothing = refl

bad_number : fault (codes "8" ++ 13 ∷ codes "$") ≡ Some (At NU 1)
unfolding permanent statements
bad_number = refl

redefinition : fault (codes "A=1;A=2" ++ 13 ∷ codes "$") ≡ Some (At NW 2)
unfolding permanent statements
redefinition = refl

redefined : (fault (codes "A=1;A;A=2;A" ++ 13 ∷ codes "$") ≡ None) × (pairs (codes "A=1;A;A=2;A" ++ 13 ∷ codes "$") ≡ (128, 1) ∷ (129, 2) ∷ [])
unfolding permanent statements
redefined = (refl, refl)

used_before : (fault (codes "A;A=1;A=2;A" ++ 13 ∷ codes "$") ≡ None) × (pairs (codes "A;A=1;A=2;A" ++ 13 ∷ codes "$") ≡ (128, 2) ∷ (129, 2) ∷ [])
unfolding permanent statements
used_before = (refl, refl)

by_itself : (fault (codes "A=1;A=A+A;A" ++ 13 ∷ codes "$") ≡ None) × (pairs (codes "A=1;A=A+A;A" ++ 13 ∷ codes "$") ≡ (128, 2) ∷ [])
unfolding permanent statements
by_itself = (refl, refl)

tag_at_present_value : (fault (codes "A=1;A=200;A, A" ++ 13 ∷ codes "$") ≡ None) × (pairs (codes "A=1;A=200;A, A" ++ 13 ∷ codes "$") ≡ (128, 128) ∷ [])
unfolding permanent statements
tag_at_present_value = (refl, refl)

redefined_tag : fault (codes "A, 1;A=5" ++ 13 ∷ codes "$") ≡ Some (At RD 1)
unfolding permanent statements
redefined_tag = refl

redefined_permanent : fault (codes "CLA=5" ++ 13 ∷ codes "$") ≡ Some (At RD 1)
unfolding permanent statements
redefined_permanent = refl

tag_of_another_value : fault (codes "A=1;A, 1" ++ 13 ∷ codes "$") ≡ Some (At DT 1)
unfolding permanent statements
tag_of_another_value = refl

undefined_origin : fault (codes "*B" ++ 13 ∷ codes "B, 1" ++ 13 ∷ codes "$") ≡ Some (At UA 1)
unfolding permanent statements
undefined_origin = refl

bad_field : fault (codes "FIELD 10" ++ 13 ∷ codes "$") ≡ Some (At FD 1)
unfolding permanent statements
bad_field = refl

permanent_tag : fault (codes "CLA, 1" ++ 13 ∷ codes "$") ≡ Some (At DT 1)
unfolding permanent statements
permanent_tag = refl

number_before_name : fault (codes "TAD Q" ++ 13 ∷ codes "8" ++ 13 ∷ codes "$") ≡ Some (At NU 2)
unfolding permanent statements
number_before_name = refl

end_before_name : fault (codes "TAD Q" ++ 13 ∷ codes "1" ++ 13 ∷ codes "") ≡ Some (At NE 3)
unfolding permanent statements
end_before_name = refl

lower_case : fault (codes "8a" ++ 13 ∷ codes "$") ≡ Some (At IC 1)
unfolding permanent statements
lower_case = refl

pause : fault (codes "PAUSE" ++ 13 ∷ codes "$") ≡ Some (At SY 1)
unfolding permanent statements
pause = refl

page_zero_first : (fault (codes "*177;TAD .;TAD ." ++ 13 ∷ codes "$") ≡ None) × (pairs (codes "*177;TAD .;TAD ." ++ 13 ∷ codes "$") ≡ (127, 639) ∷ (128, 640) ∷ [])
unfolding permanent statements
page_zero_first = (refl, refl)

tag_at_same_place : (fault (codes "*7200;CLA, CLA" ++ 13 ∷ codes "$") ≡ None) × (pairs (codes "*7200;CLA, CLA" ++ 13 ∷ codes "$") ≡ (3712, 3712) ∷ [])
unfolding permanent statements
tag_at_same_place = (refl, refl)

-- Commands that are read one after another.
use Rattle.std.proofs.Common.{◌≡◌, ◌∙◌, ◌++◌, ◌+◌, ◌≤◌, ◌⊎◌, inl, inr, subst, get_or, ℕ, zero, suc, true, false, Bool, List, [], ◌∷◌, length, take, drop, if◌then◌else◌, Result, Ok, Err, ap, sym, refl, arith, codes}
use Rattle.std.proofs.Math.Seq.{append_snoc}
use Rattle.debug_lines.specs.Answers.{Reads}
use Rattle.debug_lines.specs.declared.commands.Command.{Command}
use Rattle.debug_lines.specs.declared.faults.LineFault.{LineFault}
use Rattle.debug_lines.specs.declared.faults.LineFault.TheVariants.{Refused, Memory}
use Rattle.debug_lines.specs.declared.faults.Refusal.{Refusal}
use Rattle.debug_lines.specs.declared.parts.Part.{Part}
use Rattle.debug_lines.specs.declared.verbs.Verb.{Verb}
use Rattle.debug_lines.specs.Lines.{operands, operands_of, is_named, verb_in, command_of, commands_from}
use Rattle.debug_lines.specs.Parts.{part, is_word, if_read}

-- commands after others
abbrev pub onto : List Command → Result (List Command) Refusal → Result (List Command) Refusal
onto before (Ok commands) = Ok (before ++ commands)
onto before (Err refusal) = Err refusal

-- the words of a command are passed
pub passed : (line : List ℕ) (inside : ℕ) (words : List Part) → commands_from line inside words ≡ commands_from line 0 (drop inside words)
passed line zero words = refl
passed line (suc inside) [] = refl
passed line (suc inside) (word ∷ words) = passed line inside words

taken_if : (ends : Bool) (word : Part) (words own : List Part) → take (length own) words ≡ own
    → take (length (if ends then [] else word ∷ own)) (word ∷ words) ≡ (if ends then [] else word ∷ own)
taken_if true word words own is = refl
taken_if false word words own is = ap (λ (those : List Part). word ∷ those) is

-- the words of a command are those up to its end
pub taken : (line : List ℕ) (words : List Part) → take (length (operands line words)) words ≡ operands line words
taken line [] = refl
taken line (word ∷ words) = taken_if (is_word (codes ";") line word) word words (operands line words) (taken line words)

-- a command that is no `deposit` has these
pub own_words : (line : List ℕ) (verb : Verb) (words : List Part) → is_named (codes "deposit") verb ≡ false → operands line words ≡ operands_of line verb words
own_words line verb words other = rw other refl

no_fault : (it : Command) (fault : LineFault) → Ok it ≡ Err fault → ⊥
no_fault it fault same = cc

abbrev pub command_or : Command → Result Command LineFault → Command
command_or other (Ok it) = it
command_or other (Err fault) = other

-- what was read of a command is what it says
was_read : (meaning : Result Command Refusal) (it : Command) → Reads meaning (Ok it) → meaning ≡ Ok it
was_read (Ok other) it (inl same) = sym (ap (λ answered. Ok (command_or it answered)) same)
was_read (Ok other) it (inr same) = absurd (no_fault it Memory same)
was_read (Err why) it (inl same) = absurd (no_fault it (Refused why) same)
was_read (Err why) it (inr same) = absurd (no_fault it Memory same)

onto_next : (before : List Command) (command : Command) (rest : Result (List Command) Refusal)
    → onto before (if_read rest (λ commands. Ok (command ∷ commands))) ≡ onto (before ++ command ∷ []) rest
onto_next before command (Ok commands) = ap Ok (sym (append_snoc before command commands))
onto_next before command (Err why) = refl

-- the first command of some words
first_command : (line : List ℕ) (word : Part) (words : List Part) (verb : Verb) (command : Command)
    → is_word (codes ";") line word ≡ false → verb_in line word ≡ Ok verb → command_of line verb word.end (operands_of line verb words) ≡ Ok command
    → commands_from line 0 (word ∷ words) ≡ if_read (commands_from line (length (operands_of line verb words)) words) (λ commands. Ok (command ∷ commands))
first_command line word words verb command other is says = rw other (rw is (rw says refl))

-- a command is read, and those after it
pub next_command : (line : List ℕ) (before after : List Command) (rest others : List Part) (verb : Verb) (command : Command) (count : ℕ) (own : List Part)
    (read : Result Command LineFault) → 1 ≤ length rest → others ≡ drop 1 rest → is_word (codes ";") line (get_or rest 0 (part 0 0)) ≡ false
    → verb_in line (get_or rest 0 (part 0 0)) ≡ Ok verb → own ≡ operands_of line verb others → count ≡ length (operands_of line verb others)
    → Reads (command_of line verb (get_or rest 0 (part 0 0)).end own) read → read ≡ Ok command → after ≡ before ++ command ∷ []
    → onto before (commands_from line 0 rest) ≡ onto after (commands_from line 0 (drop count others))
next_command line before after [] others verb command count own read long is other verb_is own_is count_is reads read_is put = absurd (omega (arith, long))
next_command line before after (word ∷ words) others verb command count own read long is other verb_is own_is count_is reads read_is put =
    let says : command_of line verb word.end own ≡ Ok command = was_read _ command (subst (λ (it : Result Command LineFault). Reads (command_of line verb word.end own) it) read_is reads) in
    let own_words_are : own ≡ operands_of line verb words = own_is ∙ ap (operands_of line verb) is in
    ap (onto before) (first_command line word words verb command other verb_is (ap (command_of line verb word.end) (sym own_words_are) ∙ says))
    ∙ onto_next before command (commands_from line (length (operands_of line verb words)) words)
    ∙ ap (onto (before ++ command ∷ [])) (passed line (length (operands_of line verb words)) words)
    ∙ ap (λ n. onto (before ++ command ∷ []) (commands_from line 0 (drop n words))) (sym (count_is ∙ ap (λ those. length (operands_of line verb those)) is))
    ∙ ap (λ commands. onto commands (commands_from line 0 (drop count words))) (sym put)
    ∙ ap (λ those. onto after (commands_from line 0 (drop count those))) (sym is)

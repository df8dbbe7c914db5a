-- What the words of `assemble` say of its sources and of the volume that has them.
use Rattle.std.proofs.Common.{◌≡◌, ◌∙◌, ◌&&◌, not, sym, ap, refl, Bool, true, false, List, map, length, Option, None, Some, is_some, String, if◌then◌else◌}
use Rattle.std.specs.Global.{Global}
use Rattle.std.proofs.lemmas.List.{length-map}
use Rattle.std.specs.Prelude.{codes, option_map, ◌||◌}
use Rattle.clap.specs.Words.{Row, Text, first_of}
use Rattle.program_tasks.specs.declared.forms.ImageForm.{ImageForm}
use Rattle.command_refusals.specs.declared.reasons.What.{What}
use Rattle.command_refusals.specs.declared.reasons.What.TheVariants as what
use Rattle.command_table.specs.Found.{capitals, has, is_set, name_in, names_in, values_of}
use Rattle.command_refusals.specs.Refusals.{assemble_missing, says_of_pal8, says_where}
use Rattle.command_line.specs.Tasks.{IsFrom, source_names}

-- there are as many sources as words
pub as_many : (values : List Row) (sources : List (String Global)) → source_names values ≡ map (λ file. file.bytes.items) sources → length sources ≡ length (values_of (codes "FILE") values)
as_many values sources are = sym (length-map sources (λ file. file.bytes.items)) ∙ (sym (ap length are) ∙ go (has (codes "from") values))
  where
    go : (is : Bool) → length (if is then names_in (codes "FILE") values else values_of (codes "FILE") values) ≡ length (values_of (codes "FILE") values)
    go true = length-map (values_of (codes "FILE") values) capitals
    go false = refl

named : (word : Option Text) (onto : Option (String Global)) → option_map capitals word ≡ option_map (λ name. name.bytes.items) onto → is_some onto ≡ true → is_some word ≡ true
named None None are is = is
named None (Some name) are is = absurd (cc)
named (Some word) onto are is = refl

-- where one gets the tape, a volume is named
pub has_volume : (values : List Row) (from : Option ImageForm) (onto : Option (String Global)) → assemble_missing values ≡ None → IsFrom values from
    → name_in (codes "onto") values ≡ option_map (λ name. name.bytes.items) onto → is_some onto ≡ true → is_some from ≡ true
has_volume values (Some image) onto none is_from are is = refl
has_volume values None onto none is_from are is =
    go (is_set (codes "cross") values && not (has (codes "list") values)) (says_of_pal8 values && not (is_set (codes "pal8") values)) (has (codes "onto") values) (has (codes "from") values)
    (if has (codes "wait") values && not (has (codes "onto") values) then Some what.Onto else None) (named (first_of (codes "onto") values) onto are is) is_from none
  where
    go : (a b c d : Bool) (rest : Option What) → c ≡ true → d ≡ false
        → (if a then Some what.List else if b then Some what.Pal8 else if (c || says_where values) && not d then Some what.From else rest) ≡ None
        → is_some {T = ImageForm} None ≡ true
    go true b c d rest yes_c no_d none = absurd (cc)
    go false true c d rest yes_c no_d none = absurd (cc)
    go false false true false rest yes_c no_d none = absurd (cc)
    go false false true true rest yes_c no_d none = absurd (cc)
    go false false false d rest yes_c no_d none = absurd (cc)

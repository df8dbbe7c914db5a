-- How the keys of the Teletype are struck, where they come from, and how the switches are set (this project's profile).
use Rattle.std.specs.Prelude.{ℕ, Bool, true, false, Option, None, Some}
use Rattle.terminal8.specs.declared.inputs.Input.{Input}
use Rattle.terminal8.specs.declared.inputs.Input.TheVariants.{Ending, Live}
use Rattle.terminal8.specs.declared.keyboards.Form.{Form}
use Rattle.terminal8.specs.declared.keyboards.Form.TheVariants.{Text, Raw}

abbrev pub form_of : Bool → Form
form_of true = Raw
form_of false = Text

abbrev pub input_of : Bool → Input
input_of true = Live
input_of false = Ending

-- a machine whose switches are set, if that is asked for
abbrev pub with_switches : {S : Type 0} → (S → ℕ → S) → Option ℕ → S → S
with_switches {S} set None s = s
with_switches {S} set (Some word) s = set s word

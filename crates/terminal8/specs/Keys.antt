-- The bytes of the host, as keys of the Teletype (this project's profile). A key is a character of eight bits.
use Rattle.std.specs.Prelude.{ℕ, ◌+◌, Bool, false, nat_eq, nat_lt, if◌then◌else◌, List, [], ◌∷◌, ◌++◌, Option, Some, None, option_to_list}
use Rattle.terminal8.specs.declared.keyboards.Form.{Form}
use Rattle.terminal8.specs.declared.keyboards.Form.TheVariants.{Text, Raw}

-- A keyboard on which bytes are struck: how they are, and whether the last one was a CR.
pub record Keyboard : Type 0 where
  pub form : Form
  pub after_return : Bool

-- no byte was struck
abbrev pub fresh : Form → Keyboard
fresh form = record { form = form; after_return = false }

-- The key of a byte of a text. LF is struck as CR (0215), except the LF of CR LF, which is none. Any other byte below 0200
-- is struck with its top bit set, and one above 0177 is none.
abbrev pub text_key : Bool → ℕ → Option ℕ
text_key after_return byte =
    if nat_eq byte 0o12 then (if after_return then None else Some 0o215)
    else if nat_lt byte 0o200 then Some (byte + 0o200)
    else None

-- the key of a byte in a form; in the raw one each byte is a key, as it is
abbrev pub key_by_form : Form → Bool → ℕ → Option ℕ
key_by_form Text after_return byte = text_key after_return byte
key_by_form Raw after_return byte = Some byte

-- the key of the next byte on a keyboard
abbrev pub key_of_byte : Keyboard → ℕ → Option ℕ
key_of_byte k byte = key_by_form k.form k.after_return byte

-- the keyboard once a byte was struck
abbrev pub after_byte : Keyboard → ℕ → Keyboard
after_byte k byte = record k { after_return = nat_eq byte 0o15 }

-- the keys of the next bytes
abbrev pub keys_from : Keyboard → List ℕ → List ℕ
keys_from k [] = []
keys_from k (byte ∷ bytes) = option_to_list (key_of_byte k byte) ++ keys_from (after_byte k byte) bytes

-- the keys of the bytes of the host, from the first on
abbrev pub keys_of : Form → List ℕ → List ℕ
keys_of form bytes = keys_from (fresh form) bytes

-- What is read of the values that `clap` found for the arguments of a subcommand.
use Rattle.std.specs.Prelude.{◌≡◌, ◌+◌, ◌-◌, ◌*◌, ◌&&◌, ◌||◌, Bool, true, false, if◌then◌else◌, ℕ, map, nat_eq, nat_le, nat_lt, codes, is_some, length, List, [], ◌∷◌, Option, None, Some, drop, option_and_then, option_map, slice_get, take, unwrap_or}
use Rattle.std.specs.Option.{option_map_or}
use Rattle.std.specs.Str.{bytes_eq, str_to_ascii_uppercase}
use Rattle.std.specs.Str.Parse.{digits_value, without_leading_plus}
use Rattle.clap.specs.Words.{Row, Text, all_of, first_of}
use Rattle.command_table.specs.declared.table.Kind.{Kind}
use Rattle.command_table.specs.declared.table.Kind.TheVariants.{Value, One, Many}
use Rattle.command_table.specs.declared.table.Form.{Form}
use Rattle.command_table.specs.declared.table.Form.TheVariants.{Text as a_text, Cell, Octal, Volume, Cpu, Drive, Time, Block, Seconds, Span, Index, Bits, Date as a_date, Year}
use Rattle.word12.specs.Octal.{octal_of}
use Rattle.os8_dates.specs.Dates.{word_of as word_of_date}
use Rattle.os8_dates.specs.declared.dates.Date.{Date}
use Rattle.os8_dates.specs.Spelling.{parsed_date}
use Rattle.word12.specs.declared.sizes.TheConstants.{MOST_BLOCKS}
use Rattle.disk_layouts.specs.declared.layouts.Layout.{Layout}
use Rattle.disk_layouts.specs.declared.layouts.Layout.TheVariants.{First, Second, Dectape}

-- an argument has a value
abbrev pub has : Text → List Row → Bool
has id values = is_some (first_of id values)

-- an option without a value was given
abbrev pub is_set : Text → List Row → Bool
is_set id values = option_map_or (λ text. bytes_eq text (codes "true")) (first_of id values) false

-- a name in capital letters
abbrev pub capitals : Text → Text
capitals name = str_to_ascii_uppercase name

-- the name that an argument gives
abbrev pub name_in : Text → List Row → Option Text
name_in id values = option_map capitals (first_of id values)

-- the values of an argument that has several
abbrev pub values_of : Text → List Row → List Text
values_of id values = unwrap_or (all_of id values) []

-- and its names
abbrev pub names_in : Text → List Row → List Text
names_in id values = map capitals (values_of id values)

-- one of them, if there are as many
abbrev pub word_at : Text → ℕ → List Row → Option Text
word_at id index values = slice_get (values_of id values) index

-- ## Numbers

-- the number that decimal digits go on to
abbrev pub digits_from : ℕ → Text → Option ℕ
digits_from n [] = Some n
digits_from n (digit ∷ digits) =
    if nat_le 0o60 digit && nat_lt digit 0o72 then digits_from (10 * n + (digit - 0o60)) digits else None

-- a decimal number of 1 to 4 digits
abbrev pub number_of_digits : Text → Option ℕ
number_of_digits [] = None
number_of_digits (digit ∷ digits) = if nat_le (length digits) 3 then digits_from 0 (digit ∷ digits) else None

-- one within limits
abbrev pub within : ℕ → ℕ → Option ℕ → Option ℕ
within least most None = None
within least most (Some number) = if nat_le least number && nat_le number most then Some number else None

abbrev pub number_in : ℕ → ℕ → Text → Option ℕ
number_in least most text = within least most (number_of_digits text)

-- a number of instructions, 0 to 1000000
abbrev pub time_of : Text → Option ℕ
time_of text = if nat_lt 0 (length text) && nat_le (length text) 7 then within 0 1000000 (digits_from 0 text) else None

-- an octal number of 1 to 5 digits, up to this one
abbrev pub octal_to : ℕ → Text → Option ℕ
octal_to most text = if nat_lt 0 (length text) && nat_le (length text) 5 then within 0 most (octal_of (length text) text) else None

-- a word: 0 to 7777
abbrev pub word_of : Text → Option ℕ
word_of text = octal_to 0o7777 text

-- the cell at an address of the field that a digit gives
abbrev pub cell_at : ℕ → Text → Option ℕ
cell_at digit address = if nat_le 0o60 digit && nat_lt digit 0o70 then option_map (λ word. 0o10000 * (digit - 0o60) + word) (word_of address) else None

-- a cell: its field, a colon and its address, or one number for both, 0 to 77777
abbrev pub cell_of : Text → Option ℕ
cell_of [] = None
cell_of (digit ∷ []) = octal_to 0o77777 (digit ∷ [])
cell_of (field ∷ next ∷ rest) = if nat_eq next 0o72 then cell_at field rest else octal_to 0o77777 (field ∷ next ∷ rest)

-- a block of a volume: 0 to 4095
abbrev pub place_of : Text → Option ℕ
place_of text = number_in 0 MOST_BLOCKS text

-- a word with the sixteen bits that it may have in an image: 0 to 177777
abbrev pub with_top_bit : Text → Option ℕ
with_top_bit [] = None
with_top_bit (digit ∷ digits) =
    if nat_le 0o60 digit && nat_lt digit 0o62 then option_map (λ low. 0o100000 * (digit - 0o60) + low) (octal_to 0o77777 digits) else None

abbrev pub bits_of : Text → Option ℕ
bits_of text = if nat_eq (length text) 6 then with_top_bit text else octal_to 0o77777 text

-- what stands before the first hyphen
abbrev pub before_hyphen : Text → Text
before_hyphen [] = []
before_hyphen (byte ∷ rest) = if nat_eq byte 0o55 then [] else byte ∷ before_hyphen rest

abbrev pub up_to : ℕ → Option ℕ → Option (ℕ × ℕ)
up_to first None = None
up_to first (Some last) = if nat_le first last then Some (first, last) else None

abbrev pub span_from : Option ℕ → Text → Option (ℕ × ℕ)
span_from None rest = None
span_from (Some first) [] = Some (first, first)
span_from (Some first) (hyphen ∷ last) = up_to first (place_of last)

-- blocks of a volume, the first and the last: one, or two numbers with a hyphen between
abbrev pub span_of : Text → Option (ℕ × ℕ)
span_of text = span_from (place_of (take (length (before_hyphen text)) text)) (drop (length (before_hyphen text)) text)

-- the word of a date from 1970 on, as 1974-03-12
abbrev pub date_word : Text → Option ℕ
date_word text = option_and_then word_of_date (parsed_date text)

-- the year of a date, if one is given
abbrev pub year_of_date : Date → ℕ
year_of_date date = date.year

abbrev pub date_year : List Row → Option ℕ
date_year values = option_map year_of_date (option_and_then parsed_date (first_of (codes "date") values))

-- the last of eight years, if it is given
abbrev pub year_of : List Row → Option ℕ
year_of values = option_and_then (number_in 1977 9999) (first_of (codes "year") values)

-- how many seconds are waited for a held image, none where it is not said
abbrev pub wait_of : List Row → ℕ
wait_of values = unwrap_or (option_and_then (number_in 0 3600) (first_of (codes "wait") values)) 0

-- the number of instructions that an option gives, or else this one
abbrev pub time_or : ℕ → Text → List Row → ℕ
time_or usual id values = unwrap_or (option_and_then time_of (first_of id values)) usual

-- a text is one of these
abbrev pub is_among : Text → List Text → Bool
is_among text [] = false
is_among text (other ∷ others) = if bytes_eq other text then true else is_among text others

-- the number that decimal digits spell, after a plus sign if there is one
abbrev pub number_of : Text → ℕ
number_of text = digits_value 10 (without_leading_plus text)

-- what was given is read as this number, if it was given
abbrev pub IsReadAs : (Text → Option ℕ) → Option Text → Option ℕ → Type 0
IsReadAs read given number = option_and_then read given ≡ number

-- ## Where a volume lies in its file

abbrev pub volume_of : Text → Layout
volume_of text = if bytes_eq text (codes "1") then First else Second

-- on a DECtape where the second option says so, or the volume of a disk that the first one gives
abbrev pub layout_of : Text → Text → List Row → Option Layout
layout_of volume dectape values = if is_set dectape values then Some Dectape else option_map volume_of (first_of volume values)

-- ## Information words

-- the information words that are given themselves
abbrev pub given_info : List Row → Option (List (Option ℕ))
given_info values = option_map (map word_of) (all_of (codes "info") values)

-- the word of a date, else those words
abbrev pub info_or : Option Text → Option (List (Option ℕ)) → Option (List (Option ℕ))
info_or None words = words
info_or (Some date) words = Some (date_word date ∷ [])

-- the information words, if any is given
abbrev pub IsInfo : List Row → Option (List ℕ) → Type 0
IsInfo values info = info_or (first_of (codes "date") values) (given_info values)
    ≡ option_map (map (λ word. Some word)) info

-- ## The forms of values

abbrev pub form_of : Kind → Form
form_of (Value form) = form
form_of (One form) = form
form_of (Many form) = form
form_of kind = a_text

abbrev pub passes : Form → Text → Bool
passes a_text text = true
passes Cell text = is_some (cell_of text)
passes Octal text = is_some (word_of text)
passes Volume text = bytes_eq text (codes "1") || bytes_eq text (codes "2")
passes Cpu text = bytes_eq text (codes "8i") || bytes_eq text (codes "8e")
passes Drive text =
    bytes_eq text (codes "0") || (bytes_eq text (codes "1") || (bytes_eq text (codes "2") || bytes_eq text (codes "3")))
passes Time text = is_some (time_of text)
passes Block text = is_some (place_of text)
passes Seconds text = is_some (number_in 0 3600 text)
passes Span text = is_some (span_of text)
passes Index text = is_some (number_in 0 0o377 text)
passes Bits text = is_some (bits_of text)
passes a_date text = is_some (date_word text)
passes Year text = is_some (number_in 1977 9999 text)

-- the first of the values that is none of a form
abbrev pub first_not : Form → List Text → Option Text
first_not form [] = None
first_not form (text ∷ texts) = if passes form text then first_not form texts else Some text

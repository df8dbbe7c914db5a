-- The keys of bytes that are struck in parts.
use Rattle.std.proofs.Common.{◌≡◌, ℕ, ◌+◌, ◌<◌, List, [], ◌∷◌, ◌++◌, length, slice_index, drop, option_to_list, Option, refl, ap, sym, ◌∙◌, append_assoc}
use Rattle.std.proofs.lemmas.List.{at_drop_more}
use Rattle.terminal8.specs.Keys.{Keyboard, key_of_byte, after_byte, keys_from}
use Rattle.terminal8.specs.KeySteps.{keyboard_after}

-- bytes after others
pub keys_more : (k : Keyboard) (bytes more : List ℕ) → keys_from k (bytes ++ more) ≡ keys_from k bytes ++ keys_from (keyboard_after k bytes) more
keys_more k [] more = refl
keys_more k (byte ∷ bytes) more =
    ap (λ keys. option_to_list (key_of_byte k byte) ++ keys) (keys_more (after_byte k byte) bytes more)
    ∙ sym (append_assoc (option_to_list (key_of_byte k byte)) (keys_from (after_byte k byte) bytes) (keys_from (keyboard_after (after_byte k byte) bytes) more))

pub after_more : (k : Keyboard) (bytes more : List ℕ) → keyboard_after k (bytes ++ more) ≡ keyboard_after (keyboard_after k bytes) more
after_more k [] more = refl
after_more k (byte ∷ bytes) more = after_more (after_byte k byte) bytes more

-- the next byte of several
pub keys_next : (k after : Keyboard) (keys struck bytes all : List ℕ) (i : ℕ) (key : Option ℕ) → i < length bytes
    → key ≡ key_of_byte k (slice_index bytes i) → after ≡ after_byte k (slice_index bytes i) → struck ≡ keys ++ option_to_list key
    → keys ++ keys_from k (drop i bytes) ≡ all → struck ++ keys_from after (drop (i + 1) bytes) ≡ all
keys_next k after keys struck bytes all i key inside key_is after_is struck_is before =
    let byte = slice_index bytes i in
    let rest = drop (i + 1) bytes in
    let struck_by : struck ≡ keys ++ option_to_list (key_of_byte k byte) = struck_is ∙ ap (λ o. keys ++ option_to_list o) key_is in
    ap (λ ks. ks ++ keys_from after rest) struck_by
    ∙ ap (λ k'. (keys ++ option_to_list (key_of_byte k byte)) ++ keys_from k' rest) after_is
    ∙ append_assoc keys (option_to_list (key_of_byte k byte)) (keys_from (after_byte k byte) rest)
    ∙ sym (at_drop_more (λ bs. keys ++ keys_from k bs) bytes i 0 inside)
    ∙ before

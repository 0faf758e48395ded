-- What is shown of bytes, by what they encode.
use Rattle.std.proofs.Common.{◌≡◌, ℕ, List, cond, true, false, ap, ◌∙◌}
use Rattle.std.specs.List.{flat_map}
use Rattle.std.specs.Str.{encode_utf8_all}
use Rattle.je_base.specs.Encoding.{IsDecoded, EncodesNone}
use Rattle.je_base.specs.Shown.{byte_shown, is_plain, shown_as, shown}
use Rattle.je_base.proofs.EncodingLemmas.{decoded_is, decoded_none}

shown_string : (bytes string : List ℕ) → IsDecoded bytes string → shown bytes ≡ cond (is_plain string) (encode_utf8_all string) (flat_map byte_shown bytes)
shown_string bytes string h = ap (λ o. shown_as o bytes) (decoded_is bytes string h)

pub shown_plain : (bytes string : List ℕ) → IsDecoded bytes string → is_plain string ≡ true → shown bytes ≡ encode_utf8_all string
shown_plain bytes string h plain =
    shown_string bytes string h ∙ ap (λ b. cond b (encode_utf8_all string) (flat_map byte_shown bytes)) plain

pub shown_control : (bytes string : List ℕ) → IsDecoded bytes string → is_plain string ≡ false → shown bytes ≡ flat_map byte_shown bytes
shown_control bytes string h control =
    shown_string bytes string h ∙ ap (λ b. cond b (encode_utf8_all string) (flat_map byte_shown bytes)) control

pub shown_none : (bytes : List ℕ) → EncodesNone bytes → shown bytes ≡ flat_map byte_shown bytes
shown_none bytes h = ap (λ o. shown_as o bytes) (decoded_none bytes h)

-- Serves private functions: reading from left to right, to a value and an offset, or to a fault.
use Rattle.std.specs.Prelude.{◌≡◌, ℕ, zero, suc, ◌+◌, ◌-◌, Bool, true, false, ◌&&◌, List, [], ◌∷◌}
use Rattle.std.specs.Prelude.{length, take, drop, Result, Ok, Err, nat_lt, nat_le, ◌==◌}
use Rattle.std.specs.Prelude.{if◌then◌else◌}
use Rattle.std.specs.Int.{Width, w16, w32, w64, byte_len, from_be_bytes, cast_signed}
use Rattle.je_consts.specs.declared.fault.ConstFault.{ConstFault}
use Rattle.je_consts.specs.declared.fault.ConstFault.TheVariants as faults
use Rattle.je_consts.specs.declared.constant.Const.{Const}
use Rattle.je_consts.specs.declared.constant.Const.TheVariants.{Utf8, Integer, Float, Long, Double}
use Rattle.je_consts.specs.declared.constant.Const.TheVariants.{Class, Str, Field, Method}
use Rattle.je_consts.specs.declared.constant.Const.TheVariants.{InterfaceMethod, NameAndType}
use Rattle.je_consts.specs.declared.constant.Const.TheVariants.{MethodHandle, MethodType}
use Rattle.je_consts.specs.declared.constant.Const.TheVariants.{InvokeDynamic}
use Rattle.je_consts.specs.declared.place.Place.{Place}
use Rattle.je_consts.specs.declared.place.Place.TheVariants.{Entry, Second}
use Rattle.je_consts.specs.Tags.{CONSTANT_Utf8, CONSTANT_Integer, CONSTANT_Float, CONSTANT_Long}
use Rattle.je_consts.specs.Tags.{CONSTANT_Double, CONSTANT_Class, CONSTANT_String}
use Rattle.je_consts.specs.Tags.{CONSTANT_Fieldref, CONSTANT_Methodref, CONSTANT_InterfaceMethodref}
use Rattle.je_consts.specs.Tags.{CONSTANT_NameAndType, CONSTANT_MethodHandle, CONSTANT_MethodType}
use Rattle.je_consts.specs.Tags.{CONSTANT_InvokeDynamic, REF_getField, REF_invokeInterface}
use Rattle.je_consts.specs.Pool.{leads_second}

infixl 10 ◌>>=◌
abbrev pub ◌>>=◌ :
    {A B : Type 0} → Result A ConstFault → (A → Result B ConstFault) → Result B ConstFault
(Ok x) >>= f = f x
(Err e) >>= f = Err e

-- What a function returned, seen by view, is what reading gives, unless memory ran out.
abbrev pub Fails : {Y : Type 0} → ConstFault → Result Y ConstFault → Type 0
Fails faults.Memory read = Unit {0}
Fails (faults.Truncated at) read = read ≡ Err (faults.Truncated at)
Fails (faults.BadConst index) read = read ≡ Err (faults.BadConst index)

abbrev pub Gives : {X Y : Type 0} → (X → Y) → Result X ConstFault → Result Y ConstFault → Type 0
Gives view (Ok x) read = read ≡ Ok (view x)
Gives view (Err e) read = Fails e read

-- ---- texts

abbrev pub between : ℕ → ℕ → ℕ → Bool
between low high b = nat_le low b && nat_le b high

-- the sorts of bytes of modified UTF-8 (JVMS 4.4.7), as tests
abbrev pub is_single : ℕ → Bool
is_single b = between 0x01 0x7f b

abbrev pub is_first_of_two : ℕ → Bool
is_first_of_two b = between 0xc0 0xdf b

abbrev pub is_first_of_three : ℕ → Bool
is_first_of_three b = between 0xe0 0xef b

abbrev pub is_continuation : ℕ → Bool
is_continuation b = between 0x80 0xbf b

-- the bytes are modified UTF-8 once so many continuations have come
abbrev pub is_text_after : ℕ → List ℕ → Bool
is_text_after zero [] = true
is_text_after (suc wanted) [] = false
is_text_after zero (b ∷ rest) =
    if is_single b then is_text_after 0 rest
    else if is_first_of_two b then is_text_after 1 rest
    else if is_first_of_three b then is_text_after 2 rest
    else false
is_text_after (suc wanted) (b ∷ rest) =
    if is_continuation b then is_text_after wanted rest else false

unfoldable pub is_text : List ℕ → Bool
is_text bytes = is_text_after 0 bytes

-- ---- numbers and runs of bytes

abbrev pub byte_of : ℕ → List ℕ → Result (ℕ × ℕ) ConstFault
byte_of at [] = Err (faults.Truncated at)
byte_of at (b ∷ rest) = Ok (b, at + 1)

abbrev pub byte_at : List ℕ → ℕ → Result (ℕ × ℕ) ConstFault
byte_at bytes at = byte_of at (drop at bytes)

abbrev pub number_at : Width → List ℕ → ℕ → Result (ℕ × ℕ) ConstFault
number_at w bytes at =
    if nat_lt (length (drop at bytes)) (byte_len w) then Err (faults.Truncated at)
    else Ok (from_be_bytes w (take (byte_len w) (drop at bytes)), at + byte_len w)

-- so many bytes
abbrev pub run_at : ℕ → List ℕ → ℕ → Result (List ℕ × ℕ) ConstFault
run_at n bytes at =
    if nat_lt (length (drop at bytes)) n then Err (faults.Truncated at)
    else Ok (take n (drop at bytes), at + n)

-- ---- entries

-- the numbers of type int and long that have these bits
abbrev pub integer_of : ℕ → Const
integer_of bits = Integer (cast_signed w32 bits)

abbrev pub long_of : ℕ → Const
long_of bits = Long (cast_signed w64 bits)

-- an entry of one number
unfoldable pub one_at : Width → (ℕ → Const) → List ℕ → ℕ → Result (Const × ℕ) ConstFault
one_at w make bytes at = do
  n ← number_at w bytes at
  Ok (make n.0, n.1)

-- an entry of two numbers of two bytes
unfoldable pub two_at : (ℕ → ℕ → Const) → List ℕ → ℕ → Result (Const × ℕ) ConstFault
two_at make bytes at = do
  first ← number_at w16 bytes at
  second ← number_at w16 bytes first.1
  Ok (make first.0 second.0, second.1)

-- the text of the entry of this index
abbrev pub text_from : ℕ → List ℕ → Result (List ℕ) ConstFault
text_from index bytes = if is_text bytes then Ok bytes else Err (faults.BadConst index)

unfoldable pub utf8_at : ℕ → List ℕ → ℕ → Result (Const × ℕ) ConstFault
utf8_at index bytes at = do
  n ← number_at w16 bytes at
  text ← run_at n.0 bytes n.1
  if is_text text.0 then Ok (Utf8 text.0, text.1) else Err (faults.BadConst index)

unfoldable pub handle_at : ℕ → List ℕ → ℕ → Result (Const × ℕ) ConstFault
handle_at index bytes at = do
  kind ← byte_at bytes at
  if between REF_getField REF_invokeInterface kind.0
      then one_at w16 (MethodHandle kind.0) bytes kind.1
      else Err (faults.BadConst index)

-- what stands behind the tag of the entry of this index
unfoldable pub info_at : ℕ → ℕ → List ℕ → ℕ → Result (Const × ℕ) ConstFault
info_at index tag bytes at =
    if tag == CONSTANT_Utf8 then utf8_at index bytes at
    else if tag == CONSTANT_Integer then one_at w32 integer_of bytes at
    else if tag == CONSTANT_Float then one_at w32 Float bytes at
    else if tag == CONSTANT_Long then one_at w64 long_of bytes at
    else if tag == CONSTANT_Double then one_at w64 Double bytes at
    else if tag == CONSTANT_Class then one_at w16 Class bytes at
    else if tag == CONSTANT_String then one_at w16 Str bytes at
    else if tag == CONSTANT_Fieldref then two_at Field bytes at
    else if tag == CONSTANT_Methodref then two_at Method bytes at
    else if tag == CONSTANT_InterfaceMethodref then two_at InterfaceMethod bytes at
    else if tag == CONSTANT_NameAndType then two_at NameAndType bytes at
    else if tag == CONSTANT_MethodHandle then handle_at index bytes at
    else if tag == CONSTANT_MethodType then one_at w16 MethodType bytes at
    else if tag == CONSTANT_InvokeDynamic then two_at InvokeDynamic bytes at
    else Err (faults.BadConst index)

unfoldable pub entry_at : ℕ → List ℕ → ℕ → Result (Const × ℕ) ConstFault
entry_at index bytes at = do
  tag ← byte_at bytes at
  info_at index tag.0 bytes tag.1

-- ---- the pool

-- what stands at an index; `wide` says that a Long or Double stands at the index before
unfoldable pub place_at : Bool → ℕ → List ℕ → ℕ → Result (Place × ℕ) ConstFault
place_at true index bytes at = Ok (Second, at)
place_at false index bytes at = do
  first ← entry_at index bytes at
  Ok (Entry first.0, first.1)

-- so many places from an index on
unfoldable pub places_at : Bool → ℕ → ℕ → List ℕ → ℕ → Result (List Place × ℕ) ConstFault
places_at true zero index bytes at = Err (faults.BadConst (index - 1))
places_at false zero index bytes at = Ok ([], at)
places_at wide (suc n) index bytes at = do
  first ← place_at wide index bytes at
  others ← places_at (leads_second first.0) n (index + 1) bytes first.1
  Ok (first.0 ∷ others.0, others.1)

-- the count is one more than the number of places (JVMS 4.1)
unfoldable pub spelled_at : List ℕ → ℕ → Result (List Place × ℕ) ConstFault
spelled_at bytes at = do
  count ← number_at w16 bytes at
  if count.0 == 0 then Err (faults.BadConst 0) else places_at false (count.0 - 1) 1 bytes count.1

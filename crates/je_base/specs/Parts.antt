-- A format of bytes as the list of its parts, each with its tests: its bytes, what makes them
-- sound, and the first fault where they do not stand are one definition.
use Rattle.std.specs.Prelude.{◌≡◌, ℕ, ◌+◌, ◌^◌, ◌<◌, ◌⊎◌, List, [], ◌∷◌, ◌++◌, length, drop}
use Rattle.std.specs.Prelude.{Result, Ok, Err}
use Rattle.std.specs.List.{AllByRecursion}
use Rattle.je_base.specs.Bytes.{u1, u2, u4, u8, IsThere}

-- ---- parts

-- a number of one, two, four or eight bytes or a run of bytes, each with its tests in order, or a
-- nested value
pub data Part (Test Value : Type 0) : Type 0 where
  U1 : (number : ℕ) (tests : List Test) → Part Test Value
  U2 : (number : ℕ) (tests : List Test) → Part Test Value
  U4 : (number : ℕ) (tests : List Test) → Part Test Value
  U8 : (number : ℕ) (tests : List Test) → Part Test Value
  Run : (bytes : List ℕ) (tests : List Test) → Part Test Value
  Nested : (value : Value) → Part Test Value

-- What a format gives: when a test passes, and the fault where it does not, by the offset at which
-- its number or run begins; the fault of what is cut off at an offset; and the bytes of a nested
-- value, when it is sound, and why none stands at an offset.
pub record Format (Test Value Fault : Type 0) : Type 1 where
  pub Passes : Test → Type 0
  pub fault_of : Test → ℕ → Fault
  pub cut : ℕ → Fault
  pub value_bytes : Value → List ℕ
  pub IsSoundValue : Value → Type 0
  pub IsValueFault : List ℕ → ℕ → Fault → Type 0

-- each structure's parts, one after the other
abbrev pub each : {A P : Type 0} → (A → List P) → List A → List P
each parts [] = []
each parts (x ∷ xs) = parts x ++ each parts xs

-- a count of two bytes, and that many structures
abbrev pub table_parts :
    {A Test Value : Type 0} → (A → List (Part Test Value)) → List A → List (Part Test Value)
table_parts parts xs = U2 (length xs) [] ∷ each parts xs

module _ {Test Value Fault : Type 0} (format : Format Test Value Fault) where
  -- ---- bytes

  abbrev pub part_bytes : Part Test Value → List ℕ
  part_bytes (U1 number tests) = u1 number
  part_bytes (U2 number tests) = u2 number
  part_bytes (U4 number tests) = u4 number
  part_bytes (U8 number tests) = u8 number
  part_bytes (Run bytes tests) = bytes
  part_bytes (Nested value) = format.value_bytes value

  -- the number fits its bytes, and it or the run passes its tests; the nested value is sound
  abbrev pub IsSoundPart : Part Test Value → Type 0
  IsSoundPart (U1 number tests) = (number < 2 ^ 8) × AllByRecursion format.Passes tests
  IsSoundPart (U2 number tests) = (number < 2 ^ 16) × AllByRecursion format.Passes tests
  IsSoundPart (U4 number tests) = (number < 2 ^ 32) × AllByRecursion format.Passes tests
  IsSoundPart (U8 number tests) = (number < 2 ^ 64) × AllByRecursion format.Passes tests
  IsSoundPart (Run bytes tests) = AllByRecursion format.Passes tests
  IsSoundPart (Nested value) = format.IsSoundValue value

  -- the bytes of the parts, one after the other
  abbrev pub spelled : List (Part Test Value) → List ℕ
  spelled [] = []
  spelled (part ∷ parts) = part_bytes part ++ spelled parts

  -- ---- faults

  -- fewer bytes are left than a part has
  abbrev pub IsCut : List ℕ → ℕ → ℕ → Fault → Type 0
  IsCut bytes at size fault = (length (drop at bytes) < size) × (fault ≡ format.cut at)

  -- the first of the tests that does not pass, of a number or run that begins at this offset
  pub record FailsFirst (at : ℕ) (tests : List Test) (fault : Fault) : Type 0 where
    pub passed : List Test
    pub failed : Test
    pub others : List Test
    pub tests_are : tests ≡ passed ++ failed ∷ others
    pub pass : AllByRecursion format.Passes passed
    pub fails : format.Passes failed → ⊥
    pub fault_is : fault ≡ format.fault_of failed at

  -- why a part does not stand at an offset: it is cut off, or one of its tests fails
  abbrev pub IsPartFault : List ℕ → ℕ → Part Test Value → Fault → Type 0
  IsPartFault bytes at (U1 number tests) fault =
      IsCut bytes at 1 fault
      ⊎ (IsThere bytes at (u1 number) × (number < 2 ^ 8) × FailsFirst at tests fault)
  IsPartFault bytes at (U2 number tests) fault =
      IsCut bytes at 2 fault
      ⊎ (IsThere bytes at (u2 number) × (number < 2 ^ 16) × FailsFirst at tests fault)
  IsPartFault bytes at (U4 number tests) fault =
      IsCut bytes at 4 fault
      ⊎ (IsThere bytes at (u4 number) × (number < 2 ^ 32) × FailsFirst at tests fault)
  IsPartFault bytes at (U8 number tests) fault =
      IsCut bytes at 8 fault
      ⊎ (IsThere bytes at (u8 number) × (number < 2 ^ 64) × FailsFirst at tests fault)
  IsPartFault bytes at (Run run tests) fault =
      IsCut bytes at (length run) fault ⊎ (IsThere bytes at run × FailsFirst at tests fault)
  IsPartFault bytes at (Nested value) fault = format.IsValueFault bytes at fault

  -- ---- from left to right

  -- the part stands at an offset and is sound
  abbrev pub Stands : List ℕ → ℕ → Part Test Value → Type 0
  Stands bytes at part = IsThere bytes at (part_bytes part) × IsSoundPart part

  -- the parts stand one after the other, from one offset to another
  abbrev pub Follows : List ℕ → ℕ → List (Part Test Value) → ℕ → Type 0
  Follows bytes at [] end = end ≡ at
  Follows bytes at (part ∷ parts) end =
      IsThere bytes at (part_bytes part) × IsSoundPart part
      × Follows bytes (at + length (part_bytes part)) parts end

  -- the first of the parts that does not stand, from an offset on
  abbrev pub Breaks : List ℕ → ℕ → List (Part Test Value) → Fault → Type 0
  Breaks bytes at [] fault = ⊥
  Breaks bytes at (part ∷ parts) fault =
      IsPartFault bytes at part fault
      ⊎ (IsThere bytes at (part_bytes part) × IsSoundPart part
      × Breaks bytes (at + length (part_bytes part)) parts fault)

  -- all of the parts stand there, up to an offset, or one of them is the first that does not
  abbrev pub Goes : List ℕ → ℕ → List (Part Test Value) → Result ℕ Fault → Type 0
  Goes bytes at parts (Ok end) = Follows bytes at parts end
  Goes bytes at parts (Err fault) = Breaks bytes at parts fault

  -- what comes of reading the parts from an offset on
  pub record Comes
      (bytes : List ℕ) (at : ℕ) (parts : List (Part Test Value)) (answer : Result ℕ Fault)
      : Type 0 where
    pub goes : Goes bytes at parts answer

-- ---- one way to read

-- parts of one sort: numbers of one size or runs of one length, with the same tests where they are
-- the same; nested values
abbrev pub IsSameSort : {Test Value : Type 0} → Part Test Value → Part Test Value → Type 0
IsSameSort (U1 m tests) (U1 n others) = m ≡ n → tests ≡ others
IsSameSort (U2 m tests) (U2 n others) = m ≡ n → tests ≡ others
IsSameSort (U4 m tests) (U4 n others) = m ≡ n → tests ≡ others
IsSameSort (U8 m tests) (U8 n others) = m ≡ n → tests ≡ others
IsSameSort (Run run tests) (Run other others) =
    (length run ≡ length other) × (run ≡ other → tests ≡ others)
IsSameSort (Nested value) (Nested other) = Unit {0}
IsSameSort _ _ = ⊥

-- Parts of one layout: what was read decides the sort of the part that comes next.
abbrev pub AreOneLayout :
    {Test Value : Type 0} → List (Part Test Value) → List (Part Test Value) → Type 0
AreOneLayout [] [] = Unit {0}
AreOneLayout (x ∷ xs) (y ∷ ys) = IsSameSort x y × (x ≡ y → AreOneLayout xs ys)
AreOneLayout _ _ = ⊥

-- two answers are one, and where they are ends what was read is the same
abbrev pub Agree : {A Fault : Type 0} → A → A → Result ℕ Fault → Result ℕ Fault → Type 0
Agree y z (Ok a) (Ok b) = (y ≡ z) × (a ≡ b)
Agree y z (Err d) (Err e) = d ≡ e
Agree y z (Ok a) (Err e) = ⊥
Agree y z (Err d) (Ok b) = ⊥

module _ {Test Value Fault : Type 0} (format : Format Test Value Fault) where
  -- bytes are one nested value from an offset on or have one fault there
  pub record OneValue : Type 0 where
    pub same : (bytes : List ℕ) (at : ℕ) (value other : Value)
        → Stands format bytes at (Nested value) → Stands format bytes at (Nested other)
        → value ≡ other
    pub no_fault : (bytes : List ℕ) (at : ℕ) (value : Value) (fault : Fault)
        → Stands format bytes at (Nested value) → format.IsValueFault bytes at fault → ⊥
    pub one_fault : (bytes : List ℕ) (at : ℕ) (fault other : Fault)
        → format.IsValueFault bytes at fault → format.IsValueFault bytes at other → fault ≡ other

  -- What stands at an offset is one way: parts of one layout come to one answer there.
  pub record OneWay : Type 0 where
    pub agree : (bytes : List ℕ) (at : ℕ) (parts others : List (Part Test Value))
        (answer other : Result ℕ Fault) → AreOneLayout parts others
        → Comes format bytes at parts answer → Comes format bytes at others other
        → Agree parts others answer other

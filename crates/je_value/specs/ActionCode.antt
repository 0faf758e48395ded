-- Actions as plain data: each has a form.
use Rattle.std.specs.Prelude.{◌≡◌, refl}
use Rattle.std.proofs.Common.{ap}
use Rattle.std.specs.Coded.{Coded, code_by}
use Rattle.je_machine.specs.Action as machine
use Rattle.je_machine.specs.Calculation as calculations
use Rattle.je_value.specs.Calculation.{whole_in, binary_in, shift_in, part_in, calculation_in}
use Rattle.je_value.specs.Action.{element_in, sort_in, action_in}
use Rattle.je_value.specs.declared.calculation.Whole.{Whole}
use Rattle.je_value.specs.declared.calculation.Whole.TheVariants as wholes
use Rattle.je_value.specs.declared.calculation.BinaryOp.{BinaryOp}
use Rattle.je_value.specs.declared.calculation.BinaryOp.TheVariants as binaries
use Rattle.je_value.specs.declared.calculation.ShiftOp.{ShiftOp}
use Rattle.je_value.specs.declared.calculation.ShiftOp.TheVariants as shifts
use Rattle.je_value.specs.declared.calculation.Part.{Part}
use Rattle.je_value.specs.declared.calculation.Part.TheVariants as parts
use Rattle.je_value.specs.declared.calculation.Calculation.{Calculation}
use Rattle.je_value.specs.declared.calculation.Calculation.TheVariants as calculated
use Rattle.je_value.specs.declared.action.Element.{Element}
use Rattle.je_value.specs.declared.action.Element.TheVariants as elements
use Rattle.je_value.specs.declared.action.Sort.{Sort}
use Rattle.je_value.specs.declared.action.Sort.TheVariants as sorts
use Rattle.je_value.specs.declared.action.ActionForm.{ActionForm}
use Rattle.je_value.specs.declared.action.ActionForm.TheVariants as forms
use Rattle.je_value.specs.contracts.action.ActionForm.{the_row}

-- the form of a whole type
abbrev pub whole_back : calculations.Whole → Whole
whole_back calculations.IntWhole = wholes.Int
whole_back calculations.LongWhole = wholes.Long

pub whole_is_back : (w : calculations.Whole) → whole_in (whole_back w) ≡ w
whole_is_back calculations.IntWhole = refl
whole_is_back calculations.LongWhole = refl

-- the form of an operation
abbrev pub binary_back : calculations.BinaryOp → BinaryOp
binary_back calculations.Add = binaries.Add
binary_back calculations.Subtract = binaries.Subtract
binary_back calculations.Multiply = binaries.Multiply
binary_back calculations.Divide = binaries.Divide
binary_back calculations.Remainder = binaries.Remainder
binary_back calculations.And = binaries.And
binary_back calculations.Or = binaries.Or
binary_back calculations.Xor = binaries.Xor

pub binary_is_back : (op : calculations.BinaryOp) → binary_in (binary_back op) ≡ op
binary_is_back calculations.Add = refl
binary_is_back calculations.Subtract = refl
binary_is_back calculations.Multiply = refl
binary_is_back calculations.Divide = refl
binary_is_back calculations.Remainder = refl
binary_is_back calculations.And = refl
binary_is_back calculations.Or = refl
binary_is_back calculations.Xor = refl

-- the form of a shift
abbrev pub shift_back : calculations.ShiftOp → ShiftOp
shift_back calculations.ShiftLeft = shifts.Left
shift_back calculations.ShiftRight = shifts.Right
shift_back calculations.ShiftRightUnsigned = shifts.RightUnsigned

pub shift_is_back : (op : calculations.ShiftOp) → shift_in (shift_back op) ≡ op
shift_is_back calculations.ShiftLeft = refl
shift_is_back calculations.ShiftRight = refl
shift_is_back calculations.ShiftRightUnsigned = refl

-- the form of a part
abbrev pub part_back : calculations.Part → Part
part_back calculations.BytePart = parts.Byte
part_back calculations.CharPart = parts.Char
part_back calculations.ShortPart = parts.Short

pub part_is_back : (part : calculations.Part) → part_in (part_back part) ≡ part
part_is_back calculations.BytePart = refl
part_is_back calculations.CharPart = refl
part_is_back calculations.ShortPart = refl

-- the form of a calculation
abbrev pub calculation_back : calculations.Calculation → Calculation
calculation_back (calculations.Binary whole op) =
    calculated.Binary (whole_back whole) (binary_back op)
calculation_back (calculations.Shift whole op) =
    calculated.Shift (whole_back whole) (shift_back op)
calculation_back (calculations.Negate whole) = calculated.Negate (whole_back whole)
calculation_back calculations.Extend = calculated.Extend
calculation_back calculations.Truncate = calculated.Truncate
calculation_back (calculations.Keep part) = calculated.Keep (part_back part)
calculation_back calculations.CompareLongs = calculated.CompareLongs

pub calculation_is_back : (c : calculations.Calculation) → calculation_in (calculation_back c) ≡ c
calculation_is_back (calculations.Binary whole op) =
    λ i. calculations.Binary (whole_is_back whole i) (binary_is_back op i)
calculation_is_back (calculations.Shift whole op) =
    λ i. calculations.Shift (whole_is_back whole i) (shift_is_back op i)
calculation_is_back (calculations.Negate whole) =
    λ i. calculations.Negate (whole_is_back whole i)
calculation_is_back calculations.Extend = refl
calculation_is_back calculations.Truncate = refl
calculation_is_back (calculations.Keep part) = λ i. calculations.Keep (part_is_back part i)
calculation_is_back calculations.CompareLongs = refl

-- the form of elements
abbrev pub element_back : machine.Element → Element
element_back machine.Bytes = elements.Bytes
element_back machine.Chars = elements.Chars
element_back machine.Shorts = elements.Shorts
element_back machine.Ints = elements.Ints
element_back machine.Longs = elements.Longs
element_back machine.Floats = elements.Floats
element_back machine.Doubles = elements.Doubles
element_back machine.References = elements.References

pub element_is_back : (e : machine.Element) → element_in (element_back e) ≡ e
element_is_back machine.Bytes = refl
element_is_back machine.Chars = refl
element_is_back machine.Shorts = refl
element_is_back machine.Ints = refl
element_is_back machine.Longs = refl
element_is_back machine.Floats = refl
element_is_back machine.Doubles = refl
element_is_back machine.References = refl

-- the form of a sort
abbrev pub sort_back : machine.Sort → Sort
sort_back machine.Virtual = sorts.Virtual
sort_back machine.Special = sorts.Special
sort_back machine.Static = sorts.Static
sort_back machine.Interface = sorts.Interface
sort_back machine.Dynamic = sorts.Dynamic

pub sort_is_back : (sort : machine.Sort) → sort_in (sort_back sort) ≡ sort
sort_is_back machine.Virtual = refl
sort_is_back machine.Special = refl
sort_is_back machine.Static = refl
sort_is_back machine.Interface = refl
sort_is_back machine.Dynamic = refl

-- the form of an action
abbrev pub action_back : machine.Action → ActionForm
action_back (machine.Calculate calculation) = forms.Calculate (calculation_back calculation)
action_back (machine.FloatOperation opcode operands kind) =
    forms.FloatOperation opcode operands kind
action_back machine.ArrayLength = forms.ArrayLength
action_back (machine.LoadElement element) = forms.LoadElement (element_back element)
action_back (machine.StoreElement element) = forms.StoreElement (element_back element)
action_back (machine.GetField field) = forms.GetField field
action_back (machine.PutField field) = forms.PutField field
action_back (machine.GetStatic field) = forms.GetStatic field
action_back (machine.PutStatic field) = forms.PutStatic field
action_back (machine.Invoke sort method types) = forms.Invoke (sort_back sort) method types
action_back (machine.New class) = forms.New class
action_back (machine.NewArray of dimensions) = forms.NewArray of dimensions
action_back (machine.CheckCast class) = forms.CheckCast class
action_back (machine.InstanceOf class) = forms.InstanceOf class
action_back machine.MonitorEnter = forms.MonitorEnter
action_back machine.MonitorExit = forms.MonitorExit

pub action_is_back : (a : machine.Action) → action_in (action_back a) ≡ a
action_is_back (machine.Calculate calculation) =
    ap (λ c. machine.Calculate c) (calculation_is_back calculation)
action_is_back (machine.FloatOperation opcode operands kind) = refl
action_is_back machine.ArrayLength = refl
action_is_back (machine.LoadElement element) =
    ap (λ e. machine.LoadElement e) (element_is_back element)
action_is_back (machine.StoreElement element) =
    ap (λ e. machine.StoreElement e) (element_is_back element)
action_is_back (machine.GetField field) = refl
action_is_back (machine.PutField field) = refl
action_is_back (machine.GetStatic field) = refl
action_is_back (machine.PutStatic field) = refl
action_is_back (machine.Invoke sort method types) =
    ap (λ s. machine.Invoke s method types) (sort_is_back sort)
action_is_back (machine.New class) = refl
action_is_back (machine.NewArray of dimensions) = refl
action_is_back (machine.CheckCast class) = refl
action_is_back (machine.InstanceOf class) = refl
action_is_back machine.MonitorEnter = refl
action_is_back machine.MonitorExit = refl

-- an action is stored as its form
abbrev pub action_code : Coded machine.Action
action_code = code_by ActionForm the_row.coded action_back action_in action_is_back

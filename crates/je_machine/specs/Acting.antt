-- What each action does (JVMS 6.5).
use Rattle.std.specs.Prelude.{ℕ, ℤ, pos, List, map, Option, Some, None, Bool, true, false, ◌&&◌}
use Rattle.std.specs.Prelude.{int_lt, unsigned_abs, codes, if◌then◌else◌}
use Rattle.std.specs.List.{list_any}
use Rattle.je_desc.specs.FieldType.{FieldType, descriptor}
use Rattle.je_machine.specs.Value.{Kind, Value, Int, zero_of, kind_of, admit, admit_all, number_of}
use Rattle.je_machine.specs.Value.{value_at, is_null}
use Rattle.je_machine.specs.Heap.{FieldKey, allocate, next_object, new_instance, read_static}
use Rattle.je_machine.specs.Heap.{write_static, read_field, write_field, array_length, read_element}
use Rattle.je_machine.specs.Heap.{write_element, make_array}
use Rattle.je_machine.specs.Classes.{Classes, holder_of, is_instance, takes_element}
use Rattle.je_machine.specs.Calculation.{calculate}
use Rattle.je_machine.specs.Action.{Action, Calculate, FloatOperation, ArrayLength, LoadElement}
use Rattle.je_machine.specs.Action.{StoreElement, GetField, PutField, GetStatic, PutStatic, Invoke}
use Rattle.je_machine.specs.Action.{New, NewArray, CheckCast, InstanceOf, MonitorEnter, MonitorExit}
use Rattle.je_machine.specs.Action.{Field, kind_of_element, operands_of, result_of, has_target}
use Rattle.je_machine.specs.Outside.{Outside, Response, Gave, Threw, Waits, with_heap, raise}
use Rattle.je_machine.specs.Outside.{invoke, float_operation, monitor_operation}

abbrev pub gave : Value → Outside → Response
gave value outside = Gave (Some value) outside

abbrev pub null_pointer : Outside → Response
null_pointer outside = raise (codes "java/lang/NullPointerException") outside

abbrev pub out_of_bounds : Outside → Response
out_of_bounds outside = raise (codes "java/lang/ArrayIndexOutOfBoundsException") outside

-- ---- calculations

abbrev pub calculated : Option Value → Outside → Response
calculated (Some value) outside = gave value outside
calculated None outside = raise (codes "java/lang/ArithmeticException") outside

-- ---- arrays: first the index, and then whether the array takes the value

abbrev pub loaded : Option Value → Outside → Response
loaded (Some value) outside = gave value outside
loaded None outside = out_of_bounds outside

abbrev pub stored : Classes → Option Value → ℕ → Value → Value → Outside → Response
stored classes None i value target outside = out_of_bounds outside
stored classes (Some old) i value target outside =
    if takes_element classes outside.heap target value
    then Gave None (with_heap (write_element i value target outside.heap) outside)
    else raise (codes "java/lang/ArrayStoreException") outside

-- no array is made where some size is negative
abbrev pub made_array : FieldType → List ℤ → Outside → Response
made_array type sizes outside =
    if list_any (λ n. int_lt n (pos 0)) sizes
    then raise (codes "java/lang/NegativeArraySizeException") outside
    else
    let made = make_array type (map unsigned_abs sizes) outside.heap in
    gave made.0 (with_heap made.1 outside)

-- ---- fields

-- a field by the class that holds it
abbrev pub field_key : Classes → Field → FieldKey
field_key classes f =
    (holder_of classes (f.class, f.name, descriptor f.type), f.name, descriptor f.type)

-- ---- classes

abbrev pub cast : Bool → Value → Outside → Response
cast true reference outside = gave reference outside
cast false reference outside =
    if is_null reference then gave reference outside
    else raise (codes "java/lang/ClassCastException") outside

abbrev pub int_of_bool : Bool → Value
int_of_bool true = Int (pos 1)
int_of_bool false = Int (pos 0)

-- ---- the whole

-- on operands of the right kinds, of which a target is not null
abbrev pub answer : Classes → Action → List Value → Outside → Response
answer classes (Calculate c) ops o = calculated (calculate c ops) o
answer classes (FloatOperation opcode operands result) ops o =
    float_operation result (FloatOperation opcode operands result) ops o
answer classes ArrayLength ops o = gave (Int (pos (array_length o.heap (value_at ops 0)))) o
answer classes (LoadElement e) ops o =
    loaded (read_element o.heap (kind_of_element e) (value_at ops 0) (number_of (value_at ops 1))) o
answer classes (StoreElement e) ops o =
    let target = value_at ops 0 in
    let i = number_of (value_at ops 1) in
    stored classes (read_element o.heap (kind_of_element e) target i) (unsigned_abs i)
    (value_at ops 2) target o
answer classes (GetField f) ops o =
    gave (read_field o.heap (kind_of f.type) (field_key classes f) (value_at ops 0)) o
answer classes (PutField f) ops o =
    Gave None (with_heap (write_field (field_key classes f) (value_at ops 1) (value_at ops 0)
    o.heap) o)
answer classes (GetStatic f) ops o =
    gave (read_static o.heap (kind_of f.type) (field_key classes f)) o
answer classes (PutStatic f) ops o =
    Gave None (with_heap (write_static (field_key classes f) (value_at ops 0) o.heap) o)
answer classes (Invoke sort method types) ops o = invoke (Invoke sort method types) ops o
answer classes (New class) ops o =
    gave (next_object o.heap) (with_heap (allocate (new_instance class) o.heap) o)
answer classes (NewArray type dimensions) ops o = made_array type (map number_of ops) o
answer classes (CheckCast class) ops o =
    cast (is_instance classes o.heap (value_at ops 0) class) (value_at ops 0) o
answer classes (InstanceOf class) ops o =
    gave (int_of_bool (is_instance classes o.heap (value_at ops 0) class)) o
answer classes MonitorEnter ops o = monitor_operation MonitorEnter ops o
answer classes MonitorExit ops o = monitor_operation MonitorExit ops o

-- a null target throws before any other test, and makes no event
abbrev pub unless_null : Bool → Response → Outside → Response
unless_null true response outside = null_pointer outside
unless_null false response outside = response

-- a result of the kind; an action without a result gives none
abbrev pub admit_result : Option Kind → Option Value → Option Value
admit_result None value = None
admit_result (Some kind) None = Some (zero_of kind)
admit_result (Some kind) (Some value) = Some (admit kind value)

abbrev pub admit_response : Option Kind → Response → Response
admit_response kind (Gave value after) = Gave (admit_result kind value) after
admit_response kind (Threw reference after) = Threw reference after
admit_response kind (Waits after) = Waits after

abbrev pub act_on : Classes → Action → List Value → Outside → Response
act_on classes action operands outside =
    admit_response (result_of action)
    (unless_null (has_target action && is_null (value_at operands 0))
    (answer classes action operands outside) outside)

-- Operands, the deepest first, and the result are of the kinds of the action. Here, and where a
-- method is entered, a value of another kind counts as zero, and nowhere else.
abbrev pub act : Classes → Action → List Value → Outside → Response
act classes action operands outside =
    act_on classes action (admit_all (operands_of action) operands) outside

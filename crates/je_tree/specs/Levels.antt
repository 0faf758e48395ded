-- How tightly operators bind (JLS SE 8 15), by levels from an assignment to a primary.
use Rattle.std.specs.Prelude.{ℕ, List, codes}
use Rattle.je_tree.specs.declared.operators.UnaryOp.{UnaryOp}
use Rattle.je_tree.specs.declared.operators.UnaryOp.TheVariants as unary_op
use Rattle.je_tree.specs.declared.operators.StepOp.{StepOp}
use Rattle.je_tree.specs.declared.operators.StepOp.TheVariants as step_op
use Rattle.je_tree.specs.declared.operators.BinaryOp.{BinaryOp}
use Rattle.je_tree.specs.declared.operators.BinaryOp.TheVariants as op
use Rattle.je_tree.specs.declared.operators.AssignOp.{AssignOp}
use Rattle.je_tree.specs.declared.operators.AssignOp.TheVariants as assign_op
use Rattle.je_tree.specs.Tree.{Expr, literal, this, dollar, paren, proceed, call, name}
use Rattle.je_tree.specs.Tree.{class_field, class_call, name_call, super_call, new_object}
use Rattle.je_tree.specs.Tree.{new_array, new_items, field, method, index, step, unary, cast}
use Rattle.je_tree.specs.Tree.{binary, instance_of, choose, assign}

abbrev pub assignment : ℕ
assignment = 0

abbrev pub conditional : ℕ
conditional = 1

abbrev pub disjunction : ℕ
disjunction = 2

abbrev pub relational : ℕ
relational = 8

abbrev pub prefixed : ℕ
prefixed = 12

abbrev pub suffixed : ℕ
suffixed = 13

abbrev pub primary : ℕ
primary = 14

-- `||`, `&&`, `|`, `^`, `&`, equality, order, shifts, sums, products
abbrev pub op_level : BinaryOp → ℕ
op_level op.Or = disjunction
op_level op.And = 3
op_level op.BitOr = 4
op_level op.BitXor = 5
op_level op.BitAnd = 6
op_level op.Equal = 7
op_level op.NotEqual = 7
op_level op.Less = relational
op_level op.Greater = relational
op_level op.LessOrEqual = relational
op_level op.GreaterOrEqual = relational
op_level op.ShiftLeft = 9
op_level op.ShiftRight = 9
op_level op.ShiftRightUnsigned = 9
op_level op.Add = 10
op_level op.Subtract = 10
op_level op.Multiply = 11
op_level op.Divide = 11
op_level op.Remainder = 11

abbrev pub level : Expr → ℕ
level (literal pos value) = primary
level (this pos) = primary
level (dollar pos text) = primary
level (paren pos more inner) = primary
level (proceed pos args) = primary
level (call ident args) = primary
level (name n) = primary
level (class_field n ident) = primary
level (class_call n ident args) = primary
level (name_call n ident args) = primary
level (super_call pos ident args) = primary
level (new_object pos n args) = primary
level (new_array pos base sizes more) = primary
level (new_items pos base items) = primary
level (field left ident) = suffixed
level (method left ident args) = suffixed
level (index left at) = suffixed
level (step left op) = suffixed
level (unary pos op operand) = prefixed
level (cast pos to operand) = prefixed
level (binary left op right) = op_level op
level (instance_of left type_name) = relational
level (choose condition first second) = conditional
level (assign left op right) = assignment

-- the marks of operators

abbrev pub unary_mark : UnaryOp → List ℕ
unary_mark unary_op.Plus = codes "+"
unary_mark unary_op.Minus = codes "-"
unary_mark unary_op.Not = codes "!"
unary_mark unary_op.Complement = codes "~"
unary_mark unary_op.Increment = codes "++"
unary_mark unary_op.Decrement = codes "--"

abbrev pub step_mark : StepOp → List ℕ
step_mark step_op.Increment = codes "++"
step_mark step_op.Decrement = codes "--"

abbrev pub binary_mark : BinaryOp → List ℕ
binary_mark op.Or = codes "||"
binary_mark op.And = codes "&&"
binary_mark op.BitOr = codes "|"
binary_mark op.BitXor = codes "^"
binary_mark op.BitAnd = codes "&"
binary_mark op.Equal = codes "=="
binary_mark op.NotEqual = codes "!="
binary_mark op.Less = codes "<"
binary_mark op.Greater = codes ">"
binary_mark op.LessOrEqual = codes "<="
binary_mark op.GreaterOrEqual = codes ">="
binary_mark op.ShiftLeft = codes "<<"
binary_mark op.ShiftRight = codes ">>"
binary_mark op.ShiftRightUnsigned = codes ">>>"
binary_mark op.Add = codes "+"
binary_mark op.Subtract = codes "-"
binary_mark op.Multiply = codes "*"
binary_mark op.Divide = codes "/"
binary_mark op.Remainder = codes "%"

abbrev pub assign_mark : AssignOp → List ℕ
assign_mark assign_op.Plain = codes "="
assign_mark assign_op.Add = codes "+="
assign_mark assign_op.Subtract = codes "-="
assign_mark assign_op.Multiply = codes "*="
assign_mark assign_op.Divide = codes "/="
assign_mark assign_op.Remainder = codes "%="
assign_mark assign_op.BitAnd = codes "&="
assign_mark assign_op.BitOr = codes "|="
assign_mark assign_op.BitXor = codes "^="
assign_mark assign_op.ShiftLeft = codes "<<="
assign_mark assign_op.ShiftRight = codes ">>="
assign_mark assign_op.ShiftRightUnsigned = codes ">>>="

-- A method with a loop and two handlers, its shapes, and pieces that are put into it.
use Rattle.std.specs.Prelude.{ℕ, List, [], ◌∷◌, Some, None, true, false, codes, slice_get}
use Rattle.std.specs.Prelude.{suc, unwrap_or, nat_eq, if◌then◌else◌}
use Rattle.je_machine.specs.Operation.{Nop, Act, Handler}
use Rattle.je_machine.specs.Sample.{entry}
use Rattle.je_shape.specs.Shape.{Shape, Known, Nothing, Has}
use Rattle.je_shape.specs.Flow.{shape_of}
use Rattle.je_shape.specs.Least.{Method, Assignment}
use Rattle.je_shape.specs.Sample.{int, object}
use Rattle.je_splice.specs.Layout.{operation_codes}
use Rattle.je_splice.specs.Laid.{Fragment, blocks_of}
use Rattle.je_splice.specs.Marks.{Marks, marked_items}
use Rattle.je_splice.specs.Put.{marks_of}
use Rattle.je_splice.specs.Sample.{empty_fragment, proceed_fragment}
use Rattle.je_splice.specs.Loop.{call, loop_method, put_at, put_before}
use Rattle.je_stay.specs.Marked.{known_at}
use Rattle.je_stay.specs.Inner.{known_along, one_known, two_known}

-- The method of je_splice, where what the test of the loop throws goes where throws of the calls
-- go, too: `static void m(int)` of a class C.
abbrev pub turning : Method
turning =
    record {
      class = codes "C";
      program = record {
        parameters = loop_method.parameters;
        operations = loop_method.operations;
        handlers = entry 2 5 7 ∷ entry 0 2 7 ∷ [];
      };
      entry = shape_of [] (int ∷ []);
      frames = [];
      result = Some None;
    }

-- the count alone; with its value on the stack; and with what was thrown
abbrev pub counted : Shape
counted = shape_of [] (int ∷ [])

abbrev pub tested : Shape
tested = shape_of (int ∷ []) (int ∷ [])

abbrev pub thrown : Shape
thrown = shape_of (object (codes "java/lang/Throwable") ∷ []) (int ∷ [])

abbrev pub turning_list : List Known
turning_list =
    Has counted ∷ Has tested ∷ Has counted ∷ Has counted ∷ Has counted ∷ Has counted ∷ Has counted
    ∷ Has thrown ∷ Has counted ∷ []

abbrev pub turning_shapes : Assignment
turning_shapes at = unwrap_or (slice_get turning_list at) Nothing

-- A nop stands before the loop, which each turn meets. The first call stays a call, and the second
-- gives way to nothing. A nop stands before index 4, and jumps pass it by; the handlers meet one.
abbrev pub turning_marks : Marks Fragment Handler
turning_marks =
    marks_of (λ h. h.target) (λ fragment. true)
    (put_at 0 false true (proceed_fragment Nop) ∷ put_at 2 true true (proceed_fragment (Act call))
    ∷ put_at 3 true true empty_fragment ∷ put_at 4 false false (proceed_fragment Nop) ∷ [])
    (put_before 7 (proceed_fragment Nop) ∷ [])

-- the shapes of its places, and those in the blocks, of which that in the fourth place is empty
abbrev pub turning_places : Assignment
turning_places = known_at turning_marks turning_shapes 9

abbrev pub turning_inner : ℕ → Assignment
turning_inner place =
    if nat_eq place 4 then one_known (turning_places place)
    else two_known (turning_places place) (turning_places (suc place))

-- the shapes of the method with its pieces in place
abbrev pub turning_indexes : Assignment
turning_indexes =
    known_along turning_places turning_inner 0
    (blocks_of (marked_items operation_codes turning_marks turning.program.operations))

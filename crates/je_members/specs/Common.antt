-- The common superclass of two reference types, as a question.
use Rattle.std.specs.Prelude.{Bool, true, false, cond, nat_eq, nat_lt, ◌/◌, ◌%◌, ◌&&◌, length}
use Rattle.std.specs.Prelude.{List, [], Result, Ok, Err, codes}
use Rattle.je_base.specs.Text.{is_same_text}
use Rattle.je_desc.specs.FieldType.{FieldType, Base, Object, Array, descriptor}
use Rattle.je_desc.specs.declared.summary.Summary.{Summary}
use Rattle.je_world.specs.declared.link.Link.{Link}
use Rattle.je_world.specs.Question.{Name, Question, Answered, Look, and_then}
use Rattle.je_world.specs.Walk.{Class, names_of, most}
use Rattle.je_world.specs.Search.{Ending, Went, Bad, Decided, chain}
use Rattle.je_members.specs.Among.{among, found, try_then}

abbrev pub object : Name
object = codes "java/lang/Object"

-- whether a class is an interface, of its access flags (JVMS 4.1, ACC_INTERFACE)
abbrev pub is_interface : Summary → Bool
is_interface class = nat_eq (class.access / 0x0200 % 2) 1

abbrev pub asks_interface : Name → Question (Result Bool Link)
asks_interface name = Look name (λ known. Answered (found name is_interface known))

-- the names of a class and its superclasses
abbrev pub gone_along : Ending (List Class) Name → Result (List Name) Link
gone_along (Went classes) = Ok (names_of classes)
gone_along (Bad bad) = Err bad
gone_along (Decided name) = Ok []

unfoldable pub superclasses : Name → Question (Result (List Name) Link)
superclasses name = and_then (chain (among []) most [] name) (λ end. Answered (gone_along end))

-- the first of these on the way up, and `java/lang/Object` where there is none
abbrev pub met_or_object : Ending (List Class) Name → Result Name Link
met_or_object (Went classes) = Ok object
met_or_object (Bad bad) = Err bad
met_or_object (Decided name) = Ok name

unfoldable pub first_above : List Name → Name → Question (Result Name Link)
first_above names name =
    and_then (chain (among names) most [] name) (λ end. Answered (met_or_object end))

-- of two classes that are no interfaces
abbrev pub first_of_both : Name → Name → Question (Result Name Link)
first_of_both a b = try_then (superclasses b) (λ names. first_above names a)

-- of two of which the first is no interface
abbrev pub below_second : Name → Name → Question (Result Name Link)
below_second a b =
    try_then (asks_interface b) (λ yes. cond yes (Answered (Ok object)) (first_of_both a b))

-- The first class on the way up from the first that is on the way up from the second, which is gone
-- to its end before; `java/lang/Object` where either is an interface.
unfoldable pub common_class : Name → Name → Question (Result Name Link)
common_class a b =
    try_then (asks_interface a) (λ yes. cond yes (Answered (Ok object)) (below_second a b))

-- the same type
abbrev pub is_same_type : FieldType → FieldType → Bool
is_same_type a b = is_same_text (descriptor a) (descriptor b)

abbrev pub is_reference : FieldType → Bool
is_reference (Base base) = false
is_reference (Object name) = true
is_reference (Array component) = true

-- the array of a type, where its descriptor has room in a constant (JVMS 4.4.7)
abbrev pub array_or_object : FieldType → FieldType
array_or_object t = cond (nat_lt (length (descriptor (Array t))) 65536) (Array t) (Object object)

-- Equal types give themselves, two arrays of references the array of what their components give.
abbrev pub common_super : FieldType → FieldType → Question (Result FieldType Link)
common_super (Object a) (Object b) =
    cond (is_same_text a b) (Answered (Ok (Object a)))
    (try_then (common_class a b) (λ name. Answered (Ok (Object name))))
common_super (Array a) (Array b) =
    cond (is_same_type a b) (Answered (Ok (Array a)))
    (cond (is_reference a && is_reference b)
    (try_then (common_super a b) (λ t. Answered (Ok (array_or_object t))))
    (Answered (Ok (Object object))))
common_super a b = Answered (Ok (Object object))

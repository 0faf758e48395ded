-- Serves private functions: what constants say, by their sorts.
use Rattle.std.specs.Prelude.{◌≡◌, ℕ, Bool, true, false, List, Option, Some, None}
use Rattle.je_consts.specs.declared.constant.MemberTag.{MemberTag}
use Rattle.je_machine.specs.Content.{Content, Integer, Float, LongInteger, Double, Class}
use Rattle.je_machine.specs.Content.{Str, Member, MethodHandle, MethodType, InvokeDynamic}
use Rattle.je_machine.specs.Action.{Sort, Virtual, Special, Static, Interface, Dynamic}
use Rattle.je_desc.specs.Descriptor.{MethodTypes, units_of_params}
use Rattle.je_instr.specs.Allowed.{Calls}
use Rattle.je_instr.specs.declared.calls.Call.{Call}
use Rattle.je_instr.specs.declared.calls.Call.TheVariants as call

-- the text of a class
abbrev pub of_class : Option Content → Option (List ℕ)
of_class (Some (Class text)) = Some text
of_class _ = None

-- a member: its sort, the text of its class, its name and its descriptor
abbrev pub of_any : Option Content → Option (MemberTag × List ℕ × List ℕ × List ℕ)
of_any (Some (Member tag class name text)) = Some (tag, class, name, text)
of_any _ = None

-- the name and the descriptor of a dynamic call
abbrev pub of_dynamic : Option Content → Option (List ℕ × List ℕ)
of_dynamic (Some (InvokeDynamic bootstrap name text)) = Some (name, text)
of_dynamic _ = None

-- what ldc takes, but for classes
abbrev pub is_loaded : Option Content → Bool
is_loaded (Some (Integer n)) = true
is_loaded (Some (Float bits)) = true
is_loaded (Some (Str text)) = true
is_loaded (Some (MethodHandle kind tag class name text)) = true
is_loaded (Some (MethodType text)) = true
is_loaded _ = false

-- what ldc2_w takes
abbrev pub is_wide : Option Content → Bool
is_wide (Some (LongInteger n)) = true
is_wide (Some (Double bits)) = true
is_wide _ = false

-- the sort of a call
abbrev pub sort_of_call : Call → Sort
sort_of_call call.Virtual = Virtual
sort_of_call call.Special = Special
sort_of_call call.Static = Static
sort_of_call call.Interface = Interface
sort_of_call call.Dynamic = Dynamic

-- a call of this sort may be of the constant, whose parameters have so many units
abbrev pub CallsWith : Sort → ℕ → Content → Type 0
CallsWith sort n content =
    (types : MethodTypes) × Calls sort types content × (n ≡ units_of_params types)

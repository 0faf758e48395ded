-- What the instructions are that are read so far.
use Rattle.std.proofs.Common.{◌≡◌, ℕ, List, [], Some, None, refl, sym, ap, subst, ◌∙◌, ◌↔◌, inl}
use Rattle.std.proofs.Common.{arith}
use Rattle.std.specs.Prelude.{codes}
use Rattle.je_consts.specs.declared.place.Place.{Place}
use Rattle.je_desc.specs.FieldType.{Object}
use Rattle.je_desc.specs.Descriptor.{MethodTypes, SpellsMethod}
use Rattle.je_consts.specs.declared.constant.MemberTag.TheVariants.{Method}
use Rattle.je_machine.specs.Content.{Content, Member}
use Rattle.je_machine.specs.Action.{Sort, Static, Invoke}
use Rattle.je_machine.specs.Operation.{Operation, Nop, Act, Do, Return}
use Rattle.je_instr.specs.declared.instr.Instr.TheVariants as instr
use Rattle.je_instr.specs.Content.{content_at}
use Rattle.je_instr.specs.Opcodes.{beside, simple_operations, simple_operation, sorts}
use Rattle.je_instr.specs.Allowed.{IsMethod}
use Rattle.je_instr.specs.Callee.{IsCallable}
use Rattle.je_instr.specs.Resolves.{Resolves}
use Rattle.je_instr.proofs.OperationLemmas.{some_is, resolves_once}

simple_means : (consts : List Place) (opcode : ℕ) (p o : Operation) → simple_operation opcode ≡ Some p → Resolves consts (instr.Simple opcode) o ↔ (o ≡ p)
simple_means consts opcode p o e =
    (λ r. some_is o p (sym r.becomes ∙ e), λ same. record { allowed = rw e refl; becomes = e ∙ ap Some (sym same) })

nop_is : simple_operation 0 ≡ Some (Do Nop)
unfolding simple_operations
nop_is = refl

pub nop_means : (consts : List Place) (o : Operation) → Resolves consts (instr.Simple 0) o ↔ (o ≡ Do Nop)
nop_means consts o = simple_means consts 0 (Do Nop) o nop_is

return_is : simple_operation 177 ≡ Some (Return None)
unfolding simple_operations
return_is = refl

pub return_means : (consts : List Place) (o : Operation) → Resolves consts (instr.Simple 177) o ↔ (o ≡ Return None)
return_means consts o = simple_means consts 177 (Return None) o return_is

static_is : beside sorts 184 ≡ Some Static
unfolding sorts
static_is = refl

pub call_means : (consts : List Place) (index : ℕ) (o : Operation) → Resolves consts (instr.Invoke 184 index) o
    → (method : Content) × (types : MethodTypes) × (content_at consts index ≡ Some method) × (o ≡ Do (Act (Invoke Static method types)))
call_means consts index o r =
    let call = r.becomes in
    let sort : call.0 ≡ Static = some_is call.0 Static (sym call.1 ∙ static_is) in
    (call.2.0, call.2.2.0, call.2.1, call.2.2.2 ∙ ap (λ (s : Sort). Do (Act (Invoke s call.2.0 call.2.2.0))) sort)

abbrev nothing : MethodTypes
nothing = record { params = []; result = None }

nothing_spelled : (text : List ℕ) → text ≡ codes "()V" → SpellsMethod text nothing
nothing_spelled text e = (record { params = tt; result = tt; within = omega arith }, e)

module _ (consts : List Place) (index : ℕ) (class name text : List ℕ) (here : content_at consts index ≡ Some (Member Method class name text)) (callable : IsCallable class name text) where
  abbrev call : Operation
  call = Do (Act (Invoke Static (Member Method class name text) nothing))

  callee_resolves : Resolves consts (instr.Invoke 184 index) call
  callee_resolves =
      let method : IsMethod Static Method class name text nothing = record {
        takes_tag = inl refl;
        class_text = (Object class, (callable.class_name, refl));
        called = record { constructor = λ e. absurd (callable.no_constructor e); no_initialiser = callable.no_initialiser };
        descriptor = nothing_spelled text callable.plain;
      } in
      record {
        allowed = (Static, static_is, (Member Method class name text, here, (nothing, method)));
        becomes = (Static, static_is, (Member Method class name text, here, (nothing, method, refl)));
      }

  pub callee_means : (o : Operation) → Resolves consts (instr.Invoke 184 index) o ↔ (o ≡ call)
  callee_means o = (
    λ r. resolves_once consts (instr.Invoke 184 index) o call r callee_resolves,
    λ same. subst (Resolves consts (instr.Invoke 184 index)) (sym same) callee_resolves,
  )

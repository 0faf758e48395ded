use Rattle.std.proofs.Common.{◌≡◌, ℕ, ◌+◌, ◌≤◌, ◌↔◌, List, Some, inl, inr, ltb, bit_and, arith}
use Rattle.std.specs.Prelude.{IsTrue}
use Rattle.std.proofs.lemmas.Bool.{false≢true}
use Rattle.std.proofs.lemmas.Bool.Decides.{nat_tests}
use Rattle.je_desc.specs.Descriptor.{MethodDescriptor}
use Rattle.je_class.specs.Class.{IsDescriptorOf}
use Rattle.je_class.proofs.check.is_descriptor_of.Goals as goal

room : (n : ℕ) → IsTrue (ltb n 255) ↔ (n + 1 ≤ 255)
room n = grind (arith, nat_tests)

-- where the method is not static
with_this : (access n : ℕ) (text : List ℕ) → bit_and access 8 ≡ 0 → MethodDescriptor text n → ((m : ℕ) → MethodDescriptor text m → Some n ≡ Some m) → IsTrue (ltb n 255) ↔ IsDescriptorOf access text
with_this access n text instance units only = (
  λ lt. (n, units, inr ((room n).0 lt)),
  λ h. elim h.2 [
    | inl static ↦ absurd (static instance)
    | inr le ↦ let same = only h.0 h.1 in let n_is : n ≡ h.0 = cc in (room n).1 (omega arith)
  ],
)

pub returns-else-access-ne0 : goal.returns-else-access-ne0
returns-else-access-ne0 c = with_this c.args.access c.in-Some.units c.args.bytes.now c.if-access-ne0.false c.in-Some.ensures.some c.in-Some.ensures.only

pub returns-in-None : goal.returns-in-None
returns-in-None c = (λ t. absurd (false≢true t), λ h. absurd (c.in-None.ensures.none h.0 h.1))

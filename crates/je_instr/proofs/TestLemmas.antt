-- Which opcodes stand in a table: each one below 256 is tried.
use Rattle.std.proofs.Common.{◌≡◌, ℕ, ◌<◌, ◌≤◌, Bool, true, false, ◌&&◌, Option, Some, is_some}
use Rattle.std.proofs.Common.{refl, sym, ap, subst, ◌∙◌, ◌↔◌, arith}
use Rattle.std.specs.Prelude.{IsTrue, IsSome}
use Rattle.je_instr.specs.Opcodes.{beside, simple_operation, local_operations, conditions}
use Rattle.je_instr.specs.Opcodes.{field_actions, sorts, array_types}
use Rattle.std.specs.Prelude.{nat_le}
use Rattle.std.proofs.lemmas.Bool.{leb-true}
use Rattle.je_machine.specs.Action.{Sort, Virtual, Special, Static}
use Rattle.je_instr.specs.Rows.{is_within, is_simple}
use Rattle.je_instr.specs.OpcodeTests.{local_test, condition_test, field_test, array_test}
use Rattle.je_instr.proofs.RowLemmas.{is_same, same_is, all_from, each_from, simple_is}

-- where each below 256 is told, this one is
told : (p q : ℕ → Bool) → all_from (λ n. is_same (p n) (q n)) 256 0 ≡ true → (n : ℕ) → n < 256 → p n ≡ q n
told p q all n lt = same_is (p n) (q n) (subst (λ (m : ℕ). is_same (p m) (q m) ≡ true) (omega arith) (each_from (λ m. is_same (p m) (q m)) n 256 0 lt all))

-- as the tests say it
as_test : {A : Type 0} (o : Option A) (test b : Bool) → b ≡ test → is_some o ≡ test → IsTrue b ↔ IsSome o
as_test o test b e same = (λ h. same ∙ sym e ∙ h, λ h. e ∙ sym same ∙ h)

all_locals : all_from (λ n. is_same (is_some (beside local_operations n)) (local_test n)) 256 0 ≡ true
unfolding local_operations
all_locals = refl

all_conditions : all_from (λ n. is_same (is_some (beside conditions n)) (condition_test n)) 256 0 ≡ true
unfolding conditions
all_conditions = refl

all_fields : all_from (λ n. is_same (is_some (beside field_actions n)) (field_test n)) 256 0 ≡ true
unfolding field_actions
all_fields = refl

all_arrays : all_from (λ n. is_same (is_some (beside array_types n)) (array_test n)) 256 0 ≡ true
unfolding array_types
all_arrays = refl

pub simple_tested : (n : ℕ) (b : Bool) → b ≡ is_simple n → IsTrue b ↔ IsSome (simple_operation n)
simple_tested n b e = as_test (simple_operation n) (is_simple n) b e (simple_is n)

pub local_tested : (n : ℕ) (b : Bool) → n < 256 → b ≡ local_test n → IsTrue b ↔ IsSome (beside local_operations n)
local_tested n b lt e = as_test (beside local_operations n) (local_test n) b e (told (λ m. is_some (beside local_operations m)) local_test all_locals n lt)

pub condition_tested : (n : ℕ) (b : Bool) → n < 256 → b ≡ condition_test n → IsTrue b ↔ IsSome (beside conditions n)
condition_tested n b lt e = as_test (beside conditions n) (condition_test n) b e (told (λ m. is_some (beside conditions m)) condition_test all_conditions n lt)

pub field_tested : (n : ℕ) (b : Bool) → n < 256 → b ≡ field_test n → IsTrue b ↔ IsSome (beside field_actions n)
field_tested n b lt e = as_test (beside field_actions n) (field_test n) b e (told (λ m. is_some (beside field_actions m)) field_test all_fields n lt)

pub array_tested : (n : ℕ) (b : Bool) → n < 256 → b ≡ array_test n → IsTrue b ↔ IsSome (beside array_types n)
array_tested n b lt e = as_test (beside array_types n) (array_test n) b e (told (λ m. is_some (beside array_types m)) array_test all_arrays n lt)

-- ---- calls

all_sorts : all_from (λ n. is_same (is_some (beside sorts n)) (is_within 182 184 n)) 256 0 ≡ true
unfolding sorts
all_sorts = refl

virtual_is : beside sorts 182 ≡ Some Virtual
unfolding sorts
virtual_is = refl

special_is : beside sorts 183 ≡ Some Special
unfolding sorts
special_is = refl

static_is : beside sorts 184 ≡ Some Static
unfolding sorts
static_is = refl

one_sort : (a b : Sort) (o : Option Sort) → o ≡ Some a → o ≡ Some b → a ≡ b
one_sort a b o e h = let both : Some a ≡ Some b = sym e ∙ h in cc

by_sort : (opcode : ℕ) (sort : Sort) (P : Sort → Type 0) (b : Bool) → beside sorts opcode ≡ Some sort → IsTrue b ↔ P sort → IsTrue b ↔ ((s : Sort) × (beside sorts opcode ≡ Some s) × P s)
by_sort opcode sort P b e iff = (λ h. (sort, e, iff.0 h), λ k. iff.1 (subst P (one_sort k.0 sort (beside sorts opcode) k.1 e) k.2))

module _ (P : Sort → Type 0) (opcode : ℕ) (b : Bool) where
  pub virtual_called : opcode ≡ 182 → IsTrue b ↔ P Virtual → IsTrue b ↔ ((s : Sort) × (beside sorts opcode ≡ Some s) × P s)
  virtual_called e = by_sort opcode Virtual P b (ap (beside sorts) e ∙ virtual_is)

  pub special_called : opcode ≡ 183 → IsTrue b ↔ P Special → IsTrue b ↔ ((s : Sort) × (beside sorts opcode ≡ Some s) × P s)
  special_called e = by_sort opcode Special P b (ap (beside sorts) e ∙ special_is)

  pub static_called : opcode ≡ 184 → IsTrue b ↔ P Static → IsTrue b ↔ ((s : Sort) × (beside sorts opcode ≡ Some s) × P s)
  static_called e = by_sort opcode Static P b (ap (beside sorts) e ∙ static_is)

both : (a b : Bool) → (a && b) ≡ true → (a ≡ true) × (b ≡ true)
both true b e = (refl, e)
both false b e = absurd cc

pub no_sort : (opcode : ℕ) (s : Sort) → opcode < 256 → beside sorts opcode ≡ Some s → (182 ≤ opcode) × (opcode ≤ 184)
no_sort opcode s lt e =
    let test : is_within 182 184 opcode ≡ true = sym (told (λ m. is_some (beside sorts m)) (is_within 182 184) all_sorts opcode lt) ∙ ap is_some e in
    let parts = both (nat_le 182 opcode) (nat_le opcode 184) test in
    (leb-true 182 opcode parts.0, leb-true opcode 184 parts.1)

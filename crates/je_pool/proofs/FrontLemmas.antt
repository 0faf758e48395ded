-- What is read of a file tells what the file is.
use Rattle.std.proofs.Common.{◌≡◌, ◌≢◌, ℕ, ◌<◌, ◌≤◌, ◌⊎◌, List, length, take, Option, Some, None, Ok, Err, refl, sym, ap, ◌∙◌, subst, arith, inl, inr}
use Rattle.std.specs.Option.{option_map, option_and_then}
use Rattle.std.specs.Global.{Vec}
use Rattle.std.proofs.lemmas.List.{length-take, take_all}
use Rattle.std.proofs.lemmas.Bool.{cases_lt}
use Rattle.je_base.specs.Files.{Contents}
use Rattle.je_class.specs.declared.fault.ClassFault.{ClassFault}
use Rattle.je_class.specs.declared.fault.TheConstants.{MOST_BYTES}
use Rattle.je_class.specs.Class.{Class}
use Rattle.je_class.specs.ClassBytes.{ClassBytes}
use Rattle.je_class.specs.Faults.{FirstFault, too_long, breaks, trailing}
use Rattle.je_world.specs.Question.{Name}
use Rattle.je_pool.specs.declared.fault.PoolFault.{PoolFault}
use Rattle.je_pool.specs.declared.fault.PoolFault.TheVariants as pool_fault
use Rattle.je_class.specs.declared.fault.ClassFault.TheVariants as class_fault
use Rattle.je_pool.specs.Path.{file_name}
use Rattle.je_pool.specs.Found.{IsClass, IsClassFile, IsNamed, FileIs, FileTells, first_file}
use Rattle.je_pool.specs.Pool.{FaultFound}
use Rattle.je_pool.specs.Asking.{most_read, IsFront, ReadsTold}

-- a file that was read whole
pub whole_front : (front bytes : List ℕ) → front ≡ take most_read bytes → length front ≤ MOST_BYTES → bytes ≡ front
whole_front front bytes is within =
    elim (cases_lt MOST_BYTES (length bytes)) [
      | inl more ↦ absurd (omega (arith, length-take most_read bytes, ap length is, within, more))
      | inr all ↦ sym (is ∙ take_all most_read bytes (omega (arith, all)))
    ]

pub class_of_front : (front bytes : List ℕ) (c : Class) → front ≡ take most_read bytes → length front ≤ MOST_BYTES → ClassBytes front c → IsClassFile bytes c
class_of_front front bytes c is within found =
    let P : List ℕ → Type 0 = λ b. IsClassFile b c in
    let here : IsClassFile front c = record { short = within; bytes_are = found } in
    subst P (sym (whole_front front bytes is within)) here

longer : (front bytes : List ℕ) → front ≡ take most_read bytes → MOST_BYTES < length front → MOST_BYTES < length bytes
longer front bytes is more = omega (arith, length-take most_read bytes, ap length is, more)

same_fault : (front bytes : List ℕ) (d : ClassFault) → front ≡ take most_read bytes → length front ≤ MOST_BYTES → FirstFault front d → FirstFault bytes d
same_fault front bytes d is within fault =
    let P : List ℕ → Type 0 = λ b. FirstFault b d in subst P (sym (whole_front front bytes is within)) fault

pub fault_of_front : (front bytes : List ℕ) (d : ClassFault) → front ≡ take most_read bytes → FirstFault front d → FirstFault bytes d
fault_of_front front bytes d is (too_long more) = too_long (longer front bytes is more)
fault_of_front front bytes d is (breaks magic c fault within b) =
    same_fault front bytes fault is within (breaks magic c fault within b)
fault_of_front front bytes d is (trailing c first rest within whole some found) =
    same_fault front bytes d is within (trailing c first rest within whole some found)

-- ---- the class of a front

-- the fault of the front, unless memory ran out
pub bad_front : (name : Name) (front bytes : List ℕ) (d : ClassFault) (r : PoolFault) → ((r ≡ pool_fault.BadClass name d) × (d ≢ class_fault.Memory)) ⊎ (r ≡ pool_fault.Memory) → (d ≡ class_fault.Memory) ⊎ FirstFault front d → front ≡ take most_read bytes → FaultFound name (FileIs name bytes) r
bad_front name front bytes d r (inr memory) fault is = rw memory tt
bad_front name front bytes d r (inl bad) (inl memory) is = absurd (bad.1 memory)
bad_front name front bytes d r (inl bad) (inr fault) is =
    rw bad.0 (refl, fault_of_front front bytes d is fault)

pub bad_not_failed : (name : Name) (d : ClassFault) (r : PoolFault) → ((r ≡ pool_fault.BadClass name d) × (d ≢ class_fault.Memory)) ⊎ (r ≡ pool_fault.Memory) → r ≡ pool_fault.Failed → ⊥
bad_not_failed name d r (inl bad) failed = let e = sym bad.0 ∙ failed in absurd cc
bad_not_failed name d r (inr memory) failed = let e = sym memory ∙ failed in absurd cc

-- the class of the front has another name
pub other_front : (name other : Name) (front bytes : List ℕ) (c : Class) (r : PoolFault) → (r ≡ pool_fault.WrongName name other) ⊎ (r ≡ pool_fault.Memory) → other ≢ name → length front ≤ MOST_BYTES → ClassBytes front c → IsNamed other c → front ≡ take most_read bytes → FaultFound name (FileIs name bytes) r
other_front name other front bytes c r (inr memory) differs within found named is = rw memory tt
other_front name other front bytes c r (inl wrong) differs within found named is =
    rw wrong (refl, (differs, c, class_of_front front bytes c is within found, named))

-- ---- the file of a name

front_found : (P : Option (List ℕ) → Type 0) (front : List ℕ) (o : Option (List ℕ)) → Some front ≡ option_map (take most_read) o → ((bytes : List ℕ) → front ≡ take most_read bytes → P (Some bytes)) → P o
front_found P front None is f = absurd cc
front_found P front (Some bytes) is f = f bytes cc

no_front : (o : Option (List ℕ)) → None ≡ option_map (take most_read) o → o ≡ None
no_front None is = refl
no_front (Some bytes) is = absurd cc

-- what is read is the front of the first file
abbrev pub FrontIs : Option Contents → List (List ℕ) → List ℕ → List ℕ → Type 0
FrontIs None roots file front = Unit {0}
FrontIs (Some files) roots file front =
    Some front ≡ option_map (take most_read) (first_file files roots file)

pub front_is : (contents : Option Contents) (roots : List (List ℕ)) (file : List ℕ) (v : Vec ℕ) → IsFront contents roots file (Some v) → FrontIs contents roots file v.items
front_is None roots file v h = tt
front_is (Some files) roots file v h = h

-- no folder has the file
pub told_nothing : (contents : Option Contents) (roots : List (List ℕ)) (name : Name) (file : List ℕ) → file_name name ≡ Some file → IsFront contents roots file None → ReadsTold contents roots name (Ok None)
told_nothing None roots name file is front = tt
told_nothing (Some files) roots name file is front =
    rw (is, no_front (first_file files roots file) front) refl

-- the name is not asked
pub told_not_asked : (contents : Option Contents) (roots : List (List ℕ)) (name : Name) → file_name name ≡ None → ReadsTold contents roots name (Ok None)
told_not_asked None roots name is = tt
told_not_asked (Some files) roots name is = rw is refl

pub told_class : (contents : Option Contents) (roots : List (List ℕ)) (name : Name) (file front : List ℕ) (c : Class) → file_name name ≡ Some file → FrontIs contents roots file front → ((bytes : List ℕ) → front ≡ take most_read bytes → FileIs name bytes (IsClass c)) → ReadsTold contents roots name (Ok (Some c))
told_class None roots name file front c is read f = tt
told_class (Some files) roots name file front c is read f =
    rw is (front_found (λ o. FileTells name o (IsClass c)) front (first_file files roots file) read f)

told_same : (name : Name) (bytes : List ℕ) (why : PoolFault) → FaultFound name (FileIs name bytes) why → FaultFound name (FileTells name (Some bytes)) why
told_same name bytes (pool_fault.BadClass asked d) h = h
told_same name bytes (pool_fault.WrongName asked other) h = h
told_same name bytes pool_fault.Failed h = tt
told_same name bytes pool_fault.Memory h = tt

pub told_fault : (contents : Option Contents) (roots : List (List ℕ)) (name : Name) (file front : List ℕ) (why : PoolFault) → file_name name ≡ Some file → FrontIs contents roots file front → ((bytes : List ℕ) → front ≡ take most_read bytes → FaultFound name (FileIs name bytes) why) → ReadsTold contents roots name (Err why)
told_fault None roots name file front why is read f = tt
told_fault (Some files) roots name file front why is read f =
    let P : Option (List ℕ) → Type 0 = λ n. FaultFound name (FileTells name (option_and_then (first_file files roots) n)) why in
    subst P (sym is) (front_found (λ o. FaultFound name (FileTells name o) why) front (first_file files roots file) read (λ bytes at. told_same name bytes why (f bytes at)))

-- a failure and want of memory
pub told_failed : (contents : Option Contents) (roots : List (List ℕ)) (name : Name) → ReadsTold contents roots name (Err pool_fault.Failed)
told_failed None roots name = tt
told_failed (Some files) roots name = tt

pub told_memory : (contents : Option Contents) (roots : List (List ℕ)) (name : Name) → ReadsTold contents roots name (Err pool_fault.Memory)
told_memory None roots name = tt
told_memory (Some files) roots name = tt

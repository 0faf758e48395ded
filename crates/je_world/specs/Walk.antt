-- The walks of a class over a map: it and all above it, in two orders.
use Rattle.std.specs.Prelude.{◌≡◌, ℕ, zero, suc, true, false, List, [], ◌∷◌, ◌++◌}
use Rattle.std.specs.Prelude.{Option, Some, None, if◌then◌else◌}
use Rattle.je_desc.specs.declared.summary.Summary.{Summary}
use Rattle.je_world.specs.declared.link.Link.{Link}
use Rattle.je_world.specs.declared.link.Link.TheVariants.{NotFound, Cycle}
use Rattle.je_world.specs.declared.link.Link.TheVariants as link
use Rattle.je_world.specs.Question.{Name, Absent, Broken, IsClass, Map}
use Rattle.je_world.specs.World.{is_listed}

-- a class with the names of its interfaces
abbrev pub Class : Type 0
Class = Name × List Name

abbrev pub names_of : List Class → List Name
names_of [] = []
names_of (class ∷ classes) = class.0 ∷ names_of classes

-- the most names that stand above one another on a walk, more than any machine has
unfoldable pub most : ℕ
most = 0x1_0000_0000_0000_0000

-- the name is one of those below it on the way, or no further name may stand above these
abbrev pub IsAgain : ℕ → List Name → Name → Type 0
IsAgain zero below name = Unit {0}
IsAgain (suc left) below name = is_listed name below ≡ true

-- A class and its superclasses, up to the one without a super or the first name that is bad (JVMS
-- 5.3.5). Behind those so far come the new ones, and then what is bad, if anything.
pub data Chain (map : Map) :
    ℕ → List Class → Name → List Class → Option Link → Type 0 where
  again : {left : ℕ} {so_far : List Class} {name : Name} → IsAgain left (names_of so_far) name
      → Chain map left so_far name [] (Some (Cycle name))
  absent : {left : ℕ} {so_far : List Class} {name : Name}
      → is_listed name (names_of so_far) ≡ false → map name ≡ Absent
      → Chain map (suc left) so_far name [] (Some (NotFound name))
  broken : {left : ℕ} {so_far : List Class} {name : Name}
      → is_listed name (names_of so_far) ≡ false → map name ≡ Broken
      → Chain map (suc left) so_far name [] (Some (link.Broken name))
  top : {left : ℕ} {so_far : List Class} {name : Name} (class : Summary)
      → is_listed name (names_of so_far) ≡ false → map name ≡ IsClass class
      → class.super_name ≡ None
      → Chain map (suc left) so_far name ((name, class.interfaces) ∷ []) None
  up : {left : ℕ} {so_far : List Class} {name : Name} (class : Summary) (super : Name)
      {classes : List Class} {end : Option Link}
      → is_listed name (names_of so_far) ≡ false → map name ≡ IsClass class
      → class.super_name ≡ Some super
      → Chain map left (so_far ++ (name, class.interfaces) ∷ []) super classes end
      → Chain map (suc left) so_far name ((name, class.interfaces) ∷ classes) end

-- Interfaces in order, each followed by its superinterfaces (JVMS 5.4.3.3). A name that was met
-- before is passed over, unless it is below itself on the way.
pub data Above (map : Map) :
    ℕ → List Name → List Name → List Name → List Name → Option Link → Type 0 where
  done : {left : ℕ} {below so_far : List Name} → Above map left below so_far [] [] None
  again : {left : ℕ} {below so_far : List Name} {name : Name} {rest : List Name}
      → IsAgain left below name
      → Above map left below so_far (name ∷ rest) [] (Some (Cycle name))
  passed : {left : ℕ} {below so_far : List Name} {name : Name} {rest new : List Name}
      {end : Option Link} → is_listed name below ≡ false → is_listed name so_far ≡ true
      → Above map (suc left) below so_far rest new end
      → Above map (suc left) below so_far (name ∷ rest) new end
  absent : {left : ℕ} {below so_far : List Name} {name : Name} {rest : List Name}
      → is_listed name below ≡ false → is_listed name so_far ≡ false → map name ≡ Absent
      → Above map (suc left) below so_far (name ∷ rest) [] (Some (NotFound name))
  broken : {left : ℕ} {below so_far : List Name} {name : Name} {rest : List Name}
      → is_listed name below ≡ false → is_listed name so_far ≡ false → map name ≡ Broken
      → Above map (suc left) below so_far (name ∷ rest) [] (Some (link.Broken name))
  stopped : {left : ℕ} {below so_far : List Name} {name : Name} {rest inner : List Name}
      {bad : Link} (class : Summary)
      → is_listed name below ≡ false → is_listed name so_far ≡ false
      → map name ≡ IsClass class
      → Above map left (name ∷ below) (so_far ++ name ∷ []) class.interfaces inner (Some bad)
      → Above map (suc left) below so_far (name ∷ rest) (name ∷ inner) (Some bad)
  through : {left : ℕ} {below so_far : List Name} {name : Name} {rest inner outer : List Name}
      {end : Option Link} (class : Summary)
      → is_listed name below ≡ false → is_listed name so_far ≡ false
      → map name ≡ IsClass class
      → Above map left (name ∷ below) (so_far ++ name ∷ []) class.interfaces inner None
      → Above map (suc left) below ((so_far ++ name ∷ []) ++ inner) rest outer end
      → Above map (suc left) below so_far (name ∷ rest) (name ∷ (inner ++ outer)) end

-- the interfaces of classes, class by class, with what is above them
pub data Sides (map : Map) :
    List Name → List Name → List Class → List Name → Option Link → Type 0 where
  done : {below so_far : List Name} → Sides map below so_far [] [] None
  stopped : {below so_far : List Name} {class : Class} {rest : List Class} {inner : List Name}
      {bad : Link} → Above map most (class.0 ∷ below) so_far class.1 inner (Some bad)
      → Sides map below so_far (class ∷ rest) inner (Some bad)
  through : {below so_far : List Name} {class : Class} {rest : List Class}
      {inner outer : List Name} {end : Option Link}
      → Above map most (class.0 ∷ below) so_far class.1 inner None
      → Sides map (class.0 ∷ below) (so_far ++ inner) rest outer end
      → Sides map below so_far (class ∷ rest) (inner ++ outer) end

-- The walk of a class: it and its superclasses, and then for each of these its interfaces. The
-- names in order, and what is bad behind them, if anything.
pub data IsWalk (map : Map) (name : Name) : List Name → Option Link → Type 0 where
  stopped : {classes : List Class} {bad : Link} → Chain map most [] name classes (Some bad)
      → IsWalk map name (names_of classes) (Some bad)
  through : {classes : List Class} {others : List Name} {end : Option Link}
      → Chain map most [] name classes None
      → Sides map [] (names_of classes) classes others end
      → IsWalk map name (names_of classes ++ others) end

-- A class, then its interfaces in order, each followed by its superinterfaces, then the same of its
-- superclass (JVMS 5.4.3.2). Interfaces that were met before are passed over; a superclass that was
-- met as an interface, which no JVM allows (JVMS 5.3.5), is gone through for its own superclass.
pub data Fields (map : Map) :
    ℕ → List Name → List Name → Name → List Name → Option Link → Type 0 where
  again : {left : ℕ} {below so_far : List Name} {name : Name} → IsAgain left below name
      → Fields map left below so_far name [] (Some (Cycle name))
  absent : {left : ℕ} {below so_far : List Name} {name : Name}
      → is_listed name below ≡ false → map name ≡ Absent
      → Fields map (suc left) below so_far name [] (Some (NotFound name))
  broken : {left : ℕ} {below so_far : List Name} {name : Name}
      → is_listed name below ≡ false → map name ≡ Broken
      → Fields map (suc left) below so_far name [] (Some (link.Broken name))
  stopped : {left : ℕ} {below so_far : List Name} {name : Name} {inner : List Name} {bad : Link}
      (class : Summary) → is_listed name below ≡ false → map name ≡ IsClass class
      → Above map most (name ∷ below) (so_far ++ name ∷ []) class.interfaces inner (Some bad)
      → Fields map (suc left) below so_far name (name ∷ inner) (Some bad)
  top : {left : ℕ} {below so_far : List Name} {name : Name} {inner : List Name}
      (class : Summary) → is_listed name below ≡ false → map name ≡ IsClass class
      → class.super_name ≡ None
      → Above map most (name ∷ below) (so_far ++ name ∷ []) class.interfaces inner None
      → Fields map (suc left) below so_far name (name ∷ inner) None
  up : {left : ℕ} {below so_far : List Name} {name : Name} {inner outer : List Name}
      {end : Option Link} (class : Summary) (super : Name) → is_listed name below ≡ false
      → map name ≡ IsClass class → class.super_name ≡ Some super
      → Above map most (name ∷ below) (so_far ++ name ∷ []) class.interfaces inner None
      → Fields map left (name ∷ below) ((so_far ++ name ∷ []) ++ inner) super outer end
      → Fields map (suc left) below so_far name (name ∷ (inner ++ outer)) end

-- the names that are not among the first ones, each once
abbrev pub each_once : List Name → List Name → List Name
each_once so_far [] = []
each_once so_far (name ∷ names) =
    if is_listed name so_far
    then each_once so_far names
    else name ∷ each_once (so_far ++ name ∷ []) names

-- The field walk of a class. The names in order, and what is bad behind them, if anything.
pub record IsFieldWalk (map : Map) (name : Name) (names : List Name) (end : Option Link)
    : Type 0 where
  -- what is gone through
  pub gone : List Name
  pub fields : Fields map most [] [] name gone end
  pub once : names ≡ each_once [] gone

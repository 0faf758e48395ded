-- The names of a walk are those of classes.
use Rattle.std.proofs.Common.{◌≡◌, ℕ, List, [], ◌∷◌, ◌++◌, Option}
use Rattle.je_desc.specs.declared.summary.Summary.{Summary}
use Rattle.je_world.specs.declared.link.Link.{Link}
use Rattle.je_world.specs.Question.{Name, IsClass, Map}
use Rattle.je_world.specs.Walk.{Class, names_of, Chain, Above, Sides, IsWalk}

-- under each of the names there is a class
abbrev pub Classes : Map → List Name → Type 0
Classes map [] = Unit {0}
Classes map (name ∷ names) =
    ((class : Summary) × (map name ≡ IsClass class)) × Classes map names

both : (map : Map) (front back : List Name) → Classes map front → Classes map back → Classes map (front ++ back)
both map [] back h k = k
both map (name ∷ front) back h k = (h.0, both map front back h.1 k)

of_chain : (map : Map) {left : ℕ} {so_far : List Class} {name : Name} {classes : List Class} {end : Option Link} → Chain map left so_far name classes end → Classes map (names_of classes)
of_chain map (Chain.again h) = tt
of_chain map (Chain.absent h is) = tt
of_chain map (Chain.broken h is) = tt
of_chain map (Chain.top class h is none) = ((class, is), tt)
of_chain map (Chain.up class super h is some deeper) = ((class, is), of_chain map deeper)

of_above : (map : Map) {left : ℕ} {below so_far names new : List Name} {end : Option Link} → Above map left below so_far names new end → Classes map new
of_above map Above.done = tt
of_above map (Above.again h) = tt
of_above map (Above.passed h met further) = of_above map further
of_above map (Above.absent h new is) = tt
of_above map (Above.broken h new is) = tt
of_above map (Above.stopped class h new is deeper) = ((class, is), of_above map deeper)
of_above map (Above.through {inner = inner} {outer = outer} class h new is deeper further) =
    ((class, is), both map inner outer (of_above map deeper) (of_above map further))

of_sides : (map : Map) {below so_far : List Name} {classes : List Class} {new : List Name} {end : Option Link} → Sides map below so_far classes new end → Classes map new
of_sides map Sides.done = tt
of_sides map (Sides.stopped deeper) = of_above map deeper
of_sides map (Sides.through {inner = inner} {outer = outer} deeper further) =
    both map inner outer (of_above map deeper) (of_sides map further)

pub of_walk : (map : Map) {name : Name} {names : List Name} {end : Option Link} → IsWalk map name names end → Classes map names
of_walk map (IsWalk.stopped higher) = of_chain map higher
of_walk map (IsWalk.through {classes = classes} {others = others} higher beside) =
    both map (names_of classes) others (of_chain map higher) (of_sides map beside)

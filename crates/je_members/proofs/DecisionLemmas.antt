-- What a search for a name comes to over the names of a walk.
use Rattle.std.proofs.Common.{◌≡◌, Bool, true, false, cond, List, [], ◌∷◌, Option, Some, None, refl, ap, ◌∙◌}
use Rattle.je_desc.specs.declared.summary.Summary.{Summary}
use Rattle.je_world.specs.declared.link.Link.{Link}
use Rattle.je_world.specs.declared.link.Link.TheVariants.{NotFound, Cycle}
use Rattle.je_world.specs.declared.link.Link.TheVariants as link
use Rattle.je_world.specs.Question.{Name, Known, Absent, Broken, IsClass, Map, Answered, answer_by}
use Rattle.je_world.specs.World.{is_listed}
use Rattle.je_world.specs.Walk.{IsWalk}
use Rattle.je_world.specs.Search.{Search, Ending, Asked, meeting, search_over, at_end, walk}
use Rattle.je_world.specs.Search as search
use Rattle.je_world.proofs.LeadsLemmas.{answer_by-then}
use Rattle.je_world.proofs.WalkLemmas.{along_walk}
use Rattle.je_members.specs.Among.{among}
use Rattle.je_members.specs.OnWalk.{bad_name, come_to, answered, meets_one}
use Rattle.je_members.specs.Subtype.{subtype, was_met}
use Rattle.je_members.proofs.WalkClassLemmas.{Classes, of_walk}

-- a name that is met at a class
at_class : (b : Bool) (name sup : Name) (class : Summary) (rest : Asked (List Name) Name) (met : Bool) (end : Option Link) → was_met rest.1 ≡ answered met end → was_met (meeting name (cond b (Some name) None) (λ class. None) (IsClass class) (λ class. rest)).1 ≡ answered (cond b true met) end
at_class true name sup class rest met end h = refl
at_class false name sup class rest met end h = h

-- what is behind the names
at_last : (sup : Name) (end : Option Link) (gone : List Name) → was_met (at_end (among (sup ∷ [])) end gone).1 ≡ answered (meets_one sup (bad_name end)) end
at_last sup None gone = refl
at_last sup (Some (Cycle name)) gone = refl
at_last sup (Some (NotFound name)) gone = go (is_listed name (sup ∷ []))
  where
    go : (b : Bool) → was_met (meeting {N = List Name} name (cond b (Some name) None) (λ class. None) Absent (λ class. ([], search.Went gone))).1 ≡ answered (cond b true false) (Some (NotFound name))
    go true = refl
    go false = refl
at_last sup (Some (link.Broken name)) gone = go (is_listed name (sup ∷ []))
  where
    go : (b : Bool) → was_met (meeting {N = List Name} name (cond b (Some name) None) (λ class. None) Broken (λ class. ([], search.Went gone))).1 ≡ answered (cond b true false) (Some (link.Broken name))
    go true = refl
    go false = refl

over : (map : Map) (sup : Name) (names : List Name) (end : Option Link) (gone : List Name) → Classes map names → was_met (search_over (among (sup ∷ [])) map names (at_end (among (sup ∷ [])) end gone)).1 ≡ answered (meets_one sup (come_to names end)) end
over map sup [] end gone h = at_last sup end gone
over map sup (name ∷ names) end gone h =
    let rest = search_over (among (sup ∷ [])) map names (at_end (among (sup ∷ [])) end gone) in
    ap (λ (known : Known). was_met (meeting name (cond (is_listed name (sup ∷ [])) (Some name) None) (λ class. None) known (λ class. rest)).1) h.0.1
    ∙ at_class (is_listed name (sup ∷ [])) name sup h.0.0 rest (meets_one sup (come_to names end)) end (over map sup names end gone h.1)

pub subtype_answer : (map : Map) (sub sup : Name) {names : List Name} {end : Option Link} → IsWalk map sub names end → answer_by map (subtype sub sup) ≡ answered (meets_one sup (come_to names end)) end
unfolding subtype
subtype_answer map sub sup {names} {end} is =
    answer_by-then map (walk (among (sup ∷ [])) sub) (λ end. Answered (was_met end))
    ∙ ap (λ (p : Asked (List Name) Name). was_met p.1) (along_walk (among (sup ∷ [])) map is)
    ∙ over map sup names end names (of_walk map is)

-- Which names a search along a walk looks at.
use Rattle.std.proofs.Common.{◌++◌, ◌≡◌, List, [], ◌∷◌, Option, Some, None, Contains, ap, ◌∙◌, subst, inl, inr, ◌⊎◌, arith}
use Rattle.std.proofs.lemmas.List.{append-nil}
use Rattle.std.proofs.lemmas.List.Elements.{Contains-append_left, Contains-append_right, Contains-append_cases, Contains-push_cases}
use Rattle.je_desc.specs.declared.summary.Summary.{Summary}
use Rattle.je_world.specs.declared.link.Link.{Link}
use Rattle.je_world.specs.declared.link.Link.TheVariants.{NotFound, Cycle}
use Rattle.je_world.specs.declared.link.Link.TheVariants as link
use Rattle.je_world.specs.Question.{Name, Known, Absent, Broken, IsClass, Map, Answered, names_by}
use Rattle.je_world.specs.Walk.{Class, names_of, most, IsWalk}
use Rattle.je_world.specs.Search as search
use Rattle.je_world.specs.Search.{chain, Search, Asked, seeing, meeting, search_over, at_end, walk}
use Rattle.je_world.proofs.LeadsLemmas.{names_by-then}
use Rattle.je_world.proofs.WalkLemmas.{along_walk, along_chain}
use Rattle.je_members.specs.Common.{superclasses, first_above, gone_along, met_or_object}
use Rattle.je_members.specs.Among.{among}
use Rattle.je_members.specs.OnWalk.{bad_name, come_to}
use Rattle.je_members.specs.Subtype.{subtype, was_met}

none_in : {B : Type 0} (x : Name) → Contains [] x → B
none_in x h = absurd (omega (arith, h.1))

head : (name x : Name) (names : List Name) → name ≡ x → Contains (name ∷ names) x
head name x names e = (0, omega arith, e)

cons_cases : (name : Name) (names : List Name) (x : Name) → Contains (name ∷ names) x → (name ≡ x) ⊎ Contains names x
cons_cases name names x h = elim (Contains-append_cases (name ∷ []) names x h) [
  | inl one ↦ elim (Contains-push_cases [] name x one) [ inl none ↦ none_in x none | inr same ↦ inl same ]
  | inr later ↦ inr later
]

alone : (name x : Name) → Contains (name ∷ []) x → name ≡ x
alone name x h =
    elim (cons_cases name [] x h) [ inl same ↦ same | inr none ↦ none_in x none ]

seen_names : {N A : Type 0} (name : Name) (o : Option A) (rest : Asked N A) (x : Name) → Contains (seeing name o rest).0 x → (name ≡ x) ⊎ Contains rest.0 x
seen_names name (Some answer) rest x h = inl (alone name x h)
seen_names name None rest x h = cons_cases name rest.0 x h

met_names : {N A : Type 0} (name : Name) (o : Option A) (sees : Summary → Option A) (known : Known) (rest : Asked N A) (x : Name) → Contains (meeting name o sees known (λ class. rest)).0 x → (name ≡ x) ⊎ Contains rest.0 x
met_names name (Some answer) sees known rest x h = none_in x h
met_names name None sees Absent rest x h = inl (alone name x h)
met_names name None sees Broken rest x h = inl (alone name x h)
met_names name None sees (IsClass class) rest x h = seen_names name (sees class) rest x h

-- a search looks at names that are gone along, and then at what is behind them
search_names : {N A : Type 0} (s : Search A) (map : Map) (names : List Name) (behind : Asked N A) (x : Name) → Contains (search_over s map names behind).0 x → Contains names x ⊎ Contains behind.0 x
search_names s map [] behind x h = inr h
search_names s map (name ∷ names) behind x h =
    elim (met_names name (s.meets name) s.sees (map name) (search_over s map names behind) x h) [
      | inl same ↦ inl (head name x names same)
      | inr later ↦ elim (search_names s map names behind x later) [
        | inl among ↦ inl (Contains-append_right (name ∷ []) names x among)
        | inr after ↦ inr after
      ]
    ]

end_names : {N A : Type 0} (s : Search A) (end : Option Link) (gone : N) (x : Name) → Contains (at_end s end gone).0 x → Contains (bad_name end) x
end_names s None gone x h = h
end_names s (Some (Cycle name)) gone x h = h
end_names {N} {A} s (Some (NotFound name)) gone x h =
    elim (met_names {N = N} {A = A} name (s.meets name) s.sees Absent ([], search.Went gone) x h) [ inl same ↦ head name x [] same | inr none ↦ none_in x none ]
end_names {N} {A} s (Some (link.Broken name)) gone x h =
    elim (met_names {N = N} {A = A} name (s.meets name) s.sees Broken ([], search.Went gone) x h) [ inl same ↦ head name x [] same | inr none ↦ none_in x none ]

-- a search along a walk looks at names of the walk
pub walk_names : {A : Type 0} (s : Search A) (map : Map) {name : Name} {names : List Name} {end : Option Link} → IsWalk map name names end → (x : Name) → Contains (names_by map (walk s name)) x → Contains (come_to names end) x
walk_names {A} s map {name} {names} {end} is x h =
    let over : names_by map (walk s name) ≡ (search_over s map names (at_end s end names)).0 = ap (λ (p : Asked (List Name) A). p.0) (along_walk s map is) in
    let there = subst (λ (l : List Name). Contains l x) over h in
    elim (search_names s map names (at_end s end names) x there) [
      | inl among ↦ Contains-append_left names (bad_name end) x among
      | inr after ↦ Contains-append_right names (bad_name end) x (end_names s end names x after)
    ]

pub subtype_names : (map : Map) (sub sup : Name) {names : List Name} {end : Option Link} → IsWalk map sub names end → (x : Name) → Contains (names_by map (subtype sub sup)) x → Contains (come_to names end) x
unfolding subtype
subtype_names map sub sup is x h =
    let s = among (sup ∷ []) in
    let whole : names_by map (subtype sub sup) ≡ names_by map (walk s sub) = names_by-then map (walk s sub) (λ end. Answered (was_met end)) ∙ append-nil (names_by map (walk s sub)) in
    walk_names s map is x (subst (λ (l : List Name). Contains l x) whole h)

-- so does one along the superclasses alone
chain_names : {A : Type 0} (s : Search A) (map : Map) {name : Name} {names : List Name} {end : Option Link} → IsWalk map name names end → (x : Name) → Contains (names_by map (chain s most [] name)) x → Contains (come_to names end) x
chain_names {A} s map {name} (IsWalk.stopped {classes} {bad} higher) x h =
    let over : names_by map (chain s most [] name) ≡ (search_over s map (names_of classes) (at_end s (Some bad) classes)).0 = ap (λ (p : Asked (List Class) A). p.0) (along_chain s map higher) in
    let there = subst (λ (l : List Name). Contains l x) over h in
    elim (search_names s map (names_of classes) (at_end s (Some bad) classes) x there) [
      | inl among ↦ Contains-append_left (names_of classes) (bad_name (Some bad)) x among
      | inr after ↦ Contains-append_right (names_of classes) (bad_name (Some bad)) x (end_names s (Some bad) classes x after)
    ]
chain_names {A} s map {name} (IsWalk.through {classes} {others} {end} higher beside) x h =
    let over : names_by map (chain s most [] name) ≡ (search_over s map (names_of classes) (at_end {N = List Class} s None classes)).0 = ap (λ (p : Asked (List Class) A). p.0) (along_chain s map higher) in
    let there = subst (λ (l : List Name). Contains l x) over h in
    elim (search_names s map (names_of classes) (at_end {N = List Class} s None classes) x there) [
      | inl among ↦ Contains-append_left (names_of classes ++ others) (bad_name end) x (Contains-append_left (names_of classes) others x among)
      | inr after ↦ none_in x after
    ]

pub superclass_names : (map : Map) (name : Name) {names : List Name} {end : Option Link} → IsWalk map name names end → (x : Name) → Contains (names_by map (superclasses name)) x → Contains (come_to names end) x
unfolding superclasses
superclass_names map name is x h =
    let s = among [] in
    let whole : names_by map (superclasses name) ≡ names_by map (chain s most [] name) = names_by-then map (chain s most [] name) (λ end. Answered (gone_along end)) ∙ append-nil (names_by map (chain s most [] name)) in
    chain_names s map is x (subst (λ (l : List Name). Contains l x) whole h)

pub first_names : (map : Map) (sought : List Name) (name : Name) {names : List Name} {end : Option Link} → IsWalk map name names end → (x : Name) → Contains (names_by map (first_above sought name)) x → Contains (come_to names end) x
unfolding first_above
first_names map sought name is x h =
    let s = among sought in
    let whole : names_by map (first_above sought name) ≡ names_by map (chain s most [] name) = names_by-then map (chain s most [] name) (λ end. Answered (met_or_object end)) ∙ append-nil (names_by map (chain s most [] name)) in
    chain_names s map is x (subst (λ (l : List Name). Contains l x) whole h)

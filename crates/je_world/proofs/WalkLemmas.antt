-- What the searches along walks come to, by the rules of the walks.
use Rattle.std.proofs.Common.{◌≡◌, ℕ, suc, List, [], ◌∷◌, ◌++◌, Option, Some, None, sym, ap, ◌∙◌, append_assoc}
use Rattle.std.proofs.lemmas.List.{append-nil}
use Rattle.je_desc.specs.declared.summary.Summary.{Summary}
use Rattle.je_world.specs.declared.link.Link.{Link}
use Rattle.je_world.specs.Question.{Name, IsClass, Map}
use Rattle.je_world.specs.Walk.{Class, names_of, most, Chain, Above, Sides, IsWalk, Fields}
use Rattle.je_world.specs.Search.{Search, Went, Asked, asked_by, meeting, search_over, at_end, went_then, on_to, chain, above, sides, walk, fields, field_walk}
use Rattle.je_world.proofs.SearchLemmas.{asked_then, asked_by-then, search_over-then, search_over-append, meeting_absent, meeting_broken, meeting_class, at_bad, chain_again, chain_enters, above_done, above_again, above_passed, above_enters, fields_again, fields_enters}

module _ {A : Type 0} (s : Search A) (map : Map) where
  -- a name under which there is a class
  enters : {M : Type 0} (name : Name) (class : Summary) (rest other : Summary → Asked M A) → map name ≡ IsClass class → rest class ≡ other class → meeting name (s.meets name) s.sees (map name) rest ≡ meeting name (s.meets name) s.sees (map name) other
  enters name class rest other is same =
      ap (λ known. meeting name (s.meets name) s.sees known rest) is
      ∙ meeting_class name (s.meets name) s.sees class rest other same
      ∙ sym (ap (λ known. meeting name (s.meets name) s.sees known other) is)

  -- a part whose end is bad, and what would come behind it
  stops : {N M : Type 0} (names : List Name) (bad : Link) (gone : N) (other : M) (p : Asked N A) (next : N → Asked M A) → p ≡ search_over s map names (at_end s (Some bad) gone) → asked_then p next ≡ search_over s map names (at_end s (Some bad) other)
  stops {N} {M} names bad gone other p next is =
      ap (λ (x : Asked N A). asked_then x next) is
      ∙ search_over-then s map names (at_end s (Some bad) gone) next
      ∙ ap (λ (x : Asked M A). search_over s map names x) (at_bad s bad gone other next)

  -- a part that was gone along, and what comes behind it
  goes : {N M : Type 0} (inner outer : List Name) (gone : N) (behind : Asked M A) (p : Asked N A) (next : N → Asked M A) → p ≡ search_over s map inner ([], Went gone) → next gone ≡ search_over s map outer behind → asked_then p next ≡ search_over s map (inner ++ outer) behind
  goes {N} {M} inner outer gone behind p next is then =
      ap (λ (x : Asked N A). asked_then x next) is
      ∙ search_over-then s map inner ([], Went gone) next
      ∙ ap (λ (x : Asked M A). search_over s map inner x) then
      ∙ sym (search_over-append s map inner outer behind)

  pub along_chain : {left : ℕ} {so_far : List Class} {name : Name} {classes : List Class} {end : Option Link} → Chain map left so_far name classes end → asked_by map (chain s left so_far name) ≡ search_over s map (names_of classes) (at_end s end (so_far ++ classes))
  along_chain {left = left} {so_far = so_far} {name = name} (Chain.again h) = chain_again map s left so_far name h
  along_chain {so_far = so_far} {name = name} (Chain.absent {left = left} h is) =
      chain_enters map s left so_far name h
      ∙ ap (λ known. meeting name (s.meets name) s.sees known (λ class. asked_by map (on_to (so_far ++ (name, class.interfaces) ∷ []) class.super_name (chain s left)))) is
      ∙ meeting_absent name (s.meets name) s.sees _ _
  along_chain {so_far = so_far} {name = name} (Chain.broken {left = left} h is) =
      chain_enters map s left so_far name h
      ∙ ap (λ known. meeting name (s.meets name) s.sees known (λ class. asked_by map (on_to (so_far ++ (name, class.interfaces) ∷ []) class.super_name (chain s left)))) is
      ∙ meeting_broken name (s.meets name) s.sees _ _
  along_chain {so_far = so_far} {name = name} (Chain.top {left = left} class h is none) =
      chain_enters map s left so_far name h
      ∙ enters name class _ (λ _. ([], Went (so_far ++ (name, class.interfaces) ∷ []))) is
      (ap (λ o. asked_by map (on_to (so_far ++ (name, class.interfaces) ∷ []) o (chain s left))) none)
  along_chain {so_far = so_far} {name = name} (Chain.up {left = left} class super {classes} {end} h is some deeper) =
      chain_enters map s left so_far name h
      ∙ enters name class _ (λ _. search_over s map (names_of classes) (at_end s end (so_far ++ ((name, class.interfaces) ∷ classes)))) is
      (ap (λ o. asked_by map (on_to (so_far ++ (name, class.interfaces) ∷ []) o (chain s left))) some
      ∙ along_chain deeper
      ∙ ap (λ (gone : List Class). search_over s map (names_of classes) (at_end s end gone)) (append_assoc so_far ((name, class.interfaces) ∷ []) classes))

  joined : (so_far : List Name) (name : Name) (inner outer : List Name) → ((so_far ++ name ∷ []) ++ inner) ++ outer ≡ so_far ++ (name ∷ (inner ++ outer))
  joined so_far name inner outer =
      append_assoc (so_far ++ name ∷ []) inner outer ∙ append_assoc so_far (name ∷ []) (inner ++ outer)

  pub along_above : {left : ℕ} {below so_far names new : List Name} {end : Option Link} → Above map left below so_far names new end → asked_by map (above s left below so_far names) ≡ search_over s map new (at_end s end (so_far ++ new))
  along_above {so_far = so_far} (Above.done {left} {below}) =
      above_done map s left below so_far ∙ ap (λ (gone : List Name). ([], Went gone)) (sym (append-nil so_far))
  along_above (Above.again {left} {below} {so_far} {name} {rest} h) = above_again map s left below so_far name rest h
  along_above (Above.passed {left} {below} {so_far} {name} {rest} h met further) =
      above_passed map s left below so_far name rest h met ∙ along_above further
  along_above (Above.absent {left} {below} {so_far} {name} {rest} h new is) =
      above_enters map s left below so_far name rest h new
      ∙ ap (λ known. meeting name (s.meets name) s.sees known (λ class. asked_by map (went_then (above s left (name ∷ below) (so_far ++ name ∷ []) class.interfaces) (λ names. above s (suc left) below names rest)))) is
      ∙ meeting_absent name (s.meets name) s.sees _ _
  along_above (Above.broken {left} {below} {so_far} {name} {rest} h new is) =
      above_enters map s left below so_far name rest h new
      ∙ ap (λ known. meeting name (s.meets name) s.sees known (λ class. asked_by map (went_then (above s left (name ∷ below) (so_far ++ name ∷ []) class.interfaces) (λ names. above s (suc left) below names rest)))) is
      ∙ meeting_broken name (s.meets name) s.sees _ _
  along_above (Above.stopped {left} {below} {so_far} {name} {rest} {inner} {bad} class h new is deeper) =
      above_enters map s left below so_far name rest h new
      ∙ enters name class _ (λ _. search_over s map inner (at_end s (Some bad) (so_far ++ (name ∷ inner)))) is
      (asked_by-then map (above s left (name ∷ below) (so_far ++ name ∷ []) class.interfaces) (λ names. above s (suc left) below names rest)
      ∙ stops inner bad ((so_far ++ name ∷ []) ++ inner) (so_far ++ (name ∷ inner)) _ (λ names. asked_by map (above s (suc left) below names rest)) (along_above deeper))
  along_above (Above.through {left} {below} {so_far} {name} {rest} {inner} {outer} {end} class h new is deeper further) =
      above_enters map s left below so_far name rest h new
      ∙ enters name class _ (λ _. search_over s map (inner ++ outer) (at_end s end (so_far ++ (name ∷ (inner ++ outer))))) is
      (asked_by-then map (above s left (name ∷ below) (so_far ++ name ∷ []) class.interfaces) (λ names. above s (suc left) below names rest)
      ∙ goes inner outer ((so_far ++ name ∷ []) ++ inner) (at_end s end (so_far ++ (name ∷ (inner ++ outer)))) _ (λ names. asked_by map (above s (suc left) below names rest)) (along_above deeper)
      (along_above further ∙ ap (λ (gone : List Name). search_over s map outer (at_end s end gone)) (joined so_far name inner outer)))

  along_sides : {below so_far : List Name} {classes : List Class} {new : List Name} {end : Option Link} → Sides map below so_far classes new end → asked_by map (sides s below so_far classes) ≡ search_over s map new (at_end s end (so_far ++ new))
  unfolding sides
  along_sides {so_far = so_far} (Sides.done {below}) = ap (λ (gone : List Name). ([], Went gone)) (sym (append-nil so_far))
  along_sides (Sides.stopped {below} {so_far} {class} {rest} {inner} {bad} deeper) =
      asked_by-then map (above s most (class.0 ∷ below) so_far class.1) (λ names. sides s (class.0 ∷ below) names rest)
      ∙ stops inner bad (so_far ++ inner) (so_far ++ inner) _ (λ names. asked_by map (sides s (class.0 ∷ below) names rest)) (along_above deeper)
  along_sides (Sides.through {below} {so_far} {class} {rest} {inner} {outer} {end} deeper further) =
      asked_by-then map (above s most (class.0 ∷ below) so_far class.1) (λ names. sides s (class.0 ∷ below) names rest)
      ∙ goes inner outer (so_far ++ inner) (at_end s end (so_far ++ (inner ++ outer))) _ (λ names. asked_by map (sides s (class.0 ∷ below) names rest)) (along_above deeper)
      (along_sides further ∙ ap (λ (gone : List Name). search_over s map outer (at_end s end gone)) (append_assoc so_far inner outer))

  pub along_walk : {name : Name} {names : List Name} {end : Option Link} → IsWalk map name names end → asked_by map (walk s name) ≡ search_over s map names (at_end s end names)
  unfolding walk
  along_walk {name} (IsWalk.stopped {classes} {bad} up) =
      asked_by-then map (chain s most [] name) (λ classes. sides s [] (names_of classes) classes)
      ∙ stops (names_of classes) bad classes (names_of classes) _ (λ classes. asked_by map (sides s [] (names_of classes) classes)) (along_chain up)
  along_walk {name} (IsWalk.through {classes} {others} {end} up beside) =
      asked_by-then map (chain s most [] name) (λ classes. sides s [] (names_of classes) classes)
      ∙ goes (names_of classes) others classes (at_end s end (names_of classes ++ others)) _ (λ classes. asked_by map (sides s [] (names_of classes) classes)) (along_chain up) (along_sides beside)

  along_fields : {left : ℕ} {below so_far : List Name} {name : Name} {new : List Name} {end : Option Link} → Fields map left below so_far name new end → asked_by map (fields s left below so_far name) ≡ search_over s map new (at_end s end (so_far ++ new))
  along_fields (Fields.again {left} {below} {so_far} {name} h) = fields_again map s left below so_far name h
  along_fields (Fields.absent {left} {below} {so_far} {name} h is) =
      fields_enters map s left below so_far name h
      ∙ ap (λ known. meeting name (s.meets name) s.sees known (λ class. asked_by map (went_then (above s most (name ∷ below) (so_far ++ name ∷ []) class.interfaces) (λ names. on_to names class.super_name (fields s left (name ∷ below)))))) is
      ∙ meeting_absent name (s.meets name) s.sees _ _
  along_fields (Fields.broken {left} {below} {so_far} {name} h is) =
      fields_enters map s left below so_far name h
      ∙ ap (λ known. meeting name (s.meets name) s.sees known (λ class. asked_by map (went_then (above s most (name ∷ below) (so_far ++ name ∷ []) class.interfaces) (λ names. on_to names class.super_name (fields s left (name ∷ below)))))) is
      ∙ meeting_broken name (s.meets name) s.sees _ _
  along_fields (Fields.stopped {left} {below} {so_far} {name} {inner} {bad} class h is deeper) =
      fields_enters map s left below so_far name h
      ∙ enters name class _ (λ _. search_over s map inner (at_end s (Some bad) (so_far ++ (name ∷ inner)))) is
      (asked_by-then map (above s most (name ∷ below) (so_far ++ name ∷ []) class.interfaces) (λ names. on_to names class.super_name (fields s left (name ∷ below)))
      ∙ stops inner bad ((so_far ++ name ∷ []) ++ inner) (so_far ++ (name ∷ inner)) _ (λ names. asked_by map (on_to names class.super_name (fields s left (name ∷ below)))) (along_above deeper))
  along_fields (Fields.top {left} {below} {so_far} {name} {inner} class h is none deeper) =
      fields_enters map s left below so_far name h
      ∙ enters name class _ (λ _. search_over s map inner (at_end s None (so_far ++ (name ∷ inner)))) is
      (asked_by-then map (above s most (name ∷ below) (so_far ++ name ∷ []) class.interfaces) (λ names. on_to names class.super_name (fields s left (name ∷ below)))
      ∙ goes inner [] ((so_far ++ name ∷ []) ++ inner) ([], Went (so_far ++ (name ∷ inner))) _ (λ names. asked_by map (on_to names class.super_name (fields s left (name ∷ below)))) (along_above deeper)
      (ap (λ o. asked_by map (on_to ((so_far ++ name ∷ []) ++ inner) o (fields s left (name ∷ below)))) none ∙ ap (λ (gone : List Name). ([], Went gone)) (append_assoc so_far (name ∷ []) inner))
      ∙ ap (λ (names : List Name). search_over s map names ([], Went (so_far ++ (name ∷ inner)))) (append-nil inner))
  along_fields (Fields.up {left} {below} {so_far} {name} {inner} {outer} {end} class super h is some deeper further) =
      fields_enters map s left below so_far name h
      ∙ enters name class _ (λ _. search_over s map (inner ++ outer) (at_end s end (so_far ++ (name ∷ (inner ++ outer))))) is
      (asked_by-then map (above s most (name ∷ below) (so_far ++ name ∷ []) class.interfaces) (λ names. on_to names class.super_name (fields s left (name ∷ below)))
      ∙ goes inner outer ((so_far ++ name ∷ []) ++ inner) (at_end s end (so_far ++ (name ∷ (inner ++ outer)))) _ (λ names. asked_by map (on_to names class.super_name (fields s left (name ∷ below)))) (along_above deeper)
      (ap (λ o. asked_by map (on_to ((so_far ++ name ∷ []) ++ inner) o (fields s left (name ∷ below)))) some
      ∙ along_fields further
      ∙ ap (λ (gone : List Name). search_over s map outer (at_end s end gone)) (joined so_far name inner outer)))

  pub along_field_walk : {name : Name} {gone : List Name} {end : Option Link} → Fields map most [] [] name gone end → asked_by map (field_walk s name) ≡ search_over s map gone (at_end s end gone)
  unfolding field_walk
  along_field_walk h = along_fields h

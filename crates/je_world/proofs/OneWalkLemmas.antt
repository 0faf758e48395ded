-- Each name has a walk, and one alone.
use Rattle.std.proofs.Common.{◌≡◌, ℕ, zero, suc, Bool, true, false, List, [], ◌∷◌, ◌++◌, Option, Some, None, refl, sym, ap, ◌∙◌, inl, inr, ◌⊎◌}
use Rattle.std.proofs.lemmas.List.{append_cancel_right}
use Rattle.je_desc.specs.declared.summary.Summary.{Summary}
use Rattle.je_world.specs.declared.link.Link.{Link}
use Rattle.je_world.specs.declared.link.Link.TheVariants.{NotFound, Cycle}
use Rattle.je_world.specs.declared.link.Link.TheVariants as link
use Rattle.je_world.specs.Question.{Name, Known, Absent, Broken, IsClass, Map}
use Rattle.je_world.specs.World.{is_listed}
use Rattle.je_world.specs.Walk.{Class, names_of, most, Chain, Above, Sides, IsWalk, Fields, IsFieldWalk, each_once}
use Rattle.je_world.specs.Search.{no_search, Ending, Went, Bad, Decided, Asked, meeting, search_over, at_end}
use Rattle.je_world.proofs.WalkLemmas.{along_walk, along_field_walk}

tested : (b : Bool) → (b ≡ true) ⊎ (b ≡ false)
tested true = inl refl
tested false = inr refl

module _ (map : Map) where
  -- ---- some walk

  abbrev SomeChain : ℕ → List Class → Name → Type 0
  SomeChain left so_far name =
      (classes : List Class) × (end : Option Link) × Chain map left so_far name classes end

  chain_up : (left : ℕ) (so_far : List Class) (name : Name) (class : Summary) (super : Option Name) → class.super_name ≡ super → is_listed name (names_of so_far) ≡ false → map name ≡ IsClass class → ((so_far : List Class) (name : Name) → SomeChain left so_far name) → SomeChain (suc left) so_far name
  chain_up left so_far name class None none h is deeper =
      ((name, class.interfaces) ∷ [], None, Chain.top class h is none)
  chain_up left so_far name class (Some super) some h is deeper =
      let r = deeper (so_far ++ (name, class.interfaces) ∷ []) super in
      ((name, class.interfaces) ∷ r.0, r.1, Chain.up class super h is some r.2)

  chain_at : (left : ℕ) (so_far : List Class) (name : Name) (known : Known) → map name ≡ known → is_listed name (names_of so_far) ≡ false → ((so_far : List Class) (name : Name) → SomeChain left so_far name) → SomeChain (suc left) so_far name
  chain_at left so_far name Absent is h deeper = ([], Some (NotFound name), Chain.absent h is)
  chain_at left so_far name Broken is h deeper = ([], Some (link.Broken name), Chain.broken h is)
  chain_at left so_far name (IsClass class) is h deeper = chain_up left so_far name class class.super_name refl h is deeper

  some_chain : (left : ℕ) (so_far : List Class) (name : Name) → SomeChain left so_far name
  some_chain zero so_far name = ([], Some (Cycle name), Chain.again tt)
  some_chain (suc left) so_far name =
      elim (tested (is_listed name (names_of so_far))) [
        | inl h ↦ ([], Some (Cycle name), Chain.again h)
        | inr h ↦ chain_at left so_far name (map name) refl h (some_chain left)
      ]

  abbrev SomeAbove : ℕ → List Name → List Name → List Name → Type 0
  SomeAbove left below so_far names =
      (new : List Name) × (end : Option Link) × Above map left below so_far names new end

  above_in : (left : ℕ) (below so_far : List Name) (name : Name) (rest : List Name) (class : Summary) (inner : List Name) (end : Option Link) → Above map left (name ∷ below) (so_far ++ name ∷ []) class.interfaces inner end → is_listed name below ≡ false → is_listed name so_far ≡ false → map name ≡ IsClass class → ((so_far : List Name) → SomeAbove (suc left) below so_far rest) → SomeAbove (suc left) below so_far (name ∷ rest)
  above_in left below so_far name rest class inner (Some bad) deeper h new is further =
      (name ∷ inner, Some bad, Above.stopped class h new is deeper)
  above_in left below so_far name rest class inner None deeper h new is further =
      let r = further ((so_far ++ name ∷ []) ++ inner) in
      (name ∷ (inner ++ r.0), r.1, Above.through class h new is deeper r.2)

  above_at : (left : ℕ) (below so_far : List Name) (name : Name) (rest : List Name) (known : Known) → map name ≡ known → is_listed name below ≡ false → is_listed name so_far ≡ false → ((below so_far names : List Name) → SomeAbove left below so_far names) → ((so_far : List Name) → SomeAbove (suc left) below so_far rest) → SomeAbove (suc left) below so_far (name ∷ rest)
  above_at left below so_far name rest Absent is h new deeper further = ([], Some (NotFound name), Above.absent h new is)
  above_at left below so_far name rest Broken is h new deeper further =
      ([], Some (link.Broken name), Above.broken h new is)
  above_at left below so_far name rest (IsClass class) is h new deeper further =
      let r = deeper (name ∷ below) (so_far ++ name ∷ []) class.interfaces in
      above_in left below so_far name rest class r.0 r.1 r.2 h new is further

  above_each : (left : ℕ) → ((below so_far names : List Name) → SomeAbove left below so_far names) → (below : List Name) (names : List Name) (so_far : List Name) → SomeAbove (suc left) below so_far names
  above_each left deeper below [] so_far = ([], None, Above.done)
  above_each left deeper below (name ∷ rest) so_far =
      elim (tested (is_listed name below)) [
        | inl h ↦ ([], Some (Cycle name), Above.again h)
        | inr h ↦ elim (tested (is_listed name so_far)) [
          | inl met ↦ let r = above_each left deeper below rest so_far in (r.0, r.1, Above.passed h met r.2)
          | inr new ↦ above_at left below so_far name rest (map name) refl h new deeper (above_each left deeper below rest)
        ]
      ]

  some_above : (left : ℕ) (below so_far names : List Name) → SomeAbove left below so_far names
  some_above zero below so_far [] = ([], None, Above.done)
  some_above zero below so_far (name ∷ rest) = ([], Some (Cycle name), Above.again tt)
  some_above (suc left) below so_far names = above_each left (some_above left) below names so_far

  abbrev SomeSides : List Name → List Name → List Class → Type 0
  SomeSides below so_far classes =
      (new : List Name) × (end : Option Link) × Sides map below so_far classes new end

  sides_in : (below so_far : List Name) (class : Class) (rest : List Class) (inner : List Name) (end : Option Link) → Above map most (class.0 ∷ below) so_far class.1 inner end → ((below so_far : List Name) → SomeSides below so_far rest) → SomeSides below so_far (class ∷ rest)
  sides_in below so_far class rest inner (Some bad) deeper further = (inner, Some bad, Sides.stopped deeper)
  sides_in below so_far class rest inner None deeper further =
      let r = further (class.0 ∷ below) (so_far ++ inner) in
      (inner ++ r.0, r.1, Sides.through deeper r.2)

  some_sides : (classes : List Class) (below so_far : List Name) → SomeSides below so_far classes
  some_sides [] below so_far = ([], None, Sides.done)
  some_sides (class ∷ rest) below so_far =
      let r = some_above most (class.0 ∷ below) so_far class.1 in
      sides_in below so_far class rest r.0 r.1 r.2 (some_sides rest)

  abbrev SomeWalk : Name → Type 0
  SomeWalk name = (names : List Name) × (end : Option Link) × IsWalk map name names end

  walk_by : (name : Name) (classes : List Class) (end : Option Link) → Chain map most [] name classes end → SomeWalk name
  walk_by name classes (Some bad) up = (names_of classes, Some bad, IsWalk.stopped up)
  walk_by name classes None up =
      let r = some_sides classes [] (names_of classes) in
      (names_of classes ++ r.0, r.1, IsWalk.through up r.2)

  pub some_walk : (name : Name) → SomeWalk name
  some_walk name = let r = some_chain most [] name in walk_by name r.0 r.1 r.2

  abbrev SomeFields : ℕ → List Name → List Name → Name → Type 0
  SomeFields left below so_far name =
      (new : List Name) × (end : Option Link) × Fields map left below so_far name new end

  fields_up : (left : ℕ) (below so_far : List Name) (name : Name) (class : Summary) (inner : List Name) (super : Option Name) → class.super_name ≡ super → is_listed name below ≡ false → map name ≡ IsClass class → Above map most (name ∷ below) (so_far ++ name ∷ []) class.interfaces inner None → ((below so_far : List Name) (name : Name) → SomeFields left below so_far name) → SomeFields (suc left) below so_far name
  fields_up left below so_far name class inner None none h is deeper further =
      (name ∷ inner, None, Fields.top class h is none deeper)
  fields_up left below so_far name class inner (Some super) some h is deeper further =
      let r = further (name ∷ below) ((so_far ++ name ∷ []) ++ inner) super in
      (name ∷ (inner ++ r.0), r.1, Fields.up class super h is some deeper r.2)

  fields_in : (left : ℕ) (below so_far : List Name) (name : Name) (class : Summary) (inner : List Name) (end : Option Link) → Above map most (name ∷ below) (so_far ++ name ∷ []) class.interfaces inner end → is_listed name below ≡ false → map name ≡ IsClass class → ((below so_far : List Name) (name : Name) → SomeFields left below so_far name) → SomeFields (suc left) below so_far name
  fields_in left below so_far name class inner (Some bad) deeper h is further =
      (name ∷ inner, Some bad, Fields.stopped class h is deeper)
  fields_in left below so_far name class inner None deeper h is further =
      fields_up left below so_far name class inner class.super_name refl h is deeper further

  fields_at : (left : ℕ) (below so_far : List Name) (name : Name) (known : Known) → map name ≡ known → is_listed name below ≡ false → ((below so_far : List Name) (name : Name) → SomeFields left below so_far name) → SomeFields (suc left) below so_far name
  fields_at left below so_far name Absent is h further = ([], Some (NotFound name), Fields.absent h is)
  fields_at left below so_far name Broken is h further = ([], Some (link.Broken name), Fields.broken h is)
  fields_at left below so_far name (IsClass class) is h further =
      let r = some_above most (name ∷ below) (so_far ++ name ∷ []) class.interfaces in
      fields_in left below so_far name class r.0 r.1 r.2 h is further

  some_fields : (left : ℕ) (below so_far : List Name) (name : Name) → SomeFields left below so_far name
  some_fields zero below so_far name = ([], Some (Cycle name), Fields.again tt)
  some_fields (suc left) below so_far name =
      elim (tested (is_listed name below)) [
        | inl h ↦ ([], Some (Cycle name), Fields.again h)
        | inr h ↦ fields_at left below so_far name (map name) refl h (some_fields left)
      ]

  pub some_field_walk : (name : Name) → (names : List Name) × (end : Option Link) × IsFieldWalk map name names end
  some_field_walk name =
      let r = some_fields most [] [] name in
      (each_once [] r.0, r.1, record { gone = r.0; fields = r.2; once = refl })

  -- ---- one walk

  abbrev AreClasses : List Name → Type 0
  AreClasses [] = Unit {0}
  AreClasses (name ∷ names) =
      ((class : Summary) × (map name ≡ IsClass class)) × AreClasses names

  classes-append : (front back : List Name) → AreClasses front → AreClasses back → AreClasses (front ++ back)
  classes-append [] back f b = b
  classes-append (name ∷ front) back f b = (f.0, classes-append front back f.1 b)

  chain_classes : {left : ℕ} {so_far : List Class} {name : Name} {classes : List Class} {end : Option Link} → Chain map left so_far name classes end → AreClasses (names_of classes)
  chain_classes (Chain.again h) = tt
  chain_classes (Chain.absent h is) = tt
  chain_classes (Chain.broken h is) = tt
  chain_classes (Chain.top class h is none) = ((class, is), tt)
  chain_classes (Chain.up class super h is some deeper) = ((class, is), chain_classes deeper)

  above_classes : {left : ℕ} {below so_far names new : List Name} {end : Option Link} → Above map left below so_far names new end → AreClasses new
  above_classes Above.done = tt
  above_classes (Above.again h) = tt
  above_classes (Above.passed h met further) = above_classes further
  above_classes (Above.absent h new is) = tt
  above_classes (Above.broken h new is) = tt
  above_classes (Above.stopped class h new is deeper) = ((class, is), above_classes deeper)
  above_classes (Above.through {inner = inner} {outer = outer} class h new is deeper further) =
      ((class, is), classes-append inner outer (above_classes deeper) (above_classes further))

  sides_classes : {below so_far : List Name} {classes : List Class} {new : List Name} {end : Option Link} → Sides map below so_far classes new end → AreClasses new
  sides_classes Sides.done = tt
  sides_classes (Sides.stopped deeper) = above_classes deeper
  sides_classes (Sides.through {inner = inner} {outer = outer} deeper further) =
      classes-append inner outer (above_classes deeper) (sides_classes further)

  walk_classes : {name : Name} {names : List Name} {end : Option Link} → IsWalk map name names end → AreClasses names
  walk_classes (IsWalk.stopped up) = chain_classes up
  walk_classes (IsWalk.through {classes = classes} {others = others} up beside) =
      classes-append (names_of classes) others (chain_classes up) (sides_classes beside)

  fields_classes : {left : ℕ} {below so_far : List Name} {name : Name} {new : List Name} {end : Option Link} → Fields map left below so_far name new end → AreClasses new
  fields_classes (Fields.again h) = tt
  fields_classes (Fields.absent h is) = tt
  fields_classes (Fields.broken h is) = tt
  fields_classes (Fields.stopped class h is deeper) = ((class, is), above_classes deeper)
  fields_classes (Fields.top class h is none deeper) = ((class, is), above_classes deeper)
  fields_classes (Fields.up {inner = inner} {outer = outer} class super h is some deeper further) =
      ((class, is), classes-append inner outer (above_classes deeper) (fields_classes further))

  abbrev Plain : Type 0
  Plain = Asked (List Name) (Unit {0})

  -- a search that nothing decides looks at all names
  all_asked : (names : List Name) (behind : Plain) → AreClasses names → search_over no_search map names behind ≡ (names ++ behind.0, behind.1)
  all_asked [] behind known = refl
  all_asked (name ∷ names) behind known =
      ap (λ k. meeting name None (λ class. None) k (λ class. search_over no_search map names behind)) known.0.1
      ∙ ap (λ (p : Plain). (name ∷ p.0, p.1)) (all_asked names behind known.1)

  -- the name behind a walk that is looked at
  abbrev behind : Option Link → List Name
  behind None = []
  behind (Some (NotFound name)) = name ∷ []
  behind (Some (link.Broken name)) = name ∷ []
  behind (Some (Cycle name)) = []

  abbrev end_of : Ending (List Name) (Unit {0}) → Option Link
  end_of (Went gone) = None
  end_of (Bad bad) = Some bad
  end_of (Decided answer) = None

  at_behind : (end : Option Link) (gone : List Name) → let p : Plain = at_end no_search end gone in (p.0 ≡ behind end) × (end_of p.1 ≡ end)
  at_behind None gone = (refl, refl)
  at_behind (Some (NotFound name)) gone = (refl, refl)
  at_behind (Some (link.Broken name)) gone = (refl, refl)
  at_behind (Some (Cycle name)) gone = (refl, refl)

  one : (a b : List Name) (x y : Option Link) (q : Plain) → AreClasses a → AreClasses b → q ≡ search_over no_search map a (at_end no_search x a) → q ≡ search_over no_search map b (at_end no_search y b) → (a ≡ b) × (x ≡ y)
  one a b x y q known others is also =
      let first : q ≡ (a ++ (at_end {A = Unit {0}} no_search x a).0, (at_end {A = Unit {0}} no_search x a).1) = is ∙ all_asked a (at_end no_search x a) known in
      let second : q ≡ (b ++ (at_end {A = Unit {0}} no_search y b).0, (at_end {A = Unit {0}} no_search y b).1) = also ∙ all_asked b (at_end no_search y b) others in
      let ends : x ≡ y = sym (at_behind x a).1 ∙ ap (λ (p : Plain). end_of p.1) (sym first ∙ second) ∙ (at_behind y b).1 in
      let lists : a ++ behind x ≡ b ++ behind y = ap (λ (t : List Name). a ++ t) (sym (at_behind x a).0) ∙ ap (λ (p : Plain). p.0) (sym first ∙ second) ∙ ap (λ (t : List Name). b ++ t) (at_behind y b).0 in
      (append_cancel_right a b (behind x) (lists ∙ ap (λ (e : Option Link). b ++ behind e) (sym ends)), ends)

  pub one_walk : (name : Name) (a b : List Name) (x y : Option Link) → IsWalk map name a x → IsWalk map name b y → (a ≡ b) × (x ≡ y)
  one_walk name a b x y h k =
      one a b x y _ (walk_classes h) (walk_classes k) (along_walk no_search map h) (along_walk no_search map k)

  pub one_field_walk : (name : Name) (a b : List Name) (x y : Option Link) → IsFieldWalk map name a x → IsFieldWalk map name b y → (a ≡ b) × (x ≡ y)
  one_field_walk name a b x y h k =
      let gone = one h.gone k.gone x y _ (fields_classes h.fields) (fields_classes k.fields) (along_field_walk no_search map h.fields) (along_field_walk no_search map k.fields) in
      (h.once ∙ ap (each_once []) gone.0 ∙ sym k.once, gone.1)

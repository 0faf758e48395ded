-- The paths that are asked, one folder after the other.
use Rattle.std.proofs.Common.{◌≡◌, ℕ, ◌⊎◌, List, [], ◌∷◌, ◌++◌, Option, Some, None, Contains, map, take, refl, sym, ap, ◌∙◌, subst, inl, inr, append_assoc, arith, length}
use Rattle.std.specs.Option.{option_map, option_or}
use Rattle.std.specs.Global.{Vec}
use Rattle.std.specs.FinMap.{get}
use Rattle.std.proofs.lemmas.List.{append-nil}
use Rattle.std.proofs.lemmas.List.Elements.{Contains-append_right}
use Rattle.je_base.specs.Files.{Contents, Tells, IsAsked}
use Rattle.je_pool.specs.Path.{path_in}
use Rattle.je_pool.specs.Found.{first_file}
use Rattle.je_pool.specs.Asking.{paths_of, AsksSome, most_read, IsFront}

abbrev Paths : Type 0
Paths = List (List ℕ)

more_none : (old : Option Paths) → old ≡ option_map (λ (so_far : Paths). so_far ++ []) old
more_none None = refl
more_none (Some old) = ap (λ (p : Paths). Some p) (sym (append-nil old))

more_more : (a b : Paths) (old : Option Paths) → option_map (λ (so_far : Paths). so_far ++ b) (option_map (λ (so_far : Paths). so_far ++ a) old) ≡ option_map (λ (so_far : Paths). so_far ++ (a ++ b)) old
more_more a b None = refl
more_more a b (Some old) = ap (λ (p : Paths). Some p) (append_assoc old a b)

-- nothing was asked
pub asks_none : (paths : Paths) (old : Option Paths) → AsksSome paths old old
asks_none paths old = record { asked = []; rest = paths; all = refl; told = more_none old }

-- all of them were
pub asks_all : (paths : Paths) (old new : Option Paths) → new ≡ option_map (λ (so_far : Paths). so_far ++ paths) old → AsksSome paths old new
asks_all paths old new told = record { asked = paths; rest = []; all = sym (append-nil paths); told = told }

-- a read of the path
pub asks_read : (path said : List ℕ) (old new : Option Paths) → said ≡ path → new ≡ option_map (λ (so_far : Paths). so_far ++ said ∷ []) old → AsksSome (path ∷ []) old new
asks_read path said old new is told =
    asks_all (path ∷ []) old new (told ∙ ap (λ (p : List ℕ). option_map (λ (so_far : Paths). so_far ++ p ∷ []) old) is)

-- a read that ended for want of memory
pub asks_memory : (path said : List ℕ) (old new : Option Paths) (reads_old reads_new : ℕ) → said ≡ path → ((new ≡ old) × (reads_new ≡ reads_old)) ⊎ IsAsked said old reads_old new reads_new → AsksSome (path ∷ []) old new
asks_memory path said old new reads_old reads_new is h =
    elim h [
      | inl same ↦ rw same.0 (asks_none (path ∷ []) old)
      | inr asked ↦ asks_read path said old new is asked.0
    ]

-- the first file is the same in these folders and in those
abbrev pub SameFirst : Option Contents → Paths → Paths → List ℕ → Type 0
SameFirst None a b name = Unit {0}
SameFirst (Some files) a b name = first_file files a name ≡ first_file files b name

-- the folders before those that are left were asked, and have no file
pub record Gone (roots left : Paths) (name : List ℕ) (contents : Option Contents) (old new : Option Paths) : Type 0 where
  pub same : SameFirst contents roots left name
  pub done : Paths
  pub all : paths_of roots (Some name) ≡ done ++ paths_of left (Some name)
  pub told : new ≡ option_map (λ so_far. so_far ++ done) old

same_refl : (contents : Option Contents) (roots : Paths) (name : List ℕ) → SameFirst contents roots roots name
same_refl None roots name = tt
same_refl (Some files) roots name = refl

pub gone_start : (roots : Paths) (name : List ℕ) (contents : Option Contents) (old : Option Paths) → Gone roots roots name contents old old
gone_start roots name contents old = record { same = same_refl contents roots name; done = []; all = refl; told = more_none old }

-- a folder without the file
no_file : (o : Option (List ℕ)) (x : Option (List ℕ)) → None ≡ option_map (take most_read) o → option_or o x ≡ x
no_file None x h = refl
no_file (Some bytes) x h = absurd cc

passed : (contents : Option Contents) (roots rest : Paths) (root name : List ℕ) → SameFirst contents roots (root ∷ rest) name → Tells contents (path_in root name) most_read None → SameFirst contents roots rest name
passed None roots rest root name h tells = tt
passed (Some files) roots rest root name h tells =
    h ∙ no_file (get files (path_in root name)) (first_file files rest name) tells

pub gone_on : (roots rest : Paths) (root name : List ℕ) (contents : Option Contents) (old now new : Option Paths) → Gone roots (root ∷ rest) name contents old now → Tells contents (path_in root name) most_read None → new ≡ option_map (λ (so_far : Paths). so_far ++ path_in root name ∷ []) now → Gone roots rest name contents old new
gone_on roots rest root name contents old now new g tells asked = record {
  same = passed contents roots rest root name g.same tells;
  done = g.done ++ path_in root name ∷ [];
  all = g.all ∙ sym (append_assoc g.done (path_in root name ∷ []) (paths_of rest (Some name)));
  told = asked ∙ ap (option_map (λ (so_far : Paths). so_far ++ path_in root name ∷ [])) g.told ∙ more_more g.done (path_in root name ∷ []) old;
}

-- the folder has the file
a_file : (bytes : List ℕ) (o : Option (List ℕ)) (x : Option (List ℕ)) → Some bytes ≡ option_map (take most_read) o → Some bytes ≡ option_map (take most_read) (option_or o x)
a_file bytes None x h = absurd cc
a_file bytes (Some whole) x h = h

pub gone_found : (roots rest : Paths) (root name : List ℕ) (contents : Option Contents) (old now : Option Paths) (v : Vec ℕ) → Gone roots (root ∷ rest) name contents old now → Tells contents (path_in root name) most_read (Some v) → IsFront contents roots name (Some v)
gone_found roots rest root name None old now v g tells = tt
gone_found roots rest root name (Some files) old now v g tells =
    a_file v.items (get files (path_in root name)) (first_file files rest name) tells ∙ ap (option_map (take most_read)) (sym g.same)

-- no folder has it
pub gone_end : (roots : Paths) (name : List ℕ) (contents : Option Contents) (old now : Option Paths) → Gone roots [] name contents old now → IsFront contents roots name None
gone_end roots name None old now g = tt
gone_end roots name (Some files) old now g = ap (option_map (take most_read)) (sym g.same)

-- what was asked so far
pub gone_asks : (roots left : Paths) (name : List ℕ) (contents : Option Contents) (old now : Option Paths) → Gone roots left name contents old now → AsksSome (paths_of roots (Some name)) old now
gone_asks roots left name contents old now g = record { asked = g.done; rest = paths_of left (Some name); all = g.all; told = g.told }

-- and one folder more
pub gone_asks_one : (roots rest : Paths) (root name : List ℕ) (contents : Option Contents) (old now new : Option Paths) → Gone roots (root ∷ rest) name contents old now → AsksSome (path_in root name ∷ []) now new → AsksSome (paths_of roots (Some name)) old new
gone_asks_one roots rest root name contents old now new g one = record {
  asked = g.done ++ one.asked;
  rest = one.rest ++ paths_of rest (Some name);
  all =
      g.all ∙ ap (λ (p : Paths). g.done ++ (p ++ paths_of rest (Some name))) one.all
      ∙ ap (λ (p : Paths). g.done ++ p) (append_assoc one.asked one.rest (paths_of rest (Some name)))
      ∙ sym (append_assoc g.done one.asked (one.rest ++ paths_of rest (Some name)));
  told = one.told ∙ ap (option_map (λ (so_far : Paths). so_far ++ one.asked)) g.told ∙ more_more g.done one.asked old;
}

first_in : (path : List ℕ) (rest : Paths) → Contains (path ∷ rest) path
first_in path rest = (0, omega arith, refl)

-- the folder's path is one of them
pub gone_path : (roots rest : Paths) (root name : List ℕ) (contents : Option Contents) (old now : Option Paths) → Gone roots (root ∷ rest) name contents old now → Contains (paths_of roots (Some name)) (path_in root name)
gone_path roots rest root name contents old now g =
    rw g.all (Contains-append_right g.done (paths_of (root ∷ rest) (Some name)) (path_in root name) (first_in (path_in root name) (paths_of rest (Some name))))

-- the folders that are left, as they are split
pub gone_left : {A : Type 0} (f : A → List ℕ) {roots : Paths} {name : List ℕ} {contents : Option Contents} {old new : Option Paths} {left rest : List A} {root : A} → left ≡ root ∷ rest → Gone roots (map f left) name contents old new → Gone roots (f root ∷ map f rest) name contents old new
gone_left {A} f {roots} {name} {contents} {old} {new} is g =
    let P : List A → Type 0 = λ strings. Gone roots (map f strings) name contents old new in subst P is g

nothing_left : {A : Type 0} (strings : List A) → length strings ≡ 0 → strings ≡ []
nothing_left [] h = refl
nothing_left (s ∷ strings) h = absurd (omega (arith, h))

-- no folders are left
pub gone_none : {A : Type 0} (f : A → List ℕ) {roots : Paths} {name : List ℕ} {contents : Option Contents} {old new : Option Paths} (left : List A) → length left ≡ 0 → Gone roots (map f left) name contents old new → Gone roots [] name contents old new
gone_none {A} f {roots} {name} {contents} {old} {new} left none g =
    let P : List A → Type 0 = λ strings. Gone roots (map f strings) name contents old new in subst P (nothing_left left none) g

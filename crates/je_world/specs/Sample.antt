-- A few classes and interfaces, for small walks that laws compute.
use Rattle.std.specs.Prelude.{cond, List, [], ◌∷◌, Option, Some, None, codes}
use Rattle.je_base.specs.Text.{is_same_text}
use Rattle.je_world.specs.Question.{Name, Known, Absent, Broken, IsClass, Map}
use Rattle.je_world.specs.Search.{Search, no_search, Went, Asked, asked_by, walk, field_walk}

-- ---- names

abbrev pub object : Name
object = codes "java/lang/Object"

abbrev pub a : Name
a = codes "A"

abbrev pub b : Name
b = codes "B"

abbrev pub c : Name
c = codes "C"

abbrev pub d : Name
d = codes "D"

abbrev pub e : Name
e = codes "E"

abbrev pub f : Name
f = codes "F"

abbrev pub g : Name
g = codes "G"

abbrev pub i : Name
i = codes "I"

abbrev pub j : Name
j = codes "J"

abbrev pub k : Name
k = codes "K"

abbrev pub p : Name
p = codes "P"

abbrev pub q : Name
q = codes "Q"

abbrev pub missing : Name
missing = codes "Missing"

abbrev pub broken : Name
broken = codes "Broken"

-- ---- classes

-- a class or an interface without members
abbrev pub made : Name → Option Name → List Name → Name × Known
made name super interfaces = (
  name,
  IsClass (record {
    name = name;
    super_name = super;
    interfaces = interfaces;
    access = 0;
    fields = [];
    methods = [];
  }),
)

-- `I` and `J` are over `K`, `P` and `Q` over each other, and so are the classes `C` and `D`.
abbrev pub samples : List (Name × Known)
samples =
    made object None []
    ∷ made a (Some object) (i ∷ j ∷ [])
    ∷ made b (Some a) (j ∷ [])
    ∷ made c (Some d) []
    ∷ made d (Some c) []
    ∷ made e (Some object) (p ∷ [])
    ∷ made f (Some broken) (i ∷ [])
    ∷ made g (Some missing) []
    ∷ made i (Some object) (k ∷ [])
    ∷ made j (Some object) (k ∷ [])
    ∷ made k (Some object) []
    ∷ made p (Some object) (q ∷ [])
    ∷ made q (Some object) (p ∷ [])
    ∷ (broken, Broken)
    ∷ []

-- the first that lies under a name
abbrev pub lies_in : List (Name × Known) → Map
lies_in [] name = Absent
lies_in (x ∷ rest) name = cond (is_same_text x.0 name) x.1 (lies_in rest name)

-- ---- walks over them

-- the names that are looked at, and the end
abbrev pub walked : Name → Asked (List Name) Name
walked name = asked_by (lies_in samples) (walk no_search name)

abbrev pub field_walked : Name → Asked (List Name) Name
field_walked name = asked_by (lies_in samples) (field_walk no_search name)

-- it went along these
abbrev pub along : List Name → Asked (List Name) Name
along names = (names, Went names)

-- a search that is decided by meeting a name
abbrev pub seeking : Name → Search Name
seeking name = record {
  meets = λ other. cond (is_same_text other name) (Some other) None;
  sees = λ class. None;
}

-- a search that is decided by seeing a class of this name
abbrev pub looking : Name → Search Name
looking name = record {
  meets = λ other. None;
  sees = λ class. cond (is_same_text class.name name) (Some class.name) None;
}

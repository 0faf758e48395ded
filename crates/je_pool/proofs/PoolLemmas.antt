-- A class more in a pool leaves what is found, where it is what the files tell.
use Rattle.std.proofs.Common.{◌≡◌, ℕ, zero, suc, take, slice_set, ◌≤◌, ◌↔◌, Bool, true, false, cond, List, [], ◌∷◌, ◌++◌, length, Option, Some, None, refl, sym, ap, ◌∙◌, subst}
use Rattle.std.specs.Prelude.{slice_get, is_some, ◌||◌, IsSomeAnd}
use Rattle.std.specs.Option.{option_or}
use Rattle.std.proofs.lemmas.Slice.Eq.{slice_eq-Decides}
use Rattle.std.proofs.lemmas.Bool.Decides.{Decides-eqb}
use Rattle.je_base.specs.Files.{Contents}
use Rattle.je_base.specs.Text.{is_same_text}
use Rattle.je_consts.specs.Pool.{class_at}
use Rattle.je_class.specs.declared.fault.ClassFault.{ClassFault}
use Rattle.je_class.specs.declared.fault.TheConstants.{MOST_BYTES}
use Rattle.je_class.specs.Class.{Class}
use Rattle.je_class.specs.ClassBytes.{ClassBytes}
use Rattle.je_class.specs.Faults.{FirstFault}
use Rattle.je_world.specs.Question.{Name}
use Rattle.je_pool.specs.Found.{Found, Nothing, IsClass, BadClass, WrongName, IsNamed, FileIs, FileTells, WorldOf, file_of}
use Rattle.je_world.specs.World.{is_listed}
use Rattle.je_pool.specs.Pool.{PoolState, kept, is_name, is_taken, name_at, IsFirst, FoundBy, FoundWith, Puts, SameWorld, with_class, with_changed}

-- bytes are one class file or have one first fault
pub record OneClass : Type 0 where
  pub same : (bytes : List ℕ) (c d : Class) → ClassBytes bytes c → ClassBytes bytes d → c ≡ d
  pub no_fault : (bytes : List ℕ) (c : Class) (d : ClassFault) → length bytes ≤ MOST_BYTES → ClassBytes bytes c → FirstFault bytes d → ⊥
  pub one_fault : (bytes : List ℕ) (d e : ClassFault) → FirstFault bytes d → FirstFault bytes e → d ≡ e

-- texts that pass the test are equal
same_text : (a b : List ℕ) → is_same_text a b ≡ true → a ≡ b
same_text a b same = (slice_eq-Decides Decides-eqb a b (is_same_text a b) refl).0 same

-- a text passes the test with itself
own_text : (a : List ℕ) → is_same_text a a ≡ true
own_text a = (slice_eq-Decides Decides-eqb a a (is_same_text a a) refl).1 refl

-- ---- what a file is

one_name : {c d : Class} {a b : Name} → c ≡ d → IsNamed a c → IsNamed b d → a ≡ b
one_name {c} {d} {a} {b} is h k =
    let P : Class → Type 0 = λ x. IsNamed a x in
    let here : IsNamed a d = subst P is h in
    let e : Some a ≡ Some b = sym here ∙ k in cc

one_file : OneClass → (name : Name) (bytes : List ℕ) (a b : Found) → FileIs name bytes a → FileIs name bytes b → a ≡ b
one_file one name bytes Nothing b h k = absurd h
one_file one name bytes (IsClass c) Nothing h k = absurd k
one_file one name bytes (IsClass c) (IsClass d) h k =
    ap (λ (x : Class). IsClass x) (one.same bytes c d h.0.bytes_are k.0.bytes_are)
one_file one name bytes (IsClass c) (BadClass d) h k =
    absurd (one.no_fault bytes c d h.0.short h.0.bytes_are k)
one_file one name bytes (IsClass c) (WrongName other) h k =
    absurd (k.0 (sym (one_name (one.same bytes c k.1 h.0.bytes_are k.2.bytes_are) h.1 k.3)))
one_file one name bytes (BadClass d) Nothing h k = absurd k
one_file one name bytes (BadClass d) (IsClass c) h k =
    absurd (one.no_fault bytes c d k.0.short k.0.bytes_are h)
one_file one name bytes (BadClass d) (BadClass e) h k =
    ap (λ (x : ClassFault). BadClass x) (one.one_fault bytes d e h k)
one_file one name bytes (BadClass d) (WrongName other) h k =
    absurd (one.no_fault bytes k.1 d k.2.short k.2.bytes_are h)
one_file one name bytes (WrongName other) Nothing h k = absurd k
one_file one name bytes (WrongName other) (IsClass c) h k =
    absurd (h.0 (one_name (one.same bytes h.1 c h.2.bytes_are k.0.bytes_are) h.3 k.1))
one_file one name bytes (WrongName other) (BadClass d) h k =
    absurd (one.no_fault bytes h.1 d h.2.short h.2.bytes_are k)
one_file one name bytes (WrongName a) (WrongName b) h k =
    ap (λ (x : Name). WrongName x) (one_name (one.same bytes h.1 k.1 h.2.bytes_are k.2.bytes_are) h.3 k.3)

-- files tell one thing of a name
pub one_told : OneClass → (name : Name) (file : Option (List ℕ)) (a b : Found) → FileTells name file a → FileTells name file b → a ≡ b
one_told one name None a b h k = h ∙ sym k
one_told one name (Some bytes) a b h k = one_file one name bytes a b h k

-- so does a pool over files
pub one_found : OneClass → (o : Option Class) (name : Name) (file : Option (List ℕ)) (a b : Found) → FoundBy o (FileTells name file) a → FoundBy o (FileTells name file) b → a ≡ b
one_found one (Some c) name file a b h k = h ∙ sym k
one_found one None name file a b h k = one_told one name file a b h k

-- ---- the class of a name

pub kept_named : (name : Name) (classes : List Class) (c : Class) → kept name classes ≡ Some c → IsNamed name c
kept_named name [] c h = absurd cc
kept_named name (d ∷ classes) c h =
    first (class_at d.consts d.this_class) refl (λ k. kept_named name classes c k)
  where
    here : (b : Bool) → (kept name classes ≡ Some c → IsNamed name c) → cond b (Some d) (kept name classes) ≡ Some c → (b ≡ true → IsNamed name d) → IsNamed name c
    here true rest k named =
        let same : d ≡ c = cc in
        let P : Class → Type 0 = λ x. IsNamed name x in subst P same (named refl)
    here false rest k named = rest k

    first : (o : Option Name) → class_at d.consts d.this_class ≡ o → (kept name classes ≡ Some c → IsNamed name c) → IsNamed name c
    first None is rest = rest (rw is at h)
    first (Some own) is rest =
        let k : cond (is_same_text own name) (Some d) (kept name classes) ≡ Some c = rw is at h in
        here (is_same_text own name) rest k (λ yes. is ∙ ap (λ (x : Name). Some x) (same_text own name yes))

-- one class more behind the others
pub kept_more : (name : Name) (classes : List Class) (c : Class) → kept name (classes ++ c ∷ []) ≡ option_or (kept name classes) (cond (is_name name (class_at c.consts c.this_class)) (Some c) None)
kept_more name [] c = refl
kept_more name (d ∷ classes) c =
    first (is_name name (class_at d.consts d.this_class)) (kept_more name classes c)
  where
    first : (b : Bool) → kept name (classes ++ c ∷ []) ≡ option_or (kept name classes) (cond (is_name name (class_at c.consts c.this_class)) (Some c) None) → cond b (Some d) (kept name (classes ++ c ∷ [])) ≡ option_or (cond b (Some d) (kept name classes)) (cond (is_name name (class_at c.consts c.this_class)) (Some c) None)
    first true rest = refl
    first false rest = rest

pub last_class : (classes : List Class) (c : Class) → slice_get (classes ++ c ∷ []) (length classes) ≡ Some c
last_class [] c = refl
last_class (d ∷ classes) c = last_class classes c

-- what is found under a name where a class of this or another name came
came : OneClass → (name other : Name) (file : Option (List ℕ)) (o : Option Class) (c : Class) (found : Found) (b : Bool) → is_same_text name other ≡ b → (name ≡ other → (o ≡ None) × FileTells other file (IsClass c)) → FoundBy o (FileTells other file) found ↔ FoundBy (option_or o (cond b (Some c) None)) (FileTells other file) found
came one name other file (Some d) c found b test told = (λ h. h, λ h. h)
came one name other file None c found false test told = (λ h. h, λ h. h)
came one name other file None c found true test told =
    let tells = (told (same_text name other test)).1 in
    (λ h. one_told one other file found (IsClass c) h tells, λ h. subst (λ (x : Found). FileTells other file x) (sym h) tells)

-- the class that the files tell
pub same_with : OneClass → (files : Contents) (pool : PoolState) (name : Name) (c : Class) → kept name pool.classes ≡ None → IsNamed name c → WorldOf files pool.roots name (IsClass c) → SameWorld files pool (with_class pool c)
same_with one files pool name c none named told =
    λ other found.
    let own : is_name other (class_at c.consts c.this_class) ≡ is_same_text name other = ap (is_name other) named in
    let more : kept other (pool.classes ++ c ∷ []) ≡ option_or (kept other pool.classes) (cond (is_same_text name other) (Some c) None) = kept_more other pool.classes c ∙ ap (λ (b : Bool). option_or (kept other pool.classes) (cond b (Some c) None)) own in
    let here : name ≡ other → (kept other pool.classes ≡ None) × FileTells other (file_of files pool.roots other) (IsClass c) =
    λ is. let P : Name → Type 0 = λ x. (kept x pool.classes ≡ None) × FileTells x (file_of files pool.roots x) (IsClass c) in subst P is (none, told) in
    let step = came one name other (file_of files pool.roots other) (kept other pool.classes) c found (is_same_text name other) refl here in
    let Q : Option Class → Type 0 = λ o. FoundBy (kept other pool.classes) (FileTells other (file_of files pool.roots other)) found ↔ FoundBy o (FileTells other (file_of files pool.roots other)) found in
    subst Q (sym more) step

-- the pool as it was
pub same_world : (files : Contents) (old new : PoolState) → new.roots ≡ old.roots → new.classes ≡ old.classes → SameWorld files old new
same_world files old new roots classes = λ name found.
    let P : List Class × List (List ℕ) → Type 0 = λ p. FoundBy (kept name old.classes) (WorldOf files old.roots name) found ↔ FoundBy (kept name p.0) (WorldOf files p.1 name) found in
    let pair : (old.classes, old.roots) ≡ (new.classes, new.roots) = ap (λ (cs : List Class). (cs, old.roots)) (sym classes) ∙ ap (λ (rs : List (List ℕ)). (new.classes, rs)) (sym roots) in
    subst P pair (λ h. h, λ h. h)

-- ---- a class that is put

put : (Told : Found → Type 0) (o : Option Class) (c : Class) (found : Found) (b : Bool) → (b ≡ true → o ≡ None) → FoundBy (option_or o (cond b (Some c) None)) Told found ↔ FoundWith b c (FoundBy o Told) found
put Told (Some d) c found false none = (λ h. h, λ h. h)
put Told None c found false none = (λ h. h, λ h. h)
put Told (Some d) c found true none = let e : Some d ≡ None = none refl in absurd cc
put Told None c found true none = (λ h. h, λ h. h)

none_under : (name : Name) (classes : List Class) (own : Option Name) → ((n : Name) → own ≡ Some n → kept n classes ≡ None) → is_name name own ≡ true → kept name classes ≡ None
none_under name classes None none is = absurd cc
none_under name classes (Some own) none is = subst (λ (n : Name). kept n classes ≡ None) (same_text own name is) (none own refl)

free_none : (o : Option Class) (b : Bool) → (is_some o || b) ≡ false → o ≡ None
free_none None b free = refl
free_none (Some c) b free = absurd cc

puts_more : (pool : PoolState) (c : Class) → ((own : Name) → name_at c ≡ Some own → kept own pool.classes ≡ None) → Puts pool c (with_class pool c)
puts_more pool c none = λ files name found.
    let Told = WorldOf files pool.roots name in
    let step = put Told (kept name pool.classes) c found (is_name name (name_at c)) (none_under name pool.classes (name_at c) none) in
    let Q : Option Class → Type 0 = λ o. FoundBy o Told found ↔ FoundWith (is_name name (name_at c)) c (FoundBy (kept name pool.classes) Told) found in
    subst Q (sym (kept_more name pool.classes c)) step

-- a class that is added under a name that is free
pub puts_added : (old new : PoolState) (c : Class) → new ≡ with_class old c → ((own : Name) → name_at c ≡ Some own → is_taken old own ≡ false) → Puts old c new
puts_added old new c is free =
    let P : PoolState → Type 0 = λ s. Puts old c s in
    subst P (sym is) (puts_more old c (λ own named. free_none (kept own old.classes) (is_listed own old.asked) (free own named)))

-- ---- a class in place of one of its name

rest_none : (e : Class) (b : Bool) (o : Option Class) → cond b (Some e) o ≡ None → o ≡ None
rest_none e false o none = none
rest_none e true o none = absurd cc

at_place : (c e : Class) (rest : Option Class) (b own : Bool) → own ≡ b → cond b (Some c) rest ≡ cond b (Some c) (cond own (Some e) rest)
at_place c e rest true own same = refl
at_place c e rest false own same = subst (λ (x : Bool). rest ≡ cond x (Some e) rest) (sym same) refl

behind : (c e : Class) (new old front : Option Class) (b own : Bool) → new ≡ cond b (Some c) old → (b ≡ true → cond own (Some e) front ≡ None) → cond own (Some e) new ≡ cond b (Some c) (cond own (Some e) old)
behind c e new old front b false is none = is
behind c e new old front false true is none = refl
behind c e new old front true true is none = let h : Some e ≡ None = none refl in absurd cc

kept_changed : (name : Name) (c d : Class) (b : Bool) → is_name name (name_at c) ≡ b → name_at d ≡ name_at c → (classes : List Class) (i : ℕ) → slice_get classes i ≡ Some d → (b ≡ true → kept name (take i classes) ≡ None) → kept name (slice_set classes i c) ≡ cond b (Some c) (kept name classes)
kept_changed name c d b test same [] i at none = absurd cc
kept_changed name c d b test same (e ∷ classes) zero at none =
    let is : e ≡ d = cc in
    let own : is_name name (name_at e) ≡ b = ap (λ (x : Class). is_name name (name_at x)) is ∙ ap (is_name name) same ∙ test in
    subst (λ (x : Bool). cond x (Some c) (kept name classes) ≡ cond b (Some c) (cond (is_name name (name_at e)) (Some e) (kept name classes))) (sym test) (at_place c e (kept name classes) b (is_name name (name_at e)) own)
kept_changed name c d b test same (e ∷ classes) (suc i) at none =
    let rest = kept_changed name c d b test same classes i at (λ is. rest_none e (is_name name (name_at e)) (kept name (take i classes)) (none is)) in
    behind c e (kept name (slice_set classes i c)) (kept name classes) (kept name (take i classes)) b (is_name name (name_at e)) rest none

first_under : (name : Name) (front : List Class) (own : Option Name) → ((n : Name) → own ≡ Some n → kept n front ≡ None) → is_name name own ≡ true → kept name front ≡ None
first_under name front None none is = absurd cc
first_under name front (Some own) none is = subst (λ (n : Name). kept n front ≡ None) (same_text own name is) (none own refl)

swap : (Told : Found → Type 0) (o : Option Class) (c : Class) (found : Found) (b : Bool) → FoundBy (cond b (Some c) o) Told found ↔ FoundWith b c (FoundBy o Told) found
swap Told o c found true = (λ h. h, λ h. h)
swap Told o c found false = (λ h. h, λ h. h)

pub puts_changed : (old new : PoolState) (id : ℕ) (c : Class) → new ≡ with_changed old id c → IsSomeAnd (slice_get old.classes id) (λ before. name_at before ≡ name_at c) → IsFirst old id c → Puts old c new
puts_changed old new id c is same first = go (slice_get old.classes id) refl same
  where
    go : (o : Option Class) → slice_get old.classes id ≡ o → IsSomeAnd o (λ before. name_at before ≡ name_at c) → Puts old c new
    go None at same = absurd same
    go (Some d) at same =
        let P : PoolState → Type 0 = λ s. Puts old c s in
        subst P (sym is) (λ files name found.
        let Told = WorldOf files old.roots name in
        let kept_is = kept_changed name c d (is_name name (name_at c)) refl same old.classes id at (first_under name (take id old.classes) (name_at c) first) in
        let Q : Option Class → Type 0 = λ o. FoundBy o Told found ↔ FoundWith (is_name name (name_at c)) c (FoundBy (kept name old.classes) Told) found in
        subst Q (sym kept_is) (swap Told (kept name old.classes) c found (is_name name (name_at c))))

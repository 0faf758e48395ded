-- How calls compose that are lent a world: what is left after one and another, and after a question and what comes of it.
use Rattle.std.proofs.Common.{◌≡◌, ◌≤◌, Bool, true, false, List, [], ◌∷◌, ◌++◌, Option, Some, None, Result, Ok, Err, IfSome, Contains, cond, refl, sym, ap, ◌∙◌, subst, inl, inr, ◌⊎◌, append_assoc, arith}
use Rattle.std.specs.Option.{option_map}
use Rattle.std.specs.List.{list_any}
use Rattle.std.proofs.lemmas.List.{append-nil}
use Rattle.std.proofs.lemmas.List.Elements.{Contains-append_left, Contains-append_right, Contains-append_cases, Contains-push_cases}
use Rattle.je_base.specs.Text.{is_same_text}
use Rattle.je_world.specs.declared.stop.Stop.{Stop}
use Rattle.je_world.specs.declared.stop.Stop.TheVariants.{Failed, Memory}
use Rattle.je_world.specs.Question.{Name, Known, Map, Question, Answered, Look, answer_by, names_by, and_then}
use Rattle.je_world.specs.Seen.{Seen, GoesOn, Left, NamesKept, Leads, CauseOf, Breaks, Gives}
use Rattle.je_world.specs.World.{Answer, Looks, IsListed, listed, stop_after}

-- ---- questions

pub answer_by-then : {A B : Type 0} (map : Map) (q : Question A) (k : A → Question B) → answer_by map (and_then q k) ≡ answer_by map (k (answer_by map q))
unfolding and_then
answer_by-then map (Answered a) k = refl
answer_by-then map (Look name go) k = answer_by-then map (go (map name)) k

pub names_by-then : {A B : Type 0} (map : Map) (q : Question A) (k : A → Question B) → names_by map (and_then q k) ≡ names_by map q ++ names_by map (k (answer_by map q))
unfolding and_then
names_by-then map (Answered a) k = refl
names_by-then map (Look name go) k =
    ap (λ (names : List Name). name ∷ names) (names_by-then map (go (map name)) k)

-- ---- names

none_in : (x : Name) → Contains [] x → ⊥
none_in x h = omega (arith, h.1)

pub kept_refl : (will : List Name) (old : Option (List Name)) → NamesKept will will old old
kept_refl will None = tt
kept_refl will (Some old) = λ x h. h

pub kept_trans : (will mid rest : List Name) (old now new : Option (List Name)) → NamesKept will mid old now → NamesKept mid rest now new → NamesKept will rest old new
kept_trans will mid rest None now new h k = tt
kept_trans will mid rest (Some old) None new h k = absurd h
kept_trans will mid rest (Some old) (Some now) None h k = absurd k
kept_trans will mid rest (Some old) (Some now) (Some new) h k = λ x is. h x (k x is)

-- what is still to be asked is given up
pub kept_less : (will rest : List Name) (old new : Option (List Name)) → NamesKept will rest old new → NamesKept will [] old new
kept_less will rest None new h = tt
kept_less will rest (Some old) None h = absurd h
kept_less will rest (Some old) (Some new) h =
    λ x is. h x (elim is [ inl n ↦ inl n | inr r ↦ absurd (none_in x r) ])

-- more may be asked
pub kept_more : (will more rest : List Name) (old new : Option (List Name)) → NamesKept will rest old new → NamesKept (will ++ more) rest old new
kept_more will more rest None new h = tt
kept_more will more rest (Some old) None h = absurd h
kept_more will more rest (Some old) (Some new) h =
    λ x is. elim (h x is) [ inl o ↦ inl o | inr w ↦ inr (Contains-append_left will more x w) ]

-- the same names behind both
pub kept_behind : (will rest behind : List Name) (old new : Option (List Name)) → NamesKept will rest old new → NamesKept (will ++ behind) (rest ++ behind) old new
kept_behind will rest behind None new h = tt
kept_behind will rest behind (Some old) None h = absurd h
kept_behind will rest behind (Some old) (Some new) h =
    λ x is.
    let wide : Contains old x ⊎ Contains will x → Contains old x ⊎ Contains (will ++ behind) x = λ was. elim was [ inl o ↦ inl o | inr w ↦ inr (Contains-append_left will behind x w) ] in
    elim is [
      | inl n ↦ wide (h x (inl n))
      | inr both ↦ elim (Contains-append_cases rest behind x both) [ inl r ↦ wide (h x (inr r)) | inr b ↦ inr (Contains-append_right will behind x b) ]
    ]

-- ---- what every call leaves

pub goes_refl : (old : Option (List Name)) → GoesOn old old
goes_refl None = ([], refl)
goes_refl (Some old) = ([], ap (λ (names : List Name). Some names) (sym (append-nil old)))

pub goes_trans : (old now new : Option (List Name)) → GoesOn old now → GoesOn now new → GoesOn old new
goes_trans None now new h k =
    ([], k.1 ∙ ap (option_map (λ (names : List Name). names ++ k.0)) h.1)
goes_trans (Some old) now new h k =
    (h.0 ++ k.0, k.1 ∙ ap (option_map (λ (names : List Name). names ++ k.0)) h.1 ∙ ap (λ (names : List Name). Some names) (append_assoc old h.0 k.0))

stop_trans : (old now new : Option Stop) → IfSome old (λ first. now ≡ Some first) → IfSome now (λ first. new ≡ Some first) → IfSome old (λ first. new ≡ Some first)
stop_trans None now new h k = tt
stop_trans (Some first) now new h k =
    let P : Option Stop → Type 0 = λ s. IfSome s (λ x. new ≡ Some x) in subst P h k

stop_refl : (old : Option Stop) → IfSome old (λ first. old ≡ Some first)
stop_refl None = tt
stop_refl (Some first) = refl

pub left_refl : (old : Seen) → Left old old
left_refl old = record { told = refl; asked = goes_refl old.asked; stop = stop_refl old.stop; faults = omega arith }

pub left_trans : {old now new : Seen} → Left old now → Left now new → Left old new
left_trans {old} {now} {new} h k = record {
  told = k.told ∙ h.told;
  asked = goes_trans old.asked now.asked new.asked h.asked k.asked;
  stop = stop_trans old.stop now.stop new.stop h.stop k.stop;
  faults = omega (arith, h.faults, k.faults);
}

-- ---- a question and what is left of it

-- nothing was asked
pub leads_here : {A : Type 0} (old : Seen) (q : Question A) → Leads old q old q
leads_here old q = record {
  left = left_refl old;
  stop = λ none. none;
  answer = λ map told. refl;
  names = λ map told. kept_refl (names_by map q) old.asked;
}

pub leads_on : {A : Type 0} {old now new : Seen} {q mid rest : Question A} → Leads old q now mid → Leads now mid new rest → Leads old q new rest
leads_on {old = old} {now = now} {new = new} {q = q} {mid = mid} {rest = rest} h k = record {
  left = left_trans h.left k.left;
  stop = λ none. k.stop (h.stop none);
  answer = λ map told. h.answer map told ∙ k.answer map (h.left.told ∙ told);
  names = λ map told. kept_trans (names_by map q) (names_by map mid) (names_by map rest) old.asked now.asked new.asked (h.names map told) (k.names map (h.left.told ∙ told));
}

-- a question inside another
pub leads_in : {A B : Type 0} {old new : Seen} {q rest : Question A} (k : A → Question B) → Leads old q new rest → Leads old (and_then q k) new (and_then rest k)
leads_in {old = old} {new = new} {q = q} {rest = rest} k h = record {
  left = h.left;
  stop = h.stop;
  answer = λ map told. answer_by-then map q k ∙ ap (λ a. answer_by map (k a)) (h.answer map told) ∙ sym (answer_by-then map rest k);
  names = λ map told.
      rw (names_by-then map q k, names_by-then map rest k, h.answer map told)
      (kept_behind (names_by map q) (names_by map rest) (names_by map (k (answer_by map rest))) old.asked new.asked (h.names map told));
}

-- a question was answered, and what comes of the answer is asked on
pub leads_then : {A B : Type 0} {old now new : Seen} {q : Question A} {a : A} {rest : Question B} (k : A → Question B) → Leads old q now (Answered a) → Leads now (k a) new rest → Leads old (and_then q k) new rest
unfolding and_then
leads_then {q = q} {a = a} k h next = leads_on (leads_in {q = q} {rest = Answered a} k h) next

cause_on : (old now new : Seen) (why : Stop) → old.faults ≤ now.faults → (old.stop ≡ None → now.stop ≡ None) → CauseOf why now new → CauseOf why old new
cause_on old now new Memory h stop k = tt
cause_on old now new Failed h stop k =
    (elim k.0 [ inl rose ↦ inl (omega arith) | inr stands ↦ inr stands ], λ none. k.1 (stop none))

-- what was left of a question was given up
pub breaks_on : {A : Type 0} {old now new : Seen} {q mid : Question A} (why : Stop) → Leads old q now mid → Breaks now mid new why → Breaks old q new why
breaks_on {old = old} {now = now} {new = new} {q = q} {mid = mid} why h k = record {
  left = left_trans h.left k.left;
  cause = cause_on old now new why h.left.faults h.stop k.cause;
  names = λ map told. kept_trans (names_by map q) (names_by map mid) [] old.asked now.asked new.asked (h.names map told) (k.names map (h.left.told ∙ told));
}

-- a question inside another was given up
pub breaks_in : {A B : Type 0} {old new : Seen} {q : Question A} (k : A → Question B) (why : Stop) → Breaks old q new why → Breaks old (and_then q k) new why
breaks_in {old = old} {new = new} {q = q} k why h = record {
  left = h.left;
  cause = h.cause;
  names = λ map told.
      rw (names_by-then map q k)
      (kept_more (names_by map q) (names_by map (k (answer_by map q))) [] old.asked new.asked (h.names map told));
}

-- a question was answered, and what comes of the answer was given up
pub breaks_then : {A B : Type 0} {old now new : Seen} {q : Question A} {a : A} (k : A → Question B) (why : Stop) → Leads old q now (Answered a) → Breaks now (k a) new why → Breaks old (and_then q k) new why
unfolding and_then
breaks_then {q = q} {a = a} k why h next =
    breaks_on why (leads_in {q = q} {rest = Answered a} k h) next

-- there is no memory, whatever was asked so far
pub no_memory : {A : Type 0} {old new : Seen} {q rest : Question A} → Leads old q new rest → Breaks old q new Memory
no_memory {old = old} {new = new} {q = q} {rest = rest} h = record {
  left = h.left;
  cause = tt;
  names = λ map told. kept_less (names_by map q) (names_by map rest) old.asked new.asked (h.names map told);
}

-- a call on what is left gives the whole
pub gives_on : {A : Type 0} {old now : Seen} (new : Seen) {q mid : Question A} (r : Result A Stop) → Leads old q now mid → Gives now mid new r → Gives old q new r
gives_on new (Ok a) h k = leads_on h k
gives_on new (Err why) h k = breaks_on why h k

-- so does one on what comes of an answer
pub gives_then : {A B : Type 0} {old now : Seen} (new : Seen) {q : Question A} {a : A} (k : A → Question B) (r : Result B Stop) → Leads old q now (Answered a) → Gives now (k a) new r → Gives old (and_then q k) new r
gives_then new k (Ok b) h next = leads_then k h next
gives_then new k (Err why) h next = breaks_then k why h next

-- ---- a look

goes_listed : (name : Name) (old : Option (List Name)) → GoesOn old (option_map (listed name) old)
goes_listed name None = ([], refl)
goes_listed name (Some names) = go (list_any (λ other. is_same_text other name) names)
  where
    go : (b : Bool) → GoesOn (Some names) (Some (cond b names (names ++ name ∷ [])))
    go true = goes_refl (Some names)
    go false = (name ∷ [], refl)

goes_answered : (name : Name) (answer : Answer) (old new : Option (List Name)) → IsListed name answer old new → GoesOn old new
goes_answered name (Ok known) old new h = subst (λ (x : Option (List Name)). GoesOn old x) (sym h) (goes_listed name old)
goes_answered name (Err Failed) old new h = subst (λ (x : Option (List Name)). GoesOn old x) (sym h) (goes_listed name old)
goes_answered name (Err Memory) old new h = elim h [
  | inl same ↦ subst (λ (x : Option (List Name)). GoesOn old x) (sym same) (goes_refl old)
  | inr more ↦ subst (λ (x : Option (List Name)). GoesOn old x) (sym more) (goes_listed name old)
]

stop_answered : (answer : Answer) (old new : Option Stop) → new ≡ stop_after old answer → IfSome old (λ first. new ≡ Some first)
stop_answered answer None new h = tt
stop_answered answer (Some first) new h = h

-- every look leaves what every call leaves
pub left_look : {name : Name} {old new : Seen} (answer : Answer) → Looks name old answer new → Left old new
left_look {name} {old} {new} answer h = record {
  told = h.told;
  asked = goes_answered name answer old.asked new.asked h.asked;
  stop = stop_answered answer old.stop new.stop h.stop;
  faults = h.faults;
}

-- a name that is listed stood there or is the name
listed_cases : (name x : Name) (names rest : List Name) → Contains (listed name names) x → Contains names x ⊎ Contains (name ∷ rest) x
listed_cases name x names rest = go (list_any (λ other. is_same_text other name) names)
  where
    head : (y : Name) → name ≡ y → Contains (name ∷ rest) y
    head y e = (0, omega arith, e)

    go : (b : Bool) → Contains (cond b names (names ++ name ∷ [])) x → Contains names x ⊎ Contains (name ∷ rest) x
    go true h = inl h
    go false h = elim (Contains-push_cases names name x h) [ inl stood ↦ inl stood | inr same ↦ inr (head x same) ]

kept_listed : (name : Name) (rest : List Name) (old : Option (List Name)) → NamesKept (name ∷ rest) rest old (option_map (listed name) old)
kept_listed name rest None = tt
kept_listed name rest (Some names) =
    λ x is. elim is [ inl l ↦ listed_cases name x names rest l | inr r ↦ inr (Contains-append_right (name ∷ []) rest x r) ]

-- a look that answered
pub leads_look : {A : Type 0} {name : Name} {old new : Seen} (go : Known → Question A) (known : Known) → Looks name old (Ok known) new → Leads old (Look name go) new (go known)
leads_look {A} {name} {old} {new} go known h = record {
  left = left_look (Ok known) h;
  stop = λ none. h.stop ∙ ap (λ (s : Option Stop). stop_after s (Ok known)) none;
  answer = λ map told. ap (λ k. answer_by map (go k)) (is map told);
  names = λ map told.
      rw (h.asked, is map told) (kept_listed name (names_by map (go known)) old.asked);
}
  where
    is : (map : Map) → old.told ≡ Some map → map name ≡ known
    is map told = let P : Option Map → Type 0 = λ t. IfSome t (λ m. m name ≡ known) in subst P told h.known

-- a look that gave nothing
pub breaks_look : {A : Type 0} {name : Name} {old new : Seen} (go : Known → Question A) (why : Stop) → Looks name old (Err why) new → Breaks old (Look name go) new why
breaks_look {A} {name} {old} {new} go Failed h = record {
  left = left_look (Err Failed) h;
  cause = (h.failed refl, λ none. h.stop ∙ ap (λ (s : Option Stop). stop_after s (Err Failed)) none);
  names = λ map told.
      rw h.asked (kept_less (names_by map (Look name go)) (names_by map (go (map name))) old.asked (option_map (listed name) old.asked) (kept_listed name (names_by map (go (map name))) old.asked));
}
breaks_look {A} {name} {old} {new} go Memory h = record {
  left = left_look (Err Memory) h;
  cause = tt;
  names = λ map told. kept map h.asked;
}
  where
    kept : (map : Map) → IsListed name (Err Memory) old.asked new.asked → NamesKept (names_by map (Look name go)) [] old.asked new.asked
    kept map asked = elim asked [
      | inl same ↦ rw same (kept_less (names_by map (Look name go)) (names_by map (Look name go)) old.asked old.asked (kept_refl (names_by map (Look name go)) old.asked))
      | inr more ↦ rw more (kept_less (names_by map (Look name go)) (names_by map (go (map name))) old.asked (option_map (listed name) old.asked) (kept_listed name (names_by map (go (map name))) old.asked))
    ]

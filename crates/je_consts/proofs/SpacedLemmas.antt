-- Places one after the other: how they are spaced, and what holds of each.
use Rattle.std.proofs.Common.{◌≡◌, Bool, true, false, List, [], ◌∷◌, ◌++◌, refl, sym, subst}
use Rattle.std.specs.List.{AllByRecursion}
use Rattle.je_consts.specs.declared.constant.Const.{Const}
use Rattle.je_consts.specs.declared.place.Place.{Place}
use Rattle.je_consts.specs.declared.place.Place.TheVariants.{Entry, Second}
use Rattle.je_consts.specs.Pool.{is_wide, taken_by, places_of, OfEntry, IsSpaced}

pub All-append : {A : Type 0} (P : A → Type 0) (xs ys : List A) → AllByRecursion P xs → AllByRecursion P ys → AllByRecursion P (xs ++ ys)
All-append P [] ys h k = k
All-append P (x ∷ xs) ys h k = (h.0, All-append P xs ys h.1 k)

pub IsSpaced-append : (wide : Bool) (xs : List Place) (mid : Bool) (ys : List Place) (last : Bool) → IsSpaced wide xs mid → IsSpaced mid ys last → IsSpaced wide (xs ++ ys) last
IsSpaced-append wide [] mid ys last h k = subst (λ (b : Bool). IsSpaced b ys last) (sym h) k
IsSpaced-append wide (Entry c ∷ xs) mid ys last h k = (h.0, IsSpaced-append (is_wide c) xs mid ys last h.1 k)
IsSpaced-append wide (Second ∷ xs) mid ys last h k = (h.0, IsSpaced-append false xs mid ys last h.1 k)

spaced_by : (b : Bool) (c : Const) → is_wide c ≡ b → IsSpaced false (taken_by b c) false
spaced_by true c e = (refl, (e, refl))
spaced_by false c e = (refl, e)

-- the places of one entry
pub IsSpaced-places_of : (c : Const) → IsSpaced false (places_of c) false
IsSpaced-places_of c = spaced_by (is_wide c) c refl

all_by : (P : Const → Type 0) (b : Bool) (c : Const) → P c → AllByRecursion (OfEntry P) (taken_by b c)
all_by P true c h = (h, (tt, tt))
all_by P false c h = (h, tt)

pub All-places_of : (P : Const → Type 0) (c : Const) → P c → AllByRecursion (OfEntry P) (places_of c)
All-places_of P c h = all_by P (is_wide c) c h

pub All-behind : (P : Place → Type 0) (xs ys : List Place) → AllByRecursion P (xs ++ ys) → AllByRecursion P ys
All-behind P [] ys h = h
All-behind P (x ∷ xs) ys h = All-behind P xs ys h.1

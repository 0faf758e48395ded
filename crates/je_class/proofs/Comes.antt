-- Parts that stand one after the other, and the first that does not.
use Rattle.std.proofs.Common.{◌≡◌, ℕ, ◌+◌, ◌-◌, ◌^◌, ◌<◌, ◌≤◌, List, [], ◌∷◌, ◌++◌, length, drop, Result, Ok, Err, Option, Some, None, IfSome, refl, sym, ap, subst, ◌∙◌, length-append, length-drop, arith, inl, inr, ◌⊎◌}
use Rattle.std.specs.List.{AllByRecursion}
use Rattle.std.proofs.lemmas.List.{drop-drop, take-append-drop, length-take}
use Rattle.je_base.specs.Bytes.{u2, u4, IsThere}
use Rattle.je_base.specs.Parts.{U2, U4, Nested, part_bytes, FailsFirst, Follows, Breaks}
use Rattle.je_consts.specs.declared.place.Place.{Place}
use Rattle.je_consts.specs.Layout.{pool_layout, IsPoolAt}
use Rattle.je_class.specs.declared.fault.ClassFault.{ClassFault}
use Rattle.je_class.specs.declared.fault.ClassFault.TheVariants.{Memory, Truncated}
use Rattle.je_class.specs.FileParts.{Test, Passes, fault_of, class_format, Part}
use Rattle.je_class.specs.Reading.{Comes}

module _ (bytes : List ℕ) where
  -- ---- one list of parts after the other

  follows_then : (at : ℕ) (xs : List Part) (mid : ℕ) (ys : List Part) (end : ℕ) → Follows class_format bytes at xs mid → Follows class_format bytes mid ys end → Follows class_format bytes at (xs ++ ys) end
  follows_then at [] mid ys end h k = subst (λ (n : ℕ). Follows class_format bytes n ys end) h k
  follows_then at (x ∷ xs) mid ys end h k = (h.0, h.1, follows_then (at + length (part_bytes class_format x)) xs mid ys end h.2 k)

  breaks_then : (at : ℕ) (xs : List Part) (mid : ℕ) (ys : List Part) (d : ClassFault) → Follows class_format bytes at xs mid → Breaks class_format bytes mid ys d → Breaks class_format bytes at (xs ++ ys) d
  breaks_then at [] mid ys d h k = subst (λ (n : ℕ). Breaks class_format bytes n ys d) h k
  breaks_then at (x ∷ xs) mid ys d h k = inr (h.0, h.1, breaks_then (at + length (part_bytes class_format x)) xs mid ys d h.2 k)

  breaks_first : (at : ℕ) (xs ys : List Part) (d : ClassFault) → Breaks class_format bytes at xs d → Breaks class_format bytes at (xs ++ ys) d
  breaks_first at [] ys d h = absurd h
  breaks_first at (x ∷ xs) ys d (inl h) = inl h
  breaks_first at (x ∷ xs) ys d (inr h) = inr (h.0, h.1, breaks_first (at + length (part_bytes class_format x)) xs ys d h.2)

  then_by : (at : ℕ) (xs : List Part) (mid : ℕ) (ys : List Part) (answer : Result ℕ ClassFault) → Comes bytes at xs (Ok mid) → Comes bytes mid ys answer → Comes bytes at (xs ++ ys) answer
  then_by at xs mid ys (Ok end) h k = record { goes = follows_then at xs mid ys end h.goes k.goes }
  then_by at xs mid ys (Err d) h k = record { goes = breaks_then at xs mid ys d h.goes k.goes }

-- ---- one after the other

pub then : {bytes : List ℕ} {at : ℕ} {xs : List Part} {mid : ℕ} {ys : List Part} {answer : Result ℕ ClassFault} → Comes bytes at xs (Ok mid) → Comes bytes mid ys answer
    → Comes bytes at (xs ++ ys) answer
then h k = then_by _ _ _ _ _ _ h k

pub stops : {bytes : List ℕ} {at : ℕ} {xs : List Part} {d : ClassFault} → (ys : List Part) → Comes bytes at xs (Err d) → Comes bytes at (xs ++ ys) (Err d)
stops ys h = record { goes = breaks_first _ _ _ ys _ h.goes }

-- what comes of it where memory has not run out
pub or_memory : {P Q : Type 0} {d : ClassFault} → (d ≡ Memory) ⊎ P → (P → Q) → (d ≡ Memory) ⊎ Q
or_memory (inl e) then_so = inl e
or_memory (inr h) then_so = inr (then_so h)

-- what stands within the bytes ends there
follows_within : (bytes : List ℕ) (at : ℕ) (parts : List Part) (end : ℕ) → at ≤ length bytes → Follows class_format bytes at parts end → end ≤ length bytes
follows_within bytes at [] end within h = omega arith
follows_within bytes at (x ∷ xs) end within h =
    let text = part_bytes class_format x in
    let next : at + length text ≤ length bytes = omega (arith, ap length h.0, length-append text (drop (at + length text) bytes), length-drop at bytes) in
    follows_within bytes (at + length text) xs end next h.2

pub comes_within : {bytes : List ℕ} {at : ℕ} {parts : List Part} {end : ℕ} → at ≤ length bytes → Comes bytes at parts (Ok end) → end ≤ length bytes
comes_within within h = follows_within _ _ _ _ within h.goes

-- ---- single parts

pub u2_comes : {bytes : List ℕ} {at n end : ℕ} {tests : List Test} → IsThere bytes at (u2 n) → end ≡ at + 2 → n < 2 ^ 16 → AllByRecursion Passes tests → Comes bytes at (U2 n tests ∷ []) (Ok end)
u2_comes there end_is fits pass = record { goes = (there, (fits, pass), end_is) }

pub u4_comes : {bytes : List ℕ} {at n end : ℕ} {tests : List Test} → IsThere bytes at (u4 n) → end ≡ at + 4 → n < 2 ^ 32 → AllByRecursion Passes tests → Comes bytes at (U4 n tests ∷ []) (Ok end)
u4_comes there end_is fits pass = record { goes = (there, (fits, pass), end_is) }

pub u2_cut : {bytes : List ℕ} {at cut : ℕ} (n : ℕ) (tests : List Test) → (length (drop at bytes) < 2) × (cut ≡ at) → Comes bytes at (U2 n tests ∷ []) (Err (Truncated cut))
u2_cut n tests short = record { goes = inl (inl (short.0, ap Truncated short.1)) }

pub u4_cut : {bytes : List ℕ} {at cut : ℕ} (n : ℕ) (tests : List Test) → (length (drop at bytes) < 4) × (cut ≡ at) → Comes bytes at (U4 n tests ∷ []) (Err (Truncated cut))
u4_cut n tests short = record { goes = inl (inl (short.0, ap Truncated short.1)) }

pub u2_fails : {bytes : List ℕ} {at n : ℕ} {d : ClassFault} {tests : List Test} → IsThere bytes at (u2 n) → n < 2 ^ 16 → FailsFirst class_format at tests d → Comes bytes at (U2 n tests ∷ []) (Err d)
u2_fails there fits fails = record { goes = inl (inr (there, fits, fails)) }

pub u4_fails : {bytes : List ℕ} {at n : ℕ} {d : ClassFault} {tests : List Test} → IsThere bytes at (u4 n) → n < 2 ^ 32 → FailsFirst class_format at tests d → Comes bytes at (U4 n tests ∷ []) (Err d)
u4_fails there fits fails = record { goes = inl (inr (there, fits, fails)) }

pub pool_comes : (bytes : List ℕ) (at end : ℕ) (places : List Place) → IsPoolAt bytes at end places → Comes bytes at (Nested places ∷ []) (Ok end)
pool_comes bytes at end places h =
    let text = pool_layout places in
    let len : length text ≡ end - at = omega (arith, ap length h.spelled.layout, length-take (end - at) (drop at bytes), length-drop at bytes, h.order, h.within) in
    let ends : end ≡ at + length text = omega (arith, h.order) in
    let rest : drop (end - at) (drop at bytes) ≡ drop (at + length text) bytes = drop-drop (end - at) at bytes ∙ ap (λ (k : ℕ). drop (at + k) bytes) (sym len) in
    let there : IsThere bytes at text = sym (take-append-drop (end - at) (drop at bytes)) ∙ ap (λ (t : List ℕ). t ++ drop (end - at) (drop at bytes)) h.spelled.layout ∙ ap (λ (t : List ℕ). text ++ t) rest in
    record { goes = (there, h.spelled.pool, ends) }

-- ---- tests

pub first_fails : (at : ℕ) (test : Test) (others : List Test) → (Passes test → ⊥) → FailsFirst class_format at (test ∷ others) (fault_of test at)
first_fails at test others fails = record {
  passed = [];
  failed = test;
  others = others;
  tests_are = refl;
  pass = tt;
  fails = fails;
  fault_is = refl;
}

pub second_fails : (at : ℕ) (first second : Test) → Passes first → (Passes second → ⊥) → FailsFirst class_format at (first ∷ second ∷ []) (fault_of second at)
second_fails at first second pass fails = record {
  passed = first ∷ [];
  failed = second;
  others = [];
  tests_are = refl;
  pass = (pass, tt);
  fails = fails;
  fault_is = refl;
}

-- a test that was made, and what it showed
pub unless_fails : {at : ℕ} {tests : List Test} (fault : Option ClassFault) (P : Type 0) (d : ClassFault) → IfSome fault (λ f. (P → ⊥) × (f ≡ d)) → ((P → ⊥) → FailsFirst class_format at tests d)
    → IfSome fault (FailsFirst class_format at tests)
unless_fails (Some f) P d h fails = rw h.1 (fails h.0)
unless_fails None P d h fails = h

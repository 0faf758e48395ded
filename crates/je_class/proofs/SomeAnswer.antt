-- Bytes are a class file or have a first fault.
use Rattle.std.proofs.Common.{◌≡◌, ℕ, zero, suc, ◌+◌, ◌^◌, ◌<◌, ◌≤◌, ◌⊎◌, List, [], ◌∷◌, ◌++◌, length, get_or, take, drop, Ok, Err, Option, Some, None, refl, sym, ap, subst, ◌∙◌, arith, inl, inr}
use Rattle.std.specs.Prelude.{IsSome, IsSomeAnd}
use Rattle.std.specs.Int.{w16, w32, from_be_bytes}
use Rattle.std.specs.List.{AllByRecursion}
use Rattle.std.proofs.lemmas.Bool.{cases_lt}
use Rattle.std.proofs.lemmas.Bool.Decides.{eqb_tells}
use Rattle.std.proofs.lemmas.List.{take-append-drop, drop-drop, length-take, get_or-drop, get_or-take, get_or_past}
use Rattle.std.proofs.lemmas.Nat.{be_bytes_2, be_bytes_4}
use Rattle.je_base.specs.Bytes.{u2, u4, IsThere}
use Rattle.je_base.specs.Parts.{U2, U4, Run, Nested, FailsFirst, table_parts}
use Rattle.je_consts.specs.declared.fault.ConstFault.{ConstFault}
use Rattle.je_consts.specs.declared.place.Place.{Place}
use Rattle.je_consts.specs.Faults as in_pool
use Rattle.je_consts.specs.Layout.{IsPoolAt}
use Rattle.je_consts.specs.Pool.{text_at, class_at}
use Rattle.je_desc.specs.Descriptor.{FieldDescriptor, IsDescriptorOf}
use Rattle.je_desc.specs.Names.{IsClassName}
use Rattle.je_class.specs.declared.fault.TheConstants.{MOST_BYTES}
use Rattle.je_class.specs.declared.parts.TheConstants.{MAGIC}
use Rattle.je_class.specs.declared.fault.ClassFault.{ClassFault}
use Rattle.je_class.specs.declared.fault.ClassFault.TheVariants.{TooLong, Truncated, Trailing}
use Rattle.je_class.specs.declared.member.Attribute.{Attribute}
use Rattle.je_class.specs.declared.member.Member.{Member}
use Rattle.je_class.specs.Class.{Class}
use Rattle.je_class.specs.ClassBytes.{ClassBytes}
use Rattle.je_class.specs.Faults.{FirstFault, too_long, breaks}
use Rattle.je_class.specs.FileParts.{Test, IsMagic, IsVersion, NamesClass, NamesSuper, NamesText, NamesAttribute, DescribesField, DescribesMethod, Passes, fault_of, pool_fault, class_format, Part, interface_parts, attribute_parts, member_parts, field_parts, method_parts, start_parts, own_parts, lists_parts, parts}
use Rattle.je_class.specs.Reading.{Comes}
use Rattle.je_class.proofs.Comes.{then, stops, comes_within, u2_comes, u4_comes, u2_cut, u4_cut, u2_fails, u4_fails, pool_comes, first_fails}
use Rattle.je_class.proofs.ReadLemmas.{stands_whole, stands_trailing}
use Rattle.je_class.proofs.Same.{class_of}
use Rattle.je_class.proofs.Tables.{Stand, table_more, table_stops, table_ends, attribute_cut}

-- ---- tests

abbrev Decided : Type 0 → Type 0
Decided P = P ⊎ (P → ⊥)

-- that bytes are names and descriptors is decided
pub record Decisions : Type 0 where
  pub class_name : (bytes : List ℕ) → Decided (IsClassName bytes)
  pub field : (bytes : List ℕ) → Decided (FieldDescriptor bytes)
  pub method : (access : ℕ) (bytes : List ℕ) → Decided (IsDescriptorOf access bytes)

is_number : (m n : ℕ) → Decided (m ≡ n)
is_number m n = elim (eqb_tells m n) [ inl same ↦ inl same.1 | inr other ↦ inr other.1 ]

some_and : {A : Type 0} (P : A → Type 0) → ((x : A) → Decided (P x)) → (o : Option A) → Decided (IsSomeAnd o P)
some_and P decided (Some x) = decided x
some_and P decided None = inr (λ h. h)

is_some : {A : Type 0} (o : Option A) → Decided (IsSome o)
is_some (Some x) = inl refl
is_some None = inr (λ h. cc)

or_so : {P Q : Type 0} → Decided P → Decided Q → Decided (P ⊎ Q)
or_so (inl p) q = inl (inl p)
or_so (inr p) (inl q) = inl (inr q)
or_so (inr p) (inr q) = inr (λ h. elim h [ inl x ↦ p x | inr y ↦ q y ])

is_version : (major : ℕ) → Decided ((49 ≤ major) × (major ≤ 52))
is_version major =
    elim (cases_lt major 49) [
      | inl less ↦ inr (λ h. omega (arith, h.0))
      | inr h ↦ elim (cases_lt 52 major) [ inl more ↦ inr (λ k. omega (arith, k.1)) | inr k ↦ inl (h, k) ]
    ]

module _ (decided : Decisions) where
  passes : (test : Test) → Decided (Passes test)
  passes (IsMagic number) = is_number number MAGIC
  passes (IsVersion major) = is_version major
  passes (NamesClass consts index) = some_and IsClassName decided.class_name (class_at consts index)
  passes (NamesSuper consts index) =
      or_so (is_number index 0) (some_and IsClassName decided.class_name (class_at consts index))
  passes (NamesText consts index) = is_some (text_at consts index)
  passes (NamesAttribute consts index) = is_some (text_at consts index)
  passes (DescribesField consts index) = some_and FieldDescriptor decided.field (text_at consts index)
  passes (DescribesMethod consts access index) = some_and (IsDescriptorOf access) (decided.method access) (text_at consts index)

  tests_end : (at : ℕ) (tests : List Test) → AllByRecursion Passes tests ⊎ ((d : ClassFault) × FailsFirst class_format at tests d)
  tests_end at [] = inl tt
  tests_end at (test ∷ tests) =
      elim (passes test) [
        | inr fails ↦ inr (fault_of test at, first_fails at test tests fails)
        | inl pass ↦ elim (tests_end at tests) [
          | inl all ↦ inl (pass, all)
          | inr h ↦ inr (
            h.0,
            record {
              passed = test ∷ h.1.passed;
              failed = h.1.failed;
              others = h.1.others;
              tests_are = ap (λ (t : List Test). test ∷ t) h.1.tests_are;
              pass = (pass, h.1.pass);
              fails = h.1.fails;
              fault_is = h.1.fault_is;
            },
          )
        ]
      ]

-- ---- numbers

-- the numbers of the list are bytes
abbrev pub IsBytes : List ℕ → Type 0
IsBytes bytes = (i : ℕ) → get_or bytes i 0 < 256

fits_2 : (bs : List ℕ) → IsBytes bs → from_be_bytes w16 bs < 2 ^ 16
fits_2 bs fits = let x = fits 0 in let y = fits 1 in omega (arith, x, y)

fits_4 : (bs : List ℕ) → IsBytes bs → from_be_bytes w32 bs < 2 ^ 32
fits_4 bs fits = let x = fits 0 in let y = fits 1 in let z = fits 2 in let w = fits 3 in omega (arith, x, y, z, w)

module _ (bytes : List ℕ) (fits : IsBytes bytes) where
  front_fits : (n at : ℕ) → IsBytes (take n (drop at bytes))
  front_fits n at i =
      elim (cases_lt i n) [
        | inl lt ↦ rw (get_or-take n (drop at bytes) i 0 lt, get_or-drop) (fits (at + i))
        | inr le ↦ rw (get_or_past (take n (drop at bytes)) i 0 (omega (arith, length-take n (drop at bytes)))) (omega arith)
      ]

  front_there : (part : List ℕ) (at n : ℕ) → part ≡ take n (drop at bytes) → n ≡ length part → IsThere bytes at part
  front_there part at n front len =
      sym (take-append-drop n (drop at bytes)) ∙ ap (λ (t : List ℕ). t ++ drop n (drop at bytes)) (sym front)
      ∙ ap (λ (t : List ℕ). part ++ t) (drop-drop n at bytes ∙ ap (λ (k : ℕ). drop (at + k) bytes) len)

  abbrev Number : ℕ → ℕ → (ℕ → List ℕ) → ℕ → Type 0
  Number at size layout bound = (length (drop at bytes) < size) ⊎ ((n : ℕ) × IsThere bytes at (layout n) × (n < bound))

  u2_at : (at : ℕ) → Number at 2 u2 (2 ^ 16)
  u2_at at =
      elim (cases_lt (length (drop at bytes)) 2) [
        | inl short ↦ inl short
        | inr long ↦
            let front = take 2 (drop at bytes) in
            let len : length front ≡ 2 = omega (arith, length-take 2 (drop at bytes)) in
            let n = from_be_bytes w16 front in
            inr (n, front_there (u2 n) at 2 (be_bytes_2 front n len (front_fits 2 at) refl) refl, fits_2 front (front_fits 2 at))
      ]

  u4_at : (at : ℕ) → Number at 4 u4 (2 ^ 32)
  u4_at at =
      elim (cases_lt (length (drop at bytes)) 4) [
        | inl short ↦ inl short
        | inr long ↦
            let front = take 4 (drop at bytes) in
            let len : length front ≡ 4 = omega (arith, length-take 4 (drop at bytes)) in
            let n = from_be_bytes w32 front in
            inr (n, front_there (u4 n) at 4 (be_bytes_4 front n len (front_fits 4 at) refl) refl, fits_4 front (front_fits 4 at))
      ]

  -- ---- structures

  -- a structure whose parts stand there, up to an end, or one of whose parts is the first that does not
  abbrev Answer : {A : Type 0} → (A → List Part) → ℕ → Type 0
  Answer {A = A} parts at = ((y : A) × (end : ℕ) × Comes bytes at (parts y) (Ok end)) ⊎ ((y : A) × (d : ClassFault) × Comes bytes at (parts y) (Err d))

  -- there is one from each offset on
  abbrev Answers : {A : Type 0} → (A → List Part) → Type 0
  Answers parts = (at : ℕ) → at ≤ length bytes → Answer parts at

  -- one after the other; the second is some z where the first does not stand
  both : {A B : Type 0} (p : A → List Part) (q : A → B → List Part) (z : B) → Answers p → ((y : A) → Answers (q y)) → Answers (λ (x : A × B). p x.0 ++ q x.0 x.1)
  both p q z first second at within =
      elim (first at within) [
        | inr h ↦ inr ((h.0, z), h.1, stops (q h.0 z) h.2)
        | inl h ↦ elim (second h.0 h.1 (comes_within within h.2)) [
          | inl k ↦ inl ((h.0, k.0), k.1, then h.2 k.2)
          | inr k ↦ inr ((h.0, k.0), k.1, then h.2 k.2)
        ]
      ]

  -- the same parts as those of another structure
  seen_as : {A B : Type 0} (p : A → List Part) (q : B → List Part) (view : A → B) → ((y : A) → p y ≡ q (view y)) → Answers p → Answers q
  seen_as p q view same answers at within =
      elim (answers at within) [
        | inl h ↦ inl (view h.0, h.1, subst (λ (ps : List Part). Comes bytes at ps (Ok h.1)) (same h.0) h.2)
        | inr h ↦ inr (view h.0, h.1, subst (λ (ps : List Part). Comes bytes at ps (Err h.1)) (same h.0) h.2)
      ]

  module _ {A : Type 0} (parts : A → List Part) (item : Answers parts) where
    turns : (left at count read next : ℕ) (xs : List A) → next ≤ length bytes → Stand bytes at parts count xs read next → read + left ≡ count → Answer (table_parts parts) at
    turns zero at count read next xs within stand all = inl (xs, next, table_ends parts xs stand (omega arith))
    turns (suc left) at count read next xs within stand all =
        elim (item next within) [
          | inr h ↦ let whole = table_stops parts xs h.0 stand (omega arith) h.2 in inr (whole.0, h.1, whole.1)
          | inl h ↦ turns left at count (read + 1) h.1 (xs ++ h.0 ∷ []) (comes_within within h.2) (table_more parts xs h.0 stand h.2) (omega arith)
        ]

    table : Answers (table_parts parts)
    table at within =
        elim (u2_at at) [
          | inl short ↦ inr ([], Truncated at, u2_cut 0 [] (short, refl))
          | inr n ↦
              let count : Comes bytes at (U2 n.0 [] ∷ []) (Ok (at + 2)) = u2_comes n.1 refl n.2 tt in
              turns n.0 at n.0 0 (at + 2) [] (comes_within within count) (record { count_is = refl; comes = count }) (omega arith)
        ]

  module _ (decided : Decisions) where
    two : (tests : ℕ → List Test) → Answers (λ (n : ℕ). U2 n (tests n) ∷ [])
    two tests at within =
        elim (u2_at at) [
          | inl short ↦ inr (0, Truncated at, u2_cut 0 (tests 0) (short, refl))
          | inr n ↦ elim (tests_end decided at (tests n.0)) [
            | inl pass ↦ inl (n.0, at + 2, u2_comes n.1 refl n.2 pass)
            | inr fails ↦ inr (n.0, fails.0, u2_fails n.1 n.2 fails.1)
          ]
        ]

    four : (tests : ℕ → List Test) → Answers (λ (n : ℕ). U4 n (tests n) ∷ [])
    four tests at within =
        elim (u4_at at) [
          | inl short ↦ inr (0, Truncated at, u4_cut 0 (tests 0) (short, refl))
          | inr n ↦ elim (tests_end decided at (tests n.0)) [
            | inl pass ↦ inl (n.0, at + 4, u4_comes n.1 refl n.2 pass)
            | inr fails ↦ inr (n.0, fails.0, u4_fails n.1 n.2 fails.1)
          ]
        ]

    module _ (consts : List Place) where
      attribute : Answers (attribute_parts consts)
      attribute at within =
          elim (two (λ n. NamesAttribute consts n ∷ []) at within) [
            | inr h ↦ inr (record { name = h.0; bytes = [] }, h.1, stops (U4 0 [] ∷ Run [] [] ∷ []) h.2)
            | inl h ↦ elim (u4_at h.1) [
              | inl short ↦ inr (record { name = h.0; bytes = [] }, Truncated h.1, then h.2 (stops (Run [] [] ∷ []) (u4_cut 0 [] (short, refl))))
              | inr n ↦
                  let start = h.1 + 4 in
                  elim (cases_lt (length (drop start bytes)) n.0) [
                    | inl short ↦ let cut = attribute_cut h.2 n.1 refl n.2 (short, refl) in inr (cut.0, Truncated start, cut.1)
                    | inr long ↦
                        let run = take n.0 (drop start bytes) in
                        let len : length run ≡ n.0 = omega (arith, length-take n.0 (drop start bytes)) in
                        let counted : Comes bytes h.1 (U4 (length run) [] ∷ []) (Ok start) = u4_comes (rw len n.1) refl (rw len n.2) tt in
                        let stands : Comes bytes start (Run run [] ∷ []) (Ok (start + length run)) = record { goes = (front_there run start n.0 refl (sym len), tt, refl) } in
                        inl (record { name = h.0; bytes = run }, start + length run, then h.2 (then counted stands))
                  ]
            ]
          ]

      member : (tests : ℕ → ℕ → List Test) → Answers (λ (m : Member). member_parts consts (tests m.access m.descriptor) m)
      member tests =
          seen_as _ _ (λ (m : ℕ × (ℕ × (ℕ × List Attribute))). record { access = m.0; name = m.1.0; descriptor = m.1.1.0; attributes = m.1.1.1 }) (λ m. refl)
          (both _ _ (0, (0, [])) (two (λ n. []))
          (λ access. both _ _ (0, []) (two (λ name. NamesText consts name ∷ []))
          (λ name. both _ (λ descriptor. table_parts (attribute_parts consts)) [] (two (λ descriptor. tests access descriptor))
          (λ descriptor. table (attribute_parts consts) attribute))))

    -- ---- the class file

    module _ (pools : (at : ℕ) → at ≤ length bytes → ((places : List Place) × (end : ℕ) × IsPoolAt bytes at end places) ⊎ ((d : ConstFault) × in_pool.FirstFault bytes at d)) where
      pool : Answers (λ (places : List Place). Nested places ∷ [])
      pool at within =
          elim (pools at within) [
            | inl h ↦ inl (h.0, h.1, pool_comes bytes at h.1 h.0 h.2)
            | inr h ↦ inr ([], pool_fault h.0, record { goes = inl (h.0, h.1, refl) })
          ]

      start : Answers (λ (s : ℕ × (ℕ × ℕ)). start_parts s.0 s.1.0 s.1.1)
      start =
          both _ _ (0, 0) (four (λ magic. IsMagic magic ∷ []))
          (λ magic. both _ (λ minor major. U2 major (IsVersion major ∷ []) ∷ []) 0 (two (λ minor. [])) (λ minor. two (λ major. IsVersion major ∷ [])))

      own : (consts : List Place) → Answers (λ (o : ℕ × (ℕ × ℕ)). own_parts consts o.0 o.1.0 o.1.1)
      own consts =
          both _ _ (0, 0) (two (λ access. []))
          (λ access. both _ (λ class super. U2 super (NamesSuper consts super ∷ []) ∷ []) 0 (two (λ class. NamesClass consts class ∷ [])) (λ class. two (λ super. NamesSuper consts super ∷ [])))

      abbrev Lists : Type 0
      Lists = List ℕ × (List Member × (List Member × List Attribute))

      lists : (consts : List Place) → Answers (λ (l : Lists). lists_parts consts l.0 l.1.0 l.1.1.0 l.1.1.1)
      lists consts =
          both _ _ ([], ([], [])) (table (interface_parts consts) (two (λ index. NamesClass consts index ∷ [])))
          (λ interfaces. both _ _ ([], []) (table (field_parts consts) (member consts (λ access descriptor. NamesText consts descriptor ∷ DescribesField consts descriptor ∷ [])))
          (λ fields. both _ (λ methods attributes. table_parts (attribute_parts consts) attributes) [] (table (method_parts consts) (member consts (λ access descriptor. NamesText consts descriptor ∷ DescribesMethod consts access descriptor ∷ [])))
          (λ methods. table (attribute_parts consts) (attribute consts))))

      abbrev Whole : Type 0
      Whole = (ℕ × (ℕ × ℕ)) × (List Place × ((ℕ × (ℕ × ℕ)) × Lists))

      abbrev magic_of : Whole → ℕ
      magic_of w = w.0.0

      abbrev whole_class : Whole → Class
      whole_class w = class_of w.0.1.0 w.0.1.1 w.1.0 w.1.1.0.0 w.1.1.0.1.0 w.1.1.0.1.1 w.1.1.1.0 w.1.1.1.1.0 w.1.1.1.1.1.0 w.1.1.1.1.1.1

      class : Answers (λ (w : ℕ × Class). parts w.0 w.1)
      class =
          seen_as _ _ (λ (w : Whole). (magic_of w, whole_class w)) (λ w. refl)
          (both _ _ ([], ((0, (0, 0)), ([], ([], ([], []))))) start
          (λ s. both _ _ ((0, (0, 0)), ([], ([], ([], [])))) pool
          (λ consts. both _ (λ (o : ℕ × (ℕ × ℕ)) (l : Lists). lists_parts consts l.0 l.1.0 l.1.1.0 l.1.1.1) ([], ([], ([], []))) (own consts) (λ o. lists consts))))

      pub some_answer : ((c : Class) × ClassBytes bytes c × (length bytes ≤ MOST_BYTES)) ⊎ ((d : ClassFault) × FirstFault bytes d)
      some_answer =
          elim (cases_lt MOST_BYTES (length bytes)) [
            | inl more ↦ inr (TooLong, too_long more)
            | inr within ↦ elim (class 0 (omega arith)) [
              | inr h ↦ inr (h.1, breaks h.0.0 h.0.1 h.1 within h.2.goes)
              | inl h ↦
                  let stands = subst (λ (magic : ℕ). Comes bytes 0 (parts magic h.0.1) (Ok h.1)) h.2.goes.1.1.0 h.2 in
                  elim (cases_lt h.1 (length bytes)) [
                    | inl more ↦ inr (Trailing h.1, stands_trailing bytes h.0.1 h.1 stands within more)
                    | inr all ↦ inl (h.0.1, stands_whole bytes h.0.1 h.1 stands all, within)
                  ]
            ]
          ]

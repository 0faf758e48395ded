-- What is decoded is a program, and the constants allow its operands.
use Rattle.std.proofs.Common.{◌≡◌, ℕ, zero, suc, ◌<◌, ◌≤◌, List, [], ◌∷◌, ◌++◌, length, get_or}
use Rattle.std.proofs.Common.{is_some, refl, sym, ap, subst, ◌⊎◌, inl, inr, arith}
use Rattle.std.specs.List.{AllByRecursion, AllZip}
use Rattle.std.proofs.lemmas.Bool.{cases_lt}
use Rattle.std.proofs.lemmas.List.{length-append}
use Rattle.std.proofs.lemmas.Option.{slice_get_within, get_or_from_slice_get}
use Rattle.std.proofs.Math.ListN.{get_or-append}
use Rattle.je_consts.specs.declared.place.Place.{Place}
use Rattle.je_machine.specs.Content.{Content, Class}
use Rattle.je_instr.specs.declared.instr.Case.{Case}
use Rattle.je_instr.specs.declared.instr.Instr.{Instr}
use Rattle.je_instr.specs.declared.instr.Instr.TheVariants as instr
use Rattle.je_instr.specs.declared.program.Decoded.{Decoded}
use Rattle.je_instr.specs.declared.program.Handler.{Handler}
use Rattle.je_instr.specs.declared.program.RawHandler.{RawHandler}
use Rattle.je_instr.specs.Allowed.{AreKeys, AreRising, IsClass, HasDimensions, IsAllowed}
use Rattle.je_desc.specs.FieldType.{FieldType}
use Rattle.je_instr.specs.Assembling.{IsInRange, IsWithinProgram, IsProgram, IsCaught}
use Rattle.je_instr.specs.Assembling.{AllowsProgram}
use Rattle.je_instr.specs.CodeProgram.{HasTargets}
use Rattle.je_desc.specs.Names.{IsClassName}
use Rattle.je_instr.specs.Content.{Names}
use Rattle.je_instr.specs.Decoding.{Follow, Begins, BeginsCase, Leads, IsEntry, Decodes}
use Rattle.je_instr.proofs.EndLemmas.{form_within}

-- ---- operands

some_dimension : (count : ℕ) (content : Content) → IsClass (λ text. (type : FieldType) × HasDimensions count text type) content → 1 ≤ count
some_dimension count (Class text) h = h.1.some
some_dimension count _ h = absurd h

in_range : (consts : List Place) (i : Instr) → IsAllowed consts i → IsInRange i
in_range consts (instr.Simple opcode) h = h
in_range consts (instr.IntPush n) h = h
in_range consts (instr.Local opcode slot) h = h
in_range consts (instr.Branch opcode target) h = h
in_range consts (instr.TableSwitch low targets fallback) h = h
in_range consts (instr.LookupSwitch cases fallback) h = h
in_range consts (instr.Field opcode index) h = h.0
in_range consts (instr.Invoke opcode index) h = ap is_some h.1
in_range consts (instr.NewArray type) h = h
in_range consts (instr.MultiNew index count) h = some_dimension count h.0 h.2
in_range consts (instr.Ldc index) h = tt
in_range consts (instr.Ldc2 index) h = tt
in_range consts (instr.Iinc slot by) h = tt
in_range consts (instr.Goto target) h = tt
in_range consts (instr.InvokeInterface index count) h = tt
in_range consts (instr.InvokeDynamic index) h = tt
in_range consts (instr.New index) h = tt
in_range consts (instr.ANewArray index) h = tt
in_range consts (instr.CheckCast index) h = tt
in_range consts (instr.InstanceOf index) h = tt

-- ---- targets

module _ (consts : List Place) (starts : List ℕ) where
  begins_within : (offset k : ℕ) → Begins starts offset k → k < length starts
  begins_within offset k b = slice_get_within starts k offset b

  targets_long : (offsets targets : List ℕ) → AllZip (Begins starts) offsets targets → length offsets ≡ length targets
  targets_long [] [] h = refl
  targets_long (o ∷ offsets) (t ∷ targets) h = let on = targets_long offsets targets h.1 in omega (arith, on)
  targets_long [] (t ∷ targets) h = absurd h
  targets_long (o ∷ offsets) [] h = absurd h

  targets_within : (offsets targets : List ℕ) → AllZip (Begins starts) offsets targets → AllByRecursion (λ target. target < length starts) targets
  targets_within [] [] h = tt
  targets_within (o ∷ offsets) (t ∷ targets) h = (begins_within o t h.0, targets_within offsets targets h.1)
  targets_within [] (t ∷ targets) h = absurd h
  targets_within (o ∷ offsets) [] h = absurd h

  cases_within : (located cases : List Case) → AllZip (BeginsCase starts) located cases → AllByRecursion (λ (c : Case). c.target < length starts) cases
  cases_within [] [] h = tt
  cases_within (l ∷ located) (c ∷ cases) h = (begins_within l.target c.target h.0.1, cases_within located cases h.1)
  cases_within [] (c ∷ cases) h = absurd h
  cases_within (l ∷ located) [] h = absurd h

  rising_back : (located cases : List Case) → AllZip (BeginsCase starts) located cases → AreRising located → AreRising cases
  rising_back [] [] h r = tt
  rising_back (l ∷ []) (c ∷ []) h r = tt
  rising_back (l ∷ m ∷ located) (c ∷ d ∷ cases) h r = (rw (h.0.0, h.1.0.0) r.0, rising_back (m ∷ located) (d ∷ cases) h.1 r.1)
  rising_back [] (c ∷ cases) h r = absurd h
  rising_back (l ∷ located) [] h r = absurd h
  rising_back (l ∷ []) (c ∷ d ∷ cases) h r = absurd h.1
  rising_back (l ∷ m ∷ located) (c ∷ []) h r = absurd h.1

  -- what is known of an instruction with indexes
  record IsBack (i : Instr) : Type 0 where
    targets : HasTargets (length starts) i
    allowed : IsAllowed consts i

  back : (located i : Instr) → Leads starts located i → IsAllowed consts located → IsBack i
  back (instr.Branch opcode offset) i h a = subst IsBack (sym h.2) (record { targets = begins_within offset h.0 h.1; allowed = a })
  back (instr.Goto offset) i h a = subst IsBack (sym h.2) (record { targets = begins_within offset h.0 h.1; allowed = a })
  back (instr.TableSwitch low offsets offset) i h a =
      subst IsBack (sym h.4) (record { targets = (targets_within offsets h.0 h.2, begins_within offset h.1 h.3); allowed = subst (AreKeys low) (targets_long offsets h.0 h.2) a })
  back (instr.LookupSwitch located offset) i h a =
      subst IsBack (sym h.4) (record { targets = (cases_within located h.0 h.2, begins_within offset h.1 h.3); allowed = rising_back located h.0 h.2 a })
  back (instr.Simple opcode) i h a = subst IsBack (sym h) (record { targets = tt; allowed = a })
  back (instr.IntPush n) i h a = subst IsBack (sym h) (record { targets = tt; allowed = a })
  back (instr.Ldc index) i h a = subst IsBack (sym h) (record { targets = tt; allowed = a })
  back (instr.Ldc2 index) i h a = subst IsBack (sym h) (record { targets = tt; allowed = a })
  back (instr.Local opcode slot) i h a = subst IsBack (sym h) (record { targets = tt; allowed = a })
  back (instr.Iinc slot by) i h a = subst IsBack (sym h) (record { targets = tt; allowed = a })
  back (instr.Field opcode index) i h a = subst IsBack (sym h) (record { targets = tt; allowed = a })
  back (instr.Invoke opcode index) i h a = subst IsBack (sym h) (record { targets = tt; allowed = a })
  back (instr.InvokeInterface index count) i h a = subst IsBack (sym h) (record { targets = tt; allowed = a })
  back (instr.InvokeDynamic index) i h a = subst IsBack (sym h) (record { targets = tt; allowed = a })
  back (instr.New index) i h a = subst IsBack (sym h) (record { targets = tt; allowed = a })
  back (instr.NewArray type) i h a = subst IsBack (sym h) (record { targets = tt; allowed = a })
  back (instr.ANewArray index) i h a = subst IsBack (sym h) (record { targets = tt; allowed = a })
  back (instr.CheckCast index) i h a = subst IsBack (sym h) (record { targets = tt; allowed = a })
  back (instr.InstanceOf index) i h a = subst IsBack (sym h) (record { targets = tt; allowed = a })
  back (instr.MultiNew index count) i h a = subst IsBack (sym h) (record { targets = tt; allowed = a })

  all_back : (code : List ℕ) (at : ℕ) (located instrs : List Instr) (begin : List ℕ) (end : ℕ) → Follow consts code at located begin end → AllZip (Leads starts) located instrs → AllByRecursion IsBack instrs
  all_back code at [] [] begin end f h = tt
  all_back code at (l ∷ located) (i ∷ instrs) (b ∷ begin) end f h = (back l i h.0 f.2.allowed, all_back code f.1 located instrs begin end f.3 h.1)
  all_back code at (l ∷ located) (i ∷ instrs) [] end f h = absurd f
  all_back code at [] (i ∷ instrs) begin end f h = absurd h
  all_back code at (l ∷ located) [] begin end f h = absurd h

  follow_long : (code : List ℕ) (at : ℕ) (located instrs : List Instr) (begin : List ℕ) (end : ℕ) → Follow consts code at located begin end → AllZip (Leads starts) located instrs → length begin ≡ length instrs
  follow_long code at [] [] [] end f h = refl
  follow_long code at (l ∷ located) (i ∷ instrs) (b ∷ begin) end f h = let on = follow_long code f.1 located instrs begin end f.3 h.1 in omega (arith, on)
  follow_long code at [] [] (b ∷ begin) end f h = absurd f
  follow_long code at (l ∷ located) (i ∷ instrs) [] end f h = absurd f
  follow_long code at [] (i ∷ instrs) begin end f h = absurd h
  follow_long code at (l ∷ located) [] begin end f h = absurd h

  -- ---- handlers

  least : (code : List ℕ) (at : ℕ) (located : List Instr) (begin : List ℕ) (end k : ℕ) → Follow consts code at located begin end → k < length begin → at ≤ get_or begin k 0
  least code at (l ∷ located) (b ∷ begin) end zero f lt = let e = f.0 in omega (arith, e)
  least code at (l ∷ located) (b ∷ begin) end (suc k) f lt =
      let w = (form_within code at l f.1 f.2.form).grows in
      let on = least code f.1 located begin end k f.3 (omega (arith, lt)) in
      omega (arith, w, on)
  least code at [] [] end k f lt = absurd (omega (arith, lt))
  least code at _ _ end k f lt = absurd f

  sorted : (code : List ℕ) (at : ℕ) (located : List Instr) (begin : List ℕ) (end j k : ℕ) → Follow consts code at located begin end → j ≤ k → k < length begin → get_or begin j 0 ≤ get_or begin k 0
  sorted code at (l ∷ located) (b ∷ begin) end zero k f le lt = let e = f.0 in let on = least code at (l ∷ located) (b ∷ begin) end k f lt in omega (arith, e, on)
  sorted code at (l ∷ located) (b ∷ begin) end (suc j) zero f le lt = absurd (omega (arith, le))
  sorted code at (l ∷ located) (b ∷ begin) end (suc j) (suc k) f le lt = sorted code f.1 located begin end j k f.3 (omega (arith, le)) (omega (arith, lt))
  sorted code at [] [] end j k f le lt = absurd (omega (arith, lt))
  sorted code at _ _ end j k f le lt = absurd f

  module _ (rises : (j k : ℕ) → j ≤ k → k < length starts → get_or starts j 0 ≤ get_or starts k 0) (size : ℕ) where
    within : (raw : RawHandler) (h : Handler) → IsEntry consts starts size raw h → IsWithinProgram (length starts) h
    within raw h is =
        let first = begins_within raw.start h.start is.start in
        let long = length-append starts (size ∷ []) in
        let last = slice_get_within (starts ++ size ∷ []) h.end raw.end is.end in
        record {
          some = ends_behind raw h is;
          within = omega (arith, long, last);
          target = begins_within raw.target h.target is.target;
        } where
          ends_behind : (raw : RawHandler) (h : Handler) → IsEntry consts starts size raw h → h.start < h.end
          ends_behind raw h is = elim (cases_lt h.start h.end) [ inl lt ↦ lt | inr le ↦ absurd (no raw h is le) ] where
            no : (raw : RawHandler) (h : Handler) → IsEntry consts starts size raw h → h.end ≤ h.start → ⊥
            no raw h is le =
                let first = begins_within raw.start h.start is.start in
                let from : get_or starts h.start 0 ≡ raw.start = get_or_from_slice_get starts h.start raw.start 0 is.start in
                let to : get_or (starts ++ size ∷ []) h.end 0 ≡ raw.end = get_or_from_slice_get (starts ++ size ∷ []) h.end raw.end 0 is.end in
                let same : get_or (starts ++ size ∷ []) h.end 0 ≡ get_or starts h.end 0 = get_or-append starts (size ∷ []) 0 h.end (omega (arith, le, first)) in
                let up = rises h.end h.start le first in
                let less = is.some in
                omega (arith, from, to, same, up, less)

    all_within : (table : List RawHandler) (hs : List Handler) → AllZip (IsEntry consts starts size) table hs → AllByRecursion (IsWithinProgram (length starts)) hs
    all_within [] [] h = tt
    all_within (raw ∷ table) (g ∷ hs) h = (within raw g h.0, all_within table hs h.1)
    all_within [] (g ∷ hs) h = absurd h
    all_within (raw ∷ table) [] h = absurd h

    all_caught : (table : List RawHandler) (hs : List Handler) → AllZip (IsEntry consts starts size) table hs → AllByRecursion (IsCaught consts) hs
    all_caught [] [] h = tt
    all_caught (raw ∷ table) (g ∷ hs) h = (subst (λ (n : ℕ). (n ≡ 0) ⊎ Names consts n (IsClass IsClassName)) (sym h.0.catch_const) h.0.class, all_caught table hs h.1)
    all_caught [] (g ∷ hs) h = absurd h
    all_caught (raw ∷ table) [] h = absurd h

each : {A : Type 0} (P Q : A → Type 0) → ((x : A) → P x → Q x) → (xs : List A) → AllByRecursion P xs → AllByRecursion Q xs
each P Q f [] h = tt
each P Q f (x ∷ xs) h = (f x h.0, each P Q f xs h.1)

module _ (consts : List Place) (code : List ℕ) (table : List RawHandler) (d : Decoded) (is : Decodes consts code table d) where
  backs : AllByRecursion (IsBack consts is.starts) d.program.instrs
  backs = all_back consts is.starts code 0 is.located d.program.instrs is.starts (length code) is.follow is.instrs

  many : length is.starts ≡ length d.program.instrs
  many = follow_long consts is.starts code 0 is.located d.program.instrs is.starts (length code) is.follow is.instrs

  rises : (j k : ℕ) → j ≤ k → k < length is.starts → get_or is.starts j 0 ≤ get_or is.starts k 0
  rises j k le lt = sorted consts is.starts code 0 is.located is.starts (length code) j k is.follow le lt

  pub decoded_allows : AllowsProgram consts d.program
  decoded_allows = record {
    operands = each (IsBack consts is.starts) (IsAllowed consts) (λ i b. b.allowed) d.program.instrs backs;
    caught = all_caught consts is.starts rises (length code) table d.program.handlers is.handlers;
  }

  pub decoded_program : IsProgram d.program
  decoded_program = record {
    targets = subst (λ (n : ℕ). AllByRecursion (HasTargets n) d.program.instrs) many (each (IsBack consts is.starts) (HasTargets (length is.starts)) (λ i b. b.targets) d.program.instrs backs);
    operands = each (IsBack consts is.starts) IsInRange (λ i b. in_range consts i b.allowed) d.program.instrs backs;
    handlers = subst (λ (n : ℕ). AllByRecursion (IsWithinProgram n) d.program.handlers) many (all_within consts is.starts rises (length code) table d.program.handlers is.handlers);
  }

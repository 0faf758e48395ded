-- What a program is assembled to decodes to the program.
use Rattle.std.proofs.Common.{◌≡◌, ℕ, zero, suc, ◌+◌, ◌*◌, ◌-◌, ◌%◌, ◌^◌, ◌<◌, ◌≤◌, Bool, true}
use Rattle.std.proofs.Common.{false, cond, List, [], ◌∷◌, ◌++◌, length, map, get_or, ℤ, pos, negsuc}
use Rattle.std.proofs.Common.{FitsSigned, refl, sym, ap, subst, inl, inr, arith}
use Rattle.std.specs.List.{AllByRecursion, AllZip, flat_map}
use Rattle.std.specs.Int.{w16}
use Rattle.std.proofs.lemmas.Bool.{cases_lt}
use Rattle.std.proofs.lemmas.List.{length-append, length-map, length-take}
use Rattle.std.proofs.Math.ListN.{get_or-append}
use Rattle.je_base.specs.Bytes.{u4}
use Rattle.je_consts.specs.declared.place.Place.{Place}
use Rattle.je_instr.specs.declared.assembled.Assembled.{Assembled}
use Rattle.je_instr.specs.declared.instr.Case.{Case}
use Rattle.je_instr.specs.declared.instr.Instr.{Instr}
use Rattle.je_instr.specs.declared.instr.Instr.TheVariants as instr
use Rattle.je_instr.specs.declared.opcodes.TheConstants as op
use Rattle.je_instr.specs.declared.program.Handler.{Handler}
use Rattle.je_instr.specs.declared.program.Program.{Program}
use Rattle.je_instr.specs.declared.program.RawHandler.{RawHandler}
use Rattle.je_instr.specs.Allowed.{AreKeys, AreRising, IsAllowed}
use Rattle.je_instr.specs.Assembling.{IsInRange, IsWithinProgram, IsProgram, IsCaught}
use Rattle.je_instr.specs.Assembling.{AllowsProgram, IsFar, AreNear, raw_handler, IsAssembled}
use Rattle.je_instr.specs.Assembling.{placed}
use Rattle.je_instr.specs.CodeProgram.{HasTargets}
use Rattle.je_instr.specs.Decoding.{Follow, Begins, BeginsCase, Leads, IsEntry, Decodes}
use Rattle.je_instr.specs.Forms.{form_at}
use Rattle.je_instr.specs.Offsets.{AreShort, HasWidths}
use Rattle.je_instr.specs.Shortest.{s4, push_bytes, push_size, local_bytes, local_size, iinc_bytes}
use Rattle.je_instr.specs.Shortest.{iinc_size, ldc_bytes, ldc_size, distance, padding, target_bytes}
use Rattle.je_instr.specs.Shortest.{case_bytes, last_key, table_bytes, lookup_bytes, short_size}
use Rattle.je_instr.specs.Shortest.{short_end, short_offsets, short_bytes, short_code}
use Rattle.je_instr.proofs.HoldLemmas.{Holds, holds_front, holds_back}
use Rattle.je_instr.proofs.LayoutLemmas.{size_some, end_from}
use Rattle.je_instr.proofs.PlaceLemmas.{begins}
use Rattle.je_instr.proofs.OpcodeFormLemmas.{ok, simple_there, indexed, ldc2_form, new_form}
use Rattle.je_instr.proofs.OpcodeFormLemmas.{anewarray_form, checkcast_form, instanceof_form}
use Rattle.je_instr.proofs.OpcodeFormLemmas.{field_form, invoke_form}
use Rattle.je_instr.proofs.ShortLemmas.{push_there, ldc_there, local_there, iinc_there}
use Rattle.je_instr.proofs.ShortLemmas.{goto_form, branch_form, jumps, interface_there}
use Rattle.je_instr.proofs.ShortLemmas.{dynamic_there, newarray_there, multi_there, moved}
use Rattle.je_instr.proofs.SizeLemmas.{offsets_short}
use Rattle.je_instr.proofs.SwitchLemmas.{table_there, lookup_there}

-- ---- the same instruction with offsets as targets

module _ (offsets : List ℕ) where
  abbrev offset_at : ℕ → ℕ
  offset_at target = get_or offsets target 0

  abbrev located_case : Case → Case
  located_case c = record { key = c.key; target = offset_at c.target }

  abbrev located : Instr → Instr
  located (instr.Branch opcode target) = instr.Branch opcode (offset_at target)
  located (instr.Goto target) = instr.Goto (offset_at target)
  located (instr.TableSwitch low targets fallback) = instr.TableSwitch low (map offset_at targets) (offset_at fallback)
  located (instr.LookupSwitch cases fallback) = instr.LookupSwitch (map located_case cases) (offset_at fallback)
  located i = i

  rising_still : (cases : List Case) → AreRising cases → AreRising (map located_case cases)
  rising_still [] h = h
  rising_still (c ∷ []) h = h
  rising_still (c ∷ d ∷ cases) h = (h.0, rising_still (d ∷ cases) h.1)

  allowed_still : (consts : List Place) (i : Instr) → IsAllowed consts i → IsAllowed consts (located i)
  allowed_still consts (instr.TableSwitch low targets fallback) h = subst (AreKeys low) (sym (length-map targets offset_at)) h
  allowed_still consts (instr.LookupSwitch cases fallback) h = rising_still cases h
  allowed_still consts (instr.Simple opcode) h = h
  allowed_still consts (instr.IntPush n) h = h
  allowed_still consts (instr.Ldc index) h = h
  allowed_still consts (instr.Ldc2 index) h = h
  allowed_still consts (instr.Local opcode slot) h = h
  allowed_still consts (instr.Iinc slot by) h = h
  allowed_still consts (instr.Branch opcode target) h = h
  allowed_still consts (instr.Goto target) h = h
  allowed_still consts (instr.Field opcode index) h = h
  allowed_still consts (instr.Invoke opcode index) h = h
  allowed_still consts (instr.InvokeInterface index count) h = h
  allowed_still consts (instr.InvokeDynamic index) h = h
  allowed_still consts (instr.New index) h = h
  allowed_still consts (instr.NewArray code) h = h
  allowed_still consts (instr.ANewArray index) h = h
  allowed_still consts (instr.CheckCast index) h = h
  allowed_still consts (instr.InstanceOf index) h = h
  allowed_still consts (instr.MultiNew index count) h = h

-- ---- offsets

-- those of the instructions, without that of the end
abbrev starts_of : ℕ → List Instr → List ℕ
starts_of at [] = []
starts_of at (i ∷ is) = at ∷ starts_of (at + short_size at i) is

starts_are : (at : ℕ) (is : List Instr) → short_offsets at is ≡ starts_of at is ++ short_end at is ∷ []
starts_are at [] = refl
starts_are at (i ∷ is) = ap (λ (l : List ℕ). at ∷ l) (starts_are (at + short_size at i) is)

starts_long : (at : ℕ) (is : List Instr) → length (starts_of at is) ≡ length is
starts_long at [] = refl
starts_long at (i ∷ is) = let on = starts_long (at + short_size at i) is in omega (arith, on)

from_least : (at : ℕ) (is : List Instr) (j : ℕ) → j ≤ length is → at ≤ get_or (short_offsets at is) j 0
from_least at [] zero le = omega arith
from_least at [] (suc j) le = absurd (omega (arith, le))
from_least at (i ∷ is) zero le = omega arith
from_least at (i ∷ is) (suc j) le = let on = from_least (at + short_size at i) is j (omega (arith, le)) in omega (arith, on)

pub rising : (at : ℕ) (is : List Instr) (i j : ℕ) → i < j → j ≤ length is → get_or (short_offsets at is) i 0 < get_or (short_offsets at is) j 0
rising at is i zero lt le = absurd (omega (arith, lt))
rising at [] i (suc j) lt le = absurd (omega (arith, le))
rising at (x ∷ is) zero (suc j) lt le =
    let on = from_least (at + short_size at x) is j (omega (arith, le)) in
    let some = size_some at x in
    omega (arith, on, some)
rising at (x ∷ is) (suc i) (suc j) lt le = rising (at + short_size at x) is i j (omega (arith, lt)) (omega (arith, le))

-- ---- sizes

chosen_long : (b : Bool) (x y : List ℕ) (m n : ℕ) → length x ≡ m → length y ≡ n → length (cond b x y) ≡ cond b m n
chosen_long true x y m n hx hy = hx
chosen_long false x y m n hx hy = hy

flat_long : {A : Type 0} (f : A → List ℕ) (size : ℕ) (xs : List A) → ((x : A) → length (f x) ≡ size) → length (flat_map f xs) ≡ size * length xs
flat_long f size [] each = omega arith
flat_long f size (x ∷ xs) each = let on = flat_long f size xs each in let e = length-append (f x) (flat_map f xs) in let front = each x in grind (arith, on, e, front)

padding_long : (at : ℕ) → length (padding at) ≡ 3 - at % 4
padding_long at = let long = length-take {A = ℕ} (3 - at % 4) (0 ∷ 0 ∷ 0 ∷ []) in omega (arith, long)

push_long : (n : ℤ) → length (push_bytes n) ≡ push_size n
unfolding push_bytes push_size
push_long n = chosen_long _ _ _ 1 _ refl (chosen_long _ _ _ 2 3 refl refl)

ldc_long : (index : ℕ) → length (ldc_bytes index) ≡ ldc_size index
unfolding ldc_bytes ldc_size
ldc_long index = chosen_long _ _ _ 2 3 refl refl

local_long : (opcode slot : ℕ) → length (local_bytes opcode slot) ≡ local_size slot
unfolding local_bytes local_size
local_long opcode slot = chosen_long _ _ _ 1 _ refl (chosen_long _ _ _ 2 4 refl refl)

iinc_long : (slot : ℕ) (by : ℤ) → length (iinc_bytes slot by) ≡ iinc_size slot by
unfolding iinc_bytes iinc_size
iinc_long slot by = chosen_long _ _ _ 3 6 refl refl

table_long : (offsets : List ℕ) (at : ℕ) (low : ℤ) (targets : List ℕ) (fallback : ℕ) → length (table_bytes offsets at low targets fallback) ≡ 4 - at % 4 + 12 + 4 * length targets
unfolding table_bytes
table_long offsets at low targets fallback =
    let t = flat_map (target_bytes offsets at) targets in
    let behind = target_bytes offsets at fallback ++ (s4 low ++ (s4 (last_key low (length targets)) ++ t)) in
    let e = length-append (padding at) behind in
    let p = padding_long at in
    let l : length t ≡ 4 * length targets = flat_long (target_bytes offsets at) 4 targets (λ x. refl) in
    let b : length behind ≡ 12 + length t = omega arith in
    omega (arith, e, p, l, b)

lookup_long : (offsets : List ℕ) (at : ℕ) (cases : List Case) (fallback : ℕ) → length (lookup_bytes offsets at cases fallback) ≡ 4 - at % 4 + 8 + 8 * length cases
unfolding lookup_bytes
lookup_long offsets at cases fallback =
    let t = flat_map (case_bytes offsets at) cases in
    let behind = target_bytes offsets at fallback ++ (u4 (length cases) ++ t) in
    let e = length-append (padding at) behind in
    let p = padding_long at in
    let l : length t ≡ 8 * length cases = flat_long (case_bytes offsets at) 8 cases (λ x. refl) in
    let b : length behind ≡ 8 + length t = omega arith in
    omega (arith, e, p, l, b)

size_is : (offsets : List ℕ) (at : ℕ) (i : Instr) → length (short_bytes offsets at i) ≡ short_size at i
size_is offsets at (instr.IntPush n) = push_long n
size_is offsets at (instr.Ldc index) = ldc_long index
size_is offsets at (instr.Local opcode slot) = local_long opcode slot
size_is offsets at (instr.Iinc slot by) = iinc_long slot by
size_is offsets at (instr.TableSwitch low targets fallback) = table_long offsets at low targets fallback
size_is offsets at (instr.LookupSwitch cases fallback) = lookup_long offsets at cases fallback
size_is offsets at (instr.Simple opcode) = refl
size_is offsets at (instr.Ldc2 index) = refl
size_is offsets at (instr.Branch opcode target) = refl
size_is offsets at (instr.Goto target) = refl
size_is offsets at (instr.Field opcode index) = refl
size_is offsets at (instr.Invoke opcode index) = refl
size_is offsets at (instr.InvokeInterface index count) = refl
size_is offsets at (instr.InvokeDynamic index) = refl
size_is offsets at (instr.New index) = refl
size_is offsets at (instr.NewArray code) = refl
size_is offsets at (instr.ANewArray index) = refl
size_is offsets at (instr.CheckCast index) = refl
size_is offsets at (instr.InstanceOf index) = refl
size_is offsets at (instr.MultiNew index count) = refl

code_long : (offsets : List ℕ) (at : ℕ) (is : List Instr) → at + length (short_code offsets at is) ≡ short_end at is
code_long offsets at [] = omega arith
code_long offsets at (i ∷ is) =
    let e = length-append (short_bytes offsets at i) (short_code offsets (at + short_size at i) is) in
    let one = size_is offsets at i in
    let on = code_long offsets (at + short_size at i) is in
    omega (arith, e, one, on)

-- ---- one instruction

no_distance : (z : ℤ) → ((FitsSigned w16 z → ⊥) → ⊥) → FitsSigned w16 z
no_distance (pos n) h = elim (cases_lt n 32768) [ inl lt ↦ record { sfits = lt } | inr le ↦ absurd (h (λ f. let g = f.sfits in omega (arith, g, le))) ]
no_distance (negsuc n) h = elim (cases_lt n 32768) [ inl lt ↦ record { sfits = lt } | inr le ↦ absurd (h (λ f. let g = f.sfits in omega (arith, g, le))) ]

module _ (code offsets : List ℕ) (short : AreShort offsets) where
  short_form : (at : ℕ) (i : Instr) → at + short_size at i < 2 ^ 16 → IsInRange i → HasWidths i → (IsFar offsets at i → ⊥) → Holds code at (short_bytes offsets at i)
      → form_at code at ≡ ok (located offsets i) (at + short_size at i)
  short_form at (instr.Simple opcode) la range widths near h = simple_there code at opcode range h
  short_form at (instr.IntPush n) la range widths near h = push_there code at n range h
  short_form at (instr.Ldc index) la range widths near h = ldc_there code at index widths h
  short_form at (instr.Ldc2 index) la range widths near h = indexed op.LDC2_W instr.Ldc2 ldc2_form code at index widths h
  short_form at (instr.Local opcode slot) la range widths near h = local_there code at opcode slot range widths h
  short_form at (instr.Iinc slot by) la range widths near h = iinc_there code at slot by widths.0 widths.1 h
  short_form at (instr.Branch opcode target) la range widths near h = jumps opcode (instr.Branch opcode) (branch_form opcode range) code offsets at target (omega (arith, la)) (short target) (no_distance (distance offsets at target) near) h
  short_form at (instr.Goto target) la range widths near h = jumps op.GOTO instr.Goto goto_form code offsets at target (omega (arith, la)) (short target) (no_distance (distance offsets at target) near) h
  short_form at (instr.TableSwitch low targets fallback) la range widths near h = table_there code offsets at short (omega (arith, la)) low targets fallback widths range h
  short_form at (instr.LookupSwitch cases fallback) la range widths near h = lookup_there code offsets at short (omega (arith, la)) cases fallback (omega (arith, la)) widths h
  short_form at (instr.Field opcode index) la range widths near h = indexed opcode (instr.Field opcode) (field_form opcode range) code at index widths h
  short_form at (instr.Invoke opcode index) la range widths near h = indexed opcode (instr.Invoke opcode) (invoke_form opcode range) code at index widths h
  short_form at (instr.InvokeInterface index count) la range widths near h = interface_there code at index count widths h
  short_form at (instr.InvokeDynamic index) la range widths near h = dynamic_there code at index widths h
  short_form at (instr.New index) la range widths near h = indexed op.NEW instr.New new_form code at index widths h
  short_form at (instr.NewArray type) la range widths near h = newarray_there code at type h
  short_form at (instr.ANewArray index) la range widths near h = indexed op.ANEWARRAY instr.ANewArray anewarray_form code at index widths h
  short_form at (instr.CheckCast index) la range widths near h = indexed op.CHECKCAST instr.CheckCast checkcast_form code at index widths h
  short_form at (instr.InstanceOf index) la range widths near h = indexed op.INSTANCEOF instr.InstanceOf instanceof_form code at index widths h
  short_form at (instr.MultiNew index count) la range widths near h = multi_there code at index count widths h

  -- ---- all instructions

  follow : (consts : List Place) (at : ℕ) (is : List Instr) → short_end at is < 2 ^ 16 → AllByRecursion IsInRange is → AllByRecursion HasWidths is → AllByRecursion (IsAllowed consts) is
      → AreNear offsets at is → Holds code at (short_code offsets at is) → Follow consts code at (map (located offsets) is) (starts_of at is) (short_end at is)
  follow consts at [] lt range widths allowed near h = refl
  follow consts at (i ∷ is) lt range widths allowed near h =
      let next = at + short_size at i in
      let rest = short_code offsets next is in
      let on = end_from next is in
      let behind = moved code at (at + length (short_bytes offsets at i)) next rest (ap (λ (n : ℕ). at + n) (size_is offsets at i)) (holds_back code at (short_bytes offsets at i) rest h) in (
        refl,
        next,
        record {
          form = short_form at i (omega (arith, on, lt)) range.0 widths.0 near.0 (holds_front code at (short_bytes offsets at i) rest h);
          allowed = allowed_still offsets consts i allowed.0;
        },
        follow consts next is lt range.1 widths.1 allowed.1 near.1 behind,
      )

-- ---- targets and handlers

module _ (starts : List ℕ) (end : ℕ) where
  begins_there : (target : ℕ) → target < length starts → Begins starts (offset_at (starts ++ end ∷ []) target) target
  begins_there target lt = begins starts (offset_at (starts ++ end ∷ []) target) target lt (sym (get_or-append starts (end ∷ []) 0 target lt))

  targets_begin : (targets : List ℕ) → AllByRecursion (λ target. target < length starts) targets → AllZip (Begins starts) (map (offset_at (starts ++ end ∷ [])) targets) targets
  targets_begin [] h = tt
  targets_begin (t ∷ targets) h = (begins_there t h.0, targets_begin targets h.1)

  cases_begin : (cases : List Case) → AllByRecursion (λ (c : Case). c.target < length starts) cases → AllZip (BeginsCase starts) (map (located_case (starts ++ end ∷ [])) cases) cases
  cases_begin [] h = tt
  cases_begin (c ∷ cases) h = ((refl, begins_there c.target h.0), cases_begin cases h.1)

  leads : (i : Instr) → HasTargets (length starts) i → Leads starts (located (starts ++ end ∷ []) i) i
  leads (instr.Branch opcode target) h = (target, begins_there target h, refl)
  leads (instr.Goto target) h = (target, begins_there target h, refl)
  leads (instr.TableSwitch low targets fallback) h = (targets, fallback, targets_begin targets h.0, begins_there fallback h.1, refl)
  leads (instr.LookupSwitch cases fallback) h = (cases, fallback, cases_begin cases h.0, begins_there fallback h.1, refl)
  leads (instr.Simple opcode) h = refl
  leads (instr.IntPush n) h = refl
  leads (instr.Ldc index) h = refl
  leads (instr.Ldc2 index) h = refl
  leads (instr.Local opcode slot) h = refl
  leads (instr.Iinc slot by) h = refl
  leads (instr.Field opcode index) h = refl
  leads (instr.Invoke opcode index) h = refl
  leads (instr.InvokeInterface index count) h = refl
  leads (instr.InvokeDynamic index) h = refl
  leads (instr.New index) h = refl
  leads (instr.NewArray code) h = refl
  leads (instr.ANewArray index) h = refl
  leads (instr.CheckCast index) h = refl
  leads (instr.InstanceOf index) h = refl
  leads (instr.MultiNew index count) h = refl

  all_lead : (is : List Instr) → AllByRecursion (HasTargets (length starts)) is → AllZip (Leads starts) (map (located (starts ++ end ∷ [])) is) is
  all_lead [] h = tt
  all_lead (i ∷ is) h = (leads i h.0, all_lead is h.1)

  entry : (consts : List Place) (h : Handler) → IsWithinProgram (length starts) h → IsCaught consts h
      → ((i j : ℕ) → i < j → j ≤ length starts → offset_at (starts ++ end ∷ []) i < offset_at (starts ++ end ∷ []) j)
      → IsEntry consts starts end (raw_handler (starts ++ end ∷ []) h) h
  entry consts h within caught rises =
      let some = within.some in
      let last = within.within in
      let long = length-append starts (end ∷ []) in
      record {
        start = begins_there h.start (omega (arith, some, last));
        end = begins (starts ++ end ∷ []) (offset_at (starts ++ end ∷ []) h.end) h.end (omega (arith, long, last)) refl;
        target = begins_there h.target within.target;
        some = rises h.start h.end some last;
        catch_const = refl;
        class = caught;
      }

  all_entries : (consts : List Place) (hs : List Handler) → AllByRecursion (IsWithinProgram (length starts)) hs → AllByRecursion (IsCaught consts) hs
      → ((i j : ℕ) → i < j → j ≤ length starts → offset_at (starts ++ end ∷ []) i < offset_at (starts ++ end ∷ []) j)
      → AllZip (IsEntry consts starts end) (map (raw_handler (starts ++ end ∷ [])) hs) hs
  all_entries consts [] within caught rises = tt
  all_entries consts (h ∷ hs) within caught rises = (entry consts h within.0 caught.0 rises, all_entries consts hs within.1 caught.1 rises)

-- ---- the whole

module _ (consts : List Place) (p : Program) (is_program : IsProgram p) (widths : AllByRecursion HasWidths p.instrs) (allows : AllowsProgram consts p) where
  abbrev offsets : List ℕ
  offsets = short_offsets 0 p.instrs

  abbrev starts : List ℕ
  starts = starts_of 0 p.instrs

  abbrev end : ℕ
  end = short_end 0 p.instrs

  offsets_are : offsets ≡ starts ++ end ∷ []
  offsets_are = starts_are 0 p.instrs

  many : length p.instrs ≡ length starts
  many = sym (starts_long 0 p.instrs)

  whole : end < 2 ^ 16 → AreNear offsets 0 p.instrs → Follow consts (short_code offsets 0 p.instrs) 0 (map (located offsets) p.instrs) starts end
  whole lt near = follow (short_code offsets 0 p.instrs) offsets (offsets_short p.instrs lt) consts 0 p.instrs lt is_program.operands widths allows.operands near
      (record { each = λ k less. ap (λ (n : ℕ). get_or (short_code offsets 0 p.instrs) n 0) (omega arith); within = omega arith })

  -- the program at its offsets, with its code and its entries
  decodes_short : end < 2 ^ 16 → AreNear offsets 0 p.instrs → Decodes consts (short_code offsets 0 p.instrs) (map (raw_handler offsets) p.handlers) (record { program = p; offsets = offsets })
  decodes_short lt near =
      let long : end ≡ length (short_code offsets 0 p.instrs) = let e = code_long offsets 0 p.instrs in omega (arith, e) in
      let rises : (i j : ℕ) → i < j → j ≤ length starts → offset_at (starts ++ end ∷ []) i < offset_at (starts ++ end ∷ []) j =
      λ i j less le. subst (λ (o : List ℕ). offset_at o i < offset_at o j) offsets_are (rising 0 p.instrs i j less (let m = many in omega (arith, m, le))) in
      record {
        located = map (located offsets) p.instrs;
        starts = starts;
        follow = subst (λ (n : ℕ). Follow consts (short_code offsets 0 p.instrs) 0 (map (located offsets) p.instrs) starts n) long (whole lt near);
        offsets = subst (λ (n : ℕ). offsets ≡ starts ++ n ∷ []) long offsets_are;
        instrs = subst (λ (o : List ℕ). AllZip (Leads starts) (map (located o) p.instrs) p.instrs) (sym offsets_are) (all_lead starts end p.instrs (subst (λ (n : ℕ). AllByRecursion (HasTargets n) p.instrs) many is_program.targets));
        handlers = subst (λ (n : ℕ). AllZip (IsEntry consts starts n) (map (raw_handler offsets) p.handlers) p.handlers) long
            (subst (λ (o : List ℕ). AllZip (IsEntry consts starts end) (map (raw_handler o) p.handlers) p.handlers) (sym offsets_are)
            (all_entries starts end consts p.handlers (subst (λ (n : ℕ). AllByRecursion (IsWithinProgram n) p.handlers) many is_program.handlers) allows.caught rises));
      }

  pub decodes : (a : Assembled) → IsAssembled p a → Decodes consts a.code a.table (placed p a)
  decodes a is =
      subst (λ (c : List ℕ). Decodes consts c a.table (placed p a)) (sym is.code)
      (subst (λ (t : List RawHandler). Decodes consts (short_code offsets 0 p.instrs) t (placed p a)) (sym is.table)
      (subst (λ (o : List ℕ). Decodes consts (short_code offsets 0 p.instrs) (map (raw_handler offsets) p.handlers) (record { program = p; offsets = o })) (sym is.offsets) (decodes_short is.short is.near)))

-- Code and an exception table are one program at most, or have one first fault.
use Rattle.std.proofs.Common.{◌≡◌, ℕ, ◌+◌, ◌<◌, ℤ, List, [], ◌∷◌, ◌++◌, length, refl, sym, ap}
use Rattle.std.proofs.Common.{subst, ◌∙◌, ◌⊎◌, inl, inr}
use Rattle.std.specs.List.{AllZip}
use Rattle.je_consts.specs.declared.place.Place.{Place}
use Rattle.je_instr.specs.declared.fault.CodeFault.{CodeFault}
use Rattle.je_instr.specs.declared.fault.CodeFault.TheVariants.{BadTarget, BadRange, Memory}
use Rattle.je_instr.specs.declared.instr.Case.{Case}
use Rattle.je_instr.specs.declared.instr.Instr.{Instr}
use Rattle.je_instr.specs.declared.instr.Instr.TheVariants as instr
use Rattle.je_instr.specs.declared.program.Decoded.{Decoded}
use Rattle.je_instr.specs.declared.program.Handler.{Handler}
use Rattle.je_instr.specs.declared.program.RawHandler.{RawHandler}
use Rattle.je_instr.specs.Decoding.{Follow, IsStop, Begins, BeginsCase, Leads, IsFirstNowhere}
use Rattle.je_instr.specs.Decoding.{IsEntry, IsFirstNoEntry, Decodes, FirstFault, stops, nowhere}
use Rattle.je_instr.specs.Decoding.{no_entry}
use Rattle.je_instr.specs.Indexing.{AreApart}
use Rattle.je_instr.specs.Walking.{StopsAt}
use Rattle.je_instr.proofs.ZipLemmas.{zip_once}
use Rattle.je_instr.proofs.FollowLemmas.{follow_once, follow_no_stop, stops_once, begins_once}
use Rattle.je_instr.proofs.FollowLemmas.{ends_once}

-- ---- targets

abbrev case_made : ℤ → ℕ → Case
case_made key target = record { key = key; target = target }

module _ (starts : List ℕ) (apart : AreApart starts) where
  case_once : (c a b : Case) → BeginsCase starts c a → BeginsCase starts c b → a ≡ b
  case_once c a b h k =
      let target = apart c.target a.target b.target h.1 k.1 in
      ap (λ (x : ℤ). case_made x a.target) (h.0 ∙ sym k.0) ∙ ap (λ (x : ℕ). case_made b.key x) target

  lead_once : (l a b : Instr) → Leads starts l a → Leads starts l b → a ≡ b
  lead_once (instr.Branch opcode o) a b (t, ht, ea) (u, hu, eb) = ea ∙ ap (λ (n : ℕ). instr.Branch opcode n) (apart o t u ht hu) ∙ sym eb
  lead_once (instr.Goto o) a b (t, ht, ea) (u, hu, eb) = ea ∙ ap (λ (n : ℕ). instr.Goto n) (apart o t u ht hu) ∙ sym eb
  lead_once (instr.TableSwitch low os o) a b (ts, t, hts, ht, ea) (us, u, hus, hu, eb) =
      ea ∙ ap (λ (l : List ℕ). instr.TableSwitch low l t) (zip_once (Begins starts) os ts us apart hts hus)
      ∙ ap (λ (n : ℕ). instr.TableSwitch low us n) (apart o t u ht hu) ∙ sym eb
  lead_once (instr.LookupSwitch cs o) a b (ts, t, hts, ht, ea) (us, u, hus, hu, eb) =
      ea ∙ ap (λ (l : List Case). instr.LookupSwitch l t) (zip_once (BeginsCase starts) cs ts us case_once hts hus)
      ∙ ap (λ (n : ℕ). instr.LookupSwitch us n) (apart o t u ht hu) ∙ sym eb
  lead_once (instr.Simple x) a b ha hb = ha ∙ sym hb
  lead_once (instr.IntPush x) a b ha hb = ha ∙ sym hb
  lead_once (instr.Ldc x) a b ha hb = ha ∙ sym hb
  lead_once (instr.Ldc2 x) a b ha hb = ha ∙ sym hb
  lead_once (instr.Local x y) a b ha hb = ha ∙ sym hb
  lead_once (instr.Iinc x y) a b ha hb = ha ∙ sym hb
  lead_once (instr.Field x y) a b ha hb = ha ∙ sym hb
  lead_once (instr.Invoke x y) a b ha hb = ha ∙ sym hb
  lead_once (instr.InvokeInterface x y) a b ha hb = ha ∙ sym hb
  lead_once (instr.InvokeDynamic x) a b ha hb = ha ∙ sym hb
  lead_once (instr.New x) a b ha hb = ha ∙ sym hb
  lead_once (instr.NewArray x) a b ha hb = ha ∙ sym hb
  lead_once (instr.ANewArray x) a b ha hb = ha ∙ sym hb
  lead_once (instr.CheckCast x) a b ha hb = ha ∙ sym hb
  lead_once (instr.InstanceOf x) a b ha hb = ha ∙ sym hb
  lead_once (instr.MultiNew x y) a b ha hb = ha ∙ sym hb

module _ (starts : List ℕ) where
  nowhere_no : (ls : List Instr) (os : List ℕ) (at : ℕ) (is : List Instr) → IsFirstNowhere starts ls os at → AllZip (Leads starts) ls is → ⊥
  nowhere_no [] os at is h k = h
  nowhere_no (l ∷ ls) [] at is h k = h
  nowhere_no (l ∷ ls) (o ∷ os) at [] h k = k
  nowhere_no (l ∷ ls) (o ∷ os) at (i ∷ is) (inl h) k = h.0 i k.0
  nowhere_no (l ∷ ls) (o ∷ os) at (i ∷ is) (inr h) k = nowhere_no ls os at is h.2 k.1

  nowhere_once : (ls : List Instr) (os : List ℕ) (m n : ℕ) → IsFirstNowhere starts ls os m → IsFirstNowhere starts ls os n → m ≡ n
  nowhere_once [] os m n h k = absurd h
  nowhere_once (l ∷ ls) [] m n h k = absurd h
  nowhere_once (l ∷ ls) (o ∷ os) m n (inl h) (inl k) = h.1 ∙ sym k.1
  nowhere_once (l ∷ ls) (o ∷ os) m n (inl h) (inr k) = absurd (h.0 k.0 k.1)
  nowhere_once (l ∷ ls) (o ∷ os) m n (inr h) (inl k) = absurd (k.0 h.0 h.1)
  nowhere_once (l ∷ ls) (o ∷ os) m n (inr h) (inr k) = nowhere_once ls os m n h.2 k.2

-- ---- the exception table

abbrev handler_made : ℕ → ℕ → ℕ → ℕ → Handler
handler_made start end target class = record { start = start; end = end; target = target; catch_const = class }

module _ (consts : List Place) (starts : List ℕ) (size : ℕ) where
  entry_once : AreApart starts → AreApart (starts ++ size ∷ []) → (raw : RawHandler) (g h : Handler) → IsEntry consts starts size raw g → IsEntry consts starts size raw h → g ≡ h
  entry_once apart apart_ends raw g h eg eh =
      ap (λ (x : ℕ). handler_made x g.end g.target g.catch_const) (apart raw.start g.start h.start eg.start eh.start)
      ∙ ap (λ (x : ℕ). handler_made h.start x g.target g.catch_const) (apart_ends raw.end g.end h.end eg.end eh.end)
      ∙ ap (λ (x : ℕ). handler_made h.start h.end x g.catch_const) (apart raw.target g.target h.target eg.target eh.target)
      ∙ ap (λ (x : ℕ). handler_made h.start h.end h.target x) (eg.catch_const ∙ sym eh.catch_const)

  no_entry_no : (table : List RawHandler) (from index : ℕ) (hs : List Handler) → IsFirstNoEntry consts starts size table from index → AllZip (IsEntry consts starts size) table hs → ⊥
  no_entry_no [] from index hs h k = h
  no_entry_no (raw ∷ table) from index [] h k = k
  no_entry_no (raw ∷ table) from index (g ∷ hs) (inl h) k = h.0 g k.0
  no_entry_no (raw ∷ table) from index (g ∷ hs) (inr h) k = no_entry_no table (from + 1) index hs h.2 k.1

  no_entry_once : (table : List RawHandler) (from m n : ℕ) → IsFirstNoEntry consts starts size table from m → IsFirstNoEntry consts starts size table from n → m ≡ n
  no_entry_once [] from m n h k = absurd h
  no_entry_once (raw ∷ table) from m n (inl h) (inl k) = h.1 ∙ sym k.1
  no_entry_once (raw ∷ table) from m n (inl h) (inr k) = absurd (h.0 k.0 k.1)
  no_entry_once (raw ∷ table) from m n (inr h) (inl k) = absurd (k.0 h.0 h.1)
  no_entry_once (raw ∷ table) from m n (inr h) (inr k) = no_entry_once table (from + 1) m n h.2 k.2

-- ---- the whole

abbrev pub decoded_made : List Instr → List Handler → List ℕ → Decoded
decoded_made instrs handlers offsets = record { program = record { instrs = instrs; handlers = handlers }; offsets = offsets }

module _ (consts : List Place) (code : List ℕ) (table : List RawHandler) where
  abbrev Whole : List Instr → List ℕ → Type 0
  Whole is os = Follow consts code 0 is os (length code)

  whole_once : (is js : List Instr) (os ps : List ℕ) → Whole is os → Whole js ps → (is ≡ js) × (os ≡ ps)
  whole_once is js os ps h k = follow_once consts code (length code) refl 0 is js os ps h k

  pub starts_apart : (is : List Instr) (os : List ℕ) → Whole is os → AreApart os
  starts_apart is os h o k l b c = begins_once consts code 0 is os (length code) o k l h b c

  ends_apart : (is : List Instr) (os : List ℕ) → Whole is os → AreApart (os ++ length code ∷ [])
  ends_apart is os h o k l b c = ends_once consts code 0 is os (length code) o k l h b c

  same_parts : (ls : List Instr) (os : List ℕ) (is js : List Instr) (gs hs : List Handler) → Whole ls os → AllZip (Leads os) ls is → AllZip (Leads os) ls js → AllZip (IsEntry consts os (length code)) table gs → AllZip (IsEntry consts os (length code)) table hs → (is ≡ js) × (gs ≡ hs)
  same_parts ls os is js gs hs w hi hj hg hh = (
    zip_once (Leads os) ls is js (lead_once os (starts_apart ls os w)) hi hj,
    zip_once (IsEntry consts os (length code)) table gs hs (entry_once consts os (length code) (starts_apart ls os w) (ends_apart ls os w)) hg hh,
  )

  pub same_decoded : (d e : Decoded) → Decodes consts code table d → Decodes consts code table e → d ≡ e
  same_decoded d e hd he =
      let w = whole_once hd.located he.located hd.starts he.starts hd.follow he.follow in
      let instrs = subst (λ (l : List Instr). AllZip (Leads hd.starts) l e.program.instrs) (sym w.0) (subst (λ (l : List ℕ). AllZip (Leads l) he.located e.program.instrs) (sym w.1) he.instrs) in
      let handlers = subst (λ (l : List ℕ). AllZip (IsEntry consts l (length code)) table e.program.handlers) (sym w.1) he.handlers in
      let same = same_parts hd.located hd.starts d.program.instrs e.program.instrs d.program.handlers e.program.handlers hd.follow hd.instrs instrs hd.handlers handlers in
      let offsets = hd.offsets ∙ ap (λ (l : List ℕ). l ++ length code ∷ []) w.1 ∙ sym he.offsets in
      ap (λ (l : List Instr). decoded_made l d.program.handlers d.offsets) same.0
      ∙ ap (λ (l : List Handler). decoded_made e.program.instrs l d.offsets) same.1
      ∙ ap (λ (l : List ℕ). decoded_made e.program.instrs e.program.handlers l) offsets

  pub decoded_no_fault : (d : Decoded) (f : CodeFault) → Decodes consts code table d → FirstFault consts code table f → ⊥
  decoded_no_fault d _ h (stops ls os at f follow within stop) =
      follow_no_stop consts code (length code) refl 0 at h.located ls h.starts os f h.follow follow within stop
  decoded_no_fault d _ h (nowhere ls os at follow first) =
      let w = whole_once ls h.located os h.starts follow h.follow in
      nowhere_no h.starts h.located h.starts at d.program.instrs (subst (λ (l : List Instr). IsFirstNowhere h.starts l h.starts at) w.0 (subst (λ (l : List ℕ). IsFirstNowhere l ls l at) w.1 first)) h.instrs
  decoded_no_fault d _ h (no_entry ls is os index follow lead first) =
      let w = whole_once ls h.located os h.starts follow h.follow in
      no_entry_no consts h.starts (length code) table 0 index d.program.handlers (subst (λ (l : List ℕ). IsFirstNoEntry consts l (length code) table 0 index) w.1 first) h.handlers

  stop_alone : (ls : List Instr) (os : List ℕ) (at : ℕ) (f g : CodeFault) → Follow consts code 0 ls os at → at < length code → IsStop consts code at f → FirstFault consts code table g → f ≡ g
  stop_alone ls os at f _ follow within stop (stops ms ps last g other inside also) =
      stops_once consts code (length code) refl 0 at last ls ms os ps f g follow stop other also
  stop_alone ls os at f _ follow within stop (nowhere ms ps last whole first) =
      absurd (follow_no_stop consts code (length code) refl 0 at ms ls ps os f whole follow within stop)
  stop_alone ls os at f _ follow within stop (no_entry ms is ps index whole lead first) =
      absurd (follow_no_stop consts code (length code) refl 0 at ms ls ps os f whole follow within stop)

  nowhere_alone : (ls : List Instr) (os : List ℕ) (at : ℕ) (g : CodeFault) → Whole ls os → IsFirstNowhere os ls os at → FirstFault consts code table g → BadTarget at ≡ g
  nowhere_alone ls os at _ whole first (stops ms ps last g other inside stop) =
      absurd (follow_no_stop consts code (length code) refl 0 last ls ms os ps g whole other inside stop)
  nowhere_alone ls os at _ whole first (nowhere ms ps last other also) =
      let w = whole_once ms ls ps os other whole in
      ap BadTarget (nowhere_once os ls os at last first (subst (λ (l : List Instr). IsFirstNowhere os l os last) w.0 (subst (λ (l : List ℕ). IsFirstNowhere l ms l last) w.1 also)))
  nowhere_alone ls os at _ whole first (no_entry ms is ps index other lead also) =
      let w = whole_once ms ls ps os other whole in
      absurd (nowhere_no os ls os at is first (subst (λ (l : List Instr). AllZip (Leads os) l is) w.0 (subst (λ (l : List ℕ). AllZip (Leads l) ms is) w.1 lead)))

  no_entry_alone : (ls is : List Instr) (os : List ℕ) (index : ℕ) (g : CodeFault) → Whole ls os → AllZip (Leads os) ls is → IsFirstNoEntry consts os (length code) table 0 index → FirstFault consts code table g → BadRange index ≡ g
  no_entry_alone ls is os index _ whole lead first (stops ms ps last g other inside stop) =
      absurd (follow_no_stop consts code (length code) refl 0 last ls ms os ps g whole other inside stop)
  no_entry_alone ls is os index _ whole lead first (nowhere ms ps last other also) =
      let w = whole_once ms ls ps os other whole in
      absurd (nowhere_no os ls os last is (subst (λ (l : List Instr). IsFirstNowhere os l os last) w.0 (subst (λ (l : List ℕ). IsFirstNowhere l ms l last) w.1 also)) lead)
  no_entry_alone ls is os index _ whole lead first (no_entry ms js ps other_index other leads also) =
      let w = whole_once ms ls ps os other whole in
      ap BadRange (no_entry_once consts os (length code) table 0 index other_index first (subst (λ (l : List ℕ). IsFirstNoEntry consts l (length code) table 0 other_index) w.1 also))

  pub one_fault : (f g : CodeFault) → FirstFault consts code table f → FirstFault consts code table g → f ≡ g
  one_fault _ g (stops ls os at f follow within stop) h = stop_alone ls os at f g follow within stop h
  one_fault _ g (nowhere ls os at whole first) h = nowhere_alone ls os at g whole first h
  one_fault _ g (no_entry ls is os index whole lead first) h = no_entry_alone ls is os index g whole lead first h

  -- ---- the answers of each pass

  pub stops_fault : (e : CodeFault) → (e ≡ Memory) ⊎ StopsAt consts code e → (e ≡ Memory) ⊎ FirstFault consts code table e
  stops_fault e (inl h) = inl h
  stops_fault e (inr h) = inr (stops h.located h.starts h.at e h.follow h.within h.stop)

  module _ (ls : List Instr) (os : List ℕ) (whole : Whole ls os) where
    pub nowhere_fault : (e : CodeFault) → (e ≡ Memory) ⊎ ((at : ℕ) × IsFirstNowhere os ls os at × (e ≡ BadTarget at)) → (e ≡ Memory) ⊎ FirstFault consts code table e
    nowhere_fault e (inl h) = inl h
    nowhere_fault e (inr h) = inr (subst (FirstFault consts code table) (sym h.2) (nowhere ls os h.0 whole h.1))

    pub no_entry_fault : (is : List Instr) → AllZip (Leads os) ls is → (e : CodeFault) → (e ≡ Memory) ⊎ ((index : ℕ) × IsFirstNoEntry consts os (length code) table 0 index × (e ≡ BadRange index)) → (e ≡ Memory) ⊎ FirstFault consts code table e
    no_entry_fault is lead e (inl h) = inl h
    no_entry_fault is lead e (inr h) = inr (subst (FirstFault consts code table) (sym h.2) (no_entry ls is os h.0 whole lead h.1))

    pub decoded_is : (is : List Instr) (hs : List Handler) → AllZip (Leads os) ls is → AllZip (IsEntry consts os (length code)) table hs → Decodes consts code table (decoded_made is hs (os ++ length code ∷ []))
    decoded_is is hs lead all = record { located = ls; starts = os; follow = whole; offsets = refl; instrs = lead; handlers = all }

  -- ---- nothing else is answered

  pub fault_only : (d : Decoded) (e : CodeFault) → (e ≡ Memory) ⊎ FirstFault consts code table e → Decodes consts code table d → e ≡ Memory
  fault_only d e (inl h) is = h
  fault_only d e (inr h) is = absurd (decoded_no_fault d e is h)

  pub fault_exact : (e f : CodeFault) → (e ≡ Memory) ⊎ FirstFault consts code table e → FirstFault consts code table f → (e ≡ Memory) ⊎ (e ≡ f)
  fault_exact e f (inl h) first = inl h
  fault_exact e f (inr h) first = inr (one_fault e f h first)

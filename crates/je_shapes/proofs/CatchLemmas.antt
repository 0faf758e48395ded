-- Handlers that may have their classes have some, and one each.
use Rattle.std.proofs.Common.{◌≡◌, ℕ, List, [], ◌∷◌, Option, Some, None, inl, inr, refl, sym, ap, subst, ◌∙◌}
use Rattle.std.specs.List.{AllByRecursion, AllZip}
use Rattle.je_consts.specs.declared.place.Place.{Place}
use Rattle.je_desc.specs.Names.{IsClassName}
use Rattle.je_machine.specs.Content.{Content, Class}
use Rattle.je_machine.specs.Operation as machine
use Rattle.je_instr.specs.declared.program.Handler.{Handler}
use Rattle.je_instr.specs.Allowed.{IsClass}
use Rattle.je_instr.specs.Content.{content_at}
use Rattle.je_instr.specs.CodeProgram.{Catches, IsHandlerOf}
use Rattle.je_instr.specs.Assembling.{IsCaught}

of_class : (consts : List Place) (index : ℕ) (content : Content) → content_at consts index ≡ Some content → IsClass IsClassName content → (class : Option (List ℕ)) × Catches consts index class
of_class consts index (Class text) at is = (Some text, (at, is))
of_class consts index _ at is = absurd is

catches : (consts : List Place) (h : Handler) → IsCaught consts h → (class : Option (List ℕ)) × Catches consts h.catch_const class
catches consts h (inl none) = (None, none)
catches consts h (inr names) = of_class consts h.catch_const names.0 names.1 names.2

entry : (consts : List Place) (h : Handler) → IsCaught consts h → (out : machine.Handler) × IsHandlerOf consts h out
entry consts h allowed =
    let found = catches consts h allowed in
    let out : machine.Handler = record { start = h.start; end = h.end; target = h.target; catch_class = found.0 } in
    (out, record { start = refl; end = refl; target = refl; catches = found.1 })

pub handlers_there : (consts : List Place) (hs : List Handler) → AllByRecursion (IsCaught consts) hs → (out : List machine.Handler) × AllZip (IsHandlerOf consts) hs out
handlers_there consts [] all = ([], tt)
handlers_there consts (h ∷ hs) all =
    let first = entry consts h all.0 in
    let rest = handlers_there consts hs all.1 in
    (first.0 ∷ rest.0, (first.1, rest.1))

-- ---- one

same_name : (a b : List ℕ) → Some (Class a) ≡ Some (Class b) → a ≡ b
same_name a b e = cc

no_class : (consts : List Place) (index : ℕ) (name : List ℕ) → index ≡ 0 → content_at consts index ≡ Some (Class name) → ⊥
no_class consts index name none here =
    let first : content_at consts 0 ≡ Some (Class name) = subst (λ (k : ℕ). content_at consts k ≡ Some (Class name)) none here in
    cc

one_catch : (consts : List Place) (index : ℕ) (a b : Option (List ℕ)) → Catches consts index a → Catches consts index b → a ≡ b
one_catch consts index None None ha hb = refl
one_catch consts index None (Some n) ha hb = absurd (no_class consts index n ha hb.0)
one_catch consts index (Some m) None ha hb = absurd (no_class consts index m hb ha.0)
one_catch consts index (Some m) (Some n) ha hb = ap Some (same_name m n (sym ha.0 ∙ hb.0))

abbrev made : ℕ → ℕ → ℕ → Option (List ℕ) → machine.Handler
made start end target class = record { start = start; end = end; target = target; catch_class = class }

pub one_handler : (consts : List Place) (e : Handler) (g h : machine.Handler) → IsHandlerOf consts e g → IsHandlerOf consts e h → g ≡ h
one_handler consts e g h ig ih =
    let class = one_catch consts e.catch_const g.catch_class h.catch_class ig.catches ih.catches in
    ap (λ (x : ℕ). made x g.end g.target g.catch_class) (ig.start ∙ sym ih.start)
    ∙ ap (λ (x : ℕ). made h.start x g.target g.catch_class) (ig.end ∙ sym ih.end)
    ∙ ap (λ (x : ℕ). made h.start h.end x g.catch_class) (ig.target ∙ sym ih.target)
    ∙ ap (λ (x : Option (List ℕ)). made h.start h.end h.target x) class

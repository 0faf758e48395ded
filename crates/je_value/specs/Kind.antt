-- The kinds of the definitions, and the forms that the program has of them.
use Rattle.std.specs.Prelude.{◌≡◌, refl}
use Rattle.std.proofs.Common.{ap}
use Rattle.je_machine.specs.Value as machine
use Rattle.je_value.specs.declared.kind.KindForm.{KindForm}
use Rattle.je_value.specs.declared.kind.KindForm.TheVariants as forms
use Rattle.je_value.specs.declared.kind.Kind.TheInside.{Inside}

-- the kind of a form
abbrev pub kind_in : KindForm → machine.Kind
kind_in forms.Int = machine.IntKind
kind_in forms.Long = machine.LongKind
kind_in forms.Float = machine.FloatKind
kind_in forms.Double = machine.DoubleKind
kind_in forms.Reference = machine.ReferenceKind

-- the form of a kind
abbrev pub kind_back : machine.Kind → KindForm
kind_back machine.IntKind = forms.Int
kind_back machine.LongKind = forms.Long
kind_back machine.FloatKind = forms.Float
kind_back machine.DoubleKind = forms.Double
kind_back machine.ReferenceKind = forms.Reference

pub form_is_back : (f : KindForm) → kind_back (kind_in f) ≡ f
form_is_back forms.Int = refl
form_is_back forms.Long = refl
form_is_back forms.Float = refl
form_is_back forms.Double = refl
form_is_back forms.Reference = refl

-- no kind is of two forms
abbrev pub KindIsBack : Inside → Type 0
KindIsBack a = let back : Inside = record { form = kind_back (kind_in a.form) } in back ≡ a

pub kind_is_back : (a : Inside) → KindIsBack a
kind_is_back a =
    ap {A = KindForm} {B = Inside} (λ f. record { form = f }) (form_is_back a.form)

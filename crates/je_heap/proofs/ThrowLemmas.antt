-- What is thrown as it is, and what counts as null.
use Rattle.std.proofs.Common.{◌≡◌, true, false, refl}
use Rattle.std.specs.Prelude.{codes}
use Rattle.je_machine.specs.Value.{Value, Int, Long, Flt, Dbl, Null, Obj, Const}
use Rattle.je_machine.specs.Outside.{Outside, Threw, raise, throw_admitted}
use Rattle.je_heap.specs.Response.{is_thrown}

pub throws : (v : Value) (o : Outside) → is_thrown v ≡ true → Threw v o ≡ throw_admitted v o
throws (Int n) o e = absurd cc
throws (Long n) o e = absurd cc
throws (Flt n) o e = absurd cc
throws (Dbl n) o e = absurd cc
throws Null o e = absurd cc
throws (Obj n) o e = refl
throws (Const c) o e = refl

pub raises : (v : Value) (o : Outside) → is_thrown v ≡ false
    → raise (codes "java/lang/NullPointerException") o ≡ throw_admitted v o
raises (Int n) o e = refl
raises (Long n) o e = refl
raises (Flt n) o e = refl
raises (Dbl n) o e = refl
raises Null o e = refl
raises (Obj n) o e = absurd cc
raises (Const c) o e = absurd cc

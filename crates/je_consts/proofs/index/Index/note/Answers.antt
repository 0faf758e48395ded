use Rattle.std.proofs.Common.{◌≡◌, ◌++◌, ◌∷◌, [], None, true, is_some, sym, ap, subst, ◌∙◌, rules}
use Rattle.je_consts.specs.declared.constant.Const.{Const}
use Rattle.je_consts.specs.declared.place.Place.{Place}
use Rattle.je_consts.specs.declared.place.Place.TheVariants.{Entry}
use Rattle.je_consts.specs.Indexed.{answer, IsIndexOf}
use Rattle.je_consts.proofs.IndexLemmas.{noted_new, noted_old, noted_second}
use Rattle.je_consts.proofs.index.Index.note.Goals as goal

pub returns-in_ok-insert : goal.returns-in_ok-insert
returns-in_ok-insert c places len h =
    let new : answer c.args.self.now c.in-Entry.entry ≡ None = sym c.get.ensures ∙ search rules in
    let d = c.in_ok-copy.copy in
    let copy : c.in-Entry.entry ≡ d = sym c.in_ok-copy.ensures in
    let new' = subst (λ (e : Const). answer c.args.self.now e ≡ None) copy new in
    let noted = noted_new places c.args.self.now h d c.args.index (record { least = c.insert.new.self }) len new' c.in_ok-insert.ensures.updates.0 in
    let place : Entry d ≡ c.args.place.now = ap (λ (e : Const). Entry e) (sym copy) ∙ sym c.in-Entry.is in
    subst (λ (p : Place). IsIndexOf (places ++ p ∷ []) (record { least = c.insert.new.self })) place noted

pub returns-else-is_none : goal.returns-else-is_none
returns-else-is_none c places len h =
    rw c.in-Entry.is (noted_old places c.args.self.now h c.in-Entry.entry (λ e. let none : c.get.result ≡ None = c.get.ensures ∙ e in let some : is_some c.get.result ≡ true = c.if-is_none.ensures in let some_none = rw none at some in cc))

pub returns-in_default : goal.returns-in_default
returns-in_default c places len h = noted_second places c.args.self.now h c.args.place.now c.in_default.not-Entry

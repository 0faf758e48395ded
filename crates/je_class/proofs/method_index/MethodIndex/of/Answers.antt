use Rattle.std.proofs.Common.{◌≡◌, ◌++◌, ◌∷◌, ◌+◌, [], List, length, take, get_or, sym, subst, arith, rules, add-one, length-take}
use Rattle.std.proofs.Math.Seq.{take-suc}
use Rattle.je_class.specs.declared.member.Member.{Member}
use Rattle.je_class.specs.Class.{IsNamed}
use Rattle.je_class.specs.Indexed.{answer, Finds}
use Rattle.je_class.proofs.Indexed.{finds_more}
use Rattle.je_class.proofs.method_index.MethodIndex.of.Goals as goal

pub loop-at-preserved : goal.loop-at-preserved
loop-at-preserved c =
    let class = c.args.class.now in
    let methods = c.methods-methods.result.now in
    let at = c.loop-at.at in
    let m = get_or methods at c.index-methods-at.result in
    let name = c.unwrap-name.result.now in
    let descriptor = c.unwrap-descriptor.result.now in
    let taken : take (at + 1) methods ≡ take at methods ++ m ∷ [] = rw (add-one at) (take-suc methods at c.index-methods-at.result c.loop-at-test.true) in
    let len : length (take at methods) ≡ at = omega (arith, length-take at methods) in
    let named : IsNamed class.consts name descriptor m = record { name_is = search rules; descriptor_is = search rules } in
    let more = finds_more class (take at methods) m (answer c.loop-at.index) c.loop-at.invariant name descriptor named (answer c.note.new.self) (λ n d. rw len (c.in_ok-note.ensures n d)) in
    subst (λ (ms : List Member). Finds (record class { methods = ms }) (answer c.note.new.self)) (sym taken) more

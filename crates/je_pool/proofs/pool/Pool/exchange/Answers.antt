use Rattle.std.proofs.Common.{◌≡◌, List, slice_set, map, ap, ◌∙◌}
use Rattle.std.proofs.lemmas.List.{map-set}
use Rattle.std.specs.String.{string_bytes}
use Rattle.je_class.specs.Class.{Class}
use Rattle.je_pool.specs.Node.{classes_of}
use Rattle.je_pool.specs.Pool.{PoolState, with_changed}
use Rattle.je_pool.specs.declared.node.Node.{Node}
use Rattle.je_pool.proofs.pool.Pool.exchange.Goals as goal

pub returns-clause-ok : goal.returns-clause-ok
returns-clause-ok c =
    let w = c.self.inside in
    let id = c.args.id.0 in
    let class_of : Node → Class = λ n. n.class in
    let classes : classes_of (slice_set w.nodes.items id c.in-Ok.node) ≡ slice_set (classes_of w.nodes.items) id c.args.class =
    map-set class_of w.nodes.items id c.in-Ok.node ∙ ap (λ (x : Class). slice_set (classes_of w.nodes.items) id x) c.in-Ok.ensures.class in
    ap (λ (cs : List Class). let r : PoolState = record { roots = map string_bytes w.roots.items; classes = cs; asked = w.asked.items } in r) classes
    ∙ ap (λ (r : PoolState). with_changed r id c.args.class) c.self.view_is

use Rattle.std.proofs.Common.{◌∙◌, ap, ◌++◌, ◌∷◌, [], List, ℕ}
use Rattle.je_shape.proofs.NameLemmas.{one_name}
use Rattle.je_shape.proofs.names.Names.of.Goals as goal

pub of_sorted-requires : goal.of_sorted-requires
of_sorted-requires c =
    one_name c.args.name c.push.new.self.items
    (c.in_ok-push.ensures.items ∙ ap (λ (l : List (List ℕ)). l ++ c.args.name ∷ []) c.new-list.ensures.items)

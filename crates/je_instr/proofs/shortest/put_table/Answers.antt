use Rattle.std.proofs.Common.{◌≡◌, ℕ, List, ◌∷◌, ◌++◌, length, ap, ◌∙◌, append_assoc}
use Rattle.std.specs.List.{flat_map}
use Rattle.std.proofs.lemmas.Int.{to_z-of_z}
use Rattle.je_instr.specs.Shortest.{s4, padding, target_bytes, last_key, table_bytes}
use Rattle.je_instr.proofs.shortest.put_table.Goals as goal

regroup : (o p f l h t : List ℕ) (opcode : ℕ) → ((o ++ opcode ∷ (p ++ f)) ++ (l ++ h)) ++ t ≡ o ++ opcode ∷ (p ++ (f ++ (l ++ (h ++ t))))
regroup o p f l h t opcode = simp append_assoc

pub returns : goal.returns
unfolding table_bytes
returns c =
    let t = flat_map (target_bytes c.args.offsets.now c.args.at) c.args.targets.now in
    let l = s4 c.args.low in
    let h = s4 (last_key c.args.low (length c.args.targets.now)) in
    let fits = c.ranges.low in
    let bounds = simp to_z-of_z at c.in_ok-put_bounds.ensures in
    c.in_ok-put_targets.ensures
    ∙ ap (λ x. x ++ t) (bounds ∙ ap (λ x. x ++ (l ++ h)) c.in_ok-put_switch.ensures)
    ∙ regroup c.args.out.now.items (padding c.args.at) (target_bytes c.args.offsets.now c.args.at c.args.fallback) l h t _

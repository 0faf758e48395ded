-- The row of instructions and blocks, with the pieces of the blocks.
use Rattle.std.proofs.Common.{◌≡◌, List, [], ◌∷◌, map, refl, ap, ◌∙◌}
use Rattle.je_instr.specs.declared.instr.Instr.{Instr}
use Rattle.je_instr.specs.declared.program.Handler.{Handler}
use Rattle.je_splice.specs.Block.{Piece}
use Rattle.je_splice.specs.Layout.{Item, Keeps, Puts}
use Rattle.je_splice.specs.Mapped.{mapped_item}
use Rattle.je_put.specs.declared.block.Block.{Block}
use Rattle.je_put.specs.Placing.{piece_of}
use Rattle.je_put.specs.Result.{with_piece, pieces}

same_item : (x : Item Instr Block) → mapped_item (λ (i : Instr). i) piece_of x ≡ with_piece x
same_item (Keeps over i) = refl
same_item (Puts over block) = refl

pub same_pieces : (xs : List (Item Instr Block)) → map (mapped_item (λ (i : Instr). i) piece_of) xs ≡ pieces xs
same_pieces [] = refl
same_pieces (x ∷ xs) =
    ap (λ (y : Item Instr (Piece Instr Handler)). y ∷ map (mapped_item (λ (i : Instr). i) piece_of) xs) (same_item x) ∙ ap (λ (ys : List (Item Instr (Piece Instr Handler))). with_piece x ∷ ys) (same_pieces xs)

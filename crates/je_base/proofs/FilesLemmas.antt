-- What lies at a path after a write.
use Rattle.std.proofs.Common.{◌≡◌, ◌≢◌, ℕ, List, Bool, true, false, Some, cond, refl, ap, ◌∙◌}
use Rattle.std.specs.Ordering.{nat_cmp, eq_by_cmp}
use Rattle.std.specs.Cmp.Lexicographic.{slice_cmp, nat_list_cmp_total, texts_ties}
use Rattle.std.specs.FinMap.{get, insert, get-insert}
use Rattle.std.proofs.lemmas.Slice.Eq.{bytes_eq-Decides}
use Rattle.je_base.specs.Files.{Contents}

false_unless : (b : Bool) → (b ≡ true → ⊥) → b ≡ false
false_unless true h = absurd (h refl)
false_unless false h = refl

-- at another path nothing changes
pub get-insert_other : (files : Contents) (path bytes other : List ℕ) → other ≢ path → get (insert files path bytes) other ≡ get files other
get-insert_other files path bytes other h =
    let apart = false_unless (eq_by_cmp (slice_cmp nat_cmp) other path) (λ e. h ((bytes_eq-Decides other path).0 (texts_ties other path ∙ e))) in
    get-insert nat_list_cmp_total files path bytes other ∙ ap (λ b. cond b (Some bytes) (get files other)) apart

-- What further bytes and further writes do to the contents of a store.
use Rattle.std.proofs.Common.{◌≡◌, ℕ, zero, suc, append_assoc, ◌+◌, ◌-◌, ◌<◌, ◌≤◌, List, [], ◌∷◌, ◌++◌, Some, cond, true, false, nat_eq, length, take, drop, get_or, refl, sym, ap, ◌∙◌, arith}
use Rattle.std.specs.List.{slice_range, AllByRecursion}
use lib.Pointwise.{pointwise}
use Rattle.std.specs.Ordering.{nat_cmp, eq_by_cmp}
use Rattle.std.specs.Cmp.Lexicographic.{slice_cmp, nat_list_cmp_total, texts_ties}
use Rattle.std.specs.FinMap.{get, insert, empty, get-insert}
use Rattle.std.proofs.lemmas.List.{take-append-le, drop-append-le, length-drop, length-append, take_more, take_all}
use Rattle.std.proofs.Math.Seq.{drop-append_seam}
use Rattle.je_base.specs.Files.{Contents}
use Rattle.je_base.specs.declared.store.Span.{Span}
use Rattle.je_base.specs.Store.{path_at, content_at, contents_after, IsWithin, span_behind}

-- a part of what was there before is as it was
slice_range-append : (xs ys : List ℕ) (i j : ℕ) → i ≤ j → j ≤ length xs → slice_range (xs ++ ys) i j ≡ slice_range xs i j
slice_range-append xs ys i j h k =
    let near : i ≤ length xs = omega arith in
    let fits : j - i ≤ length (drop i xs) = omega (arith, length-drop i xs) in
    rw (drop-append-le i xs ys near) (take-append-le (j - i) (drop i xs) ys fits)

-- bytes behind the others change none of the contents
pub contents_after-append : (bytes more : List ℕ) (files : Contents) (spans : List Span) → AllByRecursion (IsWithin (length bytes)) spans → contents_after (bytes ++ more) files spans ≡ contents_after bytes files spans
contents_after-append bytes more files [] h = refl
contents_after-append bytes more files (span ∷ spans) h =
    let path = slice_range-append bytes more span.start span.middle h.0.path (omega (arith, h.0.content, h.0.bytes)) in
    let content = slice_range-append bytes more span.middle span.end h.0.content h.0.bytes in
    rw (path, content) (contents_after-append bytes more (insert files (path_at bytes span) (content_at bytes span)) spans h.1)

-- one more write at the end is one insert
pub contents_after-push : (bytes : List ℕ) (files : Contents) (spans : List Span) (span : Span) → contents_after bytes files (spans ++ span ∷ []) ≡ insert (contents_after bytes files spans) (path_at bytes span) (content_at bytes span)
contents_after-push bytes files [] span = refl
contents_after-push bytes files (first ∷ spans) span =
    contents_after-push bytes (insert files (path_at bytes first) (content_at bytes first)) spans span

-- what was put behind other bytes is read where it was put
slice_range-behind : (xs ys : List ℕ) (i j : ℕ) → i ≡ length xs → j ≡ i + length ys → slice_range (xs ++ ys) i j ≡ ys
slice_range-behind xs ys i j h k =
    let size : j - i ≡ length ys = omega arith in rw (size, h, drop-append_seam xs ys) (take_all (length ys) ys (omega arith))

path_at-behind : (bytes path content : List ℕ) → path_at ((bytes ++ path) ++ content) (span_behind bytes path content) ≡ path
path_at-behind bytes path content =
    slice_range-append (bytes ++ path) content _ _ (omega arith) (omega (arith, length-append bytes path)) ∙ slice_range-behind bytes path _ _ refl refl

content_at-behind : (bytes path content : List ℕ) → content_at ((bytes ++ path) ++ content) (span_behind bytes path content) ≡ content
content_at-behind bytes path content =
    slice_range-behind (bytes ++ path) content _ _ (sym (length-append bytes path)) refl

-- a write put behind the others
pub contents_after-behind : (bytes path content : List ℕ) (files : Contents) (spans : List Span) → AllByRecursion (IsWithin (length bytes)) spans → contents_after ((bytes ++ path) ++ content) files (spans ++ span_behind bytes path content ∷ []) ≡ insert (contents_after bytes files spans) path content
contents_after-behind bytes path content files spans h =
    contents_after-push ((bytes ++ path) ++ content) files spans (span_behind bytes path content)
    ∙ ap (λ p. insert (contents_after ((bytes ++ path) ++ content) files spans) p (content_at ((bytes ++ path) ++ content) (span_behind bytes path content))) (path_at-behind bytes path content)
    ∙ ap (λ x. insert (contents_after ((bytes ++ path) ++ content) files spans) path x) (content_at-behind bytes path content)
    ∙ ap (λ m. insert m path content) (ap (λ all. contents_after all files spans) (append_assoc bytes path content) ∙ contents_after-append bytes (path ++ content) files spans h)

-- each span lies in the bytes
pub within_at : (limit : ℕ) (spans : List Span) (i : ℕ) (d : Span) → i < length spans → AllByRecursion (IsWithin limit) spans → IsWithin limit (get_or spans i d)
within_at limit [] i d h each = absurd (omega arith)
within_at limit (span ∷ spans) zero d h each = each.0
within_at limit (span ∷ spans) (suc i) d h each = within_at limit spans i d (omega arith) each.1

-- what lies at a path after one write more
pub get_turn : (bytes path : List ℕ) (spans : List Span) (i : ℕ) (d : Span) → i < length spans → get (contents_after bytes empty (take (i + 1) spans)) path ≡ cond (eq_by_cmp (slice_cmp nat_cmp) path (path_at bytes (get_or spans i d))) (Some (content_at bytes (get_or spans i d))) (get (contents_after bytes empty (take i spans)) path)
get_turn bytes path spans i d h =
    rw (take_more spans i d h, contents_after-push bytes empty (take i spans) (get_or spans i d)) (get-insert nat_list_cmp_total (contents_after bytes empty (take i spans)) (path_at bytes (get_or spans i d)) (content_at bytes (get_or spans i d)) path)

-- a write at the path is what lies there
pub get_hit : (bytes path : List ℕ) (spans : List Span) (i : ℕ) (d : Span) → i < length spans → pointwise nat_eq path (path_at bytes (get_or spans i d)) ≡ true → Some (content_at bytes (get_or spans i d)) ≡ get (contents_after bytes empty (take (i + 1) spans)) path
get_hit bytes path spans i d h same =
    let tie = sym (texts_ties path (path_at bytes (get_or spans i d))) ∙ same in
    sym (get_turn bytes path spans i d h ∙ ap (λ b. cond b (Some (content_at bytes (get_or spans i d))) (get (contents_after bytes empty (take i spans)) path)) tie)

-- a write at another path leaves it
pub get_miss : (bytes path : List ℕ) (spans : List Span) (i : ℕ) (d : Span) → i < length spans → pointwise nat_eq path (path_at bytes (get_or spans i d)) ≡ false → get (contents_after bytes empty (take i spans)) path ≡ get (contents_after bytes empty (take (i + 1) spans)) path
get_miss bytes path spans i d h other =
    let tie = sym (texts_ties path (path_at bytes (get_or spans i d))) ∙ other in
    sym (get_turn bytes path spans i d h ∙ ap (λ b. cond b (Some (content_at bytes (get_or spans i d))) (get (contents_after bytes empty (take i spans)) path)) tie)

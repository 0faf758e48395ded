-- What further entries do to the contents of a world in memory.
use Rattle.std.proofs.Common.{◌≡◌, ℕ, ◌+◌, ◌<◌, List, [], ◌∷◌, ◌++◌, Some, cond, true, false, nat_eq, length, take, get_or, refl, sym, ap, ◌∙◌}
use Rattle.std.specs.List.{AllByRecursion}
use lib.Pointwise.{pointwise}
use Rattle.std.specs.Ordering.{nat_cmp, eq_by_cmp}
use Rattle.std.specs.Cmp.Lexicographic.{slice_cmp, nat_list_cmp_total, texts_ties}
use Rattle.std.specs.FinMap.{get, insert, empty, get-insert}
use Rattle.std.proofs.lemmas.List.{take_more}
use Rattle.std.proofs.lemmas.List.Elements.{All-from_recursion}
use Rattle.std.proofs.lemmas.Slice.Eq.{slice_eq-Decides}
use Rattle.std.proofs.lemmas.Bool.Decides.{Decides-eqb}
use Rattle.je_base.specs.Text.{is_same_text}
use Rattle.je_world.specs.declared.entry.Entry.{Entry}
use Rattle.je_world.specs.MapWorld.{Contents}
use Rattle.je_world.specs.Entry.{name_of, kept, known_after, IsFitEntry}

-- one more entry at the end is one insert
pub known_after-push : (contents : Contents) (entries : List Entry) (e : Entry) → known_after contents (entries ++ e ∷ []) ≡ insert (known_after contents entries) (name_of e) (kept e)
known_after-push contents [] e = refl
known_after-push contents (first ∷ entries) e =
    known_after-push (insert contents (name_of first) (kept first)) entries e

-- what is known of a name after one entry more
pub known_turn : (name : List ℕ) (entries : List Entry) (i : ℕ) (d : Entry) → i < length entries → get (known_after empty (take (i + 1) entries)) name ≡ cond (eq_by_cmp (slice_cmp nat_cmp) name (name_of (get_or entries i d))) (Some (kept (get_or entries i d))) (get (known_after empty (take i entries)) name)
known_turn name entries i d h =
    rw (take_more entries i d h, known_after-push empty (take i entries) (get_or entries i d)) (get-insert nat_list_cmp_total (known_after empty (take i entries)) (name_of (get_or entries i d)) (kept (get_or entries i d)) name)

-- an entry of the name is what is known
pub known_hit : (name : List ℕ) (entries : List Entry) (i : ℕ) (d : Entry) → i < length entries → pointwise nat_eq name (name_of (get_or entries i d)) ≡ true → Some (kept (get_or entries i d)) ≡ get (known_after empty (take (i + 1) entries)) name
known_hit name entries i d h same =
    let tie = sym (texts_ties name (name_of (get_or entries i d))) ∙ same in
    sym (known_turn name entries i d h ∙ ap (λ b. cond b (Some (kept (get_or entries i d))) (get (known_after empty (take i entries)) name)) tie)

-- an entry of another name leaves it
pub known_miss : (name : List ℕ) (entries : List Entry) (i : ℕ) (d : Entry) → i < length entries → pointwise nat_eq name (name_of (get_or entries i d)) ≡ false → get (known_after empty (take i entries)) name ≡ get (known_after empty (take (i + 1) entries)) name
known_miss name entries i d h other =
    let tie = sym (texts_ties name (name_of (get_or entries i d))) ∙ other in
    sym (known_turn name entries i d h ∙ ap (λ b. cond b (Some (kept (get_or entries i d))) (get (known_after empty (take i entries)) name)) tie)

-- texts that pass the test are equal
pub same_text : (a b : List ℕ) → is_same_text a b ≡ true → a ≡ b
same_text a b same = (slice_eq-Decides Decides-eqb a b (is_same_text a b) refl).0 same

-- each entry is fit
pub fit_at : (entries : List Entry) (i : ℕ) (d : Entry) → i < length entries → AllByRecursion IsFitEntry entries → IsFitEntry (get_or entries i d)
fit_at entries i d h fit = All-from_recursion IsFitEntry entries fit i d h

-- further entries are fit
pub fit-push : (entries : List Entry) (e : Entry) → AllByRecursion IsFitEntry entries → IsFitEntry e → AllByRecursion IsFitEntry (entries ++ e ∷ [])
fit-push [] e fit one = (one, tt)
fit-push (first ∷ entries) e fit one = (fit.0, fit-push entries e fit.1 one)

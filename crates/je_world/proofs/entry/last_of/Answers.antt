use Rattle.std.proofs.Common.{◌≡◌, Some, true, sym, ap, ◌∙◌, subst}
use Rattle.std.specs.Ordering.{nat_cmp}
use Rattle.std.specs.FinMap.{get-empty}
use Rattle.std.specs.Cmp.Lexicographic.{slice_cmp}
use Rattle.je_base.specs.Text.{is_same_text}
use Rattle.je_world.specs.declared.entry.Entry.{Entry}
use Rattle.je_world.specs.Entry.{name_of, kept, IsFitEntry}
use Rattle.je_world.proofs.EntryLemmas.{known_hit, known_miss, same_text, fit_at}
use Rattle.je_world.proofs.entry.last_of.Goals as goal
use Rattle.je_world.proofs.entry.last_of.Goals.{then-eq, else-eq}

pub loop-entry-init : goal.loop-entry-init
loop-entry-init c = record { found = sym (get-empty (slice_cmp nat_cmp) c.args.name.now); named = tt; fit = tt }

pub loop-entry-preserved : goal.loop-entry-preserved
loop-entry-preserved c =
    let entries = c.args.entries.now in
    let name = c.args.name.now in
    let e = c.entry-item.result in
    let i = c.loop-entry.entry-index in
    let tested : c.eq.result ≡ is_same_text name (name_of e) = c.eq.ensures ∙ ap (is_same_text name) c.name.ensures in
    elim c.if-eq.branch [
      | then-eq w ↦
          let same : is_same_text name (name_of e) ≡ true = sym tested ∙ w.if-eq.true in
          rw w.found-is record {
            found = ap (λ (x : Entry). Some (kept x)) c.entry-item.is ∙ known_hit name entries i e c.loop-entry-test.true (ap (λ (x : Entry). is_same_text name (name_of x)) (sym c.entry-item.is) ∙ same);
            named = sym (same_text name (name_of e) same);
            fit = let P : Entry → Type 0 = IsFitEntry in subst P (sym c.entry-item.is) (fit_at entries i e c.loop-entry-test.true c.requires);
          }
      | else-eq w ↦ rw w.found-is record {
        found = c.loop-entry.invariant.found ∙ known_miss name entries i e c.loop-entry-test.true (ap (λ (x : Entry). is_same_text name (name_of x)) (sym c.entry-item.is) ∙ sym tested ∙ w.if-eq.false);
        named = c.loop-entry.invariant.named;
        fit = c.loop-entry.invariant.fit;
      }
    ]

-- The content of a literal, an escape after the other.
use Rattle.std.proofs.Common.{◌≡◌, ℕ, zero, suc, List, [], ◌∷◌, ◌++◌, drop, Option, Some, None, refl, sym, ap, ◌∙◌, append_assoc}
use Rattle.std.specs.Option.{option_map}
use Rattle.je_tokens.specs.Literals.{escape_at, behind_escape, units_at, units}

-- an escape is skipped
units_skipped : (text : List ℕ) (k : ℕ) → units_at text k ≡ units (drop k text)
units_skipped text zero = refl
units_skipped [] (suc k) = refl
units_skipped (c ∷ text) (suc k) = units_skipped text k

more_behind : (found : List ℕ) (code : ℕ) (o : Option (List ℕ))
    → option_map (λ (more : List ℕ). found ++ more) (option_map (λ (more : List ℕ). code ∷ more) o) ≡ option_map (λ (more : List ℕ). (found ++ code ∷ []) ++ more) o
more_behind found code None = refl
more_behind found code (Some more) = ap Some (sym (append_assoc found (code ∷ []) more))

escaped : (behind : List ℕ) (code len : ℕ) → Some (code, len) ≡ escape_at behind → units (92 ∷ behind) ≡ option_map (λ (more : List ℕ). code ∷ more) (units (drop len behind))
escaped behind code len found =
    ap (λ (e : Option (ℕ × ℕ)). behind_escape e (λ k. units_at behind k)) (sym found)
    ∙ ap (option_map (λ (more : List ℕ). code ∷ more)) (units_skipped behind len)

pub units_escape : (whole : Option (List ℕ)) (found new rest behind after : List ℕ) (c code len : ℕ) → whole ≡ option_map (λ (more : List ℕ). found ++ more) (units rest)
    → rest ≡ c ∷ behind → c ≡ 92 → Some (code, len) ≡ escape_at behind → new ≡ found ++ code ∷ [] → after ≡ drop len behind
    → whole ≡ option_map (λ (more : List ℕ). new ++ more) (units after)
units_escape whole found new rest behind after c code len so_far is backslash escape pushed dropped =
    let e : units rest ≡ option_map (λ (more : List ℕ). code ∷ more) (units (drop len behind)) = ap units (is ∙ ap (λ (b : ℕ). b ∷ behind) backslash) ∙ escaped behind code len escape in
    so_far ∙ ap (option_map (λ (more : List ℕ). found ++ more)) e ∙ more_behind found code (units (drop len behind)) ∙ (rw (pushed, dropped) refl)

-- Parts that stand one after the other, and the first that does not.
use Rattle.std.proofs.Common.{◌≡◌, ℕ, zero, suc, ◌+◌, ◌^◌, ◌<◌, ◌≤◌, List, [], ◌∷◌, ◌++◌, length, drop, Result, Ok, Err, refl, sym, ap, subst, length-append, length-drop, arith, inl, inr, ◌⊎◌}
use Rattle.std.specs.List.{AllByRecursion}
use Rattle.je_base.specs.Bytes.{u2, u4, IsThere}
use Rattle.je_base.specs.Parts.{U2, U4, Run, part_bytes, FailsFirst, IsPartFault, Follows, Breaks}
use Rattle.je_instr.specs.declared.fault.CodeFault.{CodeFault}
use Rattle.je_instr.specs.declared.fault.CodeFault.TheVariants.{BadLayout, Memory}
use Rattle.je_code.specs.Code.{Test, IsCodeLength, Passes, code_format, Part}
use Rattle.je_code.specs.Reading.{Comes}

module _ (bytes : List ℕ) where
  -- ---- one list of parts after the other

  follows_then : (at : ℕ) (xs : List Part) (mid : ℕ) (ys : List Part) (end : ℕ) → Follows code_format bytes at xs mid → Follows code_format bytes mid ys end → Follows code_format bytes at (xs ++ ys) end
  follows_then at [] mid ys end h k = subst (λ (n : ℕ). Follows code_format bytes n ys end) h k
  follows_then at (x ∷ xs) mid ys end h k = (h.0, h.1, follows_then (at + length (part_bytes code_format x)) xs mid ys end h.2 k)

  breaks_then : (at : ℕ) (xs : List Part) (mid : ℕ) (ys : List Part) (d : CodeFault) → Follows code_format bytes at xs mid → Breaks code_format bytes mid ys d → Breaks code_format bytes at (xs ++ ys) d
  breaks_then at [] mid ys d h k = subst (λ (n : ℕ). Breaks code_format bytes n ys d) h k
  breaks_then at (x ∷ xs) mid ys d h k = inr (h.0, h.1, breaks_then (at + length (part_bytes code_format x)) xs mid ys d h.2 k)

  breaks_first : (at : ℕ) (xs ys : List Part) (d : CodeFault) → Breaks code_format bytes at xs d → Breaks code_format bytes at (xs ++ ys) d
  breaks_first at [] ys d h = absurd h
  breaks_first at (x ∷ xs) ys d (inl h) = inl h
  breaks_first at (x ∷ xs) ys d (inr h) = inr (h.0, h.1, breaks_first (at + length (part_bytes code_format x)) xs ys d h.2)

  then_by : (at : ℕ) (xs : List Part) (mid : ℕ) (ys : List Part) (answer : Result ℕ CodeFault) → Comes bytes at xs (Ok mid) → Comes bytes mid ys answer → Comes bytes at (xs ++ ys) answer
  then_by at xs mid ys (Ok end) h k = record { goes = follows_then at xs mid ys end h.goes k.goes }
  then_by at xs mid ys (Err d) h k = record { goes = breaks_then at xs mid ys d h.goes k.goes }

-- ---- one after the other

pub then : {bytes : List ℕ} {at : ℕ} {xs : List Part} {mid : ℕ} {ys : List Part} {answer : Result ℕ CodeFault} → Comes bytes at xs (Ok mid) → Comes bytes mid ys answer
    → Comes bytes at (xs ++ ys) answer
then h k = then_by _ _ _ _ _ _ h k

pub stops : {bytes : List ℕ} {at : ℕ} {xs : List Part} {d : CodeFault} → (ys : List Part) → Comes bytes at xs (Err d) → Comes bytes at (xs ++ ys) (Err d)
stops ys h = record { goes = breaks_first _ _ _ ys _ h.goes }

-- what comes of it where memory has not run out
pub or_memory : {P Q : Type 0} {d : CodeFault} → (d ≡ Memory) ⊎ P → (P → Q) → (d ≡ Memory) ⊎ Q
or_memory (inl e) then_so = inl e
or_memory (inr h) then_so = inr (then_so h)

-- what stands within the bytes ends there
follows_within : (bytes : List ℕ) (at : ℕ) (parts : List Part) (end : ℕ) → at ≤ length bytes → Follows code_format bytes at parts end → end ≤ length bytes
follows_within bytes at [] end within h = omega arith
follows_within bytes at (x ∷ xs) end within h =
    let text = part_bytes code_format x in
    let next : at + length text ≤ length bytes = omega (arith, ap length h.0, length-append text (drop (at + length text) bytes), length-drop at bytes) in
    follows_within bytes (at + length text) xs end next h.2

pub comes_within : {bytes : List ℕ} {at : ℕ} {parts : List Part} {end : ℕ} → at ≤ length bytes → Comes bytes at parts (Ok end) → end ≤ length bytes
comes_within within h = follows_within _ _ _ _ within h.goes

-- ---- single parts

pub u2_comes : {bytes : List ℕ} {at n end : ℕ} {tests : List Test} → IsThere bytes at (u2 n) → end ≡ at + 2 → n < 2 ^ 16 → AllByRecursion Passes tests → Comes bytes at (U2 n tests ∷ []) (Ok end)
u2_comes there end_is fits pass = record { goes = (there, (fits, pass), end_is) }

pub u4_comes : {bytes : List ℕ} {at n end : ℕ} {tests : List Test} → IsThere bytes at (u4 n) → end ≡ at + 4 → n < 2 ^ 32 → AllByRecursion Passes tests → Comes bytes at (U4 n tests ∷ []) (Ok end)
u4_comes there end_is fits pass = record { goes = (there, (fits, pass), end_is) }

pub run_comes : {bytes : List ℕ} {at end : ℕ} {run : List ℕ} → IsThere bytes at run → end ≡ at + length run → Comes bytes at (Run run [] ∷ []) (Ok end)
run_comes there end_is = record { goes = (there, tt, end_is) }

pub u2_cut : {bytes : List ℕ} {at cut : ℕ} (n : ℕ) (tests : List Test) → (length (drop at bytes) < 2) × (cut ≡ at) → Comes bytes at (U2 n tests ∷ []) (Err (BadLayout cut))
u2_cut n tests short = record { goes = inl (inl (short.0, ap BadLayout short.1)) }

pub u4_cut : {bytes : List ℕ} {at cut : ℕ} (n : ℕ) (tests : List Test) → (length (drop at bytes) < 4) × (cut ≡ at) → Comes bytes at (U4 n tests ∷ []) (Err (BadLayout cut))
u4_cut n tests short = record { goes = inl (inl (short.0, ap BadLayout short.1)) }

-- ---- the length of the code

no_test_fails : {at : ℕ} {d : CodeFault} → FailsFirst code_format at [] d → ⊥
no_test_fails h = none h.passed h.tests_are where
  none : (passed : List Test) → [] ≡ passed ++ h.failed ∷ h.others → ⊥
  none [] e = cc
  none (x ∷ passed) e = cc

-- a number that is cut off is so whatever would be tested of it
module _ (bytes : List ℕ) (at n : ℕ) (tests : List Test) (d : CodeFault) where
  untested_fault : IsPartFault code_format bytes at (U4 n []) d → IsPartFault code_format bytes at (U4 n tests) d
  untested_fault (inl cut) = inl cut
  untested_fault (inr h) = absurd (no_test_fails h.2)

  untested : Breaks code_format bytes at (U4 n [] ∷ []) d → Breaks code_format bytes at (U4 n tests ∷ []) d
  untested (inl h) = inl (untested_fault h)
  untested (inr h) = absurd h.2

pub still_cut : {bytes : List ℕ} {at n : ℕ} {d : CodeFault} (tests : List Test) → Comes bytes at (U4 n [] ∷ []) (Err d) → Comes bytes at (U4 n tests ∷ []) (Err d)
still_cut tests h = record { goes = untested _ _ _ tests _ h.goes }

pub is_length : {bytes : List ℕ} {at n end : ℕ} → Comes bytes at (U4 n [] ∷ []) (Ok end) → Passes (IsCodeLength n) → Comes bytes at (U4 n (IsCodeLength n ∷ []) ∷ []) (Ok end)
is_length h pass = record { goes = (h.goes.0, (h.goes.1.0, (pass, tt)), h.goes.2) }

pub is_no_length : {bytes : List ℕ} {at n end : ℕ} → Comes bytes at (U4 n [] ∷ []) (Ok end) → (Passes (IsCodeLength n) → ⊥) → Comes bytes at (U4 n (IsCodeLength n ∷ []) ∷ []) (Err (BadLayout at))
is_no_length {n = n} h fails = record {
  goes = inl
      (inr (
        h.goes.0,
        h.goes.1.0,
        record {
          passed = [];
          failed = IsCodeLength n;
          others = [];
          tests_are = refl;
          pass = tt;
          fails = fails;
          fault_is = refl;
        },
      ));
}

-- a count that does not stand is cut off, whatever it would be
module _ (bytes : List ℕ) (at m n : ℕ) (d : CodeFault) where
  other_fault : IsPartFault code_format bytes at (U2 m []) d → IsPartFault code_format bytes at (U2 n []) d
  other_fault (inl cut) = inl cut
  other_fault (inr h) = absurd (no_test_fails h.2)

  other_breaks : Breaks code_format bytes at (U2 m [] ∷ []) d → Breaks code_format bytes at (U2 n [] ∷ []) d
  other_breaks (inl h) = inl (other_fault h)
  other_breaks (inr h) = absurd h.2

pub any_cut : {bytes : List ℕ} {at m : ℕ} {d : CodeFault} (n : ℕ) → Comes bytes at (U2 m [] ∷ []) (Err d) → Comes bytes at (U2 n [] ∷ []) (Err d)
any_cut n h = record { goes = other_breaks _ _ _ n _ h.goes }

-- ---- runs of bytes

-- so many times the same
abbrev pub copies : {A : Type 0} → ℕ → A → List A
copies zero x = []
copies (suc n) x = x ∷ copies n x

pub length-copies : {A : Type 0} (n : ℕ) (x : A) → length (copies n x) ≡ n
length-copies zero x = refl
length-copies (suc n) x = ap suc (length-copies n x)

-- the run of so many bytes is cut off
pub run_cut : {bytes : List ℕ} {at len cut : ℕ} → (length (drop at bytes) < len) × (cut ≡ at)
    → (run : List ℕ) × (length run ≡ len) × Comes bytes at (Run run [] ∷ []) (Err (BadLayout cut))
run_cut {len = len} short =
    let e = length-copies {A = ℕ} len 0 in
    (copies len 0, e, record { goes = inl (inl (rw e short.0, ap BadLayout short.1)) })

-- a length, and a run of so many bytes
pub run_behind : {bytes run : List ℕ} {at len mid : ℕ} {answer : Result ℕ CodeFault} (tests : ℕ → List Test) → Comes bytes at (U4 len (tests len) ∷ []) (Ok mid) → length run ≡ len → Comes bytes mid (Run run [] ∷ []) answer
    → Comes bytes at (U4 (length run) (tests (length run)) ∷ Run run [] ∷ []) answer
run_behind {bytes = bytes} {run = run} {at = at} {mid = mid} tests counted len stands =
    then (subst (λ (n : ℕ). Comes bytes at (U4 n (tests n) ∷ []) (Ok mid)) (sym len) counted) stands

-- a length that does not stand, whatever would come behind it
pub length_cut : {bytes : List ℕ} {at len : ℕ} {d : CodeFault} (tests : ℕ → List Test) → Comes bytes at (U4 len (tests len) ∷ []) (Err d)
    → (run : List ℕ) × Comes bytes at (U4 (length run) (tests (length run)) ∷ Run run [] ∷ []) (Err d)
length_cut {bytes = bytes} {at = at} {len = len} {d = d} tests h =
    let run : List ℕ = copies len 0 in
    (run, subst (λ (n : ℕ). Comes bytes at (U4 n (tests n) ∷ Run run [] ∷ []) (Err d)) (sym (length-copies len 0)) (stops (Run run [] ∷ []) h))

-- What reading the parts says of a Code attribute and of its first fault.
use Rattle.std.proofs.Common.{◌≡◌, ℕ, ◌<◌, ◌≤◌, List, length, Ok, Err, sym, subst, inl, inr, ◌⊎◌}
use Rattle.je_consts.specs.declared.place.Place.{Place}
use Rattle.je_instr.specs.declared.fault.CodeFault.{CodeFault}
use Rattle.je_instr.specs.declared.fault.CodeFault.TheVariants.{BadLayout, Memory}
use Rattle.je_instr.specs.declared.program.Decoded.{Decoded}
use Rattle.je_instr.specs.Decoding as decoding
use Rattle.je_instr.specs.Decoding.{Decodes}
use Rattle.je_code.specs.declared.attr.CodeAttr.{CodeAttr}
use Rattle.je_code.specs.Code.{Code, code_parts, CodeBytes}
use Rattle.je_code.specs.CodeAttr.{IsCodeAttr}
use Rattle.je_code.specs.Faults.{FirstFault, breaks, trailing, malformed}
use Rattle.je_code.specs.Reading.{Comes, IsTabled}
use Rattle.je_code.proofs.WholeLemmas.{AreParts, comes_whole, comes_front}

pub code_bytes : {bytes : List ℕ} {c : Code} → AreParts bytes (code_parts c) → CodeBytes bytes c
code_bytes h = record { layout = h.layout; sound = h.sound }

pub parts_of_code : {bytes : List ℕ} {c : Code} → CodeBytes bytes c → AreParts bytes (code_parts c)
parts_of_code h = record { layout = h.layout; sound = h.sound }

module _ (consts : List Place) (info : List ℕ) where
  pub breaks_off : (fault : CodeFault) → (fault ≡ Memory) ⊎ ((c : Code) × Comes info 0 (code_parts c) (Err fault)) → (fault ≡ Memory) ⊎ FirstFault consts info fault
  breaks_off fault (inl memory) = inl memory
  breaks_off fault (inr h) = inr (breaks h.0 fault h.1.goes)

  module _ (c : Code) (end : ℕ) (h : Comes info 0 (code_parts c) (Ok end)) where
    pub too_many : end < length info → FirstFault consts info (BadLayout end)
    too_many more =
        let b = comes_front h more in
        subst (λ (n : ℕ). FirstFault consts info (BadLayout n)) b.end_is (trailing c b.front b.rest b.bytes_are b.some (code_bytes b.parts))

    module _ (all : length info ≤ end) where
      abbrev whole : CodeBytes info c
      whole = code_bytes (comes_whole h all)

      pub no_program : (fault : CodeFault) → (fault ≡ Memory) ⊎ decoding.FirstFault consts c.code c.handlers fault → (fault ≡ Memory) ⊎ FirstFault consts info fault
      no_program fault (inl memory) = inl memory
      no_program fault (inr first) = inr (malformed c fault whole first)

      pub attr_is : (decoded : Decoded) (attr : CodeAttr) → Decodes consts c.code c.handlers decoded → IsTabled consts c decoded attr → IsCodeAttr consts info attr
      attr_is decoded attr decodes tabled = record {
        code = c;
        bytes = whole;
        max_stack = tabled.max_stack;
        max_locals = tabled.max_locals;
        decodes = subst (Decodes consts c.code c.handlers) (sym tabled.decoded_is) decodes;
        lines = tabled.lines;
        vars = tabled.vars;
        var_types = tabled.var_types;
        map = tabled.map;
      }

-- ---- no other answer

module _ (consts : List Place) (info : List ℕ) where
  pub fault_only : ((a : CodeAttr) (f : CodeFault) → IsCodeAttr consts info a → FirstFault consts info f → ⊥) → (fault : CodeFault) → (fault ≡ Memory) ⊎ FirstFault consts info fault → (a : CodeAttr) → IsCodeAttr consts info a
      → fault ≡ Memory
  fault_only no_fault fault (inl memory) a is = memory
  fault_only no_fault fault (inr first) a is = absurd (no_fault a fault is first)

  pub fault_exact : ((f g : CodeFault) → FirstFault consts info f → FirstFault consts info g → f ≡ g) → (fault : CodeFault) → (fault ≡ Memory) ⊎ FirstFault consts info fault → (f : CodeFault) → FirstFault consts info f
      → (fault ≡ Memory) ⊎ (fault ≡ f)
  fault_exact one fault (inl memory) f first = inl memory
  fault_exact one fault (inr h) f first = inr (one fault f h first)

-- The parts of two structures of one sort are of one layout, and equal parts are of equal structures.
use Rattle.std.proofs.Common.{◌≡◌, ℕ, List, [], ◌∷◌, ◌++◌, length, refl, sym, ap, ◌∙◌, append_assoc, arith}
use Rattle.std.proofs.lemmas.List.{append-nil}
use Rattle.je_base.specs.Parts.{U2, U4, Run, each, table_parts, AreOneLayout}
use Rattle.je_instr.specs.declared.program.RawHandler.{RawHandler}
use Rattle.je_code.specs.Code.{Test, IsCodeLength, Part, AttributeInfo, Code, handler_parts, attribute_parts, code_parts}
use Rattle.je_code.specs.Rows.{LineInfo, VarInfo, line_parts, var_parts}
use Rattle.je_code.proofs.Same.{same_handler, same_attribute, same_line, same_var, same_code}

-- ---- one layout

layout_then : (xs us ys vs : List Part) → AreOneLayout xs us → (xs ≡ us → AreOneLayout ys vs) → AreOneLayout (xs ++ ys) (us ++ vs)
layout_then [] [] ys vs layout rest = rest refl
layout_then (x ∷ xs) (u ∷ us) ys vs layout rest = (layout.0, λ e. layout_then xs us ys vs (layout.1 e) (λ es. rest (cc (e, es))))
layout_then _ _ ys vs layout rest = absurd layout

module _ {A : Type 0} (parts : A → List Part) (one : (x y : A) → AreOneLayout (parts x) (parts y)) where
  layout_each : (xs ys : List A) → length xs ≡ length ys → AreOneLayout (each parts xs) (each parts ys)
  layout_each [] [] e = tt
  layout_each [] (y ∷ ys) e = absurd (omega (arith, e))
  layout_each (x ∷ xs) [] e = absurd (omega (arith, e))
  layout_each (x ∷ xs) (y ∷ ys) e = layout_then (parts x) (parts y) (each parts xs) (each parts ys) (one x y) (λ same. layout_each xs ys (omega (arith, e)))

  pub layout_table : (xs ys : List A) → AreOneLayout (table_parts parts xs) (table_parts parts ys)
  layout_table xs ys = (λ e. refl, λ e. let len : length xs ≡ length ys = cc in layout_each xs ys len)

handler_one : (g h : RawHandler) → AreOneLayout (handler_parts g) (handler_parts h)
handler_one g h = (λ e. refl, λ start. (λ e. refl, λ end. (λ e. refl, λ target. (λ e. refl, λ class. tt))))

attribute_one : (a b : AttributeInfo) → AreOneLayout (attribute_parts a) (attribute_parts b)
attribute_one a b = (λ e. refl, λ name. (λ e. refl, λ e. let len : length a.bytes ≡ length b.bytes = cc in ((len, λ e. refl), λ run. tt)))

pub line_one : (i j : LineInfo) → AreOneLayout (line_parts i) (line_parts j)
line_one i j = (λ e. refl, λ start. (λ e. refl, λ line. tt))

pub var_one : (i j : VarInfo) → AreOneLayout (var_parts i) (var_parts j)
var_one i j = (λ e. refl, λ start. (λ e. refl, λ len. (λ e. refl, λ name. (λ e. refl, λ signature. (λ e. refl, λ index. tt)))))

pub code_one : (c d : Code) → AreOneLayout (code_parts c) (code_parts d)
code_one c d =
    let attributes = layout_table attribute_parts attribute_one c.attributes d.attributes in
    let tables =
    layout_then (table_parts handler_parts c.handlers) (table_parts handler_parts d.handlers) (table_parts attribute_parts c.attributes) (table_parts attribute_parts d.attributes)
    (layout_table handler_parts handler_one c.handlers d.handlers) (λ e. attributes) in
    (λ e. refl, λ stack. (λ e. refl, λ locals. (λ e. ap (λ (n : ℕ). IsCodeLength n ∷ []) e, λ e. let len : length c.code ≡ length d.code = cc in ((len, λ e. refl), λ run. tables))))

-- ---- what the parts say

module _ (xs ys : List Part) where
  u2_heads : (n m : ℕ) (ts us : List Test) → U2 n ts ∷ xs ≡ U2 m us ∷ ys → (n ≡ m) × (xs ≡ ys)
  u2_heads n m ts us e = (cc, cc)

  u4_heads : (n m : ℕ) (ts us : List Test) → U4 n ts ∷ xs ≡ U4 m us ∷ ys → (n ≡ m) × (xs ≡ ys)
  u4_heads n m ts us e = (cc, cc)

  run_heads : (run other : List ℕ) → Run run [] ∷ xs ≡ Run other [] ∷ ys → (run ≡ other) × (xs ≡ ys)
  run_heads run other e = (cc, cc)

-- equal parts are of equal structures
pub record Decides {A : Type 0} (parts : A → List Part) : Type 0 where
  pub one : (x y : A) (xs ys : List Part) → parts x ++ xs ≡ parts y ++ ys → (x ≡ y) × (xs ≡ ys)

module _ {A : Type 0} (parts : A → List Part) (decides : Decides parts) where
  each_same : (xs ys : List A) (us vs : List Part) → length xs ≡ length ys → each parts xs ++ us ≡ each parts ys ++ vs → (xs ≡ ys) × (us ≡ vs)
  each_same [] [] us vs len e = (refl, e)
  each_same [] (y ∷ ys) us vs len e = absurd (omega (arith, len))
  each_same (x ∷ xs) [] us vs len e = absurd (omega (arith, len))
  each_same (x ∷ xs) (y ∷ ys) us vs len e =
      let first = decides.one x y (each parts xs ++ us) (each parts ys ++ vs) (sym (append_assoc (parts x) (each parts xs) us) ∙ e ∙ append_assoc (parts y) (each parts ys) vs) in
      let rest = each_same xs ys us vs (omega (arith, len)) first.1 in
      (cc (first.0, rest.0), rest.1)

  table_decides : Decides (table_parts parts)
  table_decides = record {
    one = λ xs ys us vs e.
        let head = u2_heads (each parts xs ++ us) (each parts ys ++ vs) (length xs) (length ys) [] [] e in
        each_same xs ys us vs head.0 head.1;
  }

  pub table_same : (xs ys : List A) → table_parts parts xs ≡ table_parts parts ys → xs ≡ ys
  table_same xs ys e = (table_decides.one xs ys [] [] (append-nil (table_parts parts xs) ∙ e ∙ sym (append-nil (table_parts parts ys)))).0

-- ---- each structure

handler_decides : Decides handler_parts
handler_decides = record {
  one = λ g h us vs e.
      let start = u2_heads (U2 g.end [] ∷ U2 g.target [] ∷ U2 g.catch_const [] ∷ us) (U2 h.end [] ∷ U2 h.target [] ∷ U2 h.catch_const [] ∷ vs) g.start h.start [] [] e in
      let end = u2_heads (U2 g.target [] ∷ U2 g.catch_const [] ∷ us) (U2 h.target [] ∷ U2 h.catch_const [] ∷ vs) g.end h.end [] [] start.1 in
      let target = u2_heads (U2 g.catch_const [] ∷ us) (U2 h.catch_const [] ∷ vs) g.target h.target [] [] end.1 in
      let class = u2_heads us vs g.catch_const h.catch_const [] [] target.1 in
      (same_handler g h start.0 end.0 target.0 class.0, class.1);
}

attribute_decides : Decides attribute_parts
attribute_decides = record {
  one = λ a b us vs e.
      let name = u2_heads (U4 (length a.bytes) [] ∷ Run a.bytes [] ∷ us) (U4 (length b.bytes) [] ∷ Run b.bytes [] ∷ vs) a.name b.name [] [] e in
      let len = u4_heads (Run a.bytes [] ∷ us) (Run b.bytes [] ∷ vs) (length a.bytes) (length b.bytes) [] [] name.1 in
      let run = run_heads us vs a.bytes b.bytes len.1 in
      (same_attribute a b name.0 run.0, run.1);
}

pub line_decides : Decides line_parts
line_decides = record {
  one = λ i j us vs e.
      let start = u2_heads (U2 i.line_number [] ∷ us) (U2 j.line_number [] ∷ vs) i.start_pc j.start_pc [] [] e in
      let line = u2_heads us vs i.line_number j.line_number [] [] start.1 in
      (same_line i j start.0 line.0, line.1);
}

abbrev after_len : VarInfo → List Part → List Part
after_len i us = U2 i.name_index [] ∷ U2 i.signature_index [] ∷ U2 i.index [] ∷ us

pub var_decides : Decides var_parts
var_decides = record {
  one = λ i j us vs e.
      let start = u2_heads (U2 i.length [] ∷ after_len i us) (U2 j.length [] ∷ after_len j vs) i.start_pc j.start_pc [] [] e in
      let len = u2_heads (after_len i us) (after_len j vs) i.length j.length [] [] start.1 in
      let name = u2_heads (U2 i.signature_index [] ∷ U2 i.index [] ∷ us) (U2 j.signature_index [] ∷ U2 j.index [] ∷ vs) i.name_index j.name_index [] [] len.1 in
      let signature = u2_heads (U2 i.index [] ∷ us) (U2 j.index [] ∷ vs) i.signature_index j.signature_index [] [] name.1 in
      let index = u2_heads us vs i.index j.index [] [] signature.1 in
      (same_var i j start.0 len.0 name.0 signature.0 index.0, index.1);
}

abbrev tables : Code → List Part
tables c = table_parts handler_parts c.handlers ++ table_parts attribute_parts c.attributes

abbrev after_locals : Code → List Part
after_locals c = U4 (length c.code) (IsCodeLength (length c.code) ∷ []) ∷ Run c.code [] ∷ tables c

pub code_same : (c d : Code) → code_parts c ≡ code_parts d → c ≡ d
code_same c d e =
    let stack = u2_heads (U2 c.max_locals [] ∷ after_locals c) (U2 d.max_locals [] ∷ after_locals d) c.max_stack d.max_stack [] [] e in
    let locals = u2_heads (after_locals c) (after_locals d) c.max_locals d.max_locals [] [] stack.1 in
    let len = u4_heads (Run c.code [] ∷ tables c) (Run d.code [] ∷ tables d) (length c.code) (length d.code) (IsCodeLength (length c.code) ∷ []) (IsCodeLength (length d.code) ∷ []) locals.1 in
    let code = run_heads (tables c) (tables d) c.code d.code len.1 in
    let handlers = (table_decides handler_parts handler_decides).one c.handlers d.handlers (table_parts attribute_parts c.attributes) (table_parts attribute_parts d.attributes) code.1 in
    let attributes = table_same attribute_parts attribute_decides c.attributes d.attributes handlers.1 in
    same_code c d stack.0 locals.0 code.0 handlers.0 attributes

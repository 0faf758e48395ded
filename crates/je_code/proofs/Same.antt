-- Records whose fields are the same are the same.
use Rattle.std.proofs.Common.{◌≡◌, ℕ, List, Option, ap, ◌∙◌}
use Rattle.je_instr.specs.declared.program.Decoded.{Decoded}
use Rattle.je_instr.specs.declared.program.RawHandler.{RawHandler}
use Rattle.je_code.specs.declared.attr.CodeAttr.{CodeAttr}
use Rattle.je_code.specs.declared.rows.LineRow.{LineRow}
use Rattle.je_code.specs.declared.rows.VarRow.{VarRow}
use Rattle.je_code.specs.Code.{AttributeInfo, Code}
use Rattle.je_code.specs.Rows.{LineInfo, VarInfo}

abbrev handler_of : ℕ → ℕ → ℕ → ℕ → RawHandler
handler_of v0 v1 v2 v3 = record { start = v0; end = v1; target = v2; catch_const = v3 }

pub same_handler : (x y : RawHandler) → x.start ≡ y.start → x.end ≡ y.end → x.target ≡ y.target → x.catch_const ≡ y.catch_const → x ≡ y
same_handler x y start end target class =
    ap (λ (v : ℕ). handler_of v x.end x.target x.catch_const) start
    ∙ ap (λ (v : ℕ). handler_of y.start v x.target x.catch_const) end
    ∙ ap (λ (v : ℕ). handler_of y.start y.end v x.catch_const) target
    ∙ ap (λ (v : ℕ). handler_of y.start y.end y.target v) class

abbrev attribute_of : ℕ → List ℕ → AttributeInfo
attribute_of v0 v1 = record { name = v0; bytes = v1 }

pub same_attribute : (x y : AttributeInfo) → x.name ≡ y.name → x.bytes ≡ y.bytes → x ≡ y
same_attribute x y name bytes =
    ap (λ (v : ℕ). attribute_of v x.bytes) name
    ∙ ap (λ (v : List ℕ). attribute_of y.name v) bytes

abbrev line_of : ℕ → ℕ → LineInfo
line_of v0 v1 = record { start_pc = v0; line_number = v1 }

pub same_line : (x y : LineInfo) → x.start_pc ≡ y.start_pc → x.line_number ≡ y.line_number → x ≡ y
same_line x y start line =
    ap (λ (v : ℕ). line_of v x.line_number) start
    ∙ ap (λ (v : ℕ). line_of y.start_pc v) line

abbrev var_of : ℕ → ℕ → ℕ → ℕ → ℕ → VarInfo
var_of v0 v1 v2 v3 v4 = record { start_pc = v0; length = v1; name_index = v2; signature_index = v3; index = v4 }

pub same_var : (x y : VarInfo) → x.start_pc ≡ y.start_pc → x.length ≡ y.length → x.name_index ≡ y.name_index → x.signature_index ≡ y.signature_index → x.index ≡ y.index → x ≡ y
same_var x y start len name signature index =
    ap (λ (v : ℕ). var_of v x.length x.name_index x.signature_index x.index) start
    ∙ ap (λ (v : ℕ). var_of y.start_pc v x.name_index x.signature_index x.index) len
    ∙ ap (λ (v : ℕ). var_of y.start_pc y.length v x.signature_index x.index) name
    ∙ ap (λ (v : ℕ). var_of y.start_pc y.length y.name_index v x.index) signature
    ∙ ap (λ (v : ℕ). var_of y.start_pc y.length y.name_index y.signature_index v) index

abbrev code_of : ℕ → ℕ → List ℕ → List RawHandler → List AttributeInfo → Code
code_of v0 v1 v2 v3 v4 = record { max_stack = v0; max_locals = v1; code = v2; handlers = v3; attributes = v4 }

pub same_code : (x y : Code) → x.max_stack ≡ y.max_stack → x.max_locals ≡ y.max_locals → x.code ≡ y.code → x.handlers ≡ y.handlers → x.attributes ≡ y.attributes → x ≡ y
same_code x y stack locals code handlers attributes =
    ap (λ (v : ℕ). code_of v x.max_locals x.code x.handlers x.attributes) stack
    ∙ ap (λ (v : ℕ). code_of y.max_stack v x.code x.handlers x.attributes) locals
    ∙ ap (λ (v : List ℕ). code_of y.max_stack y.max_locals v x.handlers x.attributes) code
    ∙ ap (λ (v : List RawHandler). code_of y.max_stack y.max_locals y.code v x.attributes) handlers
    ∙ ap (λ (v : List AttributeInfo). code_of y.max_stack y.max_locals y.code y.handlers v) attributes

abbrev attr_of : ℕ → ℕ → Decoded → List LineRow → List VarRow → List VarRow → Option (List ℕ) → CodeAttr
attr_of v0 v1 v2 v3 v4 v5 v6 = record { max_stack = v0; max_locals = v1; decoded = v2; lines = v3; vars = v4; var_types = v5; map = v6 }

pub same_attr : (x y : CodeAttr) → x.max_stack ≡ y.max_stack → x.max_locals ≡ y.max_locals → x.decoded ≡ y.decoded → x.lines ≡ y.lines → x.vars ≡ y.vars → x.var_types ≡ y.var_types → x.map ≡ y.map → x ≡ y
same_attr x y stack locals decoded lines vars types stack_map =
    ap (λ (v : ℕ). attr_of v x.max_locals x.decoded x.lines x.vars x.var_types x.map) stack
    ∙ ap (λ (v : ℕ). attr_of y.max_stack v x.decoded x.lines x.vars x.var_types x.map) locals
    ∙ ap (λ (v : Decoded). attr_of y.max_stack y.max_locals v x.lines x.vars x.var_types x.map) decoded
    ∙ ap (λ (v : List LineRow). attr_of y.max_stack y.max_locals y.decoded v x.vars x.var_types x.map) lines
    ∙ ap (λ (v : List VarRow). attr_of y.max_stack y.max_locals y.decoded y.lines v x.var_types x.map) vars
    ∙ ap (λ (v : List VarRow). attr_of y.max_stack y.max_locals y.decoded y.lines y.vars v x.map) types
    ∙ ap (λ (v : Option (List ℕ)). attr_of y.max_stack y.max_locals y.decoded y.lines y.vars y.var_types v) stack_map

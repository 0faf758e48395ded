-- Words and files are refused in one way at most.
use Rattle.std.proofs.Common.{◌≡◌, ℕ, ◌≤◌, List, length, Some, refl, sym, ap, subst, ◌∙◌}
use Rattle.std.specs.FinMap.{get}
use Rattle.je_base.specs.Files.{Contents}
use Rattle.je_consts.specs.Pool.{class_at}
use Rattle.je_class.specs.declared.fault.ClassFault.{ClassFault}
use Rattle.je_class.specs.Class.{Class}
use Rattle.je_class.specs.ClassBytes.{ClassBytes}
use Rattle.je_class.specs.Faults.{FirstFault}
use Rattle.je_session.specs.declared.plan.Script.{Script}
use Rattle.je_session.specs.Forms.{IsLine, IsScript, ReadsScript, class_path}
use Rattle.je_session.specs.Cause.{Refusal, NoScript, NotYetScript, NoClass, BadClass, WrongName, NotYetClass, IsClassRefusal, RefusesClass, IsRefusal}
use Rattle.je_session.proofs.CauseLemmas.{one_path, one_found, never_both, found_at, one_read}

-- bytes are one class file or have one first fault
pub record RefusalLaws : Type 0 where
  pub same : (bytes : List ℕ) (c d : Class) → ClassBytes bytes c → ClassBytes bytes d → c ≡ d
  pub no_fault : (bytes : List ℕ) (c : Class) (fault : ClassFault) → length bytes ≤ 16777216 → ClassBytes bytes c → FirstFault bytes fault → ⊥
  pub one_fault : (bytes : List ℕ) (d e : ClassFault) → FirstFault bytes d → FirstFault bytes e → d ≡ e

-- the words are a line, and the file that it names is there
abbrev FindsScript : List (List ℕ) → Contents → Type 0
FindsScript words files = (path : List ℕ) × (text : List ℕ) × IsLine words path × (get files path ≡ Some text)

abbrev IsRead : List (List ℕ) → Contents → Type 0
IsRead words files = (script : Script) × ReadsScript words files script

finds : (words : List (List ℕ)) (files : Contents) → IsRead words files → FindsScript words files
finds words files (script, reads) = (reads.path, reads.text, reads.line, reads.found)

-- ---- two refusals of different steps

no_script_apart : (words : List (List ℕ)) (files : Contents) (path : List ℕ) → IsRefusal words files (NoScript path) → FindsScript words files → ⊥
no_script_apart words files path (line, none) (other, text, other_line, found) =
    never_both files path text (found_at files path other text (one_path words path other line other_line) found) none

not_yet_apart : (words : List (List ℕ)) (files : Contents) → IsRefusal words files NotYetScript → IsRead words files → ⊥
not_yet_apart words files (path, text, line, found, none) (script, reads) =
    let same = one_found files path text reads.text found (found_at files path reads.path reads.text (one_path words path reads.path line reads.line) reads.found) in
    none script (subst (λ (t : List ℕ). IsScript t script) (sym same) reads.is_script)

no_class_apart : (words : List (List ℕ)) (files : Contents) (name : List ℕ) (refusal : Refusal) → IsRefusal words files (NoClass name) → RefusesClass words files refusal → ⊥
no_class_apart words files name refusal (script, reads, name_is, none) (other, bytes, reads_other, found, is) =
    let same = one_read words files script other reads reads_other in
    let at : class_path name ≡ class_path other.class_name = ap class_path (sym name_is ∙ ap (λ (s : Script). s.class_name) same) in
    never_both files (class_path name) bytes (found_at files (class_path name) (class_path other.class_name) bytes at found) none

read_of : (words : List (List ℕ)) (files : Contents) (refusal : Refusal) → RefusesClass words files refusal → IsRead words files
read_of words files refusal (script, bytes, reads, found, is) = (script, reads)

-- ---- two refusals of the bytes of one class

name_of : (c d : Class) (a b : List ℕ) → c ≡ d → class_at c.consts c.this_class ≡ Some a → class_at d.consts d.this_class ≡ Some b → a ≡ b
name_of c d a b same f g = cc

one_of_class : RefusalLaws → (script : Script) (bytes : List ℕ) (r q : Refusal) → IsClassRefusal script bytes r → IsClassRefusal script bytes q → r ≡ q
one_of_class laws script bytes (NoScript path) q is other = absurd is
one_of_class laws script bytes NotYetScript q is other = absurd is
one_of_class laws script bytes (NoClass name) q is other = absurd is
one_of_class laws script bytes (BadClass name fault) (NoScript path) is other = absurd other
one_of_class laws script bytes (BadClass name fault) NotYetScript is other = absurd other
one_of_class laws script bytes (BadClass name fault) (NoClass path) is other = absurd other
one_of_class laws script bytes (BadClass name fault) (BadClass other_name other_fault) (a, first) (b, second) =
    ap (λ (n : List ℕ). BadClass n fault) (sym a ∙ b) ∙ ap (λ (f : ClassFault). BadClass other_name f) (laws.one_fault bytes fault other_fault first second)
one_of_class laws script bytes (BadClass name fault) (WrongName other_name found) (a, first) (b, differs, c, is_file, there) = absurd (laws.no_fault bytes c fault is_file.short is_file.bytes_are first)
one_of_class laws script bytes (BadClass name fault) NotYetClass (a, first) (c, is_file, there, why) = absurd (laws.no_fault bytes c fault is_file.short is_file.bytes_are first)
one_of_class laws script bytes (WrongName name found) (NoScript path) is other = absurd other
one_of_class laws script bytes (WrongName name found) NotYetScript is other = absurd other
one_of_class laws script bytes (WrongName name found) (NoClass path) is other = absurd other
one_of_class laws script bytes (WrongName name found) (BadClass other_name fault) (a, differs, c, is_file, there) (b, first) = absurd (laws.no_fault bytes c fault is_file.short is_file.bytes_are first)
one_of_class laws script bytes (WrongName name found) (WrongName other_name other_found) (a, differs, c, is_file, there) (b, differs', d, is_file', there') =
    let same = laws.same bytes c d is_file.bytes_are is_file'.bytes_are in
    ap (λ (n : List ℕ). WrongName n found) (sym a ∙ b) ∙ ap (λ (n : List ℕ). WrongName other_name n) (name_of c d found other_found same there there')
one_of_class laws script bytes (WrongName name found) NotYetClass (a, differs, c, is_file, there) (d, is_file', there', why) =
    let same = laws.same bytes c d is_file.bytes_are is_file'.bytes_are in
    absurd (differs (name_of c d found script.class_name same there there' ∙ a))
one_of_class laws script bytes NotYetClass (NoScript path) is other = absurd other
one_of_class laws script bytes NotYetClass NotYetScript is other = absurd other
one_of_class laws script bytes NotYetClass (NoClass path) is other = absurd other
one_of_class laws script bytes NotYetClass (BadClass name fault) (c, is_file, there, why) (b, first) = absurd (laws.no_fault bytes c fault is_file.short is_file.bytes_are first)
one_of_class laws script bytes NotYetClass (WrongName name found) (c, is_file, there, why) (a, differs, d, is_file', there') =
    let same = laws.same bytes d c is_file'.bytes_are is_file.bytes_are in
    absurd (differs (name_of d c found script.class_name same there' there ∙ a))
one_of_class laws script bytes NotYetClass NotYetClass is other = refl

one_of_classes : RefusalLaws → (words : List (List ℕ)) (files : Contents) (r q : Refusal) → RefusesClass words files r → RefusesClass words files q → r ≡ q
one_of_classes laws words files r q (script, bytes, reads, found, is) (other, bytes', reads', found', is') =
    let same = one_read words files script other reads reads' in
    let at : class_path script.class_name ≡ class_path other.class_name = ap (λ (s : Script). class_path s.class_name) same in
    let one = one_found files (class_path script.class_name) bytes bytes' found (found_at files (class_path script.class_name) (class_path other.class_name) bytes' at found') in
    let moved = subst (λ (s : Script). IsClassRefusal s bytes' q) (sym same) is' in
    one_of_class laws script bytes r q is (subst (λ (b : List ℕ). IsClassRefusal script b q) (sym one) moved)

-- ---- all of them

one_name : (words : List (List ℕ)) (files : Contents) (name other : List ℕ) → IsRefusal words files (NoClass name) → IsRefusal words files (NoClass other) → name ≡ other
one_name words files name other (script, reads, name_is, none) (script', reads', name_is', none') =
    sym name_is ∙ ap (λ (s : Script). s.class_name) (one_read words files script script' reads reads') ∙ name_is'

module _ (laws : RefusalLaws) (words : List (List ℕ)) (files : Contents) where
  pub one_refusal : (r q : Refusal) → IsRefusal words files r → IsRefusal words files q → r ≡ q
  one_refusal (NoScript path) (NoScript path') is other = ap NoScript (one_path words path path' is.0 other.0)
  one_refusal (NoScript path) NotYetScript is other = absurd (no_script_apart words files path is (other.0, other.1, other.2, other.3))
  one_refusal (NoScript path) (NoClass name') is other = absurd (no_script_apart words files path is (finds words files (other.0, other.1)))
  one_refusal (NoScript path) (BadClass name' fault') is other = absurd (no_script_apart words files path is (finds words files (read_of words files (BadClass name' fault') other)))
  one_refusal (NoScript path) (WrongName name' found') is other = absurd (no_script_apart words files path is (finds words files (read_of words files (WrongName name' found') other)))
  one_refusal (NoScript path) NotYetClass is other = absurd (no_script_apart words files path is (finds words files (read_of words files NotYetClass other)))
  one_refusal NotYetScript (NoScript path') is other = absurd (no_script_apart words files path' other (is.0, is.1, is.2, is.3))
  one_refusal NotYetScript NotYetScript is other = refl
  one_refusal NotYetScript (NoClass name') is other = absurd (not_yet_apart words files is (other.0, other.1))
  one_refusal NotYetScript (BadClass name' fault') is other = absurd (not_yet_apart words files is (read_of words files (BadClass name' fault') other))
  one_refusal NotYetScript (WrongName name' found') is other = absurd (not_yet_apart words files is (read_of words files (WrongName name' found') other))
  one_refusal NotYetScript NotYetClass is other = absurd (not_yet_apart words files is (read_of words files NotYetClass other))
  one_refusal (NoClass name) (NoScript path') is other = absurd (no_script_apart words files path' other (finds words files (is.0, is.1)))
  one_refusal (NoClass name) NotYetScript is other = absurd (not_yet_apart words files other (is.0, is.1))
  one_refusal (NoClass name) (NoClass name') is other = ap NoClass (one_name words files name name' is other)
  one_refusal (NoClass name) (BadClass name' fault') is other = absurd (no_class_apart words files name (BadClass name' fault') is other)
  one_refusal (NoClass name) (WrongName name' found') is other = absurd (no_class_apart words files name (WrongName name' found') is other)
  one_refusal (NoClass name) NotYetClass is other = absurd (no_class_apart words files name NotYetClass is other)
  one_refusal (BadClass name fault) (NoScript path') is other = absurd (no_script_apart words files path' other (finds words files (read_of words files (BadClass name fault) is)))
  one_refusal (BadClass name fault) NotYetScript is other = absurd (not_yet_apart words files other (read_of words files (BadClass name fault) is))
  one_refusal (BadClass name fault) (NoClass name') is other = absurd (no_class_apart words files name' (BadClass name fault) other is)
  one_refusal (BadClass name fault) (BadClass name' fault') is other = one_of_classes laws words files (BadClass name fault) (BadClass name' fault') is other
  one_refusal (BadClass name fault) (WrongName name' found') is other = one_of_classes laws words files (BadClass name fault) (WrongName name' found') is other
  one_refusal (BadClass name fault) NotYetClass is other = one_of_classes laws words files (BadClass name fault) NotYetClass is other
  one_refusal (WrongName name found) (NoScript path') is other = absurd (no_script_apart words files path' other (finds words files (read_of words files (WrongName name found) is)))
  one_refusal (WrongName name found) NotYetScript is other = absurd (not_yet_apart words files other (read_of words files (WrongName name found) is))
  one_refusal (WrongName name found) (NoClass name') is other = absurd (no_class_apart words files name' (WrongName name found) other is)
  one_refusal (WrongName name found) (BadClass name' fault') is other = one_of_classes laws words files (WrongName name found) (BadClass name' fault') is other
  one_refusal (WrongName name found) (WrongName name' found') is other = one_of_classes laws words files (WrongName name found) (WrongName name' found') is other
  one_refusal (WrongName name found) NotYetClass is other = one_of_classes laws words files (WrongName name found) NotYetClass is other
  one_refusal NotYetClass (NoScript path') is other = absurd (no_script_apart words files path' other (finds words files (read_of words files NotYetClass is)))
  one_refusal NotYetClass NotYetScript is other = absurd (not_yet_apart words files other (read_of words files NotYetClass is))
  one_refusal NotYetClass (NoClass name') is other = absurd (no_class_apart words files name' NotYetClass other is)
  one_refusal NotYetClass (BadClass name' fault') is other = one_of_classes laws words files NotYetClass (BadClass name' fault') is other
  one_refusal NotYetClass (WrongName name' found') is other = one_of_classes laws words files NotYetClass (WrongName name' found') is other
  one_refusal NotYetClass NotYetClass is other = one_of_classes laws words files NotYetClass NotYetClass is other

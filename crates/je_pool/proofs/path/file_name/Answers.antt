use Rattle.std.proofs.Common.{◌≡◌, Some, true, false, ap, sym, ◌∙◌}
use Rattle.std.specs.Option.{option_map}
use Rattle.std.proofs.lemmas.Str.{IsUtf8-string_bytes}
use Rattle.std.specs.String.{string_bytes}
use Rattle.std.specs.Str.{chars}
use Rattle.je_base.specs.Encoding.{decoded, characters}
use Rattle.je_pool.specs.Path.{has_parts}
use Rattle.je_pool.proofs.PathLemmas.{named_by}
use Rattle.je_pool.proofs.path.file_name.Goals as goal

pub returns-then-not-has_parts : goal.returns-then-not-has_parts
returns-then-not-has_parts c =
    let text = string_bytes c.in-Some.string in
    let found : decoded c.args.name.now ≡ Some (chars text) = let e : option_map characters (Some c.in-Some.string) ≡ decoded c.bytes.result.now = rw c.in-Some.is at c.in_ok-string.ensures.decoded in ap decoded (sym c.bytes.ensures.bytes) ∙ sym e in
    let test : has_parts text ≡ false = ap has_parts (sym c.as_bytes.ensures.value) ∙ sym c.has_parts.ensures ∙ c.if-not-has_parts.true in
    named_by c.args.name.now text false found (IsUtf8-string_bytes c.in-Some.string) test

pub returns : goal.returns
returns c =
    let text = string_bytes c.in-Some.string in
    let found : decoded c.args.name.now ≡ Some (chars text) = let e : option_map characters (Some c.in-Some.string) ≡ decoded c.bytes.result.now = rw c.in-Some.is at c.in_ok-string.ensures.decoded in ap decoded (sym c.bytes.ensures.bytes) ∙ sym e in
    let test : has_parts text ≡ true = ap has_parts (sym c.as_bytes.ensures.value) ∙ sym c.has_parts.ensures ∙ c.if-not-has_parts.false in
    named_by c.args.name.now text true found (IsUtf8-string_bytes c.in-Some.string) test

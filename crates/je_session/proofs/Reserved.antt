-- The table of reserved words is the list of them.
use Rattle.std.proofs.Common.{◌≡◌, map, refl}
use Rattle.je_session.specs.declared.script.parse.TheConstants.{RESERVED}
use Rattle.je_session.specs.Script.{reserved_words}

pub reserved_is : map (λ word. word.now) RESERVED ≡ reserved_words
unfolding reserved_words
reserved_is = refl

-- The two laws of reading a script: what is read is spelled so, and what is spelled so is read.
use Rattle.std.proofs.Common.{◌≡◌, ℕ, List, [], ◌∷◌, ◌++◌, length, codes, Option, Some, None, Result, Ok, Err, refl, sym, ap, subst, ◌∙◌}
use Rattle.std.specs.Prelude.{IfOk, MatchResult, nat_eq}
use Rattle.std.specs.List.{flat_map, AllByRecursion}
use Rattle.std.proofs.lemmas.Bool.{eqb-true}
use Rattle.std.proofs.lemmas.List.{append-nil}
use Rattle.std.proofs.lemmas.Option.{cond_some}
use Rattle.std.proofs.lemmas.Slice.Eq.{bytes_eq-Decides}
use Rattle.je_base.specs.Text.{is_same_text}
use Rattle.je_session.specs.declared.plan.Fragment.{Fragment}
use Rattle.je_session.specs.declared.plan.Fragment.TheVariants.{Empty, Proceed}
use Rattle.je_session.specs.declared.plan.Rule.{Rule}
use Rattle.je_session.specs.declared.plan.MethodPlan.{MethodPlan}
use Rattle.je_session.specs.declared.plan.Script.{Script}
use Rattle.je_session.specs.declared.script.tokens.ScriptStop.{ScriptStop}
use Rattle.je_session.specs.declared.script.tokens.ScriptStop.TheVariants as stop
use Rattle.je_session.specs.declared.script.token.Token.{Token}
use Rattle.je_session.specs.declared.script.token.Token.TheVariants.{Word, Mark}
use Rattle.je_session.specs.Script.{IsIdent, fragment_tokens, rule_tokens, script_tokens, IsRule, ScriptForm}
use Rattle.je_session.specs.Tokens.{AreTokens}
use Rattle.je_session.proofs.TokenLemmas.{one_tokens}
use Rattle.je_session.specs.Reading.{◌>>=◌, Gives, is_ident, after_word, after_mark, ident_at, empty_at, proceed_at, body_at, fragment_at, rule_at, plan_at, end_at, script_at}
use Rattle.je_session.proofs.NameLemmas.{IsIdent-is_ident, is_ident-IsIdent}

bind_some : {A B : Type 0} (r : Option A) (f : A → Option B) (y : B) → r >>= f ≡ Some y → (x : A) × (r ≡ Some x) × (f x ≡ Some y)
bind_some None f y e = absurd cc
bind_some (Some x) f y e = (x, refl, e)

some_is : {A : Type 0} (x y : A) → Some x ≡ Some y → x ≡ y
some_is x y e = cc

-- a token, and what the tokens after it are
followed : {a b c : List Token} {token : Token} → a ≡ token ∷ b → b ≡ c → a ≡ token ∷ c
followed {token} here later = here ∙ ap (λ (ts : List Token). token ∷ ts) later

-- ---- one token

word_takes : (word : List ℕ) (tokens rest : List Token) → after_word word tokens ≡ Some rest → tokens ≡ Word word ∷ rest
word_takes word [] rest e = absurd cc
word_takes word (Mark m ∷ tokens) rest e = absurd cc
word_takes word (Word w ∷ tokens) rest e =
    let found = cond_some (is_same_text w word) tokens rest e in
    rw ((bytes_eq-Decides w word).0 found.0, found.1) refl

mark_takes : (mark : ℕ) (tokens rest : List Token) → after_mark mark tokens ≡ Some rest → tokens ≡ Mark mark ∷ rest
mark_takes mark [] rest e = absurd cc
mark_takes mark (Word w ∷ tokens) rest e = absurd cc
mark_takes mark (Mark m ∷ tokens) rest e =
    let found = cond_some (nat_eq m mark) tokens rest e in
    rw (eqb-true m mark found.0, found.1) refl

ident_takes : (tokens : List Token) (x : List ℕ × List Token) → ident_at tokens ≡ Some x → (tokens ≡ Word x.0 ∷ x.1) × IsIdent x.0
ident_takes [] x e = absurd cc
ident_takes (Mark m ∷ tokens) x e = absurd cc
ident_takes (Word w ∷ tokens) x e =
    let found = cond_some (is_ident w) (w, tokens) x e in
    subst (λ (y : List ℕ × List Token). (Word w ∷ tokens ≡ Word y.0 ∷ y.1) × IsIdent y.0) found.1 (refl, IsIdent-is_ident w found.0)

end_takes : (tokens : List Token) (x : Unit {0}) → end_at tokens ≡ Some x → tokens ≡ []
end_takes [] x e = refl
end_takes (token ∷ tokens) x e = absurd cc

-- ---- a fragment

-- the tokens are those of the fragment behind its `{`
abbrev IsBody : List Token → Fragment × List Token → Type 0
IsBody tokens x = Mark 123 ∷ tokens ≡ fragment_tokens x.0 ++ x.1

empty_takes : (tokens : List Token) (x : Fragment × List Token) → empty_at tokens ≡ Some x → IsBody tokens x
unfolding empty_at
empty_takes tokens x e =
    let ended = bind_some _ _ _ e in
    subst (IsBody tokens) (some_is (Empty, ended.0) x ended.2) (followed refl (mark_takes 125 tokens ended.0 ended.1))

proceed_takes : (tokens : List Token) (x : Fragment × List Token) → proceed_at tokens ≡ Some x → IsBody tokens x
unfolding proceed_at
proceed_takes tokens x e =
    let proceed = bind_some _ _ _ e in
    let opened = bind_some _ _ _ proceed.2 in
    let arguments = bind_some _ _ _ opened.2 in
    let closed = bind_some _ _ _ arguments.2 in
    let stated = bind_some _ _ _ closed.2 in
    let ended = bind_some _ _ _ stated.2 in
    let e0 = word_takes (codes "$proceed") tokens proceed.0 proceed.1 in
    let e1 = mark_takes 40 proceed.0 opened.0 opened.1 in
    let e2 = word_takes (codes "$$") opened.0 arguments.0 arguments.1 in
    let e3 = mark_takes 41 arguments.0 closed.0 closed.1 in
    let e4 = mark_takes 59 closed.0 stated.0 stated.1 in
    let e5 = mark_takes 125 stated.0 ended.0 ended.1 in
    let whole : IsBody tokens (Proceed, ended.0) = followed refl (followed e0 (followed e1 (followed e2 (followed e3 (followed e4 e5))))) in
    subst (IsBody tokens) (some_is (Proceed, ended.0) x ended.2) whole

body_takes : (tokens : List Token) (x : Fragment × List Token) → body_at tokens ≡ Some x → IsBody tokens x
body_takes (Word w ∷ tokens) x e = proceed_takes (Word w ∷ tokens) x e
body_takes (Mark m ∷ tokens) x e = empty_takes (Mark m ∷ tokens) x e
body_takes [] x e = empty_takes [] x e

fragment_takes : (tokens : List Token) (x : Fragment × List Token) → fragment_at tokens ≡ Some x → tokens ≡ fragment_tokens x.0 ++ x.1
unfolding fragment_at
fragment_takes tokens x e =
    let begun = bind_some _ _ _ e in
    mark_takes 123 tokens begun.0 begun.1 ∙ body_takes begun.0 x begun.2

fragment_again : (fragment : Fragment) (rest : List Token) → fragment_at (fragment_tokens fragment ++ rest) ≡ Some (fragment, rest)
unfolding fragment_at empty_at proceed_at
fragment_again Empty rest = refl
fragment_again Proceed rest = refl

-- ---- a rule

rule_takes : (tokens : List Token) (x : Rule × List Token) → rule_at tokens ≡ Some x → (tokens ≡ rule_tokens x.0 ++ x.1) × IsRule x.0
unfolding rule_at
rule_takes tokens x e =
    let call = bind_some _ _ _ e in
    let class_name = bind_some _ _ _ call.2 in
    let dot = bind_some _ _ _ class_name.2 in
    let member = bind_some _ _ _ dot.2 in
    let fragment = bind_some _ _ _ member.2 in
    let e0 = word_takes (codes "call") tokens call.0 call.1 in
    let e1 = ident_takes call.0 class_name.0 class_name.1 in
    let e2 = mark_takes 46 class_name.0.1 dot.0 dot.1 in
    let e3 = ident_takes dot.0 member.0 member.1 in
    let e4 = fragment_takes member.0.1 fragment.0 fragment.1 in
    let made : Rule = record { class_name = class_name.0.0; member = member.0.0; fragment = fragment.0.0 } in
    let whole : tokens ≡ rule_tokens made ++ fragment.0.1 = followed e0 (followed e1.0 (followed e2 (followed e3.0 e4))) in
    subst (λ (y : Rule × List Token). (tokens ≡ rule_tokens y.0 ++ y.1) × IsRule y.0) (some_is (made, fragment.0.1) x fragment.2) (whole, record { class_name = e1.1; member = e3.1 })

rule_again : (rule : Rule) (rest : List Token) → IsRule rule → rule_at (rule_tokens rule ++ rest) ≡ Some (rule, rest)
unfolding rule_at
rule_again rule rest is_rule =
    rw (is_ident-IsIdent rule.class_name is_rule.class_name, is_ident-IsIdent rule.member is_rule.member, fragment_again rule.fragment rest) refl

-- ---- a plan

record IsPlan (plan : MethodPlan) : Type 0 where
  name : IsIdent plan.name
  one_rule : length plan.rules ≡ 1
  rules : AllByRecursion IsRule plan.rules

-- the tokens of a plan, and what follows them
abbrev plan_then : MethodPlan → List Token → List Token
plan_then plan rest =
    Word (codes "method") ∷ Word (codes "void") ∷ Word plan.name ∷ Mark 40 ∷ Mark 41 ∷ Mark 123
    ∷ (flat_map rule_tokens plan.rules ++ Mark 125 ∷ rest)

one_rule_tokens : (rule : Rule) (rest : List Token) → rule_tokens rule ++ rest ≡ flat_map rule_tokens (rule ∷ []) ++ rest
one_rule_tokens rule rest = ap (λ (ts : List Token). ts ++ rest) (sym (append-nil (rule_tokens rule)))

plan_takes : (tokens : List Token) (x : MethodPlan × List Token) → plan_at tokens ≡ Some x → (tokens ≡ plan_then x.0 x.1) × IsPlan x.0
unfolding plan_at
plan_takes tokens x e =
    let method = bind_some _ _ _ e in
    let void = bind_some _ _ _ method.2 in
    let name = bind_some _ _ _ void.2 in
    let opened = bind_some _ _ _ name.2 in
    let closed = bind_some _ _ _ opened.2 in
    let begun = bind_some _ _ _ closed.2 in
    let rule = bind_some _ _ _ begun.2 in
    let ended = bind_some _ _ _ rule.2 in
    let e0 = word_takes (codes "method") tokens method.0 method.1 in
    let e1 = word_takes (codes "void") method.0 void.0 void.1 in
    let e2 = ident_takes void.0 name.0 name.1 in
    let e3 = mark_takes 40 name.0.1 opened.0 opened.1 in
    let e4 = mark_takes 41 opened.0 closed.0 closed.1 in
    let e5 = mark_takes 123 closed.0 begun.0 begun.1 in
    let e6 = rule_takes begun.0 rule.0 rule.1 in
    let e7 = mark_takes 125 rule.0.1 ended.0 ended.1 in
    let e8 : begun.0 ≡ flat_map rule_tokens (rule.0.0 ∷ []) ++ Mark 125 ∷ ended.0 =
    e6.0 ∙ ap (λ (ts : List Token). rule_tokens rule.0.0 ++ ts) e7 ∙ one_rule_tokens rule.0.0 (Mark 125 ∷ ended.0) in
    let made : MethodPlan = record { name = name.0.0; rules = rule.0.0 ∷ [] } in
    let whole : tokens ≡ plan_then made ended.0 = followed e0 (followed e1 (followed e2.0 (followed e3 (followed e4 (followed e5 e8))))) in
    subst (λ (y : MethodPlan × List Token). (tokens ≡ plan_then y.0 y.1) × IsPlan y.0) (some_is (made, ended.0) x ended.2)
    (whole, record { name = e2.1; one_rule = refl; rules = (e6.1, tt) })

plan_again : (name : List ℕ) (rule : Rule) (rest : List Token) → IsIdent name → IsRule rule
    → plan_at (plan_then (record { name = name; rules = rule ∷ [] }) rest) ≡ Some (record { name = name; rules = rule ∷ [] }, rest)
unfolding plan_at
plan_again name rule rest is_name is_rule =
    rw (sym (one_rule_tokens rule (Mark 125 ∷ rest)), is_ident-IsIdent name is_name, rule_again rule (Mark 125 ∷ rest) is_rule) refl

-- ---- a script

script_takes : (tokens : List Token) (script : Script) → script_at tokens ≡ Some script
    → (tokens ≡ script_tokens script) × IsIdent script.class_name × IsPlan script.plan
unfolding script_at
script_takes tokens script e =
    let class = bind_some _ _ _ e in
    let class_name = bind_some _ _ _ class.2 in
    let begun = bind_some _ _ _ class_name.2 in
    let plan = bind_some _ _ _ begun.2 in
    let closed = bind_some _ _ _ plan.2 in
    let ended = bind_some _ _ _ closed.2 in
    let e0 = word_takes (codes "class") tokens class.0 class.1 in
    let e1 = ident_takes class.0 class_name.0 class_name.1 in
    let e2 = mark_takes 123 class_name.0.1 begun.0 begun.1 in
    let e3 = plan_takes begun.0 plan.0 plan.1 in
    let e4 = mark_takes 125 plan.0.1 closed.0 closed.1 in
    let e5 = end_takes closed.0 ended.0 ended.1 in
    let e6 : begun.0 ≡ plan_then plan.0.0 (Mark 125 ∷ []) = e3.0 ∙ ap (plan_then plan.0.0) (followed e4 e5) in
    let made : Script = record { class_name = class_name.0.0; plan = plan.0.0 } in
    let whole : tokens ≡ script_tokens made = followed e0 (followed e1.0 (followed e2 e6)) in
    subst (λ (y : Script). (tokens ≡ script_tokens y) × IsIdent y.class_name × IsPlan y.plan) (some_is made script ended.2) (whole, e1.1, e3.1)

script_again : (class_name name : List ℕ) (rules : List Rule) → IsIdent class_name → IsIdent name → length rules ≡ 1 → AllByRecursion IsRule rules
    → script_at (script_tokens (record { class_name = class_name; plan = record { name = name; rules = rules } }))
    ≡ Some (record { class_name = class_name; plan = record { name = name; rules = rules } })
unfolding script_at
script_again class_name name [] is_class is_name one each = absurd cc
script_again class_name name (rule ∷ other ∷ rules) is_class is_name one each = absurd cc
script_again class_name name (rule ∷ []) is_class is_name one each =
    rw (is_ident-IsIdent class_name is_class, plan_again name rule (Mark 125 ∷ []) is_name each.0) refl

-- ---- a text

pub is_found : (text : List ℕ) (tokens : List Token) (r : Result Script ScriptStop) → AreTokens text tokens
    → Gives (λ script. script) r (script_at tokens) → IfOk r (ScriptForm text)
is_found text tokens (Err e) are given = tt
is_found text tokens (Ok script) are given =
    let h = script_takes tokens script given in
    record {
      tokens = subst (AreTokens text) h.0 are;
      class_name = h.1;
      method_name = h.2.name;
      one_rule = h.2.one_rule;
      rules = h.2.rules;
    }

gives_only : (r : Result Script ScriptStop) (script : Script) → Gives (λ s. s) r (Some script) → MatchResult r (λ s. s ≡ script) (λ e. e ≡ stop.Memory)
gives_only (Ok s) script given = cc
gives_only (Err stop.NotYet) script given = absurd cc
gives_only (Err stop.Memory) script given = refl

pub is_only : (text : List ℕ) (tokens : List Token) (r : Result Script ScriptStop) → ((ts : List Token) → AreTokens text ts → tokens ≡ ts)
    → Gives (λ s. s) r (script_at tokens) → (script : Script) → ScriptForm text script → MatchResult r (λ s. s ≡ script) (λ e. e ≡ stop.Memory)
is_only text tokens r only given script form =
    let again = script_again script.class_name script.plan.name script.plan.rules form.class_name form.method_name form.one_rule form.rules in
    gives_only r script (subst (Gives (λ s. s) r) (ap script_at (only (script_tokens script) form.tokens) ∙ again) given)

-- a text is one script
pub one_script : (text : List ℕ) (a b : Script) → ScriptForm text a → ScriptForm text b → a ≡ b
one_script text a b f g =
    let again_a = script_again a.class_name a.plan.name a.plan.rules f.class_name f.method_name f.one_rule f.rules in
    let again_b = script_again b.class_name b.plan.name b.plan.rules g.class_name g.method_name g.one_rule g.rules in
    some_is a b (sym again_a ∙ ap script_at (one_tokens text (script_tokens a) (script_tokens b) f.tokens g.tokens) ∙ again_b)

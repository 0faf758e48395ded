use Rattle.std.proofs.Common.{[], sym, subst}
use Rattle.std.proofs.lemmas.Bool.{eqb-true}
use Rattle.std.proofs.lemmas.List.{nil_from_length}
use Rattle.je_session.specs.Reading.{Leads}
use Rattle.je_session.proofs.TokenLemmas.{Leads-white, Leads-next, Leads-end}
use Rattle.je_session.proofs.script.tokens.tokens.Goals as goal
use Rattle.je_session.proofs.script.tokens.tokens.Goals.{After-loop-rest}

pub loop-rest-init : goal.loop-rest-init
loop-rest-init c = record {
  leads = rw c.new-found.ensures.items (Leads-white c.args.text.now c.after_white-rest.result.now c.after_white-rest.ensures);
  no_white = c.after_white-rest.ensures.ends;
}

pub loop-rest-preserved : goal.loop-rest-preserved
loop-rest-preserved c =
    let white = c.after_white-rest-in-loop-rest in
    record {
      leads = rw c.in_ok-push.ensures.items (Leads-next _ _ c.in_ok-token.after.now white.result.now _ c.in_ok-token.token c.loop-rest.invariant.leads c.in_ok-token.ensures.found white.ensures);
      no_white = white.ensures.ends;
    }

-- the tokens found lead to the end
leads_to_end : (c : After-loop-rest) → Leads c.args.text.now c.loop-rest.found.items []
leads_to_end c = subst (Leads c.args.text.now c.loop-rest.found.items) (nil_from_length c.loop-rest.rest.now (eqb-true _ _ (sym c.loop-rest-test.ensures))) c.loop-rest.invariant.leads

pub returns-clause-found : goal.returns-clause-found
returns-clause-found c = (Leads-end c.args.text.now c.loop-rest.found.items (leads_to_end c)).0

pub returns-clause-only : goal.returns-clause-only
returns-clause-only c = (Leads-end c.args.text.now c.loop-rest.found.items (leads_to_end c)).1

-- What a question over a walk comes to, from how the search ends.
use Rattle.std.proofs.Common.{List, [], ◌∷◌}
use Rattle.je_world.specs.declared.stop.Stop.{Stop}
use Rattle.je_world.specs.Question.{Name, Answered}
use Rattle.je_world.specs.Seen.{Seen, Leads, Breaks}
use Rattle.je_world.specs.Walk.{Class, most}
use Rattle.je_world.specs.Search as search
use Rattle.je_world.specs.Search.{chain, walk}
use Rattle.je_world.proofs.LeadsLemmas.{leads_then, leads_here, breaks_in}
use Rattle.je_members.specs.Among.{among}
use Rattle.je_members.specs.Subtype.{subtype, was_met}
use Rattle.je_members.specs.Common.{superclasses, first_above, gone_along, met_or_object}

pub subtyped : {old after : Seen} (sub sup : Name) (end : search.Ending (List Name) Name) → Leads old (walk (among (sup ∷ [])) sub) after (Answered end) → Leads old (subtype sub sup) after (Answered (was_met end))
unfolding subtype
subtyped {old} {after} sub sup end h =
    leads_then (λ end. Answered (was_met end)) h (leads_here after (Answered (was_met end)))

pub subtype_breaks : {old after : Seen} (sub sup : Name) (why : Stop) → Breaks old (walk (among (sup ∷ [])) sub) after why → Breaks old (subtype sub sup) after why
unfolding subtype
subtype_breaks sub sup why h = breaks_in (λ end. Answered (was_met end)) why h

pub gone_up : {old after : Seen} (name : Name) (end : search.Ending (List Class) Name) → Leads old (chain (among []) most [] name) after (Answered end) → Leads old (superclasses name) after (Answered (gone_along end))
unfolding superclasses
gone_up {old} {after} name end h =
    leads_then (λ end. Answered (gone_along end)) h (leads_here after (Answered (gone_along end)))

pub up_breaks : {old after : Seen} (name : Name) (why : Stop) → Breaks old (chain (among []) most [] name) after why → Breaks old (superclasses name) after why
unfolding superclasses
up_breaks name why h = breaks_in (λ end. Answered (gone_along end)) why h

pub first_met : {old after : Seen} (names : List Name) (name : Name) (end : search.Ending (List Class) Name) → Leads old (chain (among names) most [] name) after (Answered end) → Leads old (first_above names name) after (Answered (met_or_object end))
unfolding first_above
first_met {old} {after} names name end h =
    leads_then (λ end. Answered (met_or_object end)) h (leads_here after (Answered (met_or_object end)))

pub first_breaks : {old after : Seen} (names : List Name) (name : Name) (why : Stop) → Breaks old (chain (among names) most [] name) after why → Breaks old (first_above names name) after why
unfolding first_above
first_breaks names name why h = breaks_in (λ end. Answered (met_or_object end)) why h

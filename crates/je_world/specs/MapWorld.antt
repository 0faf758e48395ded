-- A world in memory.
use Rattle.std.specs.Prelude.{◌≡◌, ◌⊎◌, ℕ, List, [], Contains, refl}
use Rattle.std.specs.Prelude.{Option, Some, None, Result, Ok, Err, IfOk}
use Rattle.std.specs.Ordering.{nat_cmp}
use Rattle.std.specs.Cmp.Lexicographic.{slice_cmp}
use Rattle.std.specs.FinMap.{FinMap, empty, get, code}
use Rattle.std.specs.Coded.{Coded, code_by, coded×, coded_ℕ, coded_list, coded_option}
use Rattle.je_base.specs.Count.{raised}
use Rattle.je_desc.specs.declared.summary.Summary.{Summary}
use Rattle.je_desc.specs.contracts.summary.Summary as summary
use Rattle.je_world.specs.declared.stop.Stop.{Stop}
use Rattle.je_world.specs.declared.stop.Stop.TheVariants.{Failed, Memory}
use Rattle.je_world.specs.contracts.stop.Stop as stop
use Rattle.je_world.specs.Question.{Name, Known, Absent, Broken, IsClass}
use Rattle.je_world.specs.Seen.{Seen}
use Rattle.je_world.specs.World.{Answer, listed, stop_after}

-- the class under each name that was told, or that what lies there is broken
abbrev pub Contents : Type 0
Contents = FinMap (slice_cmp nat_cmp) (Option Summary)

-- What a world in memory holds, and what was done to it.
pub record WorldState : Type 0 where
  pub contents : Contents
  -- the names that were asked, each once, in the order of their first asking
  pub asked : List Name
  -- the numbers of the looks that fail, from 1
  pub failing : List ℕ
  pub looks : ℕ
  pub faults : ℕ
  -- the first answer that was a failure or want of memory
  pub stop : Option Stop

abbrev coded_contents : Coded Contents
coded_contents = code (coded_list coded_ℕ) (coded_option summary.the_row.coded)

-- the names that were asked and the numbers that fail, the two counts, and the stop
abbrev Rest : Type 0
Rest = (List Name × List ℕ) × ((ℕ × ℕ) × Option Stop)

abbrev coded_rest : Coded Rest
coded_rest =
    coded× (coded× (coded_list (coded_list coded_ℕ)) (coded_list coded_ℕ))
    (coded× (coded× coded_ℕ coded_ℕ) (coded_option stop.the_row.coded))

abbrev pub coded_world : Coded WorldState
coded_world =
    code_by (Contents × Rest) (coded× coded_contents coded_rest)
    (λ w. (w.contents, ((w.asked, w.failing), ((w.looks, w.faults), w.stop))))
    (λ p. record {
      contents = p.0;
      asked = p.1.0.0;
      failing = p.1.0.1;
      looks = p.1.1.0.0;
      faults = p.1.1.0.1;
      stop = p.1.1.1;
    })
    (λ _. refl)

-- no classes and no looks
abbrev pub no_world : WorldState
no_world = record {
  contents = empty;
  asked = [];
  failing = [];
  looks = 0;
  faults = 0;
  stop = None;
}

-- what was told of a name, if anything
abbrev pub known_by : Option (Option Summary) → Known
known_by None = Absent
known_by (Some None) = Broken
known_by (Some (Some class)) = IsClass class

-- A world in memory tells everything.
abbrev pub seen_of : WorldState → Seen
seen_of w = record {
  told = Some (λ name. known_by (get w.contents name));
  asked = Some w.asked;
  stop = w.stop;
  faults = w.faults;
}

-- the number of the next look was given to fail
abbrev pub FailsNext : WorldState → Type 0
FailsNext w = Contains w.failing (raised w.looks)

-- a look that answered: one more look, and the name is listed
abbrev pub after_look : WorldState → Name → WorldState
after_look w name = record w { asked = listed name w.asked; looks = raised w.looks }

-- a look that failed
abbrev pub after_failed_look : WorldState → Name → WorldState
after_failed_look w name = record (after_look w name) {
  faults = raised w.faults;
  stop = stop_after w.stop (Err Failed);
}

-- A look that ended for want of memory is one more look. The name may be listed.
abbrev pub AfterMemory : WorldState → Name → WorldState → Type 0
AfterMemory old name new =
    (new ≡ record old { looks = raised old.looks; stop = stop_after old.stop (Err Memory) })
    ⊎ (new ≡ record (after_look old name) { stop = stop_after old.stop (Err Memory) })

-- what a look leaves, by what it answers
abbrev pub AfterLook : {T : Type 0} → WorldState → Name → Result T Stop → WorldState → Type 0
AfterLook old name (Ok answer) new = new ≡ after_look old name
AfterLook old name (Err Failed) new = new ≡ after_failed_look old name
AfterLook old name (Err Memory) new = AfterMemory old name new

-- It fails exactly where the number of the look was given to fail. It may run out of memory first.
abbrev pub FailsAsTold : {T : Type 0} → WorldState → Result T Stop → Type 0
FailsAsTold old (Ok answer) = FailsNext old → ⊥
FailsAsTold old (Err Failed) = FailsNext old
FailsAsTold old (Err Memory) = Unit {0}

-- a look at a world in memory
pub record LooksAsTold (name : Name) (old : WorldState) (answer : Answer) (new : WorldState)
    : Type 0 where
  -- It answers by what was told of the name.
  pub known : IfOk answer (λ known. known ≡ known_by (get old.contents name))
  pub fails : FailsAsTold old answer
  pub after : AfterLook old name answer new

-- Serves private functions: classes with how other classes see them.
use Rattle.std.specs.Prelude.{List, map}
use Rattle.je_class.specs.Class.{Class}
use Rattle.je_class.specs.Summed.{IsSummary}
use Rattle.je_desc.specs.Fit.{IsFit}
use Rattle.je_pool.specs.declared.node.Node.{Node}

-- the classes
abbrev pub classes_of : List Node → List Class
classes_of nodes = map (λ n. n.class) nodes

-- the summary is that of the class, and fit
pub record IsSummed (n : Node) : Type 0 where
  pub summary : IsSummary n.class n.summary
  pub fit : IsFit n.summary

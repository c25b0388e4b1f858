-- `pass_from` meets its contract. The invariant: the rules below i are relaxed.
use Prim.Native.Nat.{◌+◌, ◌*◌}
use Rattle.model.specs.Rules.{rule_at}
use Rattle.summary.specs.Cells.{to_of}
use Rattle.summary.specs.Kinds.{RuleEdges}
use Rattle.summary.specs.Shapes.{sizes}
use Rattle.summary.proofs.Loops.{Turning}
use Rattle.summary.proofs.search.Search.pass_from.Given as goal

abbrev pub invariant-loop-i : goal.invariant-loop-i
invariant-loop-i l =
    Turning 4224 (λ r. RuleEdges l.self.kind (sizes l.self.system.now.shape) (4 * l.f + (rule_at l.self.system.now.th r).before.0) (rule_at l.self.system.now.th r).symbol.0 (to_of l.self.system.now.th r) (rule_at l.self.system.now.th r).right) l.self.system.now.th.count l.initial.table l.table l.changes l.i

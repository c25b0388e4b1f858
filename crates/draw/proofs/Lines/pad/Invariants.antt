-- `pad` meets its contract. The invariant: v is the value of the line with its last state repeated up to so many states.
use Rattle.draw.proofs.Full.{Padding}
use Rattle.draw.proofs.Lines.pad.Given as goal

abbrev pub invariant-loop : goal.invariant-loop
invariant-loop l = Padding l.self.g l.size l.short l.counter l.v

-- `repeat` meets its contract: the part of the store that it writes over has the byte everywhere.
use Rattle.std.proofs.Common.{◌≡◌, ◌+◌, ◌-◌, ◌≤◌, length, length-drop, take, drop, arith}
use Rattle.std.proofs.lemmas.List.{length-replicate}
use lib.Seq.{length-take-le}
use Rattle.writer.proofs.Outputs.{covers}
use Rattle.writer.proofs.output.Output.repeat.Goals as goal

pub returns : goal.returns
returns c =
    let o = c.args.self.now in
    let n = c.args.n in
    let room : o.at + n ≤ length o.store.now = rw length-replicate at c.requires in
    let left = length-drop o.at o.store.now in
    let size : length (take (o.at + n - o.at) (drop o.at o.store.now)) ≡ n =
    omega (arith, length-take-le (o.at + n - o.at) (drop o.at o.store.now) (omega arith)) in
    covers _ _ _ _ (rw size at (c.fill.ensures.after (λ y e. e))) (omega (arith, length-replicate n c.args.b)) room

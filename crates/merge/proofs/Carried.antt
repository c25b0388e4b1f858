-- What the verdict on a part says of the whole: a run of the part is a run of the whole, and so a shortest one there has no more steps.
use Prim.Native.Nat.{◌≤◌}
use native.Mathlib.Omega.{arith}
use Rattle.model.specs.declared.Model.{Model}
use Rattle.merge.specs.Parts.{Part, Carries}
use Rattle.merge.proofs.Mapped.{part_reaches}
use Rattle.merge.proofs.Shortest.{some_shortest}

-- Found in n steps in a part is Found in n or fewer in the whole, and Long in a part is not Clear in the whole.
pub carries : {m whole : Model} → Part m whole → Carries m whole
carries {m} {whole} p =
    record {
      found = λ n j.
          let r = part_reaches p j.1.reaches in
          let s = some_shortest whole r.1 in
          let low : s.0 ≤ n = omega (arith, s.1, r.2, j.1.steps) in
          (s.0, low, (omega (arith, j.0), s.2));
      long = λ j none-reaches. let r = part_reaches p j.0.1 in none-reaches r.0 r.1;
    }

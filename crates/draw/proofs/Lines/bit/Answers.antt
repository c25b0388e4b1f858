-- `bit` meets its contract: each test of the code decides a part of the mark.
use native.Mathlib.Omega.{arith}
use Rattle.draw.proofs.Bits.{bit_spare, bit_clear, bit_set}
use Rattle.draw.proofs.Lines.bit.Goals as goal
use Rattle.draw.proofs.Lines.bit.Goals.{else-costs-v-le-CAP-via-then-costs-v-le-CAP+else-costs-v-le-CAP-2, else-costs-v-le-CAP-via-else-costs-v-le-CAP}

pub returns-then-self-p : goal.returns-then-self-p
returns-then-self-p c = bit_spare c.args.self.counted c.if-self-p.true

pub returns-then-costs-v-le-CAP-2 : goal.returns-then-costs-v-le-CAP-2
returns-then-costs-v-le-CAP-2 c = bit_set c.full-v.ensures.0 c.if-costs-v-le-CAP.true c.if-costs-v-le-CAP-2.true

pub returns-else-costs-v-le-CAP : goal.returns-else-costs-v-le-CAP
returns-else-costs-v-le-CAP c =
    bit_clear c.full-v.ensures.0 (λ f.
    elim c.else-costs-v-le-CAP.branch [
      | else-costs-v-le-CAP-via-then-costs-v-le-CAP+else-costs-v-le-CAP-2 w ↦ omega arith
      | else-costs-v-le-CAP-via-else-costs-v-le-CAP w ↦ omega arith
    ])

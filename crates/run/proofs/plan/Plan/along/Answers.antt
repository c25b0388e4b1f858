-- `along` meets its contract: the turn ends are read off the line, and the rules stay within the thread's controls.
use native.Mathlib.Omega.{arith}
use Rattle.summary.proofs.Numbers.{controls_range}
use Rattle.run.proofs.Plans.{four_fits, rules_marked, both_inside, both_ends}
use Rattle.run.proofs.plan.Plan.along.Goals as goal

pub marked_rules-requires : goal.marked_rules-requires
marked_rules-requires c = let system = c.args.side.now.system in four_fits system.four system.fits

pub invariant_of-result : goal.invariant_of-result
invariant_of-result c =
    let side = c.args.side.now in
    let system = side.system in
    let range = controls_range system.th system.g in
    let line = c.line-line.ensures in
    let first = c.switch_of.ensures.low in
    let second = c.switch_of-2.ensures.low in
    record {
      in_range =
          record {
            four = system.four;
            two = side.few;
            some = omega (arith, system.controls, range.0);
            most = omega (arith, system.controls, range.1, system.four);
            inside = both_inside (omega (arith, first.0, line.0), omega (arith, first.1, line.0)) (omega (arith, second.0, line.0), omega (arith, second.1, line.0));
            low = system.fits.count;
            within = rules_marked _ system.four system.fits system.controls c.marked_rules.ensures;
          };
    }

pub returns-clause-ends : goal.returns-clause-ends
returns-clause-ends c =
    let few = c.args.side.now.few in
    λ j h. both_ends c.args.side.now.id c.line-line.ensures c.switch_of.ensures.end c.switch_of-2.ensures.end j (omega arith)

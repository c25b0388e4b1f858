-- `fill` meets its contract: by cases on the number of turn ends, each from a table that is exact for it.
use Rattle.summary.specs.Control.{any}
use Rattle.costs.proofs.Filled.{where_both, costs_all}
use Rattle.costs.proofs.fill.Goals as goal

pub returns-then-side-eq0 : goal.returns-then-side-eq0
returns-then-side-eq0 c =
    let side = c.args.side.now in
    let none = c.if-side-eq0.true in
    let exact = c.close_plain.ensures.exact in
    record {
      any = costs_all side any _ none (λ ends h. exact ends) c.fill.ensures.any;
      named = where_both c.fill.ensures.named c.requires.named (λ f k read room. costs_all side k _ none (λ ends h. exact ends) read);
    }

pub returns-then-side-eq1 : goal.returns-then-side-eq1
returns-then-side-eq1 c =
    let side = c.args.side.now in
    let one = c.if-side-eq1.true in
    let exact = c.close_first.ensures.exact in
    record {
      any = costs_all side any _ one exact c.fill-then-side-eq1.ensures.any;
      named = where_both c.fill-then-side-eq1.ensures.named c.requires.named (λ f k read room. costs_all side k _ one exact read);
    }

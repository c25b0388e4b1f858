-- What the checks before the rules are joined come to: equal heads, and lists that ascend.
use Rattle.model.specs.declared.Model.{Model}
use Rattle.model.specs.Valid.{Valid}
use Rattle.model.proofs.Ranges.{valid_fits}
use Rattle.merge.specs.Joining.{Listed}
use Rattle.merge.proofs.Ascending.{listed}

-- The rules of a valid model's threads are at most 64 and ascend.
pub listed_a : (m : Model) → Valid m → Listed m.a
listed_a m v = listed ((valid_fits m).0 v).a

pub listed_b : (m : Model) → Valid m → Listed m.b
listed_b m v = listed ((valid_fits m).0 v).b

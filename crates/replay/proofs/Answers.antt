-- What a model without a fault and a walk to the end come with: what the calls ask for.
use mathlib.Core.List.{List}
use mathlib.Core.Path.{◌≡◌, sym}
use Rattle.model.specs.declared.Model.{Model}
use Rattle.model.specs.Results.{accepted}
use Rattle.model.specs.Valid.{fault_of}
use Rattle.model.specs.Walk.{Config, Step, start_of, walk}
use Rattle.model.proofs.Ranges.{valid_fits}
use Rattle.depths.specs.Heights.{Legal}
use Rattle.depths.proofs.Climbing.{legal}
use Rattle.walk.specs.Stack.{Counted}

-- A valid model's rules are within their arrays.
pub counted : (m : Model) → 0 ≡ fault_of m → Counted m
counted m e = let f = (valid_fits m).0 (sym e) in record { a = f.a.count; b = f.b.count }

-- What is walked to its end is legal.
pub walked_legal : (m : Model) {ss : List Step} {c : Config} → 0 ≡ fault_of m → accepted c ≡ walk m (start_of m) ss → Legal m ss
walked_legal m e w = legal ((valid_fits m).0 (sym e)) (sym w)

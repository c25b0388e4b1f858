-- A set of abstract configurations that has the start in it, and with each of them all next ones: then each run, however long and deep,
-- is at one of them (an invariant). The set is computed, and so is the test that it is closed.
use mathlib.Core.Bool.{Bool, false, ◌&&◌, not}
use mathlib.Core.List.{List, [], ◌∷◌, ◌++◌, append_assoc, append-nil}
use mathlib.Core.Path.{◌≡◌, refl}
use Prim.Native.Nat.{ℕ, zero, suc, ◌+◌, ◌*◌, ◌≤◌}
use native.Mathlib.Nat.{le_refl, add-zero, zero-add}
use native.Mathlib.Omega.{arith}
use lib.Dec.{T}
use lib.ListN.{length, length-append}
use Rattle.model.specs.declared.Model.{Model}
use Rattle.model.specs.Lines.{last_of}
use Rattle.model.specs.Runs.{Turns, stop, end, move, RunOf}
use Rattle.model.specs.Walk.{Stacks, start_stacks, Step}
use Rattle.model.proofs.Tests.{both}
use Rattle.cases.proofs.Scans.{all, any, those, pick}
use Rattle.cases.proofs.Abstracts.{Abstract, Describes, within, within_describes, ended, next, next-end, next_move}
use Rattle.cases.proofs.Shapes.{empty, top}

-- What is known at the start.
abbrev pub start_abstract : Model → Abstract
start_abstract m =
    record { line = []; steps = 0; held = false; shared = m.start.0; a = top m.a.first.0 empty; b = top m.b.first.0 empty }

-- An abstract configuration, or one that says less, is in a set.
abbrev pub known : List Abstract → Abstract → Bool
known set c = any (within c) set

-- All next abstract configurations are in the set.
abbrev pub follows : Model → ℕ → List Abstract → Abstract → Bool
follows m limit set c = all (known set) (next m limit c)

-- The abstract configurations met so far, once those to do were explored and what was met thereby; at most so many.
unfoldable pub grow : Model → ℕ → ℕ → List Abstract → List Abstract → List Abstract
grow m limit zero todo met = met
grow m limit (suc more) [] met = met
grow m limit (suc more) (c ∷ todo) met =
    let fresh = those (λ d. not (known met d)) (next m limit c) in grow m limit more (todo ++ fresh) (met ++ fresh)

-- The abstract configurations of a model's runs, with steps counted up to a limit.
unfoldable pub explored : Model → ℕ → List Abstract
explored m limit = grow m limit 1000 (start_abstract m ∷ []) (start_abstract m ∷ [])

-- The start is in the set, and so are all next abstract configurations of each.
unfoldable pub closed : Model → ℕ → List Abstract → Bool
closed m limit set = known set (start_abstract m) && all (follows m limit set) set

-- A run so far is at an abstract configuration of the set.
pub record At (set : List Abstract) (before : List ℕ) (n : ℕ) (held : Bool) (q : ℕ) (σ : Stacks) : Type 0 where
  pub place : Abstract
  pub inside : T (known set place)
  pub holds : Describes place before n held q σ

-- Then one of them describes it that passes a test which all of the set pass.
pub passes : (f : Abstract → Bool) {set : List Abstract} {before : List ℕ} {n q : ℕ} {held : Bool} {σ : Stacks}
    → At set before n held q σ → T (all f set) → (c : Abstract) × T (f c) × Describes c before n held q σ
passes f {set} h t =
    let z = pick f (within h.place) set t h.inside in
    (z.0, z.1, within_describes h.place z.0 z.2 h.holds)

module _ (m : Model) (limit : ℕ) (set : List Abstract) (all-follow : T (all (follows m limit set) set)) where
  -- A run that goes on from an abstract configuration of the set stays in it.
  stays : {t q : ℕ} {held : Bool} {σ τ : Stacks} {line : List ℕ} {ss : List Step} → Turns m t held q σ line ss τ
      → (before : List ℕ) (n : ℕ) → length before ≡ t → t + length line ≤ 2 * m.k → At set before n held q σ
      → At set (before ++ line) (n + length ss) false (last_of q line) τ
  stays stop before n e h k = rw (append-nil, add-zero) k
  stays (end {q = q} r) before n e h k =
      let c = passes (follows m limit set) k all-follow in
      let p = next-end (known set) m limit c.0 c.2 (omega arith) c.1 refl in
      let rest = stays r (before ++ (q ∷ [])) n (rw length-append (omega arith)) (omega arith)
      (record { place = ended c.0; inside = p.0; holds = p.1 }) in
      rw append_assoc at rest
  stays (move {t = t} {r = r} {top = x} {w = w} {ss = ss} e a u) before n z h k =
      let c = passes (follows m limit set) k all-follow in
      let p = next_move (known set) m limit c.0 c.2 (omega arith) c.1 t z r x w e a in
      let rest = stays u before (suc n) z h (record { place = p.0; inside = p.1; holds = p.2 }) in
      let same : suc n + length ss ≡ n + suc (length ss) = omega arith in
      rw same at rest

-- A run from the start along a line ends at an abstract configuration of a closed set.
pub arrives : (m : Model) (limit : ℕ) (set : List Abstract) → T (closed m limit set) → (line : List ℕ) (ss : List Step)
    → length line ≤ 2 * m.k → {τ : Stacks} → RunOf m line ss τ
    → At set line (length ss) false (last_of m.start.0 line) τ
unfolding closed
arrives m limit set t line ss h r =
    let w = (both (known set (start_abstract m)) (all (follows m limit set) set)).0 t in
    let start : Describes (start_abstract m) [] 0 false m.start.0 (start_stacks m) =
    record { line = refl; steps = le_refl 0; held = refl; shared = refl; a = (refl, tt); b = (refl, tt) } in
    rw zero-add at
    (stays m limit set w.1 r [] 0 refl (omega arith) (record { place = start_abstract m; inside = w.0; holds = start }))

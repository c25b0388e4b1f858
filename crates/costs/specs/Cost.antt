-- The least number of steps of one thread along a line to a top that will do, read off the table of its stretches: the first symbol
-- still stands at the end, or it has gone at some control and the floor, which no rule takes, stands from there on.
use Rattle.std.specs.Prelude.{false, List, [], ◌∷◌, ◌≡◌, ℕ, zero, suc, ◌-◌, ◌*◌, ◌^◌, ◌<◌, get_or}
use Rattle.model.specs.declared.Symbol.{Symbol}
use Rattle.model.specs.declared.Thread.{Thread}
use Rattle.model.specs.Lines.{digits}
use Rattle.model.specs.declared.Model.{Model}
use Rattle.model.specs.Tops.{Top}
use Rattle.std.specs.Prelude.{Some}
use Rattle.model.specs.declared.ThreadId.{ThreadId}
use Rattle.model.specs.declared.ThreadId.TheVariants.{A, B}
use Rattle.model.specs.Walk.{thread_of, Step}
use Rattle.costs.specs.View.{View}
use Rattle.summary.specs.Cells.{free_of}
use Rattle.summary.specs.Control.{Control, TurnEnd, Moves, Switches, entry}
use Rattle.summary.specs.Edges.{best_of}
use Rattle.summary.specs.Stretch.{pop, stay, Path}
use Rattle.summary.specs.Table.{Least}
use Rattle.costs.specs.Ends.{turn_of, ends_of, first_state, last_state}

-- A control at which a turn may end: no held step has led to it.
abbrev pub control : ℕ → ℕ → Control
control j q = record { passed = j; held = false; shared = q }

module _ (controls : ℕ) (ends : ℕ → TurnEnd) (table : List ℕ) (c : Control) (γ : ℕ) (top : Top) (d : Control) where
  -- The least of a count and of the runs whose symbol goes at control c₁, where the floor then stands until d.
  abbrev pub through : Control → ℕ → ℕ
  through c₁ old = best_of 0 (entry controls ends table c γ (pop c₁)) (entry controls ends table c₁ 16 (stay top d)) old

  -- The same for the states below a number, after j turn ends. After a held step the floor could neither stay nor let a turn end.
  unfoldable pub over_states : ℕ → ℕ → ℕ → ℕ
  over_states j zero old = old
  over_states j (suc q) old = through (control j q) (over_states j q old)

  -- The same for the first j numbers of turn ends and all states, from the runs whose symbol never goes.
  unfoldable pub over_turns : ℕ → ℕ
  over_turns zero = entry controls ends table c γ (stay top d)
  over_turns (suc j) = over_states j (free_of controls) (over_turns j)

-- The cost of a thread that starts at c with the one symbol γ and ends at d under a top: with a table of so many controls, and n turn
-- ends.
abbrev pub pair_cost : (ℕ → TurnEnd) → List ℕ → ℕ → ℕ → Control → ℕ → Top → Control → ℕ
pair_cost ends table controls n c γ top d = over_turns controls ends table c γ top d (suc n)

-- The cost of a thread along a full line of 2(n + 1) states, where the run starts in q and the thread with γ alone.
abbrev pub line_cost : ThreadId → List ℕ → ℕ → ℕ → ℕ → ℕ → Top → List ℕ → ℕ
line_cost id table controls n q γ top line =
    pair_cost (ends_of id line) table controls n (control 0 (first_state id q line)) γ top (control n (last_state id n line))

-- A cost is the capped least number of a thread's steps in its views of a line to a top, from the start of a model.
abbrev pub ViewCost : Model → ThreadId → Top → List ℕ → ℕ → Type 0
ViewCost m id top line cost = Least (View m id top 0 false m.start.0 ((thread_of id m).first.0 ∷ []) line) cost

-- The steps of a thread along a full line with n turn ends to a top, where the run starts in q.
abbrev pub RunAlong : Thread → Top → ThreadId → ℕ → ℕ → List ℕ → List Step → Type 0
RunAlong t top id n q line ss =
    Path (Moves t (turn_of id)) (Switches (ends_of id line) n) top (control 0 (first_state id q line)) (t.first.0 ∷ []) ss
    (control n (last_state id n line))

-- A cost is the capped least number of such steps.
abbrev pub LeastAlong : Thread → Top → ThreadId → ℕ → ℕ → List ℕ → ℕ → Type 0
LeastAlong t top id n q line cost = Least (RunAlong t top id n q line) cost

-- A cost is the capped least number of steps of a thread along the full line whose value is v.
abbrev pub LeastAt : Thread → Top → ThreadId → ℕ → ℕ → ℕ → ℕ → ℕ → Type 0
LeastAt t top id g n q v cost = LeastAlong t top id n q (digits g (2 * suc n) v) cost

-- A list of costs for a thread and a top: at the value of each full line, the capped least number of steps of the thread along it.
-- g states, n turn ends of the thread, so 2n + 2 states in a line; q is the state in which the run starts.
abbrev pub Costs : Thread → Top → ThreadId → ℕ → ℕ → ℕ → List ℕ → Type 0
Costs t top id g n q costs = (v : ℕ) → v < g ^ (2 * suc n) → LeastAt t top id g n q v (get_or costs v 0)

-- A list of costs of a thread of a model for a top: for K rounds each thread has K − 1 turn ends.
pub record CostsOf (m : Model) (id : ThreadId) (top : Top) (costs : List ℕ) : Type 0 where
  pub along : Costs (thread_of id m) top id m.g (m.k - 1) m.start.0 costs

-- The lists of costs of both threads, each for its top.
abbrev pub BothCosts : Model → Top → Top → List ℕ → List ℕ → Type 0
BothCosts m p q a b = CostsOf m A p a × CostsOf m B q b

-- What holds of a top that is named. Where none is named, what is known for any top serves.
pub record WhereNamed (top : Top) (P : Top → Type 0) : Type 0 where
  pub named : (s : Symbol) → top ≡ Some s → P (Some s)

-- The list of costs of A for the top that it names.
abbrev pub FirstNamed : Model → List ℕ → Type 0
FirstNamed m x = WhereNamed m.a.top (λ f. CostsOf m A f x)

-- That of B.
abbrev pub SecondNamed : Model → List ℕ → Type 0
SecondNamed m y = WhereNamed m.b.top (λ f. CostsOf m B f y)

-- The lists of costs of both threads to the target: to the tops that the model names, or to any.
abbrev pub TargetCosts : Model → List ℕ → List ℕ → Type 0
TargetCosts m a b = BothCosts m m.a.top m.b.top a b

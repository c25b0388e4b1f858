-- What both threads' tables hold while the schedules of a model's lines are written.
use Rattle.std.specs.Prelude.{List, Option, Some, ◌≡◌, ℕ, suc, ◌-◌, ◌*◌, ◌^◌, ◌≤◌, ◌<◌, length}
use Rattle.model.specs.declared.Model.{Model}
use Rattle.model.specs.declared.ThreadId.{ThreadId}
use Rattle.model.specs.declared.ThreadId.TheVariants.{A, B}
use Rattle.model.specs.First.{First}
use Rattle.model.specs.Lines.{digits}
use Rattle.model.specs.Schedules.{Stored}
use Rattle.model.specs.Walk.{thread_of}
use Rattle.costs.specs.Cost.{RunAlong}
use Rattle.costs.specs.declared.side.Side.{Side}
use Rattle.costs.specs.Ends.{ends_of}
use Rattle.summary.specs.Cells.{controls_of, size}
use Rattle.run.specs.Base.{Base, SolvedFor}

-- Of two full lines with n turn ends, by their values, the first is known, and both have the same first turn end for a thread.
pub record SameEnd (id : ThreadId) (g n : ℕ) (last : Option ℕ) (v : ℕ) : Type 0 where
  pub line : ℕ
  pub known : last ≡ Some line
  pub low : line < g ^ (2 * suc n)
  pub same : ends_of id (digits g (2 * suc n) line) 0 ≡ ends_of id (digits g (2 * suc n) v) 0

-- The side of a thread of a model, for the top that the model names.
pub record SideOf (m : Model) (i : ThreadId) (side : Side) : Type 0 where
  pub th : side.system.th ≡ thread_of i m
  pub g : side.system.g ≡ m.g
  pub top : side.system.top ≡ (thread_of i m).top
  pub id : side.id ≡ i
  pub n : side.n ≡ m.k - 1
  pub start : side.start ≡ m.start.0

-- The table of a thread has its cells, and what all lines share is solved in it, for the top that the model names; and the rest for the
-- first turn end of one full line, if there is one, given by its value.
pub record SolvesFor (m : Model) (id : ThreadId) (last : Option ℕ) (table : List ℕ) : Type 0 where
  pub room : size (controls_of (thread_of id m) m.g) ≤ length table
  pub base : Base (thread_of id m) (thread_of id m).top m.g (m.k - 1) table
  pub done : (v : ℕ) → last ≡ Some v → (v < m.g ^ (2 * m.k)) × SolvedFor (thread_of id m) (thread_of id m).top id m.g (m.k - 1) v table

-- The same of the tables of A and of B.
pub record Solves (m : Model) (last : Option ℕ) (a b : List ℕ) : Type 0 where
  pub first : SolvesFor m A last a
  pub second : SolvesFor m B last b

-- The same as `SolvesFor`, for any number: if it is no line's value, nothing is said of the rest.
pub record SolvesForIfLine (m : Model) (id : ThreadId) (last : Option ℕ) (table : List ℕ) : Type 0 where
  pub room : size (controls_of (thread_of id m) m.g) ≤ length table
  pub base : Base (thread_of id m) (thread_of id m).top m.g (m.k - 1) table
  pub done : (v : ℕ) → last ≡ Some v → v < m.g ^ (2 * m.k) → SolvedFor (thread_of id m) (thread_of id m).top id m.g (m.k - 1) v table

-- And of the tables of A and of B.
pub record SolvesIfLine (m : Model) (last : Option ℕ) (a b : List ℕ) : Type 0 where
  pub first : SolvesForIfLine m A last a
  pub second : SolvesForIfLine m B last b

-- The first of a thread's shortest runs along the full line whose value is v stands at the front of a store.
abbrev pub FirstOf : Model → ThreadId → ℕ → ℕ → List ℕ → List ℕ → Type 0
FirstOf m id v n old new =
    Stored (First (RunAlong (thread_of id m) (thread_of id m).top id (m.k - 1) m.start.0 (digits m.g (2 * suc (m.k - 1)) v)) n) n 0
    old new

-- What the call that makes a page answers, and what the store then holds.
use Rattle.std.specs.Prelude.{List, [], ◌∷◌, ℕ, zero, suc, leb, length}
use Rattle.model.specs.declared.Model.{Model}
use Rattle.model.specs.Results.{Result, refused, accepted, refuse, first_of, store_by}
use Rattle.model.specs.Schedules.{steps_of}
use Rattle.replay.specs.declared.Replayed.{Replayed}
use Rattle.replay.specs.Replay.{replay_of}
use Rattle.page.specs.Page.{page_of}

-- The number by which replay refuses; 0 for none.
abbrev pub replay_refusal : Result Replayed → ℕ
replay_refusal (accepted r) = 0
replay_refusal (refused n) = n

-- What is refused, in order: what replay refuses, then 7 for a store shorter than the page; 0 for nothing.
unfoldable pub page_refusal : Model → List ℕ → ℕ → ℕ
page_refusal m schedule size =
    first_of (replay_refusal (replay_of m schedule) ∷ refuse 7 (leb (length (page_of m (steps_of schedule))) size) ∷ [])

-- The answer, by the refusal that is due: its number, or with none the length of the page.
abbrev pub paged_by : ℕ → List ℕ → Result ℕ
paged_by zero page = accepted (length page)
paged_by (suc n) page = refused (suc n)

-- The answer for the bytes of a schedule, by the length of the store.
unfoldable pub paged_of : Model → List ℕ → ℕ → Result ℕ
paged_of m schedule size = paged_by (page_refusal m schedule size) (page_of m (steps_of schedule))

-- What the store holds after the call.
unfoldable pub page_store : Model → List ℕ → List ℕ → List ℕ
page_store m schedule store = store_by (page_refusal m schedule (length store)) (page_of m (steps_of schedule)) store

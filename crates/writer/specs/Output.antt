-- What is put into an output, and that there is room for it.
use Rattle.std.specs.Prelude.{List, ◌≡◌, ℕ, ◌+◌, ◌≤◌, length}
use Rattle.std.specs.Borrow.{MutBor}
use Rattle.writer.specs.declared.output.Output.{Output}
use Rattle.writer.specs.Put.{Put}

-- The bytes have been put, into the store of before.
pub record Appends (old new : Output) (bytes : List ℕ) : Type 0 where
  pub same : new.store.ghost_name ≡ old.store.ghost_name
  pub size : length new.store.now ≡ length old.store.now
  pub put : Put old.store.now new.store.now old.at new.at bytes

-- The store has room for the bytes.
abbrev pub HasRoom : Output → List ℕ → Type 0
HasRoom o bytes = o.at + length bytes ≤ length o.store.now

-- An output begins at the front of the store that is lent.
pub record Starts (lent : MutBor (List ℕ)) (o : Output) : Type 0 where
  pub same : o.store.ghost_name ≡ lent.ghost_name
  pub kept : o.store.now ≡ lent.now
  pub size : length o.store.now ≡ length lent.now
  pub front : o.at ≡ 0

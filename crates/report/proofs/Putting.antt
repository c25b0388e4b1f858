-- A text that is put, said by its kind.
use mathlib.Core.List.{List}
use Prim.Native.Nat.{ℕ, ◌≤◌}
use native.Mathlib.Omega.{arith}
use lib.ListN.{length}
use lib.Seq.{sets-eq, length-sets}
use Rattle.writer.specs.declared.output.Output.{Output}
use Rattle.writer.specs.Output.{Appends}
use Rattle.writer.specs.Put.{Put}
use Rattle.report.specs.Prints.{Begins, Says, text_room}

-- A text that was put at the front of a store, within it.
pub held : {Kind : List ℕ → Type 0} {l m a : List ℕ} {r : ℕ} → Kind a → Put l m 0 r a → length a ≤ length l → Begins Kind r l m
held {l = l} {a = a} k p h =
    record {
      text = a;
      kind = k;
      size = omega (arith, p.ends);
      room = rw (p.stored, length-sets) (omega (arith, p.ends));
      stored = rw (p.stored, p.ends) (sets-eq a l 0 (omega (arith, p.ends)));
    }

-- A text of one kind.
pub says : {Kind : List ℕ → Type 0} {o p : Output} {a : List ℕ} → Kind a → Appends o p a → length a ≤ text_room → Says Kind o p
says {a = a} k p h = record { text = a; kind = k; put = p; most = h }

-- A text of one kind is one of another, where the one kind is the other.
pub as_kind : {Kind Other : List ℕ → Type 0} {o p : Output} → ((a : List ℕ) → Kind a → Other a) → Says Kind o p → Says Other o p
as_kind f h = record { text = h.text; kind = f h.text h.kind; put = h.put; most = h.most }

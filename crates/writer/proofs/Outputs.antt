-- Bytes put into an output one after another: what each call puts adds up to the whole.
use mathlib.Core.List.{List, [], ◌++◌, append_assoc}
use mathlib.Core.Path.{◌≡◌, refl, ◌∙◌}
use Prim.Native.Nat.{ℕ, ◌+◌, ◌-◌, ◌≤◌}
use native.Mathlib.Omega.{arith}
use lib.ListN.{length, length-append}
use lib.Seq.{sets, sets-eq, length-sets}
use borrow.Rule.Slice.Mut.{set_vals}
use borrow.Rule.Slice.PartMut.{put_mid, Post-is}
use Rattle.std.specs.Borrow.{MutBor}
use Rattle.writer.specs.Output.{Appends, Starts}
use Rattle.writer.specs.Put.{Put}
use Rattle.writer.specs.declared.output.Output.{Output}
use Rattle.writer.proofs.Puts.{nothing as none_put, ◌then◌ as put_then}

-- Nothing put.
pub nothing : (o : Output) → Appends o o []
nothing o = record { same = refl; size = refl; put = none_put _ _ }

-- Bytes put, and then others.
infixl 20 ◌then◌
pub ◌then◌ : {o p q : Output} {a b : List ℕ} → Appends o p a → Appends p q b → Appends o q (a ++ b)
◌then◌ x y = record { same = y.same ∙ x.same; size = y.size ∙ x.size; put = put_then x.put y.put }

-- What was put into an output that began at the front of a store stands in that store, if the output kept it to its end.
pub lent : {l : MutBor (List ℕ)} {o p : Output} {bytes final : List ℕ} → Starts l o → Appends o p bytes → final ≡ p.store.now
    → Put l.now final 0 p.at bytes
lent s a e = record { stored = e ∙ a.put.stored ∙ rw (s.kept, s.front); ends = omega (arith, a.put.ends, s.front) }

-- A part of the store that is written over, from the output's place on, is as if its bytes had been put one by one.
pub covers : (o : Output) (bytes part : List ℕ) (j : ℕ) → part ≡ bytes → j ≡ o.at + length bytes → j ≤ length o.store.now
    → Appends o (record { store = set_vals (put_mid o.at (j - o.at) o.store.now part) o.store; at = j }) bytes
covers o bytes part j p e h =
    let l = o.store.now in
    let whole : put_mid o.at (j - o.at) l bytes ≡ sets l o.at bytes =
    rw (Post-is o.at j l (omega arith), sets-eq bytes l o.at (omega arith), e, append_assoc) refl in
    let stored : put_mid o.at (j - o.at) l part ≡ sets l o.at bytes = rw p whole in
    record {
      same = refl;
      size = rw (stored, length-sets l o.at bytes) refl;
      put = record { stored = stored; ends = e };
    }

-- How long texts are that stand one after another, for the room that each needs.
pub ruleset appended = (length-append)

-- The same, for a tactic.
pub then_put : {o p q : Output} {a b c : List ℕ} → Appends o p a → Appends p q b → c ≡ a ++ b → Appends o q c
then_put x y e = rw e (x then y)

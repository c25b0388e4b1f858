-- What a sink of bytes keeps, and the two sinks that there are: an output, and a count.
use Rattle.std.specs.Prelude.{List, [], ◌++◌, ◌≡◌, ℕ, ◌+◌, ◌-◌, length}
use native.Mathlib.Omega.{arith}
use lib.ListN.{length-append}
use Rattle.sequential.specs.declared.sink.Count.{Count}
use Rattle.writer.specs.Output.{Appends}
use Rattle.writer.proofs.Outputs as outputs

-- A sink can take nothing, and parts one after another; and each byte that it takes is one fewer that it has room for.
pub record Laws {S : Type 0} (takes : S → S → List ℕ → Type 0) (room : S → ℕ) : Type 0 where
  pub nothing : (x : S) → takes x x []
  pub after : {x y z : S} {a b : List ℕ} → takes x y a → takes y z b → takes x z (a ++ b)
  pub left : {x y : S} {a : List ℕ} → takes x y a → room y ≡ room x - length a

-- The bytes have been counted.
abbrev pub counts : Count → Count → List ℕ → Type 0
counts x y bytes = y.bytes ≡ x.bytes + length bytes

-- How far a count goes: far above the length of any text.
abbrev pub limit : ℕ
limit = 1000000000

-- Both keep the laws.
pub output_laws : Laws Appends (λ o. length o.store.now - o.at)
output_laws = record {
  nothing = outputs.nothing;
  after = λ p q. outputs.◌then◌ p q;
  left = λ p. omega (arith, p.size, p.put.ends);
}

pub count_laws : Laws counts (λ c. limit - c.bytes)
count_laws = record {
  nothing = λ x. omega arith;
  after = λ p q. simp length-append (omega arith);
  left = λ p. omega arith;
}

-- Making a part of the table blank, cell by cell; and the cell of the blank table that is 0.
use mathlib.Core.Bool.{cond}
use mathlib.Core.List.{List}
use mathlib.Core.Path.{◌≡◌, refl, ap, subst, ◌∙◌}
use Prim.Native.Nat.{ℕ, ◌+◌, ◌-◌, ◌*◌, ◌/◌, ◌%◌, ◌≤◌, ◌<◌}
use native.Mathlib.Decide.{ℕ_discrete, dec_lt}
use native.Mathlib.Omega.{arith}
use borrow.Author.Tests.{le-ltb, lt-ltb, ne_eqb}
use lib.Dec.{eqb}
use lib.ListN.{length, get_or, set, length-set, replicate, get_or-replicate}
use borrow.Rule.Slice.PartMut.{put_mid, same_len_mid}
use Rattle.std.proofs.Common.{rules}
use Rattle.std.proofs.lemmas.List.{places}
use lib.Seq.{get_or-set_same, get_or-set_other}
use Rattle.model.specs.Tops.{Top}
use Rattle.std.specs.Prelude.{None, Some}
use Rattle.summary.specs.Cells.{free_of, first, rest, blank, stay_of, TopEdges, ResetNode, Reset}
use Rattle.summary.specs.Edges.{Edge, cell}
use Rattle.summary.specs.Table.{unreached}
use Rattle.summary.proofs.Joins.{blank_here}

pub reset_start : (N from : ℕ) (t : List ℕ) → Reset N from from t t
reset_start N from t = record { size = refl; inside = λ k h l. absurd (omega arith); below = λ k h. refl }

-- One cell more of a control and a symbol.
pub node_start : (from stay : ℕ) (t : List ℕ) → ResetNode from stay 0 t t
node_start from stay t = record { size = refl; inside = λ d h. absurd (omega arith); below = λ k h. refl }

pub node_next : {from stay d : ℕ} {t u : List ℕ} {v : ℕ} → ResetNode from stay d t u → from + d < length u → v ≡ cond (eqb d stay) 0 unreached
    → ResetNode from stay (d + 1) t (set u (from + d) v)
node_next {from} {stay} {d} {t} {u} {v} r room e =
    record {
      size = length-set u (from + d) v ∙ r.size;
      inside = λ i h. elim (ℕ_discrete i d) [
        | yes s ↦ rw (s, get_or-set_same u (from + d) v 0 room) e
        | no n ↦ rw (get_or-set_other u (from + d) (from + i) v 0 (λ s. n (omega arith))) (r.inside i (omega arith))
      ];
      below = λ k h. get_or-set_other u (from + d) k v 0 (λ s. omega arith) ∙ r.below k h;
    }

-- What a blank cell holds, by its control and symbol in their order.
blank_node : (N k d : ℕ) → k < 17 * N → d < 16 → cond (eqb d (stay_of k)) 0 unreached ≡ blank N (16 * k + d)
unfolding blank
blank_node N k d h l =
    let rest : (16 * k + d) % 16 ≡ d = omega arith in
    let place : (16 * k + d) / 272 ≡ k / 17 = omega arith in
    elim (dec_lt k 68) [
      | yes s ↦ rw (lt-ltb k 68 s, lt-ltb (16 * k + d) (first (free_of N)) (omega arith), rest, place)
      | no s ↦ rw (le-ltb k 68 (omega arith), le-ltb (16 * k + d) (first (free_of N)) (omega arith), ne_eqb d 16 (λ e. omega arith))
    ]

-- One control and symbol more.
pub nodes_next : {N k from stay : ℕ} {t u v : List ℕ} → Reset N 0 (16 * k) t u → k < 17 * N → from ≡ 16 * k → stay ≡ stay_of k
    → ResetNode from stay 16 u v → Reset N 0 (16 * (k + 1)) t v
nodes_next {N} {k} {from} {stay} {t} {u} {v} r h ef es n =
    record {
      size = n.size ∙ r.size;
      inside = λ i f l. elim (dec_lt i (16 * k)) [
        | yes s ↦ n.below i (omega arith) ∙ r.inside i f s
        | no s ↦
            let d : ℕ = i - 16 * k in
            let at : from ≡ 16 * k = ef in
            let same : from + d ≡ i = omega arith in
            let named : 16 * k + d ≡ i = omega arith in
            subst (λ j. cell v j ≡ blank N i) same (n.inside d (omega arith) ∙ (rw es (blank_node N k d h (omega arith)) ∙ ap (blank N) named))
      ];
      below = λ i f. absurd (omega arith);
    }

-- In a part with turn ends inside nothing is reached at the start.
pub blank_part : (N k : ℕ) → first N ≤ k → unreached ≡ blank N k
unfolding blank
blank_part N k h = rw (le-ltb k (first (free_of N)) (omega arith))

-- So is a part of the table that is filled with what stands for no count.
pub reset_filled : {N from to : ℕ} {t ys : List ℕ} → first N ≤ from → from ≤ to → to ≤ length t → ys ≡ replicate (to - from) unreached
    → Reset N from to t (put_mid from (to - from) t ys)
reset_filled {N} {from} {to} {t} {ys} low up room e =
    record {
      size = same_len_mid from (to - from) t ys (search (rules, e, places));
      inside = λ k h l.
          let in_part : get_or (put_mid from (to - from) t ys) k 0 ≡ get_or ys (k - from) 0 = search (rules, places) in
          in_part ∙ rw (e, get_or-replicate (to - from) (k - from) unreached 0 (omega arith)) (blank_part N k (omega arith));
      below = λ k h. search (rules, places);
    }

-- The edges of the named top join a cell that is 0 in the blank table.
pub top_zeros : (top : Top) (N : ℕ) → 1 ≤ N → {t u : List ℕ} → Reset N 0 (first N) t u → (e : Edge) → TopEdges top N e
    → (cell u e.a ≡ 0) × (cell u e.b ≡ 0)
top_zeros None N some r e w = absurd w
top_zeros (Some s) N some {u = u} r e w =
    let row = w.at in
    let none : row.x ≡ 0 = omega (arith, row.inside) in
    let zero : cell u rest ≡ 0 = r.inside rest (omega arith) (omega arith) ∙ blank_here N 0 0 (omega arith) (omega arith) in
    rw (row.is, none) (zero, zero)

-- A number tells its reply. All that stands above the kind is a multiple of 65,536, so the low byte is the kind; and what stands above
-- the first field is one again of its quotient, so what is left of it is the field.
use mathlib.Core.Bool.{Bool, true, false, cond}
use mathlib.Core.Path.{◌≡◌, refl, ap, ◌∙◌}
use Prim.Native.Nat.{ℕ, ◌+◌, ◌*◌, ◌/◌, ◌%◌, ◌≤◌, ◌<◌}
use native.Mathlib.Omega.{arith}
use borrow.Author.Tests.{ne_eqb}
use Rattle.model.specs.declared.Depths.{Depths}
use Rattle.model.specs.declared.refusal.Refusal.{Refusal}
use Rattle.model.specs.declared.refusal.Refusal.TheVariants as refusal
use Rattle.model.specs.Refusals as refusals
use Rattle.model.specs.Results.{accepted}
use Rattle.replay.specs.declared.Replayed.{Replayed}
use Rattle.ffi.specs.Replies.{Reply, refused, done, written, clear, long, found, stopped, reached, taken, none, paged, followed, judged, printed}
use Rattle.ffi.specs.Replies.{packed, number_of, reply_by, reply_of, FieldsFit, ReplyFits, Says, replay_reply, end_kind, kind_number}
use Rattle.ffi.specs.declared.numbers.Kind.{Kind}
use Rattle.ffi.specs.declared.numbers.Kind.TheVariants as kind

-- The low byte is the kind ..
kind_told : (kind x y z : ℕ) → kind < 256 → packed kind x y z % 256 ≡ kind
kind_told kind x y z h = omega arith

-- .. and bits 16 to 31 are the first field.
field_told : (kind x y z : ℕ) → kind < 256 → x < 65536 → packed kind x y z / 65536 % 65536 ≡ x
field_told kind x y z h l =
    let above : packed kind x y z / 65536 ≡ x + 65536 * (y + 65536 * z) = omega arith in
    rw above (omega arith)

-- So are bits 16 to 47, where the field reaches into the second.
long_told : (kind x z : ℕ) → kind < 256 → x < 4294967296 → packed kind x 0 z / 65536 % 4294967296 ≡ x
long_told kind x z h l =
    let above : packed kind x 0 z / 65536 ≡ x + 4294967296 * z = omega arith in
    rw above (omega arith)

-- Bits 32 to 47 are the second field, and those above them the third.
second_told : (kind x y z : ℕ) → kind < 256 → x < 65536 → y < 65536 → packed kind x y z / 4294967296 % 65536 ≡ y
second_told kind x y z h l k =
    let above : packed kind x y z / 4294967296 ≡ y + 65536 * z = omega arith in
    rw above (omega arith)

third_told : (kind x y z : ℕ) → kind < 256 → x < 65536 → y < 65536 → z < 65536
    → packed kind x y z / 281474976710656 % 65536 ≡ z
third_told kind x y z h l k j =
    let above : packed kind x y z / 281474976710656 ≡ z = omega arith in
    rw above (omega arith)

-- All at once, for what stands in a reply.
parts_told : (kind x : ℕ) (d : Depths) → kind < 256 → FieldsFit x d
    → reply_of (packed kind x d.a d.b) ≡ reply_by kind x d (packed kind x d.a d.b / 65536 % 4294967296)
parts_told kind x d h f =
    rw (
      kind_told kind x d.a d.b h,
      field_told kind x d.a d.b h f.first,
      second_told kind x d.a d.b h f.first f.a,
      third_told kind x d.a d.b h f.first f.a f.b,
    )

-- The same for a reply with one field.
field_alone : (kind x : ℕ) → kind < 256 → x < 65536
    → reply_of (packed kind x 0 0) ≡ reply_by kind x (record { a = 0; b = 0 }) (packed kind x 0 0 / 65536 % 4294967296)
field_alone kind x h l =
    parts_told kind x (record { a = 0; b = 0 }) h (record { first = l; a = omega arith; b = omega arith })

-- A refusal's number is the kind of no other reply.
refusal_told : (n : ℕ) (d : Depths) (both : ℕ) → 1 ≤ n → n ≤ 31 → reply_by n 0 d both ≡ refused n
unfolding reply_by
refusal_told n d both h l = rw (
  ne_eqb n 0 (λ e. omega arith),
  ne_eqb n 32 (λ e. omega arith),
  ne_eqb n 33 (λ e. omega arith),
  ne_eqb n 34 (λ e. omega arith),
  ne_eqb n 35 (λ e. omega arith),
  ne_eqb n 36 (λ e. omega arith),
  ne_eqb n 37 (λ e. omega arith),
  ne_eqb n 38 (λ e. omega arith),
  ne_eqb n 39 (λ e. omega arith),
  ne_eqb n 40 (λ e. omega arith),
  ne_eqb n 41 (λ e. omega arith),
  ne_eqb n 42 (λ e. omega arith),
  ne_eqb n 43 (λ e. omega arith),
)

-- Every reply in range is told by its number.
pub reply_told : (a : Reply) → ReplyFits a → reply_of (number_of a) ≡ a
unfolding reply_by
reply_told (refused n) h = field_alone n 0 (omega arith) (omega arith) ∙ refusal_told n _ _ h.0 h.1
reply_told done h = refl
reply_told (written n) h = field_alone 32 n (omega arith) h
reply_told clear h = refl
reply_told long h = refl
reply_told (found n d) h = parts_told 35 n d (omega arith) h
reply_told (stopped q d) h = parts_told 36 q d (omega arith) h
reply_told (reached q d) h = parts_told 37 q d (omega arith) h
reply_told (taken n) h = field_alone 38 n (omega arith) h
reply_told none h = refl
reply_told (paged n) h = rw (kind_told 40 n 0 0 (omega arith), long_told 40 n 0 (omega arith) h)
reply_told (followed q n) h =
    parts_told 41 q (record { a = n; b = 0 }) (omega arith) (record { first = h.0; a = h.1; b = omega arith })
reply_told (judged n) h = field_alone 42 n (omega arith) h
reply_told (printed n) h = rw (kind_told 43 n 0 0 (omega arith), long_told 43 n 0 (omega arith) h)

-- So the number of a reply in range says it ..
pub says : {a : Reply} {r : ℕ} → ReplyFits a → r ≡ number_of a → Says r a
says {a} h e = record { number = e; told = ap reply_of e ∙ reply_told a h }

-- .. and so does that of a refusal, which is its kind alone and in range ..
refusal_fits : (r : Refusal) → (1 ≤ refusals.number_of r) × (refusals.number_of r ≤ 31)
refusal_fits refusal.CutShort = (omega arith, omega arith)
refusal_fits r = (omega arith, omega arith)

pub says_refused : (r : Refusal) → Says (refusals.number_of r) (refused (refusals.number_of r))
says_refused r = says (refusal_fits r) (omega arith)

-- .. and 0, which says done.
pub says_done : Says 0 done
unfolding reply_by
says_done = record { number = refl; told = refl }

-- Every kind stands in the low byte.
pub kind_low : (k : Kind) → kind_number k < 256
kind_low kind.Done = omega arith
kind_low k = omega arith

-- The number of the kind of a replay that is accepted is the reply's.
pub end_said : (end : Replayed) {kind r : ℕ} → FieldsFit end.shared.0 end.depths → kind ≡ end_kind end.reached
    → r ≡ packed kind end.shared.0 end.depths.a end.depths.b → Says r (replay_reply (accepted end))
unfolding end_kind
end_said end {kind} {r} f e p = go end.reached e
  where
    go : (b : Bool) → kind ≡ end_kind b → Says r (cond b (reached end.shared.0 end.depths) (stopped end.shared.0 end.depths))
    go true e = says f (rw e at p)
    go false e = says f (rw e at p)

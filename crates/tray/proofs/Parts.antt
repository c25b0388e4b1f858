-- A part that runs to the end of a slice lies in its block, as far from the slice's start as it starts in it.
use mathlib.Core.List.{List}
use mathlib.Core.Path.{◌≡◌, refl}
use Prim.Native.Nat.{ℕ, ◌+◌, ◌-◌, ◌≤◌}
use native.Mathlib.Omega.{arith}
use lib.ListN.{length, take, drop, length-drop}
use lib.Seq.{take_all}
use denote.Bor.{Bor}
use Rattle.tray.specs.Answer.{LastPart}

-- The bytes from a place to the end are what is left there.
pub to_end : (s : List ℕ) (at : ℕ) → at ≤ length s → take (length s - at) (drop at s) ≡ drop at s
to_end s at h = take_all (length s - at) (drop at s) (simp length-drop (omega arith))

-- The part from n on is the last part.
pub last_part : (tray : Bor (List ℕ)) (n : ℕ) → n ≤ length tray.now
    → LastPart tray (record { ref_ptr = (tray.ref_ptr.0, n + tray.ref_ptr.1); now = take (length tray.now - n) (drop n tray.now) })
last_part tray n h =
    let size : length (drop n tray.now) ≡ length tray.now - n = length-drop n tray.now in
    rw (to_end tray.now n h) (record { block = refl; end = omega arith })

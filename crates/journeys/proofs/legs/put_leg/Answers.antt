-- `journeys::legs::put_leg` meets its contract: numbers copied in are so many stores.
use mathlib.Core.Path.{◌≡◌, refl, ◌∙◌}
use mathlib.Core.List.{List, append_assoc}
use Prim.Native.Nat.{ℕ, ◌+◌, ◌-◌, ◌≤◌}
use native.Mathlib.Omega.{arith}
use borrow.Rule.Slice.PartMut.{put_mid}
use lib.ListN.{length}
use lib.Seq.{sets, sets-eq, drop-drop}
use Rattle.journeys.proofs.legs.put_leg.Goals as goal

copied : (d xs ys : List ℕ) (at n : ℕ) → ys ≡ xs → length xs ≡ n → at + n ≤ length d → put_mid at (at + n - at) d ys ≡ sets d at xs
copied d xs ys at n e size fits =
    let z : at + n - at ≡ n = omega arith in
    let room : at + length xs ≤ length d = omega arith in
    rw (z, e, sets-eq xs d at room, size) (simp (append_assoc, drop-drop))

pub returns : goal.returns
returns c = copied _ _ _ _ 5 (c.copy_from_slice.ensures.after ∙ c.numbers.ensures) refl c.requires

-- Bytes written behind one another: a part copied over, and the texts of a list's cells in turn. Assumes nothing.
use mathlib.Core.Path.{◌≡◌, refl, sym, ap, ◌∙◌}
use mathlib.Core.List.{List, []}
use Prim.Native.Nat.{ℕ, ◌+◌, ◌-◌, ◌<◌, ◌≤◌}
use native.Mathlib.Omega.{arith}
use lib.ListN.{length, take, get_or}
use borrow.Rule.Slice.PartMut.{put_mid}
use Rattle.std.specs.Prelude.{flat_map}
use Rattle.std.proofs.lemmas.List.{take_more, flat_map_more}
use Rattle.std.proofs.lemmas.Slice.{take-put_mid, drop-put_mid}
use Rattle.law.specs.Written.{Wrote}
use Rattle.law.proofs.Wrote.{wrote_on, wrote_as}

pub wrote_part : (old bytes new : List ℕ) (at : ℕ) → at + length bytes ≤ length old → new ≡ bytes → Wrote old at bytes (put_mid at (at + length bytes - at) old new) (at + length bytes)
wrote_part old bytes new at l e =
    rw e
    (record {
      ends = refl;
      says = take-put_mid at (at + length bytes - at) old bytes (at + length bytes) refl (omega (arith, l));
      keeps = drop-put_mid at (at + length bytes - at) old bytes (at + length bytes) (omega arith) (omega (arith, l)) (omega arith);
    })

-- one cell more
pub wrote_more : {X : Type 0} (text_of : X → List ℕ) (xs : List X) (i : ℕ) (d : X) (a b c : List ℕ) (at j k : ℕ) → i < length xs
    → Wrote a at (flat_map text_of (take i xs)) b j → Wrote b j (text_of (get_or xs i d)) c k → Wrote a at (flat_map text_of (take (i + 1) xs)) c k
wrote_more text_of xs i d a b c at j k l p q =
    wrote_as a c _ _ at k (flat_map_more text_of [] (take i xs) (get_or xs i d) ∙ ap (flat_map text_of) (sym (take_more xs i d l))) (wrote_on a b c _ _ at j k p q)

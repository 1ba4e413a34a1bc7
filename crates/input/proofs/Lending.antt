-- What the contract of `read` says of the part that it was lent, said of the buffer. Assumes nothing.
use Rattle.std.proofs.Common.{◌≡◌, ℕ, ◌+◌, ◌-◌, ◌≤◌, ◌<◌, List, ◌++◌, Option, Result, sym, ap, ◌∙◌, subst, arith, length, take, drop, drop_at, length-take-le}
use borrow.Rule.Slice.PartMut.{mid_of, put_mid, post_of, mid_len, same_len_mid, take_put, drop_put}
use lib.Seq.{take_at}
use Rattle.std.specs.declared.io.Error.{Error}
use Rattle.std.specs.Io.{ReadsAtMost}
use Rattle.std.specs.Io.KnownBytes.{ReadConsumes}
use Rattle.input.specs.Asked.{room, part, Asked, asked}

-- the part from `at` to `to` lent, and back with what `got` holds
pub part_asked : {R : Type 0} (remaining : R → Option (List ℕ)) (piece at to : ℕ) (reader reader' : R) (old got : List ℕ) (answer : Result ℕ Error)
    → at + room piece (length old - at) ≡ to → at < length old → length got ≡ length (mid_of at (to - at) old)
    → ReadsAtMost answer got → ReadConsumes (remaining reader) (remaining reader') answer got
    → Asked remaining piece at reader reader' old (put_mid at (to - at) old got) answer
part_asked remaining piece at to reader reader' old got answer e s p m b =
    let n : length (mid_of at (to - at) old) ≡ to - at = mid_len at to old (omega (arith, e, s)) in
    let new = put_mid at (to - at) old got in
    let long : length new ≡ length old = same_len_mid at (to - at) old got p in
    let size : room piece (length new - at) ≡ to - at = omega (arith, e, long) in
    let within : at ≤ length old = omega (arith, s) in
    let back : part piece at new ≡ got =
    ap (λ k. take k (drop at new)) size ∙ ap (take (to - at)) (drop_at (take at old) (got ++ post_of at (to - at) old) at (length-take-le at old within))
    ∙ take_at got (post_of at (to - at) old) (to - at) (p ∙ n) in
    asked remaining piece at reader reader' old new answer
    (record {
      some = s;
      moved = subst (ReadsAtMost answer) (sym back) m;
      bytes = subst (ReadConsumes (remaining reader) (remaining reader') answer) (sym back) b;
      before = take_put at (to - at) old got within;
      behind = subst (λ (i : ℕ). drop i new ≡ drop i old) (sym e) (drop_put at to old got (omega (arith, e)) (omega (arith, e, s)) (p ∙ n));
      long = long;
    })

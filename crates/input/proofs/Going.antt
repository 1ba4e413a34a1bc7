-- Reads one behind the other. Assumes nothing.
use Rattle.std.proofs.Common.{◌≡◌, ℕ, ◌+◌, ◌-◌, ◌≤◌, ◌<◌, List, [], ◌++◌, Bool, true, false, Option, Ok, Err, refl, sym, ap, ◌∙◌, subst, arith, append-nil, append_assoc, length, take, drop}
use lib.ListN.{length-take, length-drop}
use lib.Seq.{take-add, take-take}
use Rattle.std.specs.declared.io.Error.{Error}
use Rattle.std.specs.Io.KnownBytes.{Consumes, IsAtEnd}
use Rattle.std.proofs.KnownBytes.{Consumes-nil, Consumes-trans, Consumes-kept}
use Rattle.input.specs.Asked.{room, Lent, Asked, lent}
use Rattle.input.specs.Reads.{Reads, full, ended, broke, more, Delivered}

module _ {R : Type 0} (remaining : R → Option (List ℕ)) (piece : ℕ) (first : R) (old : List ℕ) where
  -- the first bytes of the buffer have come, and are what the reader has lost: behind these, the reads of the whole deliver what those from here on deliver
  pub record Going (reader : R) (buf : List ℕ) (count : ℕ) : Type 0 where
    pub whole : (reader' : R) (new bytes : List ℕ) (failed : Bool) → Reads remaining piece count reader reader' buf new bytes failed
        → Reads remaining piece 0 first reader' old new (take count buf ++ bytes) failed
    pub consumed : Consumes (remaining first) (remaining reader) (take count buf)
    pub most : count ≤ length buf
    pub long : length buf ≡ length old

  pub going_start : Going first old 0
  going_start = record { whole = λ reader' new bytes failed r. r; consumed = Consumes-nil (remaining first); most = omega arith; long = refl }

  -- no more comes: what came stands in the buffer as it is left
  done : (reader reader' : R) (buf new : List ℕ) (count : ℕ) (failed : Bool) → Going reader buf count → take count new ≡ take count buf → length new ≡ length buf
      → Reads remaining piece count reader reader' buf new [] failed → Delivered remaining piece first reader' old new (record { count = count; failed = failed })
  done reader reader' buf new count failed g e l r =
      record {
        reads = subst (λ (bytes : List ℕ). Reads remaining piece 0 first reader' old new bytes failed) (append-nil (take count buf) ∙ sym e) (g.whole reader' new [] failed r);
        most = omega (arith, g.most, l);
      }

  pub done_full : (reader : R) (buf : List ℕ) (count : ℕ) → Going reader buf count → length buf ≤ count
      → Delivered remaining piece first reader old buf (record { count = count; failed = false })
  done_full reader buf count g l = done reader reader buf buf count false g refl refl (full l)

  -- ---- one read more, by its answer
  module _ (reader next : R) (buf new : List ℕ) (count : ℕ) (g : Going reader buf count) where
    module _ (e : Error) (a : Asked remaining piece count reader next buf new (Err e)) where
      failed_read : Lent remaining piece count reader next buf new (Err e)
      failed_read = lent remaining piece count reader next buf new (Err e) a

      pub done_broke : Delivered remaining piece first next old new (record { count = count; failed = true })
      done_broke = done reader next buf new count true g failed_read.before failed_read.long (broke e a)

      pub kept_broke : Consumes (remaining first) (remaining next) (take count new)
      kept_broke = subst (Consumes (remaining first) (remaining next)) (sym failed_read.before) (Consumes-kept _ _ _ _ g.consumed failed_read.bytes)

    module _ (k : ℕ) (a : Asked remaining piece count reader next buf new (Ok k)) where
      told : Lent remaining piece count reader next buf new (Ok k)
      told = lent remaining piece count reader next buf new (Ok k) a

      abbrev size : ℕ
      size = room piece (length new - count)

      within : k ≤ size
      within = omega (arith, told.moved.0, length-take size (drop count new))

      -- the bytes of this read stand behind those that came before it
      parts : take count buf ++ take k (drop count new) ≡ take (count + k) new
      parts = ap (λ (t : List ℕ). t ++ take k (drop count new)) (sym told.before) ∙ sym (take-add count k new)

      pub consumed_on : Consumes (remaining first) (remaining next) (take (count + k) new)
      consumed_on =
          subst (Consumes (remaining first) (remaining next)) (ap (λ (t : List ℕ). take count buf ++ t) (take-take k size (drop count new) within) ∙ parts)
          (Consumes-trans _ _ _ _ _ g.consumed told.bytes.0)

      pub most_on : count + k ≤ length new
      most_on = omega (arith, within, g.most, told.long, told.some)

      pub going_on : 0 < k → Going next new (count + k)
      going_on some_came =
          record {
            whole = λ reader' new' bytes failed r.
                subst (λ (t : List ℕ). Reads remaining piece 0 first reader' old new' t failed)
                (sym (append_assoc (take count buf) (take k (drop count new)) bytes) ∙ ap (λ (t : List ℕ). t ++ bytes) parts)
                (g.whole reader' new' (take k (drop count new) ++ bytes) failed (more k some_came a r));
            consumed = consumed_on;
            most = most_on;
            long = told.long ∙ g.long;
          }

      module _ (none : k ≡ 0) where
        last_read : Asked remaining piece count reader next buf new (Ok 0)
        last_read = subst (λ (n : ℕ). Asked remaining piece count reader next buf new (Ok n)) none a

        pub done_end : Delivered remaining piece first next old new (record { count = count; failed = false })
        done_end = done reader next buf new count false g told.before told.long (ended last_read)

        pub consumed_end : Consumes (remaining first) (remaining next) (take count new)
        consumed_end = subst (λ (n : ℕ). Consumes (remaining first) (remaining next) (take n new)) (omega (arith, none)) consumed_on

        pub at_end : IsAtEnd (remaining next)
        at_end = told.bytes.1 none (omega (arith, length-take size (drop count new), length-drop count new, told.some, told.long))

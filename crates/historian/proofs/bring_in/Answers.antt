-- `historian::bring_in`: the records that are written stand in their buffer. Assumes nothing.
use Rattle.std.proofs.Common.{◌≡◌, ℕ, ◌≤◌, List, Result, Ok, refl, sym, subst, arith, length, length-take-le}
use Rattle.rules.specs.declared.Refused.{Refused}
use Rattle.import.specs.Import.{Promise, imported}
use Rattle.import.proofs.Texts.{count_within}
use Rattle.historian.proofs.bring_in.Goals as goal

-- what an accepted text has written fits the buffer that was lent
room : (text old new : List ℕ) (answer : Result ℕ Refused) (n : ℕ) → Promise text old (imported answer) new → answer ≡ Ok n → length new ≡ length old → n ≤ length new
unfolding imported
room text old new answer n p e l =
    omega (arith, l, count_within text old _ new (subst (λ (r : Result ℕ Refused). Promise text old (imported r) new) e p) refl)

pub slice_bounds-records-end : goal.slice_bounds-records-end
slice_bounds-records-end g c = room _ _ _ _ _ c.import_days.ensures c.in-Ok.is c.import_days.auto.records

pub slice_bounds-write_all-end : goal.slice_bounds-write_all-end
slice_bounds-write_all-end g c = sym (length-take-le _ _ (room _ _ _ _ _ c.import_days.ensures c.in-Ok.is c.import_days.auto.records))

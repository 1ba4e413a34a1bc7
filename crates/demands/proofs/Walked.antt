-- The account's walk over the file of a head, the days of an accepted text and an end. Assumes nothing.
use Rattle.std.specs.Prelude.{Option, Some}
use mathlib.Core.Path.{◌≡◌, refl, sym, ap, ap₂, ◌∙◌, subst}
use mathlib.Core.Logic.{◌⊎◌, inl, inr}
use mathlib.Core.Bool.{Bool, true, false}
use mathlib.Core.List.{List, [], ◌∷◌, ◌++◌, append_assoc}
use Prim.Native.Nat.{ℕ, zero, suc, ◌+◌, ◌-◌, ◌*◌, ◌^◌, ◌<◌, ◌≤◌}
use native.Mathlib.Nat.{add-zero}
use native.Mathlib.Omega.{arith}
use native.Mathlib.Decide.{dec_lt}
use lib.ListN.{length, drop, get_or, length-append}
use lib.Seq.{drop_at, drop-drop}
use lib.Dec.{leb, eqb}
use borrow.Author.Tests.{lt-ltb, eq-eqb, eqb-true}
use Rattle.law.specs.Numbers.{hours_of_day, per_mg, per_cubic_metre}
use Rattle.law.specs.Words.{need, need_all, pick, table, tally}
use Rattle.law.proofs.Tests.{false_true, need_le, need_lt, need_not_lt, pick_eq, pick_not_eq, pick_case}
use Rattle.law.proofs.Tallies.{tally-same}
use Rattle.law.proofs.Tabled.{table_is}
use Rattle.field.specs.Field.{u8, u16, u32}
use Rattle.reading.specs.Reading.{reading, stated, passes, concentration_of as concentrationIn, flow_of as flowIn}
use Rattle.rules.specs.declared.Head.{Head}
use Rattle.rules.specs.declared.Pair.{Pair}
use Rattle.rules.specs.Refusals.{Fault}
use Rattle.rules.specs.declared.View.{View}
use Rattle.rules.specs.declared.Record.{Record}
use Rattle.rules.specs.declared.Record.TheVariants.{Bad, OfHead, OfDay, OfEnd}
use Rattle.rules.specs.Records.{Day, pair_of, head_of, masks_of, survey_of, water_day_of, water_of, body_of, size_in, record_in, Placed, records_from, records_of as recordsIn}
use Rattle.rules.specs.Hours.{bit, pair_at}
use Rattle.rules.specs.Fields.{strays_of, mask_fields, measured_fields, blank_fields, hour_fields, reading_fields}
use Rattle.rules.specs.Judge.{refuse, fine, first, first_wrong, place_day, range_masks, judge_hours, place_end, line_method, judge_fuel, judge_method, judge_record, judge_readings, judge, at_place}
use Rattle.rules.specs.Outfalls.{OfStack}
use Rattle.rules.specs.Walk.{Stand, Between, Inside, view_of, runs_of, begun, with_day, taken, taken_between, taken_inside, Outcome, Refused, Accepted, ended, fault_of, walk, outcome}
use Rattle.rules.proofs.Records.{record_case}
use Rattle.rules.proofs.Faults.{first_fine, at_place-number, at_place-refused}
use Rattle.rules.proofs.Fields.{fault_from_lem, fault_from, fault_end}
use Rattle.import.specs.Nearest.{ToNearest}
use Rattle.import.proofs.Back.{concentration-accepted, flow-accepted}
use Rattle.import.specs.Line.{state_of, concentration_of, flow_of}
use Rattle.import.specs.Import.{day_bytes, judged, days_of, line_from, run_bit, measured_bit, mask_of, concentration_cell, flow_cell, day_record, records_of}
use Rattle.import.proofs.Texts.{SoundDay, concentration-near, flow-near, day_sound}
use Rattle.demands.specs.Imports.{end_bytes, SoundHead, days_only}
use Rattle.demands.proofs.DayBytes.{run_most, measured_most, mask_below, mask_bit, masks_as, day_as, record_long, masks_read, size_read, record_read, day_read, pair-as, measured_as}

-- ---- nothing refuses a day of an accepted text
hours-fine : (d : Day) → ((h : ℕ) → h < hours_of_day → first_wrong (hour_fields d h) ≡ fine) → (n h : ℕ) → n + h ≡ hours_of_day → fault_from_lem d h ≡ fine
hours-fine d each zero h e = fault_end d h (omega arith)
hours-fine d each (suc n) h e =
    fault_from d h (omega arith) ∙ ap₂ first (each h (omega arith)) (hours-fine d each n (h + 1) (omega arith)) ∙ first_fine fine

-- an hour is measured, with readings that are accepted, or its bytes are zero
pair-fine : (b : Bool) (offset c f : ℕ) → passes (stated (concentrationIn (reading c))) ≡ true → passes (stated (flowIn (reading f))) ≡ true
    → (p : Pair) → p ≡ record { concentration = pick b c 0; flow = pick b f 0 }
    → first_wrong (pick (eqb (pick b 1 0) 1) (measured_fields offset p) (blank_fields offset p)) ≡ fine
unfolding pick first_wrong measured_fields blank_fields need
pair-fine true offset c f x y p e = rw (e, x, y)
pair-fine false offset c f x y p e = rw e

measured_runs : (s : List ℕ) → measured_bit s ≤ run_bit s
unfolding measured_bit run_bit
measured_runs s =
    pick_case (λ (n : ℕ). n ≤ run_bit s) (eqb (state_of s) 2) 1 0
    (λ t. let e = eqb-true (state_of s) 2 t in omega (arith, pick_not_eq {A = ℕ} 0 1 1 (state_of s) 0 (λ z. omega arith) refl)) (λ _. omega arith)

no_strays : (s : List ℕ) → strays_of (mask_of run_bit s) (mask_of measured_bit s) ≡ 0
unfolding strays_of tally
no_strays s =
    tally-same (λ h. bit h (mask_of measured_bit s) - bit h (mask_of run_bit s)) (λ _. 0) hours_of_day
    (λ h l. omega (arith, mask_bit run_bit run_most s h l, mask_bit measured_bit measured_most s h l, measured_runs (line_from h s)))

range_fine : (day : ℕ) (s : List ℕ) → range_masks (masks_as day s) ≡ fine
unfolding range_masks mask_fields first_wrong need
range_fine day s =
    rw (
      lt-ltb (mask_of run_bit s) (2 ^ 24) (mask_below run_bit run_most s),
      lt-ltb (mask_of measured_bit s) (2 ^ 24) (mask_below measured_bit measured_most s),
      eq-eqb (strays_of (mask_of run_bit s) (mask_of measured_bit s)) 0 (no_strays s),
    )

accepted_passes : (n : ℕ) (r : Option ℕ) → r ≡ Some n → passes (stated r) ≡ true
unfolding passes stated
accepted_passes n r e = rw e

module _ (near : ℕ → ℕ → ℕ) (is : ToNearest near) (room from : ℕ) (s : List ℕ) (sound : SoundDay room from s) (day : ℕ) where
  hour_fine : (h : ℕ) → h < hours_of_day → first_wrong (hour_fields (day_as near day s) h) ≡ fine
  unfolding hour_fields measured_bit concentration_cell flow_cell
  hour_fine h l =
      let t = line_from h s in
      let p = pair_at (day_as near day s) h in
      ap (λ (b : ℕ). first_wrong (pick (eqb b 1) (measured_fields (13 + 8 * h) p) (blank_fields (13 + 8 * h) p))) (measured_as near day s h l)
      ∙ pair-fine (eqb (state_of t) 2) (13 + 8 * h) (near (concentration_of t) per_mg) (near (flow_of t) per_cubic_metre)
      (accepted_passes _ _ (concentration-accepted _ _ (sound h l).concentration (concentration-near near is room _ t (sound h l))))
      (accepted_passes _ _ (flow-accepted _ _ (sound h l).flow (flow-near near is room _ t (sound h l))))
      p (pair-as near day s h l)

  readings-fine : judge_hours (day_as near day s) ≡ fine
  unfolding judge_hours reading_fields
  readings-fine = hours-fine (day_as near day s) hour_fine hours_of_day 0 refl

  module _ (h : Head) (days : List Day) (turn : length days ≡ day) (left : day < h.days) where
    place_fine : place_day (view_of (Inside (days_only h days) [])) (masks_as day s) ≡ fine
    unfolding place_day view_of need_all need
    place_fine = rw (lt-ltb (length days) h.days (omega arith), eq-eqb day (length days) (sym turn))

    pub day_fine : (runs rest : List ℕ) → judge (view_of (Inside (days_only h days) [])) runs (day_record near day s ++ rest) ≡ fine
    unfolding judge judge_record judge_readings
    day_fine runs rest =
        let v = view_of (Inside (days_only h days) []) in
        let r = day_record near day s ++ rest in
        ap (λ (x : Record). first (judge_record v runs x) (judge_readings r x)) (record_read near day s rest ∙ ap OfDay (masks_read near day s rest))
        ∙ ap₂ first (ap₂ first place_fine (range_fine day s) ∙ first_fine fine) (ap judge_hours (day_read near is room from s sound day rest) ∙ readings-fine)
        ∙ first_fine fine

-- ---- one record more, by its bytes, its size and what it is
module _ (file : List ℕ) (most at : ℕ) (stand : Stand) where
  abbrev fault : List ℕ → Fault
  fault r = fault_of stand (record { place = at; bytes = r })

  abbrev stepped : List ℕ → Outcome
  stepped r = pick (eqb (fault r).number 0) (walk file (records_from most file (at + size_in r)) (taken stand r (record_in r))) (Refused (fault r))

  module _ (l : at < length file) (r : List ℕ) (from : drop at file ≡ r) where
    walk_here : walk file (records_from (suc most) file at) stand ≡ stepped r
    unfolding records_from walk
    walk_here = ap (λ (ps : List Placed). walk file ps stand) (sym (need_lt [] _ _ at (length file) l refl)) ∙ ap stepped from

    walk-on : (size : ℕ) (x : Record) → size_in r ≡ size → record_in r ≡ x → (judge (view_of stand) (runs_of stand) r).number ≡ 0
        → walk file (records_from (suc most) file at) stand ≡ walk file (records_from most file (at + size)) (taken stand r x)
    unfolding fault_of
    walk-on size x e f z =
        walk_here ∙ sym (pick_eq _ _ _ (fault r).number 0 (at_place-number at _ ∙ z) refl)
        ∙ ap₂ (λ (n : ℕ) (y : Record). walk file (records_from most file (at + n)) (taken stand r y)) e f

    walk-stops : (number : ℕ) → (number ≡ 0 → ⊥) → judge (view_of stand) (runs_of stand) r ≡ refuse number 0
        → walk file (records_from (suc most) file at) stand ≡ Refused (refuse number at)
    unfolding fault_of refuse
    walk-stops number n e =
        walk_here
        ∙ sym (pick_not_eq _ _ _ (fault r).number 0 (λ z. n (ap (λ (f : Fault). f.number) (sym e) ∙ sym (at_place-number at _) ∙ z)) refl)
        ∙ ap Refused (ap (at_place at) e ∙ sym (at_place-refused at (refuse number 0) n) ∙ ap (refuse number) (add-zero at))

walk_ends : (file : List ℕ) (most at : ℕ) (stand : Stand) → length file ≤ at → walk file (records_from most file at) stand ≡ ended file stand
unfolding records_from walk
walk_ends file zero at stand l = refl
walk_ends file (suc most) at stand l = ap (λ (ps : List Placed). walk file ps stand) (sym (need_not_lt [] _ at (length file) l))

-- ---- a head of 14 bytes, with what stands behind it
head_sized : (r : List ℕ) → (view_of (taken_between [] (record_in r))).inside ≡ true → size_in r ≡ 14
unfolding taken_between view_of
head_sized r =
    record_case (λ (x : Record). (view_of (taken_between [] x)).inside ≡ true → size_in r ≡ 14) r no
    (record { head = λ z e. z.0; day = λ _. no; enforcement = λ _. no; plant = λ _. no; batch = λ _. no }) (λ _. no)
    (record { head = λ _. no; day = λ _. no; enforcement = λ _. no; plant = λ _. no })
  where
    no : false ≡ true → size_in r ≡ 14
    no e = absurd (false_true e)

-- a record that lies whole in the bytes is read by its kind
body_in : (r : List ℕ) → 4 ≤ length r → size_in r ≤ length r → record_in r ≡ body_of (u16 r 2) (u16 r 0) r
unfolding record_in
body_in r l m = sym (need_le Bad _ _ 4 (length r) l (need_le Bad _ _ (size_in r) (length r) m refl))

-- 14 bytes, one by one: no kind of length 12 reads behind them
front_same : (r more : List ℕ) → length r ≡ 14
    → (u16 (r ++ more) 0 ≡ u16 r 0) × (u16 (r ++ more) 2 ≡ u16 r 2) × ((kind : ℕ) → body_of kind 12 (r ++ more) ≡ body_of kind 12 r)
unfolding table body_of water_of need head_of survey_of water_day_of pair_of u32 u16 u8
front_same r more long =
    subst (λ (t : List ℕ). (u16 (t ++ more) 0 ≡ u16 t 0) × (u16 (t ++ more) 2 ≡ u16 t 2) × ((kind : ℕ) → body_of kind 12 (t ++ more) ≡ body_of kind 12 t))
    (sym (table_is (λ k. get_or r k 0) 14 0 r long (λ k l. refl))) (refl, refl, λ kind. refl)

module _ (r more : List ℕ) (long : length r ≡ 14) (h : Head) (is : record_in r ≡ OfHead h) where
  size_own : size_in r ≡ 14
  unfolding taken_between view_of
  size_own = head_sized r (ap (λ (x : Record). (view_of (taken_between [] x)).inside) is)

  head_size : size_in (r ++ more) ≡ 14
  unfolding size_in
  head_size = ap (λ (n : ℕ). 2 + n) (front_same r more long).0 ∙ size_own

  head_read : record_in (r ++ more) ≡ OfHead h
  unfolding size_in
  head_read =
      let n = length-append r more in
      let same = front_same r more long in
      let e : u16 r 0 ≡ 12 = omega (arith, size_own) in
      body_in (r ++ more) (omega arith) (omega (arith, head_size))
      ∙ ap₂ (λ (k j : ℕ). body_of k j (r ++ more)) same.1 (same.0 ∙ e)
      ∙ same.2 (u16 r 2)
      ∙ ap (λ (j : ℕ). body_of (u16 r 2) j r) (sym e)
      ∙ sym (body_in r (omega arith) (omega (arith, size_own)))
      ∙ is

-- a head is judged by what it says, whatever stands behind it
head_judged : (v : View) (runs r : List ℕ) (h : Head) → record_in r ≡ OfHead h → judge v runs r ≡ first (judge_record v runs (OfHead h)) fine
unfolding judge judge_readings
head_judged v runs r h e = ap (λ (x : Record). first (judge_record v runs x) (judge_readings r x)) e

-- ---- the records of days, one behind the other
module _ (near : ℕ → ℕ → ℕ) (text : List ℕ) where
  pub records_long : (n : ℕ) → length (records_of near text n) ≡ day_bytes * n
  unfolding records_of
  records_long zero = refl
  records_long (suc n) =
      length-append (records_of near text n) _ ∙ omega (arith, records_long n, record_long near n (line_from (hours_of_day * n) text))

  -- the bytes of day k, and what stands behind them
  abbrev record_of : ℕ → List ℕ
  record_of k = day_record near k (line_from (hours_of_day * k) text)

  abbrev pub StartsWith : ℕ → List ℕ → Type 0
  StartsWith k bytes = (more : List ℕ) × (bytes ≡ record_of k ++ more)

  pub record_at : (n k : ℕ) (rest : List ℕ) → k < n → StartsWith k (drop (day_bytes * k) (records_of near text n ++ rest))
  unfolding records_of
  record_at zero k rest l = absurd (omega arith)
  record_at (suc n) k rest l =
      subst (λ (bytes : List ℕ). StartsWith k (drop (day_bytes * k) bytes)) (sym (append_assoc (records_of near text n) (record_of n) rest))
      (go (dec_lt k n) (record_at n k (record_of n ++ rest)))
    where
      bytes : List ℕ
      bytes = records_of near text n ++ (record_of n ++ rest)

      go : Dec (k < n) → (k < n → StartsWith k (drop (day_bytes * k) bytes)) → StartsWith k (drop (day_bytes * k) bytes)
      go (yes m) f = f m
      go (no m) f =
          let e : k ≡ n = omega arith in (
            rest,
            ap (λ (i : ℕ). drop (day_bytes * i) bytes) e ∙ drop_at (records_of near text n) (record_of n ++ rest) (day_bytes * n) (records_long n)
                ∙ ap (λ (i : ℕ). record_of i ++ rest) (sym e),
          )

  -- the days that they are, the newest first
  unfoldable pub days_as : ℕ → List Day
  days_as zero = []
  days_as (suc n) = day_as near n (line_from (hours_of_day * n) text) ∷ days_as n

  days_long : (n : ℕ) → length (days_as n) ≡ n
  unfolding days_as
  days_long zero = refl
  days_long (suc n) = ap suc (days_long n)

-- ---- the end of a line with no batch: its method is by readings, or 6 refuses it
module _ (h : Head) (days : List Day) where
  abbrev within : Stand
  within = Inside (days_only h days) []

  end_judged : length days ≡ h.days → judge (view_of within) (runs_of within) end_bytes ≡ first (judge_fuel (view_of within)) fine
  unfolding judge judge_record judge_readings record_in size_in body_of u16 u8 need pick place_end need_all view_of judge_method first fine
  end_judged all = rw (eq-eqb (length days) h.days all)

  fuel-by : (t : Bool) → leb (line_method (view_of within)) 2 ≡ t → judge_fuel (view_of within) ≡ pick t fine (refuse 6 0)
  unfolding judge_fuel view_of need
  fuel-by t e = rw e

  -- accepted with these days, or refused with 6 at a place
  abbrev pub Closes : ℕ → Outcome → Type 0
  Closes at o = (o ≡ Accepted (OfStack (days_only h days) ∷ [])) ⊎ (o ≡ Refused (refuse 6 at))

  module _ (all : length days ≡ h.days) (file : List ℕ) (most at : ℕ) (rest : drop at file ≡ end_bytes) (long : length file ≡ at + 4) where
    end_by : (t : Bool) → leb (line_method (view_of within)) 2 ≡ t → judge (view_of within) (runs_of within) end_bytes ≡ first (pick t fine (refuse 6 0)) fine
    end_by t e = end_judged all ∙ ap (λ (f : Fault). first f fine) (fuel-by t e)

    end_walked : Closes at (walk file (records_from (suc most) file at) within)
    unfolding pick first fine refuse need taken taken_inside record_in size_in body_of u16 u8 ended
    end_walked = by (leb (line_method (view_of within)) 2) (end_by (leb (line_method (view_of within)) 2) refl)
      where
        by : (t : Bool) → judge (view_of within) (runs_of within) end_bytes ≡ first (pick t fine (refuse 6 0)) fine
            → Closes at (walk file (records_from (suc most) file at) within)
        by true e =
            inl (walk-on file most at within (omega arith) end_bytes rest 4 OfEnd refl refl (ap (λ (f : Fault). f.number) e)
            ∙ walk_ends file most (at + 4) (Between (OfStack (days_only h days) ∷ [])) (omega arith))
        by false e = inr (walk-stops file most at within (omega arith) end_bytes rest 6 (λ z. omega arith) e)

-- ---- the file of a head, the days of an accepted text, and an end
module _ (near : ℕ → ℕ → ℕ) (is : ToNearest near) (room : ℕ) (text : List ℕ) (accepted : (judged room text).number ≡ 0) (head : List ℕ) (h : Head)
    (sound : SoundHead head h (days_of room text)) where
  abbrev days : ℕ
  days = days_of room text

  abbrev behind : List ℕ
  behind = records_of near text days ++ end_bytes

  abbrev file : List ℕ
  file = head ++ behind

  file_long : length file ≡ 14 + day_bytes * days + 4
  file_long =
      length-append head behind ∙ omega (arith, sound.long, length-append (records_of near text days) end_bytes, records_long near text days)

  file_from : (n : ℕ) → drop (14 + n) file ≡ drop n behind
  file_from n = sym (drop-drop n 14 file) ∙ ap (drop n) (drop_at head behind 14 sound.long)

  head_walked : (most : ℕ) → walk file (records_from (suc most) file 0) (Between []) ≡ walk file (records_from most file 14) (Inside (begun h) [])
  unfolding taken taken_between runs_of
  head_walked most =
      let v = view_of (Between []) in
      let read = head_read head behind sound.long h sound.is in
      let same = head_judged v [] file h read ∙ sym (head_judged v [] head h sound.is) in
      walk-on file most 0 (Between []) (omega (arith, file_long)) file refl 14 (OfHead h) (head_size head behind sound.long h sound.is) read
      (ap (λ (f : Fault). f.number) same ∙ sound.sound)

  day_walked : (k most : ℕ) → k < days → walk file (records_from (suc most) file (14 + day_bytes * k)) (Inside (days_only h (days_as near text k)) [])
      ≡ walk file (records_from most file (14 + day_bytes * suc k)) (Inside (days_only h (days_as near text (suc k))) [])
  unfolding taken taken_inside with_day days_as fine
  day_walked k most l =
      let s = line_from (hours_of_day * k) text in
      let stand = Inside (days_only h (days_as near text k)) [] in
      let hours = day_sound room text accepted k l in
      let found = record_at near text days k end_bytes l in
      let r = day_record near k s ++ found.0 in
      let next : 14 + day_bytes * k + 205 ≡ 14 + day_bytes * suc k = omega arith in
      walk-on file most (14 + day_bytes * k) stand (omega (arith, file_long)) r (file_from (day_bytes * k) ∙ found.1) 205 (OfDay (masks_of r))
      (size_read near k s found.0) (record_read near k s found.0)
      (ap (λ (f : Fault). f.number)
      (day_fine near is room (hours_of_day * k) s hours k h (days_as near text k) (days_long near text k) (omega (arith, sound.period)) _ found.0))
      ∙ ap₂ (λ (n : ℕ) (d : Day). walk file (records_from most file n) (Inside (days_only h (d ∷ days_as near text k)) [])) next
      (day_read near is room (hours_of_day * k) s hours k found.0)

  -- as many days as there are
  days_walked : (k most : ℕ) → k ≤ days → walk file (records_from (k + most) file 14) (Inside (begun h) [])
      ≡ walk file (records_from most file (14 + day_bytes * k)) (Inside (days_only h (days_as near text k)) [])
  unfolding days_as begun
  days_walked zero most l = ap (λ (n : ℕ). walk file (records_from n file 14) (Inside (begun h) [])) (let e : 0 + most ≡ most = omega arith in e)
  days_walked (suc k) most l =
      ap (λ (n : ℕ). walk file (records_from n file 14) (Inside (begun h) [])) (let e : suc k + most ≡ k + suc most = omega arith in e)
      ∙ days_walked k (suc most) (omega arith) ∙ day_walked k most (omega arith)

  pub file_walked : Closes h (days_as near text days) (14 + day_bytes * days) (outcome file)
  unfolding outcome recordsIn
  file_walked =
      let more = 204 * days + 16 in
      let fuel : length file ≡ suc (days + suc more) = omega (arith, file_long) in
      let back = file_from (day_bytes * days) ∙ drop_at (records_of near text days) end_bytes (day_bytes * days) (records_long near text days) in
      subst (Closes h (days_as near text days) (14 + day_bytes * days))
      (sym (ap (λ (n : ℕ). walk file (records_from n file 0) (Between [])) fuel ∙ head_walked (days + suc more) ∙ days_walked days (suc more) (omega arith)))
      (end_walked h (days_as near text days) (days_long near text days ∙ sym sound.period) file more (14 + day_bytes * days) back file_long)

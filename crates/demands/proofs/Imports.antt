-- A proof of what specs/Imports.antt says of every text that is brought in. Assumes nothing.
use mathlib.Core.Path.{◌≡◌, refl, sym, ap, ap₂, ◌∙◌, subst}
use mathlib.Core.List.{List, ◌∷◌, ◌++◌}
use Prim.Native.Nat.{ℕ, zero, suc, ◌+◌, ◌*◌, ◌<◌, ◌≤◌}
use native.Mathlib.Omega.{arith}
use lib.ListN.{length, take, drop}
use lib.Seq.{take_at}
use Rattle.law.specs.Numbers.{hours_of_day}
use Rattle.law.proofs.Tests.{pick_eq}
use Rattle.rules.specs.declared.Head.{Head}
use Rattle.rules.specs.declared.Masks.{Masks}
use Rattle.rules.specs.Records.{Day, masks_of, day_of, record_in}
use Rattle.rules.specs.declared.Record.TheVariants.{OfDay}
use Rattle.rules.specs.Hours.{slot_of}
use Rattle.rules.specs.Walk.{outcome}
use Rattle.import.specs.Nearest.{ToNearest}
use Rattle.import.specs.Computed.{nearest_by}
use Rattle.import.proofs.Computed.{computed}
use Rattle.import.specs.Import.{day_bytes, judged, days_of, answer_of, line_from, records_of, buffer_after}
use Rattle.import.proofs.Texts.{SoundDay, day_sound, line_in}
use Rattle.import.proofs.Only.{import_only}
use Rattle.demands.specs.Imports.{HourKept, DayKept, days_in, end_bytes, SoundHead, Accounted, Brought, Import, Imports, BringsIn}
use Rattle.demands.proofs.DayBytes.{day_as, masks_read, record_read, day_read, hour_kept}
use Rattle.demands.proofs.Walked.{records_long, StartsWith, record_at, days_as, Closes, file_walked}

-- the result that the definitions give, by the computed patterns
abbrev result_of : List ℕ → List ℕ → Import
result_of text buffer = record { answer = answer_of (length buffer) text; buffer = buffer_after nearest_by text buffer }

result_kept : (text buffer : List ℕ) → Imports text buffer (result_of text buffer)
result_kept text buffer = record { near = nearest_by; nearest = computed; answers = refl; holds = refl }

result_only : (text buffer : List ℕ) (s : Import) → Imports text buffer s → s ≡ result_of text buffer
result_only text buffer s p =
    let e = import_only text buffer _ _ _ _ p (result_kept text buffer) in
    λ i. record { answer = e.0 i; buffer = e.1 i }

-- ---- what an accepted text becomes
module _ (near : ℕ → ℕ → ℕ) (is : ToNearest near) (room : ℕ) (text : List ℕ) (accepted : (judged room text).number ≡ 0) (day : ℕ)
    (l : day < days_of room text) where
  abbrev lines : List ℕ
  lines = line_from (hours_of_day * day) text

  sound : SoundDay room (hours_of_day * day) lines
  sound = day_sound room text accepted day l

  day_of_here : (r : List ℕ) → StartsWith near text day r → day_of r ≡ day_as near day lines
  day_of_here r b = ap day_of b.1 ∙ day_read near is room (hours_of_day * day) lines sound day b.0

  day_kept : (r : List ℕ) → StartsWith near text day r → DayKept text day r
  day_kept r b = record {
    is = ap record_in b.1 ∙ record_read near day lines b.0 ∙ ap (λ (bytes : List ℕ). OfDay (masks_of bytes)) (sym b.1);
    turn = ap (λ (bytes : List ℕ). (masks_of bytes).day) b.1 ∙ ap (λ (m : Masks). m.day) (masks_read near day lines b.0);
    hours = λ h m. subst (λ (d : Day). HourKept (line_from (hours_of_day * day + h) text) (slot_of d h)) (sym (day_of_here r b))
        (subst (λ (s : List ℕ). HourKept s (slot_of (day_as near day lines) h)) (line_in (hours_of_day * day) h text)
        (hour_kept near day lines h m is room (hours_of_day * day + h) (sound h m)));
  }

module _ (near : ℕ → ℕ → ℕ) (is : ToNearest near) (room : ℕ) (text rest : List ℕ) (accepted : (judged room text).number ≡ 0) where
  abbrev days : ℕ
  days = days_of room text

  abbrev written : List ℕ
  written = records_of near text days ++ rest

  days_in_here : (n : ℕ) → n ≤ days → days_in written n ≡ days_as near text n
  unfolding days_in days_as
  days_in_here zero l = refl
  days_in_here (suc n) l =
      ap₂ ◌∷◌ (day_of_here near is room text accepted n (omega arith) _ (record_at near text days n rest (omega arith))) (days_in_here n (omega arith))

  accounted : (head : List ℕ) (h : Head) → SoundHead head h days → Accounted head h written days
  accounted head h s =
      let front = take_at (records_of near text days) rest (day_bytes * days) (records_long near text days) in
      record {
        walked = subst (λ (ds : List Day). Closes h ds (14 + day_bytes * days) (outcome (head ++ (take (day_bytes * days) written ++ end_bytes))))
            (sym (days_in_here days (omega arith)))
            (subst (λ (bytes : List ℕ). Closes h (days_as near text days) (14 + day_bytes * days) (outcome (head ++ (bytes ++ end_bytes)))) (sym front)
            (file_walked near is room text accepted head h s));
      }

brought : (text buffer : List ℕ) (r : Import) → Imports text buffer r → r.answer.number ≡ 0 → Brought text buffer r.answer r.buffer
unfolding answer_of buffer_after
brought text buffer r p z =
    let room = length buffer in
    let accepted : (judged room text).number ≡ 0 = sym (ap (λ a. a.number) p.answers) ∙ z in
    let rest = drop (day_bytes * days_of room text) buffer in
    let is : r.buffer ≡ records_of p.near text (days_of room text) ++ rest = p.holds ∙ sym (pick_eq _ _ _ _ 0 accepted refl) in
    record {
      count = ap (λ a. a.count) p.answers;
      days = λ day l. subst (λ (b : List ℕ). DayKept text day (drop (day_bytes * day) b)) (sym is)
          (day_kept p.near p.nearest room text accepted day l _ (record_at p.near text (days_of room text) day rest l));
      accounted = λ head h s. subst (λ (b : List ℕ). Accounted head h b (days_of room text)) (sym is)
          (accounted p.near p.nearest room text rest accepted head h s);
    }

pub brings_in : (text buffer : List ℕ) → BringsIn text buffer
brings_in text buffer =
    record { one = (result_of text buffer, result_kept text buffer, result_only text buffer); brought = brought text buffer }

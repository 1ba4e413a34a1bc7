-- The answer of each call from what its face promises. Assumes nothing.
use Rattle.std.proofs.Common.{◌≡◌, ℕ, ◌≤◌, Bool, true, leb, List, ◌++◌, length, take, drop, replicate, refl, ap, ◌∙◌, ap₂, arith, length-take, take_at, le-leb}
use lib.Ieee.{Float, binary32, binary64, of_bits}
use Rattle.law.specs.Words.{need}
use Rattle.law.specs.Written.{Wrote}
use Rattle.law.proofs.Wrote.{wrote_as}
use Rattle.text.specs.Text.{Text}
use Rattle.filed.specs.Said.{said}
use Rattle.doarpezwim.specs.Faces.{panel_of, AccountFace, PanelFace, PartFace, ImportFace, CheckFace}
use Rattle.field.specs.Bytes.{u32_bytes, u64_bytes, cells_bytes}
use Rattle.calls.specs.Answers.{Answered, left_bytes, account_bytes, state_bytes, panel_bytes, survey_bytes, lent_bytes, import_bytes, ImportAnswered, check_bytes, filed_bytes}

-- the bytes of a text that stand at the start of a buffer long enough
text_front : (bytes line line' : List ℕ) (k : ℕ) → 8_192 ≤ length line → Text bytes line line' k → take k line' ≡ bytes
unfolding need
text_front bytes line line' k l t =
    let yes : leb 8_192 (length line) ≡ true = le-leb 8_192 (length line) l in
    let count : k ≡ length bytes = t.counts ∙ ap (λ (b : Bool). need 0 b (length bytes)) yes in
    ap₂ take count (t.says ∙ ap (λ (b : Bool). need line b (bytes ++ drop (length bytes) line)) yes) ∙ take_at bytes (drop (length bytes) line) (length bytes) refl

module _ (old new : List ℕ) (to : ℕ) where
  -- what is written fits
  answered : (xs ys : List ℕ) → xs ≡ ys → Wrote old 0 xs new to → Answered ys old new to
  answered xs ys e w = record { wrote = wrote_as old new xs ys 0 to e w; within = omega (arith, w.ends, length-take to new, ap length w.says) }

  -- the cells that the account was lent are r, c and l
  pub account_wrote : (file rows concentrations flows r c l : List ℕ) (number : ℕ) (answer' rows' concentrations' flows' : List ℕ)
      → rows ≡ r → concentrations ≡ c → flows ≡ l → AccountFace file rows concentrations flows number answer' rows' concentrations' flows'
      → Wrote old 0 (left_bytes answer' rows' concentrations' flows') new to → Answered (account_bytes file r c l) old new to
  unfolding account_bytes
  account_wrote file rows concentrations flows r c l number answer' rows' concentrations' flows' er ec el f w =
      let e : left_bytes answer' rows' concentrations' flows' ≡ account_bytes file r c l = cc in
      answered (left_bytes answer' rows' concentrations' flows') (account_bytes file r c l) e w

  -- the panel's total and the readings are those of their patterns
  pub panel_wrote : (total concentration flow : Float) (t hours missing kind c l number : ℕ) (total' : Float) (hours' missing' : ℕ)
      → total ≡ of_bits binary64 t → concentration ≡ of_bits binary32 c → flow ≡ of_bits binary32 l
      → PanelFace (panel_of total hours missing) kind concentration flow number total' hours' missing'
      → Wrote old 0 (state_bytes number total' hours' missing') new to → Answered (panel_bytes t hours missing kind c l) old new to
  unfolding panel_bytes
  panel_wrote total concentration flow t hours missing kind c l number total' hours' missing' et ec el f w =
      let e : state_bytes number total' hours' missing' ≡ panel_bytes t hours missing kind c l = cc in
      answered (state_bytes number total' hours' missing') (panel_bytes t hours missing kind c l) e w

  -- 14 bytes of 0xAA were lent
  pub part-wrote : (bytes : List ℕ) (n : ℕ) (part' : List ℕ) → PartFace bytes (replicate 14 0xaa) n part' → Wrote old 0 (u32_bytes n ++ part') new to → Answered (survey_bytes bytes) old new to
  unfolding survey_bytes
  part-wrote bytes n part' f w =
      let e : u32_bytes n ++ part' ≡ survey_bytes bytes = cc in
      answered (u32_bytes n ++ part') (survey_bytes bytes) e w

  -- the buffer that the import was lent is the filled one
  pub import_wrote : (text records : List ℕ) (seed room number : ℕ) (answer' records' : List ℕ) → records ≡ lent_bytes seed room → ImportFace text records number answer' records'
      → Wrote old 0 (cells_bytes u64_bytes answer' ++ records') new to → ImportAnswered text seed room old new to
  unfolding import_bytes
  import_wrote text records seed room number answer' records' er f w =
      let e : cells_bytes u64_bytes answer' ++ records' ≡ import_bytes f.near text records = ap₂ (λ (x y : List ℕ). cells_bytes u64_bytes x ++ y) f.answers f.leaves in
      let all = cells_bytes u64_bytes answer' ++ records' in
      record { near = f.near; nearest = f.nearest; answered = answered all (import_bytes f.near text (lent_bytes seed room)) (e ∙ ap (import_bytes f.near text) er) w }

  -- the cells that are checked are those of the frame, r and t
  pub check_wrote : (file rows totals r t : List ℕ) (number : ℕ) (answer' : List ℕ) → rows ≡ r → totals ≡ t → CheckFace file rows totals number answer'
      → Wrote old 0 (cells_bytes u64_bytes answer') new to → Answered (check_bytes file r t) old new to
  unfolding check_bytes
  check_wrote file rows totals r t number answer' er et f w =
      let e : cells_bytes u64_bytes answer' ≡ check_bytes file r t = cc in
      answered (cells_bytes u64_bytes answer') (check_bytes file r t) e w

  -- the line stands at the start of its buffer
  pub line_wrote : (file text line line' : List ℕ) (k : ℕ) → 8_192 ≤ length line → Text (said file text) line line' k
      → Wrote old 0 (u32_bytes (length (take k line')) ++ take k line') new to → Answered (filed_bytes file text) old new to
  unfolding filed_bytes
  line_wrote file text line line' k l t w =
      let counted : List ℕ → List ℕ = λ bytes. u32_bytes (length bytes) ++ bytes in
      let front = take k line' in
      answered (counted front) (filed_bytes file text) (ap counted (text_front (said file text) line line' k l t)) w

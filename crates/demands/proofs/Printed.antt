-- What the program `account` prints is a filing of which `checker` says yes. Assumes nothing.
use mathlib.Core.Path.{◌≡◌, refl, sym, ap, ◌∙◌}
use mathlib.Core.List.{List, [], ◌∷◌, ◌++◌}
use Prim.Native.Nat.{ℕ, suc, ◌*◌, ◌^◌, ◌<◌, ◌≤◌}
use native.Mathlib.Omega.{arith}
use lib.ListN.{length, get_or, length-append}
use Rattle.law.specs.Numbers.{most_bytes}
use Rattle.law.specs.Words.{need}
use Rattle.law.proofs.Each.{Each, each_none, each_more, each_first, each_last}
use Rattle.law.proofs.Newest.{written}
use Rattle.rules.specs.Outfalls.{Line}
use Rattle.rules.specs.Row.{row_of, rows_of, totals_of}
use Rattle.rules.specs.Walk.{Accepted, outcome}
use Rattle.answers.proofs.Walks.{accepted_48}
use Rattle.answers.proofs.Rows.{row-long, rows_written}
use Rattle.text.specs.Numbers.{spaced}
use Rattle.text.specs.Line.{totals_line, yes_line}
use Rattle.text.proofs.Spaced.{spaced-most}
use Rattle.printed.specs.Program.{row_lines, total_line, printed_from, printed}
use Rattle.printed.proofs.Texts as printing
use Rattle.filing.specs.Filing.{filed_limit, read_of}
use Rattle.filing.proofs.Back.{Filed, text_of, read_back}
use Rattle.filed.specs.Filed.{against, checked}
use Rattle.filed.specs.Said.{against_read, checked_text, line_by, line_of, said}
use Rattle.filed.proofs.Saying.{not_long}
use Rattle.demands.specs.Filings.{Filing, on_paper, Right, PrintedAgrees}
use Rattle.demands.proofs.Filings.{totals_long, yes_if}

-- ---- numbers that 64 bits hold
all_below : (s : List ℕ) → ((i : ℕ) → get_or s i 0 < 2 ^ 64) → Each (λ n. n < filed_limit) s
all_below [] h = each_none
all_below (n ∷ s) h = each_more (h 0) (all_below s (λ i. h (suc i)))

each_row : (lines : List Line) → Each (λ n. n < filed_limit) (rows_of lines) → Each (λ x. Filed 7 (row_of x)) lines
unfolding rows_of
each_row [] e = each_none
each_row (x ∷ xs) e = each_more (record { long = row-long x; each = each_last _ (rows_of xs) (row_of x) e }) (each_row xs (each_first _ (rows_of xs) (row_of x) e))

-- ---- the printed text
lines_text : (lines : List Line) → row_lines lines ≡ text_of row_of lines
unfolding row_lines written
lines_text [] = refl
lines_text (x ∷ xs) = ap (λ (t : List ℕ). t ++ spaced (row_of x)) (lines_text xs)

lines_most : (lines : List Line) → length (row_lines lines) ≤ 148 * length lines
unfolding row_lines
lines_most [] = omega arith
lines_most (x ∷ xs) = omega (arith, lines_most xs, length-append (row_lines xs) (spaced (row_of x)), spaced-most (row_of x), row-long x)

module _ (file : List ℕ) (lines : List Line) (o : outcome file ≡ Accepted lines) (short : length file ≤ most_bytes)
    (fit : (i : ℕ) → get_or (rows_of lines ++ totals_of lines) i 0 < 2 ^ 64) where
  printed-is : printed file ≡ text_of row_of lines ++ totals_line (totals_of lines)
  unfolding printed_from total_line
  printed-is = sym (printing.not_long file short) ∙ ap printed_from o ∙ ap (λ (t : List ℕ). t ++ totals_line (totals_of lines)) (lines_text lines)

  printed-most : length (printed file) ≤ most_bytes
  unfolding totals_line
  printed-most =
      let t = totals_line (totals_of lines) in
      let s = spaced (totals_of lines) in
      omega (
        arith,
        ap length printed-is,
        length-append (text_of row_of lines) t,
        ap length (lines_text lines),
        lines_most lines,
        accepted_48 file lines o,
        length-append (116 ∷ 111 ∷ 116 ∷ 97 ∷ 108 ∷ 32 ∷ []) s,
        spaced-most (totals_of lines),
        totals_long lines,
      )

  read_is : read_of (printed file) ≡ record { number = 0; line = 0; cells = rows_of lines; totals = totals_of lines }
  read_is =
      let each = all_below (rows_of lines ++ totals_of lines) fit in
      ap read_of printed-is
      ∙ read_back row_of lines (totals_of lines) (each_row lines (each_first _ (rows_of lines) (totals_of lines) each))
      (record { long = totals_long lines; each = each_last _ (rows_of lines) (totals_of lines) each })
      ∙ ap (λ (cells : List ℕ). record { number = 0; line = 0; cells = cells; totals = totals_of lines }) (sym (rows_written lines))

  checked-is : checked_text file (printed file) ≡ checked file (rows_of lines) (totals_of lines)
  unfolding checked_text against_read checked against need
  checked-is = rw (read_is, o)

  says-yes : said file (printed file) ≡ yes_line
  unfolding on_paper line_of line_by
  says-yes =
      let x : Filing = record { file = file; rows = rows_of lines; totals = totals_of lines } in
      let right : Right x = record { lines = lines; accepted = o; rows_are = refl; totals_are = refl } in
      sym (not_long file (printed file) short printed-most)
      ∙ ap line_of (checked-is ∙ sym (yes_if x (totals_long lines) right))

pub printed-agrees : (file : List ℕ) → PrintedAgrees file
printed-agrees file lines o short fit = says-yes file lines o short fit

-- What the program `checker` says of a record file and the text of a filing, as the bytes of a line; 13.
use Rattle.std.specs.Prelude.{ℕ, List, [], ◌∷◌, length, leb, eqb}
use Rattle.law.specs.Numbers.{most_bytes}
use Rattle.law.specs.Words.{need, need_all}
use Rattle.rules.specs.OnPaper.{OnPaper}
use Rattle.rules.specs.Judge.{refuse}
use Rattle.rules.specs.Walk.{Outcome, Refused, Accepted, outcome}
use Rattle.text.specs.Line.{refused_line, yes_line, wrong_line}
use Rattle.filing.specs.Filing.{Read, read_of}
use Rattle.filed.specs.Filed.{refused_with, against_lines}

-- "the file's own come first"; then the text's, 19 and 20 with their line; "then 22"
unfoldable pub against_read : Read → Outcome → OnPaper
against_read t (Refused f) = refused_with f
against_read t (Accepted lines) = need (refused_with (refuse t.number t.line)) (eqb t.number 0) (against_lines t.cells t.totals lines)

-- what is said of the text of a filing
unfoldable pub checked_text : List ℕ → List ℕ → OnPaper
checked_text file text = against_read (read_of text) (outcome file)

-- "yes", "wrong ROW FIELD" or "refused N PLACE"
unfoldable pub line_by : ℕ → List ℕ → List ℕ
line_by number [] = yes_line
line_by number (place ∷ []) = refused_line (refuse number place)
line_by number (row ∷ field ∷ more) = wrong_line row field

unfoldable pub line_of : OnPaper → List ℕ
line_of p = line_by p.number p.values

-- 13, "program only: input over 65,536 bytes", comes before either is looked at
unfoldable pub said : List ℕ → List ℕ → List ℕ
said file text = need_all (refused_line (refuse 13 0)) (leb (length file) most_bytes ∷ leb (length text) most_bytes ∷ []) (line_of (checked_text file text))

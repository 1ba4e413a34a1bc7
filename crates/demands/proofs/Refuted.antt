-- What the edits in must-fail/ say is not only refused but false, each shown here by a case: half_the_allowance, next_line, next_head, rows_unwritten,
-- alone_does, named_cell_right, any_totals. Assumes nothing.
use mathlib.Core.Path.{◌≡◌, refl, sym, ap, ◌∙◌}
use mathlib.Core.Bool.{false}
use mathlib.Core.List.{List, [], ◌∷◌, ◌++◌, Memᴰ}
use Prim.Native.Nat.{ℕ, ◌+◌, ◌-◌, ◌*◌, ◌/◌, ◌^◌, ◌≤◌, ◌<◌}
use native.Mathlib.Omega.{arith}
use lib.ListN.{length, take, drop, get_or, replicate}
use lib.Dec.{leb}
use borrow.Author.Tests.{leb-false}
use Rattle.law.specs.Numbers.{per_gram, row_cells}
use Rattle.law.specs.Words.{apart}
use Rattle.rules.specs.{declared.Head.Head, Lines.StackLine, Outfalls.Line, Outfalls.OfStack, Outfalls.OfOutfall, Outfalls.head_of_line, Measured.of_stack, Method.method, Grams.grams, Row.row_of, Row.rows_of, Row.totals_of, Walk.Outcome, Walk.Refused, Walk.Accepted, Walk.begun, Walk.no_head, Walk.outcome, Opened.rules}
use Rattle.answers.specs.Heads.{heads_with, heads_in, heads_of}
use Rattle.allowance.specs.Exact.{exact_fill, exact_automatic}
use Rattle.allowance.specs.Allowance.{in_air, automatic_allowance}
use Rattle.allowance.specs.Opened.{allowances}
use Rattle.demands.specs.Example.{example}
use Rattle.filed.specs.Opened.{checks}
use Rattle.demands.proofs.Filings.{said_only}
use Rattle.demands.specs.Filings.{Filing, Agrees, Wrong, on_paper, Meets}
use Rattle.demands.specs.Demands.{Version, Keeps, Taken, Call, Lent, RefusesAll, EveryRowNear}
use Rattle.demands.proofs.Falsity.{differ}
use Rattle.demands.proofs.Files.{second, two, call_of, lent_all, given_all}
use Rattle.demands.proofs.Demands.{result_of, kept, demands}

lines_in : Outcome → List Line
lines_in (Refused f) = []
lines_in (Accepted lines) = lines

-- the example with every reading on the half that goes up: 20.125, 30.125, 40.875 mg/m3 and 1026796.5, 999999.5, 1000000.5 m3/h
high : List ℕ
unfolding example
high =
    take 27 example
    ++ (0 ∷ 0 ∷ 161 ∷ 65 ∷ 200 ∷ 174 ∷ 122 ∷ 73 ∷ [])
    ++ (0 ∷ 0 ∷ 241 ∷ 65 ∷ 248 ∷ 35 ∷ 116 ∷ 73 ∷ [])
    ++ replicate 8 0
    ++ (0 ∷ 128 ∷ 35 ∷ 66 ∷ 8 ∷ 36 ∷ 116 ∷ 73 ∷ [])
    ++ drop 59 example

stack_of : Line → StackLine
stack_of (OfStack x) = x
stack_of (OfOutfall x) = begun no_head

high_line : StackLine
high_line = stack_of (get_or (lines_in (outcome high)) 0 (OfStack (begun no_head)))

record High : Type 0 where
  accepted : outcome high ≡ Accepted (OfStack high_line ∷ [])
  by : method high_line ≡ 1
  over : leb (4 * apart (per_gram * grams high_line * 2 ^ 300) (exact_automatic exact_fill (of_stack high_line))) ((per_gram + automatic_allowance in_air (of_stack high_line) / 2) * 2 ^ 300) ≡ false

high_is : High
unfolding high high_line stack_of lines_in example allowances
high_is = record { accepted = refl; by = refl; over = refl }

below_not : (a b : ℕ) → b < a → a ≤ b → ⊥
below_not a b l h = omega arith

-- half the allowance
not_half : ((file : List ℕ) (lines : List Line) → outcome file ≡ Accepted lines → (x : StackLine) → Memᴰ (OfStack x) lines → method x ≡ 1
    → 4 * apart (per_gram * grams x * 2 ^ 300) (exact_automatic exact_fill (of_stack x)) ≤ (per_gram + automatic_allowance in_air (of_stack x) / 2) * 2 ^ 300) → ⊥
not_half h = below_not _ _ (leb-false _ _ high_is.over) (h high (OfStack high_line ∷ []) high_is.accepted high_line (Memᴰ.head refl) high_is.by)

-- the i-th row as that of the next line: `two` has rows of stacks 1 and 2
two_lines : List Line
two_lines = lines_in (outcome two)

record Two : Type 0 where
  accepted : outcome two ≡ Accepted two_lines
  some : length two_lines ≡ 2
  next_head : (get_or (heads_of two) (0 + 1) no_head).stack ≡ 2
  first_head : (head_of_line (get_or two_lines (length two_lines - 1 - 0) (OfStack (begun no_head)))).stack ≡ 1
  next : row_of (get_or two_lines (length two_lines - 1 - (0 + 1)) (OfStack (begun no_head))) ≡ 2 ∷ 2 ∷ 1 ∷ 136_500 ∷ 4 ∷ 1 ∷ 3 ∷ []

two_is : Two
unfolding two two_lines second lines_in example rules heads_in heads_with
two_is = record { accepted = refl; some = refl; next_head = refl; first_head = refl; next = refl }

not_next : ((v : Version) → Keeps v → (c : Call) → Lent c → (v c).answer.number ≡ 0 → (lines : List Line) → outcome c.file ≡ Accepted lines → (i : ℕ) → i < length lines
    → take 7 (drop (7 * i) (v c).rows) ≡ row_of (get_or lines (length lines - 1 - (i + 1)) (OfStack (begun no_head)))) → ⊥
unfolding result_of
not_next h =
    let e = h result_of (λ c l. kept c) (call_of two) lent_all.of_two given_all.of_two.number two_lines two_is.accepted 0 (omega (arith, two_is.some)) in
    let a : get_or (take 7 (drop (7 * 0) (result_of (call_of two)).rows)) 0 0 ≡ 1 = ap (λ (r : List ℕ). get_or (take 7 (drop (7 * 0) r)) 0 0) given_all.rows_two in
    differ _ _ _ _ a (ap (λ (r : List ℕ). get_or r 0 0) two_is.next) (omega arith) (ap (λ (r : List ℕ). get_or r 0 0) e)

-- the i-th row as that of the line that the next head opens: the second head of `two` is that of stack 2
not_head : ((file : List ℕ) (lines : List Line) → outcome file ≡ Accepted lines → (i : ℕ) → i < length lines
    → (other : Head) → get_or (heads_of file) (i + 1) other ≡ head_of_line (get_or lines (length lines - 1 - i) (OfStack (begun no_head)))) → ⊥
not_head h =
    let e = h two two_lines two_is.accepted 0 (omega (arith, two_is.some)) no_head in
    differ _ _ _ _ two_is.next_head two_is.first_head (omega arith) (ap (λ (x : Head). x.stack) e)

-- nothing written
not_unwritten : ((v : Version) → Keeps v → (a : Taken v 2 1) → (v a.call).rows ≡ a.call.rows) → ⊥
not_unwritten h = let w = (demands.two result_of (λ c l. kept c)).0.writes in w.1 (h result_of (λ c l. kept c) w.0)

-- demand 3 alone claimed to shut out what refuses everything
not_alone : ((v : Version) → RefusesAll v → EveryRowNear v → ⊥) → ⊥
not_alone h = h demands.alone.0.0 demands.alone.0.1 (demands.alone.1 demands.alone.0.0 demands.alone.0.1).0

-- ---- a filing beside the empty file, with a total that is not 0
abbrev wrong_total_lem : Filing
wrong_total_lem = record { file = []; rows = []; totals = 1 ∷ 0 ∷ 0 ∷ 0 ∷ 0 ∷ [] }

record WrongTotal : Type 0 where
  accepted : outcome [] ≡ Accepted []
  none : rows_of [] ≡ []
  named : Meets wrong_total_lem (Wrong 0 0)
  right : get_or (rows_of [] ++ totals_of []) 0 0 ≡ 0

wrong_total : WrongTotal
unfolding checks on_paper
wrong_total = record { accepted = refl; none = refl; named = refl; right = refl }

-- the named cell claimed to be right too
not_also_right : ((x : Filing) (row field : ℕ) → Meets x (Wrong row field) → (lines : List Line) → outcome x.file ≡ Accepted lines
    → (i : ℕ) → i ≤ row_cells * row + field → get_or (x.rows ++ x.totals) i 0 ≡ get_or (rows_of lines ++ totals_of lines) i 0) → ⊥
not_also_right h = let e = h wrong_total_lem 0 0 wrong_total.named [] wrong_total.accepted 0 (omega arith) ∙ wrong_total.right in omega (arith, e)

-- yes claimed of any totals
not_any_totals : ((x : Filing) (lines : List Line) → outcome x.file ≡ Accepted lines → x.rows ≡ rows_of lines → Meets x Agrees) → ⊥
not_any_totals h =
    let e = said_only Agrees (Wrong 0 0) (h wrong_total_lem [] wrong_total.accepted (sym wrong_total.none) ∙ sym wrong_total.named) in
    let z : ◌≡◌ {A = ℕ} 0 1 = cc in
    omega (arith, z)

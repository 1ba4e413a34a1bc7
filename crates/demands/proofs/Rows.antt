-- Row i is the row of the file's i-th line, and near. Assumes nothing.
use mathlib.Core.Path.{◌≡◌, ap, ◌∙◌}
use mathlib.Core.List.{List, ◌++◌}
use Prim.Native.Nat.{ℕ, ◌-◌, ◌*◌, ◌<◌}
use native.Mathlib.Omega.{arith}
use lib.ListN.{length, take, drop, get_or}
use Rattle.law.proofs.Newest.{mem_at, get_d_any}
use Rattle.rules.specs.Outfalls.{Line, OfStack}
use Rattle.rules.specs.Row.{rows_of}
use Rattle.rules.specs.Walk.{begun, no_head, Accepted, outcome}
use Rattle.answers.proofs.Rows.{row-of, fourth}
use Rattle.answers.proofs.Heads.{head_at}
use Rattle.allowance.proofs.Near.{every_line_near}
use Rattle.demands.specs.Demands.{RowNear}

pub row_near : (file : List ℕ) (lines : List Line) → outcome file ≡ Accepted lines → (rows rest : List ℕ) → rows ≡ rows_of lines ++ rest
    → (i : ℕ) → i < length lines → RowNear file lines rows i
row_near file lines o rows rest e i l =
    let d = OfStack (begun no_head) in
    let n = length lines - 1 - i in
    let k : length lines - 1 - i < length lines = omega arith in
    let r = ap (λ (cells : List ℕ). take 7 (drop (7 * i) cells)) e ∙ row-of d lines rest i l in
    record {
      line = get_or lines n d;
      place = λ other. get_d_any lines n other d k;
      opened = λ other. head_at file lines o d other i l;
      row = r;
      grams = fourth rows i (get_or lines n d) r;
      near = every_line_near file lines o (get_or lines n d) (mem_at lines n d k);
    }

-- Bytes written one behind the other. Assumes nothing.
use mathlib.Core.Path.{◌≡◌, refl, sym, ap, ◌∙◌, subst}
use mathlib.Core.List.{List, [], ◌∷◌, ◌++◌, append-nil, append_assoc}
use Prim.Native.Nat.{ℕ, suc, ◌+◌, ◌-◌, ◌<◌, ◌≤◌}
use native.Mathlib.Nat.{add-zero}
use native.Mathlib.Omega.{arith}
use lib.ListN.{length, take, drop, set, get_or, length-append, length-set}
use lib.Seq.{take-suc, take-suc-set, drop-set-lt, drop-drop, take-length}
use Rattle.law.specs.Written.{Wrote}

pub wrote_none : (old : List ℕ) (at : ℕ) → Wrote old at [] old at
wrote_none old at = record { ends = omega arith; says = sym (append-nil (take at old)); keeps = refl }

pub wrote_byte : (old : List ℕ) (at b : ℕ) → at < length old → Wrote old at (b ∷ []) (set old at b) (at + 1)
wrote_byte old at b l =
    let one : at + 1 ≡ suc at = omega arith in
    record {
      ends = refl;
      says = ap (λ (n : ℕ). take n (set old at b)) one ∙ take-suc-set old at b l;
      keeps = drop-set-lt (at + 1) old at b (omega arith);
    }

-- what is kept behind one place is kept behind a later one
kept_on : (old new : List ℕ) (i j : ℕ) → i ≤ j → drop i new ≡ drop i old → drop j new ≡ drop j old
kept_on old new i j l e =
    let n : i + (j - i) ≡ j = omega (arith, l) in
    ap (λ (k : ℕ). drop k new) (sym n) ∙ sym (drop-drop (j - i) i new) ∙ ap (drop (j - i)) e ∙ drop-drop (j - i) i old ∙ ap (λ (k : ℕ). drop k old) n

pub wrote_on : (a b c xs ys : List ℕ) (i j k : ℕ) → Wrote a i xs b j → Wrote b j ys c k → Wrote a i (xs ++ ys) c k
wrote_on a b c xs ys i j k p q =
    record {
      ends = omega (arith, p.ends, q.ends, length-append xs ys);
      says = q.says ∙ ap (λ (t : List ℕ). t ++ ys) p.says ∙ append_assoc (take i a) xs ys;
      keeps = q.keeps ∙ kept_on a b j k (omega (arith, q.ends)) p.keeps;
    }

pub wrote_as : (a b xs ys : List ℕ) (i j : ℕ) → xs ≡ ys → Wrote a i xs b j → Wrote a i ys b j
wrote_as a b xs ys i j e p = subst (λ (t : List ℕ). Wrote a i t b j) e p

-- ---- a loop that writes the bytes of a list: the first i are written
pub record Copying (old : List ℕ) (at : ℕ) (bytes text : List ℕ) (i : ℕ) : Type 0 where
  pub wrote : Wrote old at (take i bytes) text (at + i)
  pub most : i ≤ length bytes
  pub long : length text ≡ length old

pub copying_start : (old bytes : List ℕ) (at : ℕ) → Copying old at bytes old 0
copying_start old bytes at =
    record { wrote = subst (λ (k : ℕ). Wrote old at [] old k) (sym (add-zero at)) (wrote_none old at); most = omega arith; long = refl }

pub copying_on : (old text bytes : List ℕ) (at i b : ℕ) → Copying old at bytes text i → i < length bytes → at + length bytes ≤ length old → b ≡ get_or bytes i 0
    → Copying old at bytes (set text (at + i) b) (i + 1)
copying_on old text bytes at i b p l m e =
    let n : at + i + 1 ≡ at + (i + 1) = omega arith in
    let k : suc i ≡ i + 1 = omega arith in
    let one : take i bytes ++ (b ∷ []) ≡ take (i + 1) bytes =
    ap (λ (v : ℕ). take i bytes ++ (v ∷ [])) e ∙ sym (take-suc bytes i 0 l) ∙ ap (λ (j : ℕ). take j bytes) k in
    record {
      wrote =
          subst (λ (j : ℕ). Wrote old at (take (i + 1) bytes) (set text (at + i) b) j) n
          (wrote_as old (set text (at + i) b) (take i bytes ++ (b ∷ [])) (take (i + 1) bytes) at (at + i + 1) one
          (wrote_on old text (set text (at + i) b) (take i bytes) (b ∷ []) at (at + i) (at + i + 1) p.wrote (wrote_byte text (at + i) b (omega (arith, p.long, l, m)))));
      most = omega (arith, l);
      long = length-set text (at + i) b ∙ p.long;
    }

pub copying_done : (old text bytes : List ℕ) (at i : ℕ) → Copying old at bytes text i → length bytes ≤ i → Wrote old at bytes text (at + length bytes)
copying_done old text bytes at i p l =
    let e : i ≡ length bytes = omega (arith, p.most, l) in
    subst (λ (k : ℕ). Wrote old at bytes text (at + k)) e
    (wrote_as old text (take i bytes) bytes at (at + i) (ap (λ (k : ℕ). take k bytes) e ∙ take-length bytes) p.wrote)

-- Numbers written one behind the other, and read back. Assumes nothing.
use mathlib.Core.Path.{◌≡◌, refl, sym, ap, ◌∙◌, subst}
use mathlib.Core.List.{List, [], ◌∷◌, ◌++◌, append-nil, append_assoc}
use Prim.Native.Nat.{ℕ, zero, suc, ◌+◌, ◌*◌, ◌/◌, ◌%◌, ◌^◌, ◌<◌, ◌≤◌}
use native.Mathlib.Nat.{mul-zero, mul-suc}
use native.Mathlib.Numerals.{add-one}
use native.Mathlib.Omega.{arith}
use lib.ListN.{length, take, set, get_or, length-append, length-set}
use lib.Seq.{take-suc, take-length}
use Rattle.law.specs.Written.{Wrote}
use Rattle.law.proofs.Wrote.{wrote_none, wrote_byte, wrote_on, wrote_as}
use Rattle.field.specs.Bytes.{u32_bytes, u64_bytes, cells_bytes}
use Rattle.field.specs.Field.{u8, u16, u32}
use Rattle.field.proofs.Laws.{u32-from}

-- ---- four bytes, and twice four
pub wrote_four : (old : List ℕ) (at a b c d : ℕ) → at + 4 ≤ length old → Wrote old at (a ∷ b ∷ c ∷ d ∷ []) (set (set (set (set old at a) (at + 1) b) (at + 2) c) (at + 3) d) (at + 4)
wrote_four old at a b c d l =
    let one = set old at a in
    let two = set one (at + 1) b in
    let three = set two (at + 2) c in
    let l1 : length one ≡ length old = length-set old at a in
    let l2 : length two ≡ length old = length-set one (at + 1) b ∙ l1 in
    let l3 : length three ≡ length old = length-set two (at + 2) c ∙ l2 in
    let w1 : Wrote one (at + 1) (b ∷ []) two (at + 2) = wrote_to one two (b ∷ []) (at + 1) (at + 1 + 1) (at + 2) (omega arith) (wrote_byte one (at + 1) b (omega arith)) in
    let w2 : Wrote two (at + 2) (c ∷ []) three (at + 3) = wrote_to two three (c ∷ []) (at + 2) (at + 2 + 1) (at + 3) (omega arith) (wrote_byte two (at + 2) c (omega arith)) in
    let w3 : Wrote three (at + 3) (d ∷ []) (set three (at + 3) d) (at + 4) = wrote_to three (set three (at + 3) d) (d ∷ []) (at + 3) (at + 3 + 1) (at + 4) (omega arith) (wrote_byte three (at + 3) d (omega arith)) in
    wrote_on old three (set three (at + 3) d) (a ∷ b ∷ c ∷ []) (d ∷ []) at (at + 3) (at + 4)
    (wrote_on old two three (a ∷ b ∷ []) (c ∷ []) at (at + 2) (at + 3)
    (wrote_on old one two (a ∷ []) (b ∷ []) at (at + 1) (at + 2) (wrote_byte old at a (omega arith)) w1) w2) w3
  where
    wrote_to : (x y bytes : List ℕ) (i j k : ℕ) → j ≡ k → Wrote x i bytes y j → Wrote x i bytes y k
    wrote_to x y bytes i j k e w = subst (λ (n : ℕ). Wrote x i bytes y n) e w

pub u32-sized : (x : ℕ) → length (u32_bytes x) ≡ 4
unfolding u32_bytes
u32-sized x = refl

pub u64-sized : (x : ℕ) → length (u64_bytes x) ≡ 8
unfolding u32_bytes u64_bytes
u64-sized x = refl

module _ (old new : List ℕ) (at to x : ℕ) where
  pub u32-ends : Wrote old at (u32_bytes x) new to → to ≡ at + 4
  u32-ends w = omega (arith, w.ends, u32-sized x)

  pub u64-ends : Wrote old at (u64_bytes x) new to → to ≡ at + 8
  u64-ends w = omega (arith, w.ends, u64-sized x)

-- four writes, one behind the other
pub wrote_joined : (a b c d e ws xs ys zs : List ℕ) (i j k l m : ℕ) → Wrote a i ws b j → Wrote b j xs c k → Wrote c k ys d l → Wrote d l zs e m
    → Wrote a i (((ws ++ xs) ++ ys) ++ zs) e m
wrote_joined a b c d e ws xs ys zs i j k l m p q r s =
    wrote_on a d e ((ws ++ xs) ++ ys) zs i l m (wrote_on a c d (ws ++ xs) ys i k l (wrote_on a b c ws xs i j k p q) r) s

-- ---- a loop over cells of one width
module _ (bytes : ℕ → List ℕ) (width : ℕ) (sized : (x : ℕ) → length (bytes x) ≡ width) where
  pub cells-sized : (cells : List ℕ) → length (cells_bytes bytes cells) ≡ width * length cells
  unfolding cells_bytes
  cells-sized [] = sym (mul-zero width)
  cells-sized (x ∷ cells) = length-append (bytes x) (cells_bytes bytes cells) ∙ omega (arith, sized x, cells-sized cells, mul-suc width (length cells))

  pub cells-ends : (old new cells : List ℕ) (at to : ℕ) → Wrote old at (cells_bytes bytes cells) new to → to ≡ at + width * length cells
  cells-ends old new cells at to w = omega (arith, w.ends, cells-sized cells)

  cells-join : (xs ys : List ℕ) → cells_bytes bytes (xs ++ ys) ≡ cells_bytes bytes xs ++ cells_bytes bytes ys
  unfolding cells_bytes
  cells-join [] ys = refl
  cells-join (x ∷ xs) ys = ap (λ (t : List ℕ). bytes x ++ t) (cells-join xs ys) ∙ sym (append_assoc (bytes x) (cells_bytes bytes xs) (cells_bytes bytes ys))

  cells-one : (x : ℕ) → cells_bytes bytes (x ∷ []) ≡ bytes x
  unfolding cells_bytes
  cells-one x = append-nil (bytes x)

  -- the first i cells are written, up to `end`
  pub record Putting (old : List ℕ) (at : ℕ) (cells out : List ℕ) (end i : ℕ) : Type 0 where
    pub wrote : Wrote old at (cells_bytes bytes (take i cells)) out end
    pub ends : end ≡ at + width * i
    pub most : i ≤ length cells
    pub long : length out ≡ length old

  pub putting_start : (old cells : List ℕ) (at : ℕ) → Putting old at cells old at 0
  unfolding cells_bytes
  putting_start old cells at = record { wrote = wrote_none old at; ends = omega arith; most = omega arith; long = refl }

  pub putting_on : (old out out' cells : List ℕ) (at end end' i : ℕ) → Putting old at cells out end i → i < length cells → length out' ≡ length out → Wrote out end (bytes (get_or cells i 0)) out' end'
      → Putting old at cells out' end' (i + 1)
  putting_on old out out' cells at end end' i p l e w =
      let x = get_or cells i 0 in
      let more : cells_bytes bytes (take i cells) ++ bytes x ≡ cells_bytes bytes (take (i + 1) cells) =
      ap (λ (t : List ℕ). cells_bytes bytes (take i cells) ++ t) (sym (cells-one x))
      ∙ sym (cells-join (take i cells) (x ∷ []))
      ∙ ap (cells_bytes bytes) (sym (take-suc cells i 0 l))
      ∙ ap (λ (k : ℕ). cells_bytes bytes (take k cells)) (sym (add-one i)) in
      let wider : width * (i + 1) ≡ width * i + width = ap (λ (k : ℕ). width * k) (add-one i) ∙ mul-suc width i in
      record {
        wrote = wrote_as old out' (cells_bytes bytes (take i cells) ++ bytes x) (cells_bytes bytes (take (i + 1) cells)) at end' more
            (wrote_on old out out' (cells_bytes bytes (take i cells)) (bytes x) at end end' p.wrote w);
        ends = omega (arith, w.ends, p.ends, sized x, wider);
        most = omega (arith, l);
        long = e ∙ p.long;
      }

  pub putting_done : (old out cells : List ℕ) (at end i : ℕ) → Putting old at cells out end i → length cells ≤ i → Wrote old at (cells_bytes bytes cells) out end
  putting_done old out cells at end i p l =
      let e : i ≡ length cells = omega (arith, p.most, l) in
      wrote_as old out (cells_bytes bytes (take i cells)) (cells_bytes bytes cells) at end (ap (λ (k : ℕ). cells_bytes bytes (take k cells)) e ∙ ap (cells_bytes bytes) (take-length cells)) p.wrote

-- ---- what is written is read back
pub four_back : (x : ℕ) → x < 2 ^ 32 → x % 256 + 256 * (x / 256 % 256) + 65_536 * (x / 256 / 256 % 256 + 256 * (x / 256 / 256 / 256 % 256)) ≡ x
four_back x l = omega arith

pub cell_back : (cells rest : List ℕ) (k : ℕ) → k < length cells → get_or cells k 0 < 2 ^ 32 → u32 (cells_bytes u32_bytes cells ++ rest) (4 * k) ≡ get_or cells k 0
unfolding cells_bytes u32_bytes u32 u16 u8
cell_back [] rest k l m = absurd (omega arith)
cell_back (x ∷ cells) rest zero l m = four_back x m
cell_back (x ∷ cells) rest (suc k) l m =
    let bytes = cells_bytes u32_bytes (x ∷ cells) ++ rest in
    ap (u32 bytes) (let e : 4 * suc k ≡ 4 + 4 * k = omega arith in e) ∙ sym (u32-from 4 bytes (4 * k)) ∙ cell_back cells rest k (omega arith) m

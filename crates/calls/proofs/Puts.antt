-- Numbers and bytes written one behind the other. Assumes nothing.
use Rattle.std.proofs.Common.{◌≡◌, ℕ, ◌+◌, ◌-◌, ◌*◌, ◌/◌, ◌%◌, ◌≤◌, ◌<◌, List, [], ◌∷◌, ◌++◌, length, take, drop, set, sym, refl, ap, ap₂, ◌∙◌, arith, length-take-le, drop_at, take_at, w32, w64}
use Rattle.std.proofs.lemmas.List.{flat_map_more}
use Rattle.std.specs.Int.{to_le_bytes}
use Rattle.std.specs.List.{flat_map}
use borrow.Rule.Slice.PartMut.{put_mid, post_of, take_put, drop_put}
use lib.Seq.{take-add, take-suc-set}
use native.Mathlib.Nat.{mul-suc}
use native.Mathlib.Numerals.{add-one}
use Rattle.law.specs.Words.{table}
use Rattle.law.specs.Written.{Wrote}
use Rattle.law.proofs.Wrote.{wrote_on, wrote_as}
use Rattle.field.specs.Bytes.{u32_bytes, u64_bytes, cells_bytes}
use Rattle.calls.specs.Answers.{left_bytes}

-- a part of a buffer with bytes in its place
pub wrote_part : (old bytes got : List ℕ) (at : ℕ) → at + length bytes ≤ length old → got ≡ bytes
    → Wrote old at bytes (put_mid at (at + length bytes - at) old got) (at + length bytes)
wrote_part old bytes got at l e =
    let to = at + length bytes in
    let new = put_mid at (to - at) old got in
    let within : at ≤ length old = omega (arith, l) in
    let size : to - at ≡ length got = omega (arith, ap length e) in
    record {
      ends = refl;
      says =
          take-add at (length bytes) new
          ∙ ap (λ (t : List ℕ). t ++ take (length bytes) (drop at new)) (take_put at (to - at) old got within)
          ∙ ap (λ (t : List ℕ). take at old ++ take (length bytes) t) (drop_at (take at old) (got ++ post_of at (to - at) old) at (length-take-le at old within))
          ∙ ap (λ (t : List ℕ). take at old ++ t) (take_at got (post_of at (to - at) old) (length bytes) (ap length e))
          ∙ ap (λ (t : List ℕ). take at old ++ t) e;
      keeps = drop_put at to old got (omega arith) l (omega (arith, ap length e));
    }

-- the bytes of a number are std's
pub u32-little : (x : ℕ) → to_le_bytes w32 x ≡ u32_bytes x
unfolding u32_bytes
u32-little x =
    let c : x / 65_536 ≡ x / 256 / 256 = omega arith in
    let d : x / 16_777_216 ≡ x / 256 / 256 / 256 = omega arith in
    ap₂ (λ (u v : ℕ). x % 256 ∷ x / 256 % 256 ∷ u % 256 ∷ v % 256 ∷ []) c d

pub u64-little : (x : ℕ) → to_le_bytes w64 x ≡ u64_bytes x
unfolding u32_bytes u64_bytes
u64-little x =
    let low = x % 4_294_967_296 in
    let high = x / 4_294_967_296 in
    let a : x % 256 ≡ low % 256 = omega arith in
    let b : x / 256 % 256 ≡ low / 256 % 256 = omega arith in
    let c : x / 65_536 % 256 ≡ low / 256 / 256 % 256 = omega arith in
    let d : x / 16_777_216 % 256 ≡ low / 256 / 256 / 256 % 256 = omega arith in
    let f : x / 1_099_511_627_776 ≡ high / 256 = omega arith in
    let g : x / 281_474_976_710_656 ≡ high / 256 / 256 = omega arith in
    let h : x / 72_057_594_037_927_936 ≡ high / 256 / 256 / 256 = omega arith in
    let e : to_le_bytes w64 x ≡ u64_bytes x = cc in e

-- cells one behind the other, in std's word
pub cells_flat : (bytes : ℕ → List ℕ) (cells : List ℕ) → flat_map bytes cells ≡ cells_bytes bytes cells
unfolding cells_bytes
cells_flat bytes [] = refl
cells_flat bytes (x ∷ cells) = ap (λ (t : List ℕ). bytes x ++ t) (cells_flat bytes cells)

-- one cell more, of a width
pub put_more : {N : Type 0} (bytes : N → List ℕ) (old out out' : List ℕ) (at end end' i : ℕ) (cells : List N) (x : N)
    → take (i + 1) cells ≡ take i cells ++ x ∷ [] → Wrote old at (flat_map bytes (take i cells)) out end → Wrote out end (bytes x) out' end'
    → Wrote old at (flat_map bytes (take (i + 1) cells)) out' end'
put_more bytes old out out' at end end' i cells x e p q =
    wrote_as old out' _ _ at end' (flat_map_more bytes [] (take i cells) x ∙ ap (flat_map bytes) (sym e)) (wrote_on old out out' _ (bytes x) at end end' p q)

pub width_more : (width i at end to : ℕ) → end ≡ at + width * i → to ≡ end + width → to ≡ at + width * (i + 1)
width_more width i at end to e p = let m : width * (i + 1) ≡ width * i + width = ap (λ (k : ℕ). width * k) (add-one i) ∙ mul-suc width i in omega arith

-- one cell more is filled
pub filled_more : {A : Type 0} (f : ℕ → A) (cells : List A) (i : ℕ) (v : A) → i < length cells → take i cells ≡ table f i → v ≡ f i
    → take (i + 1) (set cells i v) ≡ table f (i + 1)
unfolding table
filled_more f cells i v l e p =
    ap (λ (k : ℕ). take k (set cells i v)) (add-one i) ∙ take-suc-set cells i v l ∙ ap₂ (λ t x. t ++ x ∷ []) e p ∙ ap (table f) (sym (add-one i))

pub filled_none : {A : Type 0} (f : ℕ → A) → [] ≡ table f 0
unfolding table
filled_none f = refl

module _ (old a b c new : List ℕ) (i j k to : ℕ) where
  -- four writes, one behind the other
  pub four_wrote : (ws xs ys zs : List ℕ) → Wrote old 0 ws a i → Wrote a i xs b j → Wrote b j ys c k → Wrote c k zs new to → Wrote old 0 (((ws ++ xs) ++ ys) ++ zs) new to
  four_wrote ws xs ys zs p q r s =
      wrote_on old c new ((ws ++ xs) ++ ys) zs 0 k to (wrote_on old b c (ws ++ xs) ys 0 j k (wrote_on old a b ws xs 0 i j p q) r) s

  -- all that an account call leaves
  pub left_wrote : (answer rows concentrations flows : List ℕ) → Wrote old 0 (flat_map u64_bytes answer) a i → Wrote a i (flat_map u64_bytes rows) b j
      → Wrote b j (flat_map u32_bytes concentrations) c k → Wrote c k (flat_map u32_bytes flows) new to → Wrote old 0 (left_bytes answer rows concentrations flows) new to
  unfolding left_bytes
  left_wrote answer rows concentrations flows p q r s =
      four_wrote _ _ _ _ (wrote_as _ _ _ _ _ _ (cells_flat u64_bytes answer) p) (wrote_as _ _ _ _ _ _ (cells_flat u64_bytes rows) q)
      (wrote_as _ _ _ _ _ _ (cells_flat u32_bytes concentrations) r) (wrote_as _ _ _ _ _ _ (cells_flat u32_bytes flows) s)

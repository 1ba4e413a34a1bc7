-- Lists that hold the newest first, written out with the oldest first, n cells each: what stands at block i. Assumes nothing.
use mathlib.Core.Path.{◌≡◌, refl, ap, ◌∙◌}
use mathlib.Core.Bool.{Bool, true, false}
use mathlib.Core.List.{List, [], ◌∷◌, ◌++◌, append_assoc, Memᴰ}
use Prim.Native.Nat.{ℕ, zero, suc, ◌-◌, ◌*◌, ◌<◌}
use native.Mathlib.Nat.{mul-zero, mul-suc}
use native.Mathlib.Omega.{arith}
use lib.ListN.{length, take, drop, get_or, length-append}
use lib.Seq.{take_at, drop_at}
use lib.Dec.{ltb}
use borrow.Author.Tests.{ltb-true, ltb-false}

-- an element that is there is among them, whatever would stand for one that is not
module _ {A : Type 0} where
  pub mem_at : (xs : List A) (k : ℕ) (d : A) → k < length xs → Memᴰ (get_or xs k d) xs
  mem_at [] k d l = absurd (omega arith)
  mem_at (x ∷ xs) zero d l = Memᴰ.head refl
  mem_at (x ∷ xs) (suc k) d l = Memᴰ.tail (mem_at xs k d (omega arith))

  pub get_d_any : (xs : List A) (k : ℕ) (d e : A) → k < length xs → get_or xs k d ≡ get_or xs k e
  get_d_any [] k d e l = absurd (omega arith)
  get_d_any (x ∷ xs) zero d e l = refl
  get_d_any (x ∷ xs) (suc k) d e l = get_d_any xs k d e (omega arith)

module _ {A B : Type 0} (f : A → List B) where
  unfoldable pub written : List A → List B
  written [] = []
  written (x ∷ xs) = written xs ++ f x

  module _ (n : ℕ) (long : (x : A) → length (f x) ≡ n) where
    pub written-long : (xs : List A) → length (written xs) ≡ n * length xs
    unfolding written
    written-long [] = simp mul-zero
    written-long (x ∷ xs) = length-append (written xs) (f x) ∙ simp (written-long xs, long x, mul-suc)

    -- the block behind those of the elements before
    pub block_behind : (xs : List A) (x : A) (rest : List B) → take n (drop (n * length xs) (written xs ++ f x ++ rest)) ≡ f x
    block_behind xs x rest =
        ap (take n) (ap (drop (n * length xs)) (append_assoc (written xs) (f x) rest) ∙ drop_at (written xs) (f x ++ rest) (n * length xs) (written-long xs))
        ∙ take_at (f x) rest n (long x)

    -- of the oldest the block stands first
    pub block_at : (d : A) (xs : List A) (rest : List B) (i : ℕ) → i < length xs → take n (drop (n * i) (written xs ++ rest)) ≡ f (get_or xs (length xs - 1 - i) d)
    unfolding written
    block_at d [] rest i l = absurd (omega arith)
    block_at d (x ∷ xs) rest i l = by (ltb i (length xs)) refl (block_at d xs (f x ++ rest) i)
      where
        by : (t : Bool) → ltb i (length xs) ≡ t → (i < length xs → take n (drop (n * i) (written xs ++ (f x ++ rest))) ≡ f (get_or xs (length xs - 1 - i) d))
            → take n (drop (n * i) (written xs ++ f x ++ rest)) ≡ f (get_or (x ∷ xs) (suc (length xs) - 1 - i) d)
        by true e r =
            let h : i < length xs = ltb-true i (length xs) e in
            let k : suc (length xs - 1 - i) ≡ suc (length xs) - 1 - i = omega arith in
            ap (λ (cells : List B). take n (drop (n * i) cells)) (append_assoc (written xs) (f x) rest) ∙ r h ∙ ap (λ (j : ℕ). f (get_or (x ∷ xs) j d)) k
        by false e r =
            let m : i ≡ length xs = omega (arith, ltb-false i (length xs) e) in
            let k : 0 ≡ suc (length xs) - 1 - i = omega arith in
            ap (λ (j : ℕ). take n (drop (n * j) (written xs ++ f x ++ rest))) m ∙ block_behind xs x rest ∙ ap (λ (j : ℕ). f (get_or (x ∷ xs) j d)) k

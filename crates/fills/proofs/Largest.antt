-- The largest of a list, whichever way the list is read, and a list by its ends. Assumes nothing.
use mathlib.Core.Path.{◌≡◌, refl, ◌∙◌, sym, ap}
use mathlib.Core.List.{List, [], ◌∷◌, ◌++◌, reverse, reverse-cons, reverse-append}
use mathlib.Core.Bool.{Bool, true, false}
use Prim.Native.Nat.{ℕ, suc, ◌+◌, ◌-◌, ◌<◌, ◌≤◌, min, max}
use native.Mathlib.Omega.{arith}
use lib.ListN.{length, get_or, take, drop, length-drop, length-reverse, take-append-drop}
use lib.Seq.{take-suc, take_at, take_all, take-length, take-add, drop_at, length-take-le}
use lib.Dec.{leb}
use borrow.Author.Tests.{leb-true, leb-false}
use Rattle.std.specs.Prelude.{unwrap_or, fold}
use Rattle.std.specs.List.{reduce}
use Rattle.law.specs.Words.{largest}

pub largest-append : (s t : List ℕ) → largest (s ++ t) ≡ max (largest s) (largest t)
unfolding largest
largest-append [] t = omega arith
largest-append (v ∷ s) t = omega (arith, largest-append s t)

most_of : (v : ℕ) (s : List ℕ) → fold max v s ≡ max v (largest s)
unfolding largest
most_of v [] = omega arith
most_of v (w ∷ s) = omega (arith, most_of (max v w) s)

pub largest_is : (s : List ℕ) → unwrap_or (reduce max s) 0 ≡ largest s
unfolding largest
largest_is [] = refl
largest_is (v ∷ s) = most_of v s

pub largest-reverse : (s : List ℕ) → largest (reverse s) ≡ largest s
unfolding largest
largest-reverse [] = refl
largest-reverse (v ∷ s) = ap largest (reverse-cons v s) ∙ largest-append (reverse s) (v ∷ []) ∙ omega (arith, largest-reverse s)

-- the last c, nearest first, are the part that starts c before the end
last_part : (c : ℕ) (s : List ℕ) → c ≤ length s → take c (reverse s) ≡ reverse (drop (length s - c) s)
last_part c s l =
    let a = length s - c in
    let e : length (reverse (drop a s)) ≡ c = length-reverse (drop a s) ∙ omega (arith, length-drop a s) in
    ap (λ (t : List ℕ). take c (reverse t)) (sym (take-append-drop a s)) ∙ ap (take c) (reverse-append (take a s) (drop a s)) ∙ take_at (reverse (drop a s)) (reverse (take a s)) c e

largest-last : (c : ℕ) (s : List ℕ) → c ≤ length s → largest (drop (length s - c) s) ≡ largest (take c (reverse s))
largest-last c s l = sym (ap largest (last_part c s l) ∙ largest-reverse (drop (length s - c) s))

-- the first w, or all if fewer
few_by : (w : ℕ) (s : List ℕ) (t : Bool) → leb (length s) w ≡ t → take (min (length s) w) s ≡ take w s
few_by w s true e =
    let l = leb-true (length s) w e in
    ap (λ (k : ℕ). take k s) (let m : min (length s) w ≡ length s = omega arith in m) ∙ take-length s ∙ sym (take_all w s l)
few_by w s false e =
    let l = leb-false (length s) w e in
    ap (λ (k : ℕ). take k s) (let m : min (length s) w ≡ w = omega arith in m)

pub take-few : (w : ℕ) (s : List ℕ) → take (min (length s) w) s ≡ take w s
take-few w s = few_by w s (leb (length s) w) refl

-- the last w of the first b, or all if fewer, nearest first
pub largest-before : (w b : ℕ) (s : List ℕ) → b ≤ length s → largest (take (b - (b - w)) (drop (b - w) s)) ≡ largest (take w (reverse (take b s)))
largest-before w b s l =
    let a = b - w in
    let t = take b s in
    let size : length t ≡ b = length-take-le b s l in
    let long : length (reverse t) ≡ b = length-reverse t ∙ size in
    let cut : take b s ≡ take a s ++ take (b - a) (drop a s) = ap (λ (k : ℕ). take k s) (let z : b ≡ a + (b - a) = omega arith in z) ∙ take-add a (b - a) s in
    let part : drop a t ≡ take (b - a) (drop a s) = ap (drop a) cut ∙ drop_at (take a s) (take (b - a) (drop a s)) a (length-take-le a s (omega arith)) in
    ap largest (sym part)
    ∙ ap (λ (n : ℕ). largest (drop n t)) (let z : a ≡ length t - (b - a) = omega arith in z)
    ∙ largest-last (b - a) t (omega arith)
    ∙ ap (λ (k : ℕ). largest (take k (reverse t))) (let z : b - a ≡ min (length (reverse t)) w = omega arith in z)
    ∙ ap largest (take-few w (reverse t))

-- a list by its ends
pub last_before : (b : ℕ) (s : List ℕ) → 0 < b → b ≤ length s → reverse (take b s) ≡ get_or s (b - 1) 0 ∷ reverse (take (b - 1) s)
last_before b s l m =
    let j = b - 1 in
    ap (λ (k : ℕ). reverse (take k s)) (let e : b ≡ suc j = omega arith in e) ∙ ap reverse (take-suc s j 0 (omega arith)) ∙ reverse-append (take j s) (get_or s j 0 ∷ [])

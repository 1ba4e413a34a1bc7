-- `panel::Panel::add` meets its contract: the limit is tested in whole numbers, and the f64 sum is exact below it. Assumes nothing.
use Rattle.std.proofs.Common.{◌≡◌, ℕ, ◌+◌, ◌*◌, ◌^◌, ◌≤◌, T, true, sym, ap, ap₂, ◌∙◌, subst, mul-le-mul, arith, rules}
use lib.Ieee.{Float, binary64, fits, to_unsigned}
use Rattle.panel.specs.Lawful.{whole, lawful_total, as_total}
use Rattle.panel.specs.Panel.{unchanged, counted}
use Rattle.panel.proofs.Whole.{castable, whole-cast, whole_le, add_exact}
use Rattle.panel.proofs.Laws.{added-over, added-sum}
use Rattle.panel.proofs.Panel.add.Goals as goal

-- ---- the total is lawful
lawfully : (x : Float) → lawful_total x ≡ true → T (lawful_total x)
lawfully x l = subst T (sym l) tt

same : (x : Float) → lawful_total x ≡ true → whole x ≡ to_unsigned 64 x
same x l = whole-cast x (lawfully x l)

top : (x : Float) → T (fits binary64 x) → lawful_total x ≡ true → whole x ≤ 2 ^ 53
top x f l = whole_le x f (lawfully x l)

product_le : (a b : ℕ) → a ≤ 4_294_967_295 → b ≤ 4_294_967_295 → a * b ≤ 4_294_967_295 * 4_294_967_295
product_le a b h k = mul-le-mul h k

pub float_to_int-self : goal.float_to_int-self
float_to_int-self c = castable _ (lawfully _ c.requires.0)

pub overflow_sub-self : goal.overflow_sub-self
overflow_sub-self c =
    let f : T (fits binary64 c.args.self.now.total) = search rules in
    omega (arith, same _ c.requires.0, top _ f c.requires.0)

pub returns-then-product-self : goal.returns-then-product-self
unfolding unchanged
returns-then-product-self c =
    let p = c.args.self.now in
    let f : T (fits binary64 p.total) = search rules in
    let e : c.from.result * c.from-2.result ≡ c.args.c * c.args.l = ap₂ (λ (a b : ℕ). a * b) c.from.ensures c.from-2.ensures in
    sym (added-over p (c.args.c * c.args.l) (omega (arith, c.if-product-self.true, same _ c.requires.0, top _ f c.requires.0)))

pub returns : goal.returns
unfolding counted as_total
returns c =
    let p = c.args.self.now in
    let q = c.args.c * c.args.l in
    let f : T (fits binary64 p.total) = search rules in
    let e : c.from.result * c.from-2.result ≡ q = ap₂ (λ (a b : ℕ). a * b) c.from.ensures c.from-2.ensures in
    let h : whole p.total + q ≤ 2 ^ 53 = omega (arith, c.if-product-self.false, same _ c.requires.0, top _ f c.requires.0) in
    rw e (ap (λ (y : Float). counted p y p.missing) (add_exact p.total q f (lawfully _ c.requires.0) h) ∙ sym (added-sum p q h))

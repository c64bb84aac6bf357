-- The inverse of an odd number modulo 4,294,967,296, and of a map whose a is odd (S-6): both compositions are the identity, no other map
-- undoes it, values come back, and the pair fuses to the identity.
-- Assumes nothing.
use mathlib.Core.Path.{◌≡◌, refl, sym, ◌∙◌, ap}
use Prim.Native.Nat.{ℕ, suc, ◌+◌, ◌*◌, ◌%◌, ◌/◌, ◌≤◌, ◌<◌}
use native.Mathlib.Nat.{mul_comm, mul_assoc, mul-le-mul_left, mul-mod_right, mod-lt, mod-add-mod, add-mod-mod, add-mul-mod_self_left, div-add-mod, mod-eq_of_lt}
use native.Mathlib.Omega.{arith}
use mathlib.Core.Bool.{Bool, true, false, cond}
use mathlib.Core.List.{[], ◌∷◌, ◌++◌}
use lib.Dec.{lit≤}
use borrow.Author.Tests.{eqb-true, eqb-false}
use Rattle.graph.specs.declared.affine.Affine.{Affine}
use Rattle.graph.specs.declared.act.Act.{Act}
use Rattle.graph.specs.Words.{modulus}
use Rattle.graph.specs.Affine.{mul_add, applied, identity, composed, minus_one, newton_step, inverse_of, is_odd, inverse}
use Rattle.graph.specs.Acts.{affine_of}
use Rattle.graph.specs.Nodes.{Op}
use Rattle.graph.specs.Refusals.{refused, done}
use Rattle.graph.specs.Steps.{fused}
use Rattle.graph.specs.declared.act.Act.TheVariants.{Map}
use Rattle.graph.specs.TakenBack.{Inverts, LacksInverse, MapAndUnmap, map_first, unmap_first, FusedToIdentity}
use Rattle.graph.proofs.AffineLaws.{mod_mul, mod_mul_add, applied_composed, applied_identity, Fits, identity_composed, composed_identity, composed_composed}

-- t is 1 modulo d, and not 0
record OneModulo (d t : ℕ) : Type 0 where
  times : ℕ
  is : t ≡ 1 + d * times

-- a remainder of such a number is such a number
split_go : (d q w r z : ℕ) → q * z + r ≡ w → 1 + d * w ≡ 1 + d * r + d * q * z
split_go d q w r z e = omega (arith, ap (λ (k : ℕ). d * k) e, mul_assoc d q z)

below : (d q r : ℕ) → 1 < d → r < q → 1 + d * r < d * q
below d q r h g =
    let e : d * suc r ≤ d * q = mul-le-mul_left d g in
    omega (arith, e)

one_mod : (d q w : ℕ) → 1 < d → 0 < q → (1 + d * w) % (d * q) ≡ 1 + d * (w % q)
one_mod d q w h g =
    ap (λ (k : ℕ). k % (d * q)) (split_go d q w (w % q) (w / q) (div-add-mod w q))
    ∙ add-mul-mod_self_left (1 + d * (w % q)) (d * q) (w / q)
    ∙ mod-eq_of_lt (below d q (w % q) h (mod-lt w g))

-- t × (2 − t) is 1 − s × s, where t is 1 + s; n stands for −1
square : (n s : ℕ) → (1 + s) * (n * (1 + s) + 2) ≡ 1 + (n + 1) * (1 + 2 * s) + n * (s * s)
square n s = omega arith

gather : (d q n z : ℕ) → 1 + d * d * q * (1 + 2 * (d * z)) + n * (d * z * (d * z)) ≡ 1 + d * d * (q * (1 + 2 * (d * z)) + n * (z * z))
gather d q n z = omega arith

squared : (d q n t : ℕ) → n + 1 ≡ d * d * q → 1 < d * d → 0 < q → OneModulo d t → OneModulo (d * d) ((t * (n * t + 2)) % (d * d * q))
squared d q n t e h g f =
    let z = f.times in
    let w : ℕ = q * (1 + 2 * (d * z)) + n * (z * z) in
    let is : t * (n * t + 2) ≡ 1 + d * d * w =
    ap (λ (k : ℕ). k * (n * k + 2)) f.is ∙ square n (d * z) ∙ ap (λ (k : ℕ). 1 + k * (1 + 2 * (d * z)) + n * (d * z * (d * z))) e ∙ gather d q n z in
    record { times = w % q; is = ap (λ (k : ℕ). k % (d * d * q)) is ∙ one_mod (d * d) q w h g }

-- a × (the next x), for any modulus m and n in the place of −1
turn_left : (a x u : ℕ) → a * (x * u + 0) + 0 ≡ u * (a * x + 0)
turn_left a x u = omega arith

next_mod : (m n a x : ℕ) → (a * ((x * ((n * ((a * x + 0) % m) + 2) % m) + 0) % m) + 0) % m ≡ ((a * x + 0) % m * (n * ((a * x + 0) % m) + 2)) % m
next_mod m n a x =
    let t : ℕ = (a * x + 0) % m in
    let u : ℕ = (n * t + 2) % m in
    mod_mul_add m a (x * u + 0) 0
    ∙ ap (λ (k : ℕ). k % m) (turn_left a x u)
    ∙ sym (mod_mul m u (a * x + 0))
    ∙ ap (λ (k : ℕ). k % m) (mul_comm u t)
    ∙ mod_mul m t (n * t + 2)

step : (d q : ℕ) → d * d * q ≡ modulus → 1 < d * d → 0 < q → (a x : ℕ) → OneModulo d (mul_add a x 0) → OneModulo (d * d) (mul_add a (newton_step a x) 0)
step d q e h g a x f =
    let r = squared d q minus_one (mul_add a x 0) (sym e) h g f in
    record { times = r.times; is = next_mod modulus minus_one a x ∙ ap (λ (k : ℕ). (mul_add a x 0 * (minus_one * mul_add a x 0 + 2)) % k) (sym e) ∙ r.is }

-- an odd number's square is 1 more than a multiple of 4
odd_square : (c a : ℕ) → 2 * c + 1 ≡ a → a * a + 0 ≡ 1 + 4 * (c * c + c)
odd_square c a e = ap (λ (k : ℕ). k * k + 0) (sym e) ∙ go c
  where
    go : (c : ℕ) → (2 * c + 1) * (2 * c + 1) + 0 ≡ 1 + 4 * (c * c + c)
    go c = omega arith

first : (a : ℕ) → is_odd a ≡ true → OneModulo 4 (mul_add a a 0)
first a o =
    let c : ℕ = a / 2 in
    let e : 2 * c + 1 ≡ a = ap (λ (k : ℕ). 2 * c + k) (sym (eqb-true (a % 2) 1 o)) ∙ div-add-mod a 2 in
    record { times = (c * c + c) % 1073741824; is = ap (λ (k : ℕ). k % modulus) (odd_square c a e) ∙ one_mod 4 1073741824 (c * c + c) (omega arith) (omega arith) }

-- a × its inverse is 1
pub inverse_times : (a : ℕ) → is_odd a ≡ true → mul_add a (inverse_of a) 0 ≡ 1
inverse_times a o =
    let x1 = newton_step a a in
    let x2 = newton_step a x1 in
    let x3 = newton_step a x2 in
    let e1 = step 4 268435456 refl (omega arith) (omega arith) a a (first a o) in
    let e2 = step 16 16777216 refl (omega arith) (omega arith) a x1 e1 in
    let e3 = step 256 65536 refl (omega arith) (omega arith) a x2 e2 in
    let e4 = step 65536 1 refl (omega arith) (omega arith) a x3 e3 in
    only_one (mul_add a (newton_step a x3) 0) (mod-lt (a * newton_step a x3 + 0) (lit≤ tt)) e4.times e4.is
  where
    only_one : (t : ℕ) → t < 4294967296 → (z : ℕ) → t ≡ 1 + 4294967296 * z → t ≡ 1
    only_one t h z e = omega (arith, e)

-- a map and its inverse, for any modulus n + 1
cancel : (n y : ℕ) → (y + (n * ((y + 0) % (n + 1)) + 0) % (n + 1)) % (n + 1) ≡ 0
cancel n y =
    add-mod-mod y (n * ((y + 0) % (n + 1)) + 0) (n + 1)
    ∙ sym (mod-add-mod y (n + 1) _)
    ∙ ap (λ (k : ℕ). (y % (n + 1) + (n * (k % (n + 1)) + 0)) % (n + 1)) (zero_right y)
    ∙ ap (λ (k : ℕ). k % (n + 1)) (whole n (y % (n + 1)))
    ∙ mul-mod_right (n + 1) (y % (n + 1))
  where
    zero_right : (y : ℕ) → y + 0 ≡ y
    zero_right y = omega arith

    whole : (n r : ℕ) → r + (n * r + 0) ≡ (n + 1) * r
    whole n r = omega arith

undo : (n a x b : ℕ) → (a * x + 0) % (n + 1) ≡ 1 → (a * ((n * ((x * b + 0) % (n + 1)) + 0) % (n + 1)) + b) % (n + 1) ≡ 0
undo n a x b e =
    mod_mul_add (n + 1) a (n * ((x * b + 0) % (n + 1)) + 0) b
    ∙ ap (λ (k : ℕ). k % (n + 1)) (left a n ((x * b + 0) % (n + 1)) b)
    ∙ mod_mul_add (n + 1) (a * n) (x * b + 0) b
    ∙ ap (λ (k : ℕ). k % (n + 1)) (right a n x b)
    ∙ sym (mod_mul_add (n + 1) (n * b) (a * x + 0) b)
    ∙ ap (λ (k : ℕ). (n * b * k + b) % (n + 1)) e
    ∙ ap (λ (k : ℕ). k % (n + 1)) (whole n b)
    ∙ mul-mod_right (n + 1) b
  where
    left : (a n r b : ℕ) → a * (n * r + 0) + b ≡ a * n * r + b
    left a n r b = omega arith

    right : (a n x b : ℕ) → a * n * (x * b + 0) + b ≡ n * b * (a * x + 0) + b
    right a n x b = omega arith

    whole : (n b : ℕ) → n * b * 1 + b ≡ (n + 1) * b
    whole n b = omega arith

-- "A pair fused is the identity", "in either order"
pub composed_inverse : (m : Affine) → is_odd m.a ≡ true → composed m (inverse m) ≡ identity
composed_inverse m o =
    let x = inverse_of m.a in
    let e : mul_add x m.a 0 ≡ 1 = ap (λ (k : ℕ). (k + 0) % modulus) (mul_comm x m.a) ∙ inverse_times m.a o in
    λ i. record { a = e i; b = cancel minus_one (x * m.b) i }

pub inverse_composed : (m : Affine) → is_odd m.a ≡ true → composed (inverse m) m ≡ identity
inverse_composed m o =
    let e = inverse_times m.a o in
    λ i. record { a = e i; b = undo minus_one m.a (inverse_of m.a) m.b e i }

-- "restore the value"
pub undone : (m : Affine) (v : ℕ) → is_odd m.a ≡ true → v < modulus → applied (inverse m) (applied m v) ≡ v
undone m v o h = sym (applied_composed m (inverse m) v) ∙ ap (λ (f : Affine). applied f v) (composed_inverse m o) ∙ applied_identity v h

pub redone : (m : Affine) (v : ℕ) → is_odd m.a ≡ true → v < modulus → applied m (applied (inverse m) v) ≡ v
redone m v o h = sym (applied_composed (inverse m) m v) ∙ ap (λ (f : Affine). applied f v) (inverse_composed m o) ∙ applied_identity v h

-- its numbers fit 32 bits
pub inverse_fits : (m : Affine) → Fits (inverse m)
inverse_fits m =
    let x3 = newton_step m.a (newton_step m.a (newton_step m.a m.a)) in
    record { scale = mod-lt (x3 * mul_add minus_one (mul_add m.a x3 0) 2 + 0) (lit≤ tt); shift = mod-lt (minus_one * mul_add (inverse_of m.a) m.b 0 + 0) (lit≤ tt) }

-- "the map that undoes": there is no other
pub inverse_only : (m n : Affine) → is_odd m.a ≡ true → Fits n → composed m n ≡ identity → n ≡ inverse m
inverse_only m n o f e =
    sym (identity_composed n f)
    ∙ ap (λ (k : Affine). composed k n) (sym (inverse_composed m o))
    ∙ composed_composed (inverse m) m n
    ∙ ap (composed (inverse m)) e
    ∙ composed_identity (inverse m) (inverse_fits m)

pub inverts : (m : Affine) → is_odd m.a ≡ true → Inverts m (inverse m)
inverts m o = record { after = composed_inverse m o; before = inverse_composed m o; only = λ n h g e. inverse_only m n o (record { scale = h; shift = g }) e }

-- no map undoes one whose a is even: a product with an even number is no odd one
odd_product : (x y n q z : ℕ) → 2 * y + 0 ≡ n → x * n + 0 ≡ z → 4294967296 * q + 1 ≡ z → ⊥
odd_product x y n q z e f g = omega (arith, ap (λ (k : ℕ). x * k + 0) e, f, g, mul_assoc x 2 y)

zero_left : (r : ℕ) → r < 2 → (r ≡ 1 → ⊥) → r ≡ 0
zero_left r h d = omega (arith, h, d)

pub even_lacks : (m : Affine) → is_odd m.a ≡ false → LacksInverse m
even_lacks m o n e =
    let c : ℕ = m.a / 2 in
    let z : ℕ = n.a * m.a + 0 in
    let low : m.a % 2 < 2 = mod-lt m.a (lit≤ tt) in
    let even : m.a % 2 ≡ 0 = zero_left (m.a % 2) low (eqb-false (m.a % 2) 1 o) in
    odd_product n.a c m.a (z / 4294967296) z (ap (λ (k : ℕ). 2 * c + k) (sym even) ∙ div-add-mod m.a 2) refl
    (ap (λ (k : ℕ). 4294967296 * (z / 4294967296) + k) (sym (ap (λ (f : Affine). f.a) e)) ∙ div-add-mod z 4294967296)

-- A PAIR FUSED
fused_numbers : (m : Affine) → is_odd m.a ≡ true → {f g : Act} → MapAndUnmap m f g → composed (affine_of f) (affine_of g) ≡ identity
fused_numbers m o map_first = composed_inverse m o
fused_numbers m o unmap_first = inverse_composed m o

pub fused_identity : (m : Affine) → is_odd m.a ≡ true → (o q : Op) → MapAndUnmap m o.act q.act → FusedToIdentity o q
fused_identity m d o q p e =
    ap (λ (b : Bool). cond b (done ((fused o q ∷ []) ∷ [])) (refused 22)) e
    ∙ ap (λ (f : Affine). done ((record { act = Map f; held = 0; targets = o.targets; labels = o.labels ++ q.labels } ∷ []) ∷ [])) (fused_numbers m d p)

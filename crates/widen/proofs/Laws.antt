-- The laws of `widened`, each over every value, resolution and width: the rule itself, and what users of it rely on.
-- Assumes nothing.
use Prim.Native.Nat.{ℕ, zero, suc, ◌+◌, ◌-◌, ◌*◌, ◌/◌, ◌%◌, ◌^◌, ◌≤◌, ◌<◌, max}
use Rattle.widen.specs.Width.{input_bytes, input_value, mask, top_bit, widened}
use lib.Arith.{lt-one}
use lib.Dec.{lit<}
use lib.Pow.{high, mod-pow-add, ones_lt, ones_split, pow_mono, shl_exact, shr-shr}
use mathlib.Core.Path.{◌≡◌, refl, sym, ap, ◌∙◌}
use native.Mathlib.Nat.{add-mod, add-suc, add-zero, div-one, le_of_lt, le_refl, lt_of_lt_of_le, mod-add-mod, mod-eq_of_lt, mod-one, mul_assoc, one-mul, pow-suc, sub_self, zero-add, zero-mod}
use native.Mathlib.Numerals.{add-one, one-add}
use native.Mathlib.Omega.{arith}

-- ---- one bit
-- a bit by its place s counted from the bottom
pub low_bit : (n x j s : ℕ) → n - suc j ≡ s → top_bit n x j ≡ x / 2 ^ s % 2
low_bit n x j s e = ap (λ (k : ℕ). x / 2 ^ k % 2) e

pub below : (v r w : ℕ) → widened v r w < 2 ^ w
unfolding widened
below v r zero = lit< tt
below v r (suc w) = omega (arith, below v r w, pow-suc 2 w)

pub under : (v r w k : ℕ) → w ≤ k → widened v r w < 2 ^ k
under v r w k h = lt_of_lt_of_le (below v r w) (pow_mono h)

-- the first a bits from the top are those of the width a
pub cut : (v r a k : ℕ) → widened v r (a + k) / 2 ^ k ≡ widened v r a
unfolding widened
cut v r a zero = rw (add-zero, div-one)
cut v r a (suc k) =
    let y = widened v r (suc (a + k)) in
    let half : y / 2 ≡ widened v r (a + k) = omega arith in
    let down : y / 2 / 2 ^ k ≡ y / 2 ^ suc k = rw one-add at (shr-shr y 1 k) in
    rw (add-suc a k) (sym down ∙ ap (λ (x : ℕ). x / 2 ^ k) half ∙ cut v r a k)

pub cut_to : (v r a n : ℕ) → n ≤ a → widened v r a / 2 ^ (a - n) ≡ widened v r n
cut_to v r a n h =
    let e : n + (a - n) ≡ a = omega arith in
    rw e at (cut v r n (a - n))

-- THE RULE: counted from the top, bit j of the widened value is bit (j mod r) of the value
pub rule : (v r w j : ℕ) → j < w → top_bit w (widened v r w) j ≡ top_bit r v (j % r)
unfolding widened
rule v r w j h = ap (λ (x : ℕ). x % 2) (cut_to v r w (suc j) h) ∙ omega arith

-- up to the resolution it is the top of the value
pub first : (v r k : ℕ) → k ≤ r → widened v r k ≡ v / 2 ^ (r - k) % 2 ^ k
unfolding widened
first v r zero h = sym (mod-one (v / 2 ^ (r - 0)))
first v r (suc k) h =
    let m = r - suc k in
    let up : r - k ≡ m + 1 = omega arith in
    let b = ap (λ (j : ℕ). top_bit r v j) (mod-eq_of_lt h) in
    let ih : widened v r k ≡ v / 2 ^ (m + 1) % 2 ^ k = first v r k (le_of_lt h) ∙ ap (λ (x : ℕ). v / 2 ^ x % 2 ^ k) up in
    let split : v / 2 ^ m % 2 ^ (k + 1) ≡ (v / 2 ^ m / 2 % 2 ^ k) * 2 + v / 2 ^ m % 2 = mod-pow-add (v / 2 ^ m) k 1 in
    let join = ap (λ (x : ℕ). x % 2 ^ k) (shr-shr v m 1) in
    omega (arith, b, ih, split, join, ap (λ (x : ℕ). v / 2 ^ m % 2 ^ x) (add-one k))

-- at the resolution it is the value, cut to it
pub whole : (v r : ℕ) → widened v r r ≡ v % 2 ^ r
whole v r = first v r r (le_refl r) ∙ rw (sub_self r, div-one v)

-- a resolution of 0 counts as 1
pub none_as_one : (v r w : ℕ) → widened v (max 1 r) w ≡ widened v r w
unfolding widened
none_as_one v zero zero = refl
none_as_one v zero (suc w) =
    let one = low_bit 1 v (w % 1) 0 (omega arith) in
    let none = low_bit 0 v (w % 0) 0 (omega arith) in
    omega (arith, none_as_one v zero w, one, none)
none_as_one v (suc r) w = ap (λ (x : ℕ). widened v x w) (omega arith)

-- after whole copies the filling starts again
pub again : (v r a k : ℕ) → a % r ≡ 0 → widened v r (a + k) ≡ widened v r a * 2 ^ k + widened v r k
unfolding widened
again v r a zero h = ap (widened v r) (add-zero a) ∙ omega arith
again v r a (suc k) h =
    let same : (a + k) % r ≡ k % r = sym (mod-add-mod a r k) ∙ rw (h, zero-add) in
    let b = ap (λ (j : ℕ). top_bit r v j) same in
    let up = ap (λ (x : ℕ). widened v r a * x) (pow-suc 2 k) in
    rw (add-suc a k) (omega (arith, again v r a k h, b, pow-suc 2 k, up, mul_assoc (widened v r a) (2 ^ k) 2))

-- the rule fixes the number: what has w bits and obeys it is the widened value
pub only : (v r w x : ℕ) → x < 2 ^ w → ((j : ℕ) → j < w → top_bit w x j ≡ top_bit r v (j % r)) → x ≡ widened v r w
unfolding widened
only v r zero x h f = lt-one h
only v r (suc w) x h f =
    let up : (j : ℕ) → j < w → top_bit w (x / 2) j ≡ top_bit r v (j % r) =
    λ j l. ap (λ (y : ℕ). y % 2) (shr-shr x 1 (w - suc j)) ∙ sym (low_bit (suc w) x j (1 + (w - suc j)) (omega arith)) ∙ f j (omega arith) in
    let top = only v r w (x / 2) (omega (arith, pow-suc 2 w)) up in
    let last : x % 2 ≡ top_bit r v (w % r) = sym (low_bit (suc w) x w 0 (omega arith) ∙ ap (λ (y : ℕ). y % 2) (div-one x)) ∙ f w (omega arith) in
    omega (arith, top, last)

-- least whole number of bytes
pub least_bytes : (r : ℕ) → 0 < r → r ≤ 32 → (r ≤ 8 * input_bytes r) × (8 * input_bytes r < r + 8)
least_bytes r p h = omega arith

-- the value is read back off the top
pub recover : (v r : ℕ) → v < 2 ^ r → r ≤ 32 → input_value v r / 2 ^ (8 * input_bytes r - r) ≡ v
recover v r h l = cut_to v r (8 * input_bytes r) r (omega arith) ∙ whole v r ∙ mod-eq_of_lt h

-- no value that is allowed shows as MASK
pub never_mask : (v r : ℕ) → v < 2 ^ r - 1 → r ≤ 32 → input_value v r ≡ mask r → ⊥
never_mask v r h l e =
    let k = 8 * input_bytes r - r in
    let s : r + k ≡ 8 * input_bytes r = omega arith in
    let ones : mask r ≡ (2 ^ r - 1) * 2 ^ k + (2 ^ k - 1) = rw s at (ones_split r k) in
    let back : v ≡ 2 ^ r - 1 = sym (recover v r (omega arith) l) ∙ ap (λ (y : ℕ). y / 2 ^ k) (e ∙ ones) ∙ high (2 ^ r - 1) k (ones_lt k) in
    omega arith

-- ---- as code has it
-- `1 << k` at 64 bits
pub one_shl : (k : ℕ) → k < 64 → (1 * 2 ^ k) % 2 ^ 64 ≡ 2 ^ k
one_shl k h = shl_exact {a = 1} 1 k 64 (lit< tt) (omega arith) ∙ one-mul (2 ^ k)

-- twice as many whole copies, by one shift at 64 bits and one addition
pub twice : (v r a out : ℕ) → out ≡ widened v r a → a % r ≡ 0 → a ≤ 32 → (out * 2 ^ a) % 2 ^ 64 + out ≡ widened v r (a + a)
twice v r a out e h l = rw (e, shl_exact a a 64 (below v r a) (omega arith)) (sym (again v r a a h))

pub twice_fits : (v r a out : ℕ) → out ≡ widened v r a → a % r ≡ 0 → a ≤ 32 → (out * 2 ^ a) % 2 ^ 64 + out < 2 ^ 64
twice_fits v r a out e h l = rw (twice v r a out e h l) (under v r (a + a) 64 (omega arith))

pub still_whole : (a r : ℕ) → a % r ≡ 0 → (a + a) % r ≡ 0
still_whole a r h = add-mod a a r ∙ rw (h, zero-mod)

-- whole copies cut off at the low end
pub cut_off : (v r a n out : ℕ) → out ≡ widened v (max 1 r) a → n ≤ a → out / 2 ^ (a - n) % 2 ^ n ≡ widened v r n
cut_off v r a n out e h = rw (e, cut_to v (max 1 r) a n h) (mod-eq_of_lt (below v (max 1 r) n) ∙ none_as_one v r n)

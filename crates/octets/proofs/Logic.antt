-- Tests and what they say: what `&&`, `||` and `not` come to, from their parts and back.
-- By the cases of the first test.
-- Assumes nothing.
use mathlib.Core.Bool.{Bool, true, false, not, ◌&&◌, ◌||◌, false≢true, true≢false}
use mathlib.Core.Path.{◌≡◌, refl}

pub and_parts : (a b : Bool) → (a && b) ≡ true → (a ≡ true) × (b ≡ true)
and_parts true b e = (refl, e)
and_parts false b e = absurd (false≢true e)

pub and-whole : (a b : Bool) → a ≡ true → b ≡ true → (a && b) ≡ true
and-whole true b e f = f
and-whole false b e f = absurd (false≢true e)

-- `a && b` fails: where a holds, b does not
pub fails : (a b : Bool) → (a && b) ≡ false → a ≡ true → b ≡ false
fails true b e t = e
fails false b e t = absurd (false≢true t)

pub failing : (a b : Bool) → (a ≡ true → b ≡ false) → (a && b) ≡ false
failing true b f = f refl
failing false b f = refl

-- `not a || b` holds: where a holds, b does
pub implied : (a b : Bool) → (not a || b) ≡ true → a ≡ true → b ≡ true
implied true b e t = e
implied false b e t = absurd (false≢true t)

pub implying : (a b : Bool) → (a ≡ true → b ≡ true) → (not a || b) ≡ true
implying true b f = f refl
implying false b f = refl

pub or_parts : (a b : Bool) → (a || b) ≡ false → (a ≡ false) × (b ≡ false)
or_parts true b e = absurd (true≢false e)
or_parts false b e = (refl, e)

pub or-none : (a b : Bool) → a ≡ false → b ≡ false → (a || b) ≡ false
or-none true b e f = absurd (true≢false e)
or-none false b e f = f

pub false-not : (b : Bool) → b ≡ true → not b ≡ false
false-not true e = refl
false-not false e = absurd (false≢true e)

pub true-not : (b : Bool) → b ≡ false → not b ≡ true
true-not true e = absurd (true≢false e)
true-not false e = refl

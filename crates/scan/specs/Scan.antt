-- Searching a list and changing each of its elements, by index.
-- Assumes nothing: these are definitions.
use Rattle.std.specs.Prelude.{ℕ, zero, suc, Bool, false, cond, ◌||◌, List, [], ◌∷◌, get_or, eqb, Option, Some, None}

-- the index of the first element that passes the test, counted from i
unfoldable pub first_at : {A : Type 0} → (A → Bool) → ℕ → List A → Option ℕ
first_at p i [] = None
first_at p i (x ∷ xs) = cond (p x) (Some i) (first_at p (suc i) xs)

-- an element passes the test
unfoldable pub exists : {A : Type 0} → (A → Bool) → List A → Bool
exists p [] = false
exists p (x ∷ xs) = p x || exists p xs

-- an element passes the test, which also sees its index, counted from i
unfoldable pub any_at : {A : Type 0} → (ℕ → A → Bool) → ℕ → List A → Bool
any_at p i [] = false
any_at p i (x ∷ xs) = p i x || any_at p (suc i) xs

-- each element changed by a function that also sees its index, counted from i
unfoldable pub each_at : {A : Type 0} → (ℕ → A → A) → ℕ → List A → List A
each_at f i [] = []
each_at f i (x ∷ xs) = f i x ∷ each_at f (suc i) xs

-- the values of a function at n numbers, from i on
unfoldable pub tabulated : {A : Type 0} → (ℕ → A) → ℕ → ℕ → List A
tabulated f i zero = []
tabulated f i (suc n) = f i ∷ tabulated f (suc i) n

-- n elements, x at i and the others those of l; d stands for what l lacks
abbrev pub put_at : {A : Type 0} → ℕ → A → List A → ℕ → A → List A
put_at n d l i x = tabulated (λ (j : ℕ). cond (eqb j i) x (get_or l j d)) 0 n

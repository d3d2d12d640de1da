-- Lists: tests over them, and lists laid into buffers and arrays.
use Rattle.std.specs.Prelude.{ℕ, ◌+◌, ◌-◌, Bool, true, false, ◌&&◌, ◌||◌, List, [], ◌∷◌, ◌++◌, length, drop, replicate, Option, None, Some}

-- the test passes at each element; at some element
unfoldable pub all : {A : Type 0} → (A → Bool) → List A → Bool
all f [] = true
all f (x ∷ xs) = f x && all f xs

unfoldable pub any : {A : Type 0} → (A → Bool) → List A → Bool
any f [] = false
any f (x ∷ xs) = f x || any f xs

-- the two lists are equally long, and the test passes at each two elements in the same place
unfoldable pub same : {A : Type 0} → (A → A → Bool) → List A → List A → Bool
same e [] [] = true
same e [] (y ∷ ys) = false
same e (x ∷ xs) [] = false
same e (x ∷ xs) (y ∷ ys) = e x y && same e xs ys

-- the last element
unfoldable pub last : {A : Type 0} → List A → Option A
last [] = None
last (x ∷ []) = Some x
last (x ∷ y ∷ ys) = last (y ∷ ys)

-- the sum of some numbers
unfoldable pub sum : List ℕ → ℕ
sum [] = 0
sum (x ∷ xs) = x + sum xs

-- an array of n places that starts with a list and is blank behind it
unfoldable pub padded : {A : Type 0} → ℕ → A → List A → List A
padded n blank xs = xs ++ replicate (n - length xs) blank

-- a buffer with a result at its start: what lies past the result stays
unfoldable pub over : List ℕ → List ℕ → List ℕ
over result buffer = result ++ drop (length result) buffer

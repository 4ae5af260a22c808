-- A list that is gone through place by place, seen through a function.
use Rattle.std.proofs.Common.{◌≡◌, ℕ, zero, suc, ◌+◌, ◌<◌, List, [], ◌∷◌, ◌++◌, length, map, take, drop, get_or, refl, sym, ap, ◌∙◌, arith, add-one}
use Rattle.std.proofs.Math.Seq.{drop-cons}

later : {A B : Type 0} (f : A → B) (xs : List A) (i : ℕ) (d : A) → i < length xs → drop i (map f xs) ≡ f (get_or xs i d) ∷ drop (suc i) (map f xs)
later f [] i d lt = absurd (omega arith)
later f (x ∷ xs) zero d lt = refl
later f (x ∷ xs) (suc i) d lt = later f xs i d (omega arith)

sooner : {A B : Type 0} (f : A → B) (xs : List A) (i : ℕ) (d : A) → i < length xs → take (suc i) (map f xs) ≡ take i (map f xs) ++ f (get_or xs i d) ∷ []
sooner f [] i d lt = absurd (omega arith)
sooner f (x ∷ xs) zero d lt = refl
sooner f (x ∷ xs) (suc i) d lt = ap (λ ys. f x ∷ ys) (sooner f xs i d (omega arith))

-- what is left, and what is done
pub map_next : {A B : Type 0} (f : A → B) (xs : List A) (i : ℕ) (d : A) → i < length xs → drop i (map f xs) ≡ f (get_or xs i d) ∷ drop (i + 1) (map f xs)
map_next f xs i d lt = later f xs i d lt ∙ ap (λ n. f (get_or xs i d) ∷ drop n (map f xs)) (sym (add-one i))

pub map_done : {A B : Type 0} (f : A → B) (xs : List A) (i : ℕ) (d : A) → i < length xs → take (i + 1) (map f xs) ≡ take i (map f xs) ++ f (get_or xs i d) ∷ []
map_done f xs i d lt = ap (λ n. take n (map f xs)) (add-one i) ∙ sooner f xs i d lt

-- the same by an element of the list
pub map_next_item : {A B : Type 0} (f : A → B) (xs : List A) (i : ℕ) (x : A) → x ≡ get_or xs i x → i < length xs → drop i (map f xs) ≡ f x ∷ drop (i + 1) (map f xs)
map_next_item f xs i x is lt = map_next f xs i x lt ∙ ap (λ y. f y ∷ drop (i + 1) (map f xs)) (sym is)

pub map_done_item : {A B : Type 0} (f : A → B) (xs : List A) (i : ℕ) (x : A) → x ≡ get_or xs i x → i < length xs → take (i + 1) (map f xs) ≡ take i (map f xs) ++ f x ∷ []
map_done_item f xs i x is lt = map_done f xs i x lt ∙ ap (λ y. take i (map f xs) ++ f y ∷ []) (sym is)

pub next_item : {A : Type 0} (xs : List A) (i : ℕ) (x : A) → x ≡ get_or xs i x → i < length xs → drop i xs ≡ x ∷ drop (i + 1) xs
next_item xs i x is lt = drop-cons xs i x lt ∙ ap (λ n. get_or xs i x ∷ drop n xs) (sym (add-one i)) ∙ ap (λ y. y ∷ drop (i + 1) xs) (sym is)

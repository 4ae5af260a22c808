-- The properties that directories set, and the rows of Directory.
use Rattle.std.proofs.Common.{◌≡◌, ℕ, zero, suc, ◌+◌, ◌≤◌, true, false, cond, List, [], ◌∷◌, ◌++◌, map, length, take, drop, Option, Some, None, refl, sym, ap, ◌∙◌, add-one, arith}
use Rattle.std.specs.Prelude.{slice_get, option_map}
use Rattle.std.specs.List.{cons_option, filter_map}
use Rattle.std.specs.FinMap.{entries, from_entries, get-from_entries, get-entries}
use Rattle.mi_text.specs.Maps.{Name}
use Rattle.mi_text.specs.PropertyNames.{is_property_name}
use Rattle.mi_text.proofs.MapLemmas.{names_total, same}
use Rattle.mi_props.specs.Props.{Value, Values}
use Rattle.mi_dirs.specs.Places.{Place, target_of}
use Rattle.mi_schema.specs.declared.typed_rows.DirectoryRow.{DirectoryRow}
use Rattle.mi_model.specs.Properties.{directory_property}
use Rattle.mi_world.specs.Directories.{with_pair, HasDirectories}
use Rattle.mi_world.proofs.RowLemmas.{drop-there, drop-none, drop-behind}

all_again : (m : Values) → from_entries (entries m) ≡ m
all_again m = same _ _ (λ q. get-from_entries names_total (entries m) q ∙ sym (get-entries m q))

pub has_start : {K : Type 0} (es : List (K × DirectoryRow)) (n : ℕ) (dirs : List Place) (before : Values) → n ≡ length es → HasDirectories (map (λ (e : K × DirectoryRow). e.1) es) dirs before n before
has_start es n dirs before at =
    sym (ap (λ rows. from_entries (filter_map (directory_property dirs) rows ++ entries before)) (drop-behind es n at) ∙ all_again before)

with_first : (o : Option (Name × Value)) (xs ys : List (Name × Value)) → with_pair o (from_entries (xs ++ ys)) ≡ from_entries (cons_option o xs ++ ys)
with_first None xs ys = refl
with_first (Some p) xs ys = refl

pub has_more : (rows : List DirectoryRow) (k : ℕ) (dirs : List Place) (before old new : Values) (r : DirectoryRow) → slice_get rows k ≡ Some r → new ≡ with_pair (directory_property dirs r) old
    → HasDirectories rows dirs before (k + 1) old → HasDirectories rows dirs before k new
has_more rows k dirs before old new r there is has =
    is ∙ ap (with_pair (directory_property dirs r)) (has ∙ ap (λ n. from_entries (filter_map (directory_property dirs) (drop n rows) ++ entries before)) (add-one k))
    ∙ with_first (directory_property dirs r) (filter_map (directory_property dirs) (drop (suc k) rows)) (entries before)
    ∙ sym (ap (λ rs. from_entries (filter_map (directory_property dirs) rs ++ entries before)) (drop-there rows k r there))

pub has_none : (rows : List DirectoryRow) (k : ℕ) (dirs : List Place) (before props : Values) → slice_get rows k ≡ None → HasDirectories rows dirs before (k + 1) props → HasDirectories rows dirs before k props
has_none rows k dirs before props there has =
    has ∙ ap (λ n. from_entries (filter_map (directory_property dirs) (drop n rows) ++ entries before)) (add-one k)
    ∙ sym (ap (λ rs. from_entries (filter_map (directory_property dirs) rs ++ entries before)) (drop-none rows k there))

-- ---- the property of a row

pub no_name : (dirs : List Place) (r : DirectoryRow) (props : Values) → is_property_name r.directory ≡ false → props ≡ with_pair (directory_property dirs r) props
no_name dirs r props isnt = sym (ap (λ b. with_pair (cond b (option_map (λ target. (r.directory, target)) (target_of dirs r.directory)) None) props) isnt)

pub named_so : (dirs : List Place) (r : DirectoryRow) (props : Values) (o : Option Value) → is_property_name r.directory ≡ true → target_of dirs r.directory ≡ o
    → with_pair (option_map (λ target. (r.directory, target)) o) props ≡ with_pair (directory_property dirs r) props
named_so dirs r props o is at =
    sym (ap (λ b. with_pair (cond b (option_map (λ target. (r.directory, target)) (target_of dirs r.directory)) None) props) is
    ∙ ap (λ x. with_pair (option_map (λ target. (r.directory, target)) x) props) at)

-- ---- rows one behind the other

pub take-there : {X : Type 0} (xs : List X) (k : ℕ) (x : X) → slice_get xs k ≡ Some x → take (suc k) xs ≡ take k xs ++ x ∷ []
take-there [] k x e = cc
take-there (y ∷ ys) zero x e = let is : y ≡ x = cc in ap (λ z. z ∷ []) is
take-there (y ∷ ys) (suc k) x e = ap (λ zs. y ∷ zs) (take-there ys k x e)

pub take-none : {X : Type 0} (xs : List X) (k : ℕ) → slice_get xs k ≡ None → take (suc k) xs ≡ take k xs
take-none [] zero e = refl
take-none [] (suc k) e = refl
take-none (y ∷ ys) zero e = cc
take-none (y ∷ ys) (suc k) e = ap (λ zs. y ∷ zs) (take-none ys k e)

map-append : {X Y : Type 0} (f : X → Y) (xs ys : List X) → map f (xs ++ ys) ≡ map f xs ++ map f ys
map-append f [] ys = refl
map-append f (x ∷ xs) ys = ap (λ zs. f x ∷ zs) (map-append f xs ys)

pub one_behind : {X Y : Type 0} (f : X → Y) (xs : List X) (k : ℕ) (x : X) (old new : List Y) → slice_get xs k ≡ Some x → new ≡ old ++ f x ∷ [] → old ≡ map f (take k xs) → new ≡ map f (take (k + 1) xs)
one_behind f xs k x old new there is so_far =
    is ∙ ap (λ ys. ys ++ f x ∷ []) so_far ∙ sym (map-append f (take k xs) (x ∷ [])) ∙ sym (ap (map f) (ap (λ n. take n xs) (add-one k) ∙ take-there xs k x there))

pub none_behind : {X Y : Type 0} (f : X → Y) (xs : List X) (k : ℕ) (old : List Y) → slice_get xs k ≡ None → old ≡ map f (take k xs) → old ≡ map f (take (k + 1) xs)
none_behind f xs k old there so_far = so_far ∙ sym (ap (map f) (ap (λ n. take n xs) (add-one k) ∙ take-none xs k there))

pub take-whole : {X : Type 0} (xs : List X) (k : ℕ) → length xs ≤ k → take k xs ≡ xs
take-whole [] zero le = refl
take-whole [] (suc k) le = refl
take-whole (x ∷ xs) zero le = absurd (omega arith)
take-whole (x ∷ xs) (suc k) le = ap (λ ys. x ∷ ys) (take-whole xs k (omega arith))

pub all_behind : {X Y : Type 0} (f : X → Y) (xs : List X) (k : ℕ) (ys : List Y) → length xs ≤ k → ys ≡ map f (take k xs) → ys ≡ map f xs
all_behind f xs k ys le so_far = so_far ∙ ap (map f) (take-whole xs k le)

-- The tables and contents, added from the last to the first, make the package.
use Rattle.std.proofs.Common.{◌≡◌, ℕ, List, [], ◌∷◌, true, map, ap, refl}
use Rattle.std.specs.FinMap.{from_entries}
use Rattle.std.specs.List.{range_with_len, filter}
use Rattle.mi_source.specs.Paths.{Files}
use Rattle.mi_model.specs.Selftest.{content, selftest_files, file, registry}
use Rattle.mi_gen.specs.declared.numbered.NumberedTable.TheVariants as numbered
use Rattle.mi_gen.specs.Tables.{numbered_file, file_for, with_file, with_numbered, with_fixed}

all_stay : (numbers : List ℕ) → filter (λ i. true) numbers ≡ numbers
all_stay [] = refl
all_stay (i ∷ numbers) = ap (λ (l : List ℕ). i ∷ l) (all_stay numbers)

pub whole_package : (n : ℕ) → with_fixed (with_numbered (from_entries (map content (range_with_len 0 n))) n) ≡ selftest_files n
unfolding selftest_files
whole_package n =
    let all : List ℕ = range_with_len 0 n in
    let contents : Files = from_entries (map content all) in
    let with_rows : Files → Files = λ files. with_fixed (with_file (with_file files (file_for numbered.FeatureComponents n)) (file_for numbered.Component n)) in
    (λ i. with_rows (with_file (with_file contents (numbered_file numbered.Registry (map registry (all_stay all i)))) (numbered_file numbered.File (map file (all_stay all i)))))

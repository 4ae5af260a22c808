-- Names of files are names of the volume.
use Rattle.std.proofs.Common.{◌≡◌, ℕ, ◌≤◌, true, false, ◌&&◌, ◌||◌, List, length, sym, ap, subst, ◌∙◌, arith, inl, inr}
use Rattle.std.specs.Prelude.{nat_le, nat_lt}
use Rattle.std.proofs.lemmas.Bool.{cases_Bool}
use Rattle.std.proofs.lemmas.Bool.Decides.{nat_tests}
use Rattle.mi_text.specs.Fold.{folded, IsNameLength}
use Rattle.mi_text.specs.Path.{up_to_last, last_part, is_part, is_path, is_file_path, is_folder_path}
use Rattle.mi_text.proofs.ByteLemmas.{both}
use Rattle.mi_text.proofs.PathLemmas.{folder_is}
use Rattle.mi_base.specs.Names.{file_name}
use Rattle.mi_base.proofs.FoldLemmas.{length-folded}

short_enough : (n : ℕ) → nat_lt 259 n ≡ false → n ≤ 259
short_enough n is = grind (arith, nat_tests)

short_file : (n : ℕ) → nat_le n 259 ≡ true → n ≤ 259
short_file n is = grind (arith, nat_tests)

short_path : (path : List ℕ) → is_path path ≡ true → length path ≤ 259
unfolding is_path is_file_path
short_path path is = elim (cases_Bool (is_folder_path path)) [
  | inl on ↦ short_enough (length path) (folder_is path on).short
  | inr off ↦ let file : (is_folder_path (up_to_last path) && is_part (last_part path) && nat_le (length path) 259) ≡ true = sym (ap (λ b. b || (is_folder_path (up_to_last path) && is_part (last_part path) && nat_le (length path) 259)) off) ∙ is in short_file (length path) (both _ _ file).1
]

-- a file's name has as many bytes as its path and two
pub name_length : (path : List ℕ) → is_path path ≡ true → IsNameLength (file_name path)
unfolding file_name
name_length path is =
    let long : length (folded path) ≤ 259 = subst (λ n. n ≤ 259) (sym (length-folded path)) (short_path path is) in
    (omega (arith, long), omega (arith, long))

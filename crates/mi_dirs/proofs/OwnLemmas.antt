-- What stands for a target at the start.
use Rattle.std.proofs.Common.{◌≡◌, ℕ, suc, Bool, true, false, cond, List, [], ◌∷◌, Option, Some, None, sym, ap, subst, ◌∙◌, arith, All, inl, inr}
use Rattle.std.specs.Prelude.{option_map, option_and_then, slice_get}
use Rattle.std.specs.FinMap as fin
use Rattle.std.specs.Str.{bytes_eq}
use Rattle.std.proofs.lemmas.Slice.Eq.{bytes_eq-Decides}
use Rattle.std.proofs.lemmas.Bool.{cases_Bool}
use Rattle.mi_text.specs.Maps.{Name, name_cmp, same_name}
use Rattle.mi_text.proofs.MapLemmas.{from_same, same_itself}
use Rattle.mi_dirs.specs.declared.rows.DirRow.{DirRow}
use Rattle.mi_dirs.specs.Places.{first_row}
use Rattle.mi_dirs.specs.Rows.{parent_of, row_with}
use Rattle.mi_dirs.specs.Views.{IsFolder}
use Rattle.mi_dirs.proofs.RowLemmas.{find-first_row}

-- the first entry of a key by its row
pub remembered_by_row : (entries : List (Name × List ℕ)) (key : Name) (o : Option ℕ) → o ≡ first_row (λ e. same_name key e.0) entries
    → fin.find name_cmp key entries ≡ option_and_then (λ row. option_map (λ (e : Name × List ℕ). e.1) (slice_get entries row)) o
remembered_by_row entries key o is = find-first_row entries key ∙ ap (option_and_then (λ row. option_map (λ (e : Name × List ℕ). e.1) (slice_get entries row))) (sym is)

pub remembered_is_folder : (entries : List (Name × List ℕ)) (key : Name) (p : List ℕ) → All (λ e. IsFolder e.1) entries → fin.find name_cmp key entries ≡ Some p → IsFolder p
remembered_is_folder [] key p all is = absurd cc
remembered_is_folder (e ∷ es) key p all is =
    elim (same_name key e.0) as (λ b. cond b (Some e.1) (fin.find name_cmp key es) ≡ Some p → IsFolder p) [
      | true ↦ λ h. let same : e.1 ≡ p = cc in subst IsFolder same (all 0 e (omega arith))
      | false ↦ λ h. remembered_is_folder es key p (λ k d lt. all (suc k) d (omega arith)) h
    ] is

pub own_parent : (rows : List DirRow) (r : DirRow) (p : List ℕ) → r.parent ≡ Some p → p ≡ r.key → None ≡ parent_of rows r
own_parent rows r p is same =
    let own : same_name p r.key ≡ true = ap (λ (q : Name). same_name q r.key) same ∙ same_itself r.key in
    sym (ap (option_and_then (λ (q : Name). cond (same_name q r.key) None (row_with rows q))) is ∙ ap (λ (b : Bool). cond b None (row_with rows p)) own)

pub other_parent : (rows : List DirRow) (r : DirRow) (p : List ℕ) → r.parent ≡ Some p → (p ≡ r.key → ⊥) → parent_of rows r ≡ row_with rows p
other_parent rows r p is other =
    let not_own : same_name p r.key ≡ false = elim (cases_Bool (same_name p r.key)) [ inl e ↦ absurd (other (from_same p r.key e)) | inr e ↦ e ] in
    ap (option_and_then (λ (q : Name). cond (same_name q r.key) None (row_with rows q))) is ∙ ap (λ (b : Bool). cond b None (row_with rows p)) not_own

pub texts_same : (a b : List ℕ) → bytes_eq a b ≡ true → a ≡ b
texts_same a b e = (bytes_eq-Decides a b).0 e

pub texts_differ : (a b : List ℕ) → bytes_eq a b ≡ false → a ≡ b → ⊥
texts_differ a b e is = let h : bytes_eq a b ≡ true = (bytes_eq-Decides a b).1 is in absurd cc

-- Custom actions by what they do, and their rows by their keys.
use Rattle.std.proofs.Common.{◌≡◌, ℕ, suc, ◌+◌, ◌==◌, ◌&&◌, ◌||◌, not, Bool, true, false, cond, List, [], ◌∷◌, map, Option, Some, None, refl, sym, ap, ◌∙◌, subst, add-one, eqb-true}
use Rattle.std.specs.Prelude.{codes, find, unwrap_or, Result, Ok, Err, if◌then◌else◌}
use Rattle.std.specs.Prelude.{All}
use Rattle.std.specs.List.{AllByRecursion, position, position_from}
use Rattle.std.proofs.lemmas.List.Elements.{recursion_from_All}
use Rattle.std.proofs.lemmas.Iterator.Adapters.{position_from-zero}
use Rattle.std.specs.Map.{lookup}
use Rattle.std.specs.Str.{bytes_eq}
use Rattle.std.proofs.lemmas.Map.Text.{is_eq-slice_cmp}
use Rattle.mi_text.specs.Maps.{Name, same_name}
use Rattle.mi_text.specs.Lookups.{Lookups}
use Rattle.mi_base.specs.declared.answers.Fault.{Fault}
use Rattle.mi_base.specs.declared.answers.Fault.TheVariants as faults
use Rattle.mi_schema.specs.declared.typed_rows.CustomActionRow.{CustomActionRow}
use Rattle.mi_schema.specs.TableRows.{Numbered, numbered_from}
use Rattle.mi_rows.specs.Values.{lacks}
use Rattle.mi_model.specs.Texts.{Text}
use Rattle.mi_model.specs.Sequence.{is_costed, is_finalized}
use Rattle.mi_model.specs.Steps as model
use Rattle.mi_model.specs.Steps.{in_order, base_type, runs_here, stands_right, custom, custom_step}
use Rattle.mi_model.specs.Refusals.{◌>>=◌, expanded, expanded_or_empty}
use Rattle.mi_format.specs.Expansion as format
use Rattle.mi_format.specs.declared.error.FormatFault.{FormatFault}
use Rattle.mi_format.specs.declared.error.FormatFault.TheVariants.{TooDeep}
use Rattle.mi_seq_rows.specs.declared.custom.Custom.{Custom}
use Rattle.mi_seq_rows.specs.declared.custom.Custom.TheVariants.{Error, SetDir, SetProperty}
use Rattle.mi_seq_rows.specs.Customs.{kind_of, may_stand}
use Rattle.mi_seq.specs.Customs.{numbered, custom_means}

-- ---- what they do

-- behind the order of refusals
abbrev pub run : Lookups → List Name → Name → Numbered CustomActionRow → Custom → Result model.Step Fault
run L begun action n c =
    in_order action (may_stand c begun) n.row >>= λ (r : CustomActionRow). expanded_or_empty L (codes "CustomAction") n.number r.target >>= λ (text : Text). Ok (custom_means c (unwrap_or r.source []) text)

abbrev pub by_kind : Lookups → List Name → Name → Numbered CustomActionRow → Option Custom → Result model.Step Fault
by_kind L begun action n (Some c) = run L begun action n c
by_kind L begun action n None = Err (faults.Executable action)

module _ (L : Lookups) (begun : List Name) (action : Name) (n : Numbered CustomActionRow) where
  -- by what the type's low bits are
  abbrev by_tests : Bool → Bool → Bool → Bool → Result model.Step Fault
  by_tests x y z l =
      if (x || y || z) && l
      then (in_order action (not y || (is_costed begun && not (is_finalized begun))) n.row >>= λ (r : CustomActionRow). expanded_or_empty L (codes "CustomAction") n.number r.target >>= λ (text : Text). Ok (custom r text))
      else Err (faults.Executable action)

  run_custom : (stands : Bool) (c : Custom) → ((text : Text) → custom n.row text ≡ custom_means c (unwrap_or n.row.source []) text)
      → (in_order action stands n.row >>= λ (r : CustomActionRow). expanded_or_empty L (codes "CustomAction") n.number r.target >>= λ (text : Text). Ok (custom r text))
      ≡ (in_order action stands n.row >>= λ (r : CustomActionRow). expanded_or_empty L (codes "CustomAction") n.number r.target >>= λ (text : Text). Ok (custom_means c (unwrap_or r.source []) text))
  run_custom true c same = λ i. expanded_or_empty L (codes "CustomAction") n.number n.row.target >>= λ (text : Text). Ok (same text i)
  run_custom false c same = refl

  -- no other than 19 is 19
  not_both : (base_type n.row == 19) ≡ true → (base_type n.row == 35) ≡ false
  not_both e = subst (λ k. (k == 35) ≡ false) (sym (eqb-true (base_type n.row) 19 e)) refl

  tested : (x y z l : Bool) → (base_type n.row == 19) ≡ x → (base_type n.row == 35) ≡ y
      → by_tests x y z l ≡ by_kind L begun action n (if l then (if x then Some Error else if y then Some SetDir else if z then Some SetProperty else None) else None)
  tested true y z true ex ey =
      ap (λ b. in_order action (not b || (is_costed begun && not (is_finalized begun))) n.row >>= λ (r : CustomActionRow). expanded_or_empty L (codes "CustomAction") n.number r.target >>= λ (text : Text). Ok (custom r text)) (sym ey ∙ not_both ex)
      ∙ run_custom true Error (λ text. ap (λ b. if b then model.Fails text else if base_type n.row == 35 then model.SetDirectory (unwrap_or n.row.source []) text else model.SetProperty (unwrap_or n.row.source []) text) ex)
  tested true y z false ex ey = refl
  tested false true z true ex ey = run_custom (is_costed begun && not (is_finalized begun)) SetDir (λ text.
      ap (λ b. if b then model.Fails text else if base_type n.row == 35 then model.SetDirectory (unwrap_or n.row.source []) text else model.SetProperty (unwrap_or n.row.source []) text) ex
      ∙ ap (λ b. if b then model.SetDirectory (unwrap_or n.row.source []) text else model.SetProperty (unwrap_or n.row.source []) text) ey)
  tested false true z false ex ey = refl
  tested false false true true ex ey = run_custom true SetProperty (λ text.
      ap (λ b. if b then model.Fails text else if base_type n.row == 35 then model.SetDirectory (unwrap_or n.row.source []) text else model.SetProperty (unwrap_or n.row.source []) text) ex
      ∙ ap (λ b. if b then model.SetDirectory (unwrap_or n.row.source []) text else model.SetProperty (unwrap_or n.row.source []) text) ey)
  tested false false true false ex ey = refl
  tested false false false true ex ey = refl
  tested false false false false ex ey = refl

  pub custom_step-kind : custom_step L begun action (Some n) ≡ by_kind L begun action n (kind_of n.row.kind)
  custom_step-kind = tested (base_type n.row == 19) (base_type n.row == 35) (base_type n.row == 51) (lacks 1024 n.row.kind) refl refl

-- ---- their texts

pub is_expanded : (L : Lookups) (row : ℕ) (target : Option Text) (text t : Text) → target ≡ Some text → format.expanded L text ≡ Ok t → expanded_or_empty L (codes "CustomAction") row target ≡ Ok t
unfolding format.expanded expanded
is_expanded L row target text t is e =
    ap (expanded_or_empty L (codes "CustomAction") row) is
    ∙ elim (format.is_too_deep text) as (λ b. (if b then Err TooDeep else Ok (format.expand_of L text)) ≡ Ok t → (if b then Err (faults.TooDeep (codes "CustomAction") row) else Ok (format.expand_of L text)) ≡ Ok t) [
      | true ↦ λ at. cc
      | false ↦ λ at. ap (λ (r : Result Text FormatFault). as_ours r) at
    ] e
  where
    as_ours : Result Text FormatFault → Result Text Fault
    as_ours (Ok x) = Ok x
    as_ours (Err f) = Err (faults.TooDeep (codes "CustomAction") row)

pub is_too_deep : (L : Lookups) (row : ℕ) (target : Option Text) (text : Text) (f : FormatFault) → target ≡ Some text → format.expanded L text ≡ Err f
    → expanded_or_empty L (codes "CustomAction") row target ≡ Err (faults.TooDeep (codes "CustomAction") row)
unfolding format.expanded expanded
is_too_deep L row target text f is e =
    ap (expanded_or_empty L (codes "CustomAction") row) is
    ∙ elim (format.is_too_deep text) as (λ b. (if b then Err TooDeep else Ok (format.expand_of L text)) ≡ Err f → (if b then Err (faults.TooDeep (codes "CustomAction") row) else Ok (format.expand_of L text)) ≡ Err (faults.TooDeep (codes "CustomAction") row)) [
      | true ↦ λ at. refl
      | false ↦ λ at. cc
    ] e

-- ---- rows by their keys

abbrev paired : Option ℕ → Option CustomActionRow → Option (Numbered CustomActionRow)
paired (Some place) (Some row) = Some (numbered (place + 1) row)
paired place row = None

pub found_row : (action : Name) (es : List (Name × CustomActionRow)) (j : ℕ) → AllByRecursion (λ (e : Name × CustomActionRow). e.0 ≡ e.1.action) es
    → find (λ (n : Numbered CustomActionRow). same_name action n.row.action) (numbered_from (suc j) (map (λ (e : Name × CustomActionRow). e.1) es))
    ≡ paired (position_from (bytes_eq action) j (map (λ (e : Name × CustomActionRow). e.0) es)) (lookup (bytes_eq action) es)
found_row action [] j all = refl
found_row action (e ∷ es) j all =
    ap (λ b. cond b (Some (numbered (suc j) e.1)) (find (λ (n : Numbered CustomActionRow). same_name action n.row.action) (numbered_from (suc (suc j)) (map (λ (f : Name × CustomActionRow). f.1) es))))
    (ap (same_name action) (sym all.0) ∙ is_eq-slice_cmp action e.0)
    ∙ elim (bytes_eq action e.0) as (λ b. cond b (Some (numbered (suc j) e.1)) (find (λ (n : Numbered CustomActionRow). same_name action n.row.action) (numbered_from (suc (suc j)) (map (λ (f : Name × CustomActionRow). f.1) es)))
    ≡ paired (cond b (Some j) (position_from (bytes_eq action) (j + 1) (map (λ (f : Name × CustomActionRow). f.0) es))) (cond b (Some e.1) (lookup (bytes_eq action) es))) [
      | true ↦ ap (λ k. Some (numbered k e.1)) (sym (add-one j))
      | false ↦ found_row action es (suc j) all.1 ∙ ap (λ k. paired (position_from (bytes_eq action) k (map (λ (f : Name × CustomActionRow). f.0) es)) (lookup (bytes_eq action) es)) (sym (add-one j))
    ]

module _ (action : Name) (es : List (Name × CustomActionRow)) (all : All (λ (e : Name × CustomActionRow). e.0 ≡ e.1.action) es) where
  by_place : find (λ (n : Numbered CustomActionRow). same_name action n.row.action) (numbered_from 1 (map (λ (e : Name × CustomActionRow). e.1) es))
      ≡ paired (position (bytes_eq action) (map (λ (e : Name × CustomActionRow). e.0) es)) (lookup (bytes_eq action) es)
  by_place =
      found_row action es 0 (recursion_from_All (λ (e : Name × CustomActionRow). e.0 ≡ e.1.action) es all)
      ∙ ap (λ o. paired o (lookup (bytes_eq action) es)) (sym (position_from-zero (bytes_eq action) (map (λ (e : Name × CustomActionRow). e.0) es)))

  pub row_found : (place : ℕ) (row : CustomActionRow) → Some place ≡ position (bytes_eq action) (map (λ (e : Name × CustomActionRow). e.0) es) → Some row ≡ lookup (bytes_eq action) es
      → Some (numbered (place + 1) row) ≡ find (λ (n : Numbered CustomActionRow). same_name action n.row.action) (numbered_from 1 (map (λ (e : Name × CustomActionRow). e.1) es))
  row_found place row at is = ap (λ o. paired o (Some row)) at ∙ ap (paired (position (bytes_eq action) (map (λ (e : Name × CustomActionRow). e.0) es))) is ∙ sym by_place

  pub row_missing : None ≡ position (bytes_eq action) (map (λ (e : Name × CustomActionRow). e.0) es)
      → None ≡ find (λ (n : Numbered CustomActionRow). same_name action n.row.action) (numbered_from 1 (map (λ (e : Name × CustomActionRow). e.1) es))
  row_missing at = ap (λ o. paired o (lookup (bytes_eq action) es)) at ∙ sym by_place

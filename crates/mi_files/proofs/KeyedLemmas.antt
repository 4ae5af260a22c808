-- Keys of two columns.
use Rattle.std.proofs.Common.{◌≡◌, ℕ, zero, suc, ◌<◌, List, [], ◌∷◌, ◌++◌, length, map, get_or, Some, None, sym, ap, ◌∙◌, subst, append_assoc, arith}
use Rattle.std.specs.Prelude.{slice_get, option_map}
use Rattle.std.proofs.lemmas.List.{length-map}
use Rattle.std.proofs.lemmas.Option.{slice_get-map}
use Rattle.mi_schema.specs.declared.typed_rows.CreateFolderRow.{CreateFolderRow}
use Rattle.mi_schema.specs.RowsOf.{behind}
use Rattle.mi_records.specs.Order.{Place, AreOrdered}
use Rattle.mi_records.proofs.OrderLemmas as order
use Rattle.mi_records.proofs.PhaseLemmas.{map-over}
use Rattle.mi_files.specs.Folders.{key_of}

pub key_joined : (r : CreateFolderRow) (a b c : List ℕ) → a ≡ r.directory → b ≡ a ++ 0 ∷ [] → c ≡ b ++ r.component → c ≡ key_of r
key_joined r a b c first second third =
    third
    ∙ ap (λ (l : List ℕ). l ++ r.component) (second ∙ ap (λ (l : List ℕ). l ++ 0 ∷ []) first)
    ∙ append_assoc r.directory (0 ∷ []) r.component

module _ {K : Type 0} (rows : List (K × CreateFolderRow)) (keys : List (List ℕ)) (place : ℕ) (keys_are : keys ≡ map key_of (behind rows)) where
  pub row_behind : (e : K × CreateFolderRow) → slice_get rows place ≡ Some e → slice_get (behind rows) place ≡ Some e.1
  row_behind e at = slice_get-map (λ e. e.1) rows place ∙ ap (option_map (λ e. e.1)) at

  pub no_row_behind : slice_get rows place ≡ None → slice_get (behind rows) place ≡ None
  no_row_behind at = slice_get-map (λ e. e.1) rows place ∙ ap (option_map (λ e. e.1)) at

  pub key_at : (e : K × CreateFolderRow) → slice_get rows place ≡ Some e → slice_get keys place ≡ Some (key_of e.1)
  key_at e at = ap (λ (ks : List (List ℕ)). slice_get ks place) keys_are ∙ slice_get-map key_of (behind rows) place ∙ ap (option_map key_of) (row_behind e at)

  pub key_there : (e : K × CreateFolderRow) → slice_get rows place ≡ Some e → place < length keys
  key_there e at = within keys place (key_of e.1) (key_at e at)
    where
      within : (xs : List (List ℕ)) (k : ℕ) (x : List ℕ) → slice_get xs k ≡ Some x → k < length xs
      within [] k x is = cc
      within (y ∷ xs) zero x is = omega arith
      within (y ∷ xs) (suc k) x is = let rest = within xs k x is in omega (arith, rest)

pub got : (keys : List (List ℕ)) (place : ℕ) (x d : List ℕ) → slice_get keys place ≡ Some x → get_or keys place d ≡ x
got [] place x d is = cc
got (y ∷ keys) zero x d is = cc
got (y ∷ keys) (suc place) x d is = got keys place x d is

-- before the last row
pub ordered_start : {K : Type 0} (rows : List (K × CreateFolderRow)) (n : ℕ) (es : List (Place CreateFolderRow)) → n ≡ length rows → es ≡ [] → AreOrdered key_of (behind rows) n es
ordered_start {K} rows n es at none =
    let named : K × CreateFolderRow → List ℕ × CreateFolderRow = λ e. (key_of e.1, e.1) in
    subst (λ (rs : List CreateFolderRow). AreOrdered key_of rs n es) (map-over (λ (e : List ℕ × CreateFolderRow). e.1) named rows)
    (order.ordered_start key_of (map named rows) n es (at ∙ sym (length-map rows named)) none)

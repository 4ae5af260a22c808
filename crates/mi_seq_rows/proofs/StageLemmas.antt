-- Where the walk stands behind one more action.
use Rattle.std.proofs.Common.{◌≡◌, Bool, true, false, List, [], ◌∷◌, ◌++◌, refl, sym, ap, ◌∙◌, ◌||◌}
use Rattle.std.specs.Str.{bytes_eq}
use Rattle.std.proofs.lemmas.Map.Text.{is_eq-slice_cmp}
use Rattle.mi_text.specs.Maps.{Name, same_name, is_among}
use Rattle.mi_text.proofs.MapLemmas.{is_among-append}

-- one name more among these
pub begun_more : (before : Bool) (q n : Name) (names : List Name) → before ≡ is_among q names → (before || bytes_eq q n) ≡ is_among q (names ++ n ∷ [])
begun_more before q n names e =
    ap (λ b. b || bytes_eq q n) e
    ∙ ap (λ b. is_among q names || b) (sym (is_eq-slice_cmp q n) ∙ sym (alone (same_name q n)))
    ∙ sym (is_among-append q names (n ∷ []))
  where
    alone : (b : Bool) → (b || false) ≡ b
    alone true = refl
    alone false = refl

-- Rows on the way up to the root row, without those that lie in their parents' folders.
use Rattle.std.proofs.Common.{◌≡◌, ℕ, zero, suc, ◌-◌, ◌<◌, Bool, true, false, List, [], ◌∷◌, ◌++◌, length, get_or, Option, Some, None, refl, sym, ap, ◌∙◌, arith, inl, inr, ◌⊎◌}
use Rattle.std.specs.Prelude.{slice_get, option_map, unwrap_or, if◌then◌else◌, codes}
use Rattle.std.specs.Option.{option_or}
use Rattle.std.specs.Str.{bytes_eq}
use Rattle.std.proofs.lemmas.Bool.{cases_Bool}
use Rattle.std.proofs.lemmas.Option.{slice_get-get_or, slice_get-map}
use Rattle.mi_dirs.specs.declared.dir.Dir.{Dir}
use Rattle.mi_dirs.specs.Chains.{along, root_or, ends_in}
use Rattle.mi_dirs.specs.Order.{AreRows, IsOrder}
use Rattle.mi_dirs.specs.Places.{bound, parent_at}
use Rattle.mi_dirs.specs.Rows.{source_from}
use Rattle.mi_dirs.specs.Sources.{source_names, named_step, kept_source, down_to, or_above, above_from, above_step, above_in, AreAbove}
use Rattle.mi_dirs.specs.Views.{places_in}
use Rattle.mi_dirs.proofs.ChainLemmas.{along_step, ends_more}
use Rattle.mi_dirs.proofs.FilledLemmas.{Filled, above_is, same_function}
use Rattle.mi_dirs.proofs.TargetLemmas.{parent_here}
use Rattle.mi_dirs.proofs.SourceLemmas.{source_up, step_here, down-push}

pub dir_at : (rows : List Dir) (k : ℕ) → k < length rows → (d : Dir) × (slice_get rows k ≡ Some d)
dir_at [] k lt = absurd (omega arith)
dir_at (d ∷ ds) zero lt = (d, refl)
dir_at (d ∷ ds) (suc k) lt = dir_at ds k (omega arith)

either_row : (o : Option ℕ) → (o ≡ None) ⊎ ((p : ℕ) × (o ≡ Some p))
either_row None = inl refl
either_row (Some p) = inr (p, refl)

abbrev up_from : List Dir → ℕ → Option ℕ
up_from rows = parent_at (places_in rows [])

abbrev lies_in : List Dir → ℕ → Bool
lies_in rows p = bytes_eq (unwrap_or (slice_get (source_names rows) p) []) (codes ".")

-- the equation of what a row has
pub above_up : (rows : List Dir) (row : ℕ) (up : Option ℕ) → ends_in (up_from rows) (bound rows) row ≡ true → up_from rows row ≡ up → above_in rows row ≡ above_from (source_names rows) up (option_map (λ p. above_in rows p) up)
unfolding above_in
above_up rows row up ends is =
    along_step (up_from rows) (above_step (up_from rows) (source_names rows)) None (bound rows) row ends
    ∙ ap (λ (o : Option ℕ). above_from (source_names rows) o (option_map (λ p. above_in rows p) o)) is

-- the next row that the table gets
pub next_above : (rows : List Dir) (order : List ℕ) (i row : ℕ) (up v : Option ℕ) (table : List (Option ℕ)) → IsOrder (up_from rows) (length rows) order → ends_in (up_from rows) (bound rows) row ≡ true
    → Filled (above_in rows) order i table → i < length order → get_or order i 0 ≡ row → up_from rows row ≡ up
    → v ≡ above_from (source_names rows) up (option_map (λ p. get_or table p None) up) → v ≡ above_in rows row
next_above rows order i row up v table order_ok ends f lt at is made =
    made
    ∙ ap (above_from (source_names rows) up) (above_is (up_from rows) (length rows) order (above_in rows) table i row None order_ok.ordered f lt at up is)
    ∙ sym (above_up rows row up ends is)

-- ---- the way up

-- the row from whose source a row's is made, below this number of steps
pub record Climbs (rows : List Dir) (n at above : ℕ) : Type 0 where
  pub parent : ℕ
  pub is_parent : up_from rows at ≡ Some parent
  pub more : 0 < n
  pub below : above < length rows
  pub ends : ends_in (up_from rows) (n - 1) above ≡ true
  pub source : (folder : List ℕ) → kept_source rows folder parent ≡ kept_source rows folder above

module _ (rows : List Dir) (are_rows : AreRows (up_from rows) (length rows)) (all_end : (row : ℕ) → row < length rows → ends_in (up_from rows) (bound rows) row ≡ true) where
  alone : (n at p above : ℕ) → up_from rows at ≡ Some p → ends_in (up_from rows) n p ≡ true → p ≡ above → Climbs rows (suc n) at above
  alone n at p above is ends same =
      let one : suc n - 1 ≡ n = omega arith in
      record {
        parent = p;
        is_parent = is;
        more = omega arith;
        below = rw (sym same) (are_rows at p is);
        ends = ap (λ (m : ℕ). ends_in (up_from rows) m above) one ∙ ap (ends_in (up_from rows) n) (sym same) ∙ ends;
        source = λ folder. ap (kept_source rows folder) same;
      }

  -- a row that lies in its parent's folder has its parent's source
  same_source_up : (folder : List ℕ) (p q : ℕ) → p < length rows → up_from rows p ≡ Some q → lies_in rows p ≡ true → kept_source rows folder p ≡ kept_source rows folder q
  same_source_up folder p q lt is lies =
      let d = dir_at rows p lt in
      let name : slice_get (source_names rows) p ≡ Some (d.0).source = slice_get-map (λ (x : Dir). x.source) rows p ∙ ap (option_map (λ (x : Dir). x.source)) d.1 in
      let dot : bytes_eq (d.0).source (codes ".") ≡ true = ap (λ (o : Option (List ℕ)). bytes_eq (unwrap_or o []) (codes ".")) (sym name) ∙ lies in
      source_up rows folder p d.0 (Some q) (all_end p lt) d.1 (sym (parent_here rows p d.0 d.1) ∙ is)
      ∙ ap (λ (b : Bool). let r : List ℕ = if b then kept_source rows folder q else kept_source rows folder q ++ 47 ∷ (d.0).source in r) dot

  further : (n at p q above : ℕ) → p < length rows → up_from rows at ≡ Some p → lies_in rows p ≡ true → Climbs rows n p above → Climbs rows (suc n) at above
  further n at p q above lt is lies c =
      let one : suc n - 1 ≡ suc (n - 1) = omega (arith, c.more) in
      record {
        parent = p;
        is_parent = is;
        more = omega arith;
        below = c.below;
        ends = ap (λ (m : ℕ). ends_in (up_from rows) m above) one ∙ ends_more (up_from rows) (n - 1) above c.ends;
        source = λ folder. same_source_up folder p c.parent lt c.is_parent lies ∙ c.source folder;
      }

  pub climbs : (n at above : ℕ) → at < length rows → ends_in (up_from rows) n at ≡ true → above_in rows at ≡ Some above → Climbs rows n at above
  climbs zero at above lt ends is = absurd cc
  climbs (suc n) at above lt ends is =
      elim (either_row (up_from rows at)) [
        | inl root ↦ let none : above_in rows at ≡ None = above_up rows at None (all_end at lt) root in absurd cc
        | inr up ↦
            let p = up.0 in
            let low : p < length rows = are_rows at p up.1 in
            let next : ends_in (up_from rows) n p ≡ true = sym (ap (root_or (ends_in (up_from rows) n)) up.1) ∙ ends in
            let here : or_above (lies_in rows p) p (above_in rows p) ≡ Some above = sym (above_up rows at (Some p) (all_end at lt) up.1) ∙ is in
            elim (cases_Bool (lies_in rows p)) [
              | inr named ↦
                  let only : Some p ≡ Some above = sym (ap (λ (b : Bool). or_above b p (above_in rows p)) named) ∙ here in
                  alone n at p above up.1 next cc
              | inl lies ↦
                  let more : option_or (above_in rows p) (Some p) ≡ Some above = sym (ap (λ (b : Bool). or_above b p (above_in rows p)) lies) ∙ here in
                  elim (either_row (above_in rows p)) [
                    | inl root ↦ let only : Some p ≡ Some above = sym (ap (λ (o : Option ℕ). option_or o (Some p)) root) ∙ more in alone n at p above up.1 next cc
                    | inr far ↦
                        let same : Some far.0 ≡ Some above = sym (ap (λ (o : Option ℕ). option_or o (Some p)) far.1) ∙ more in
                        further n at p p above low up.1 lies (climbs n p above low next (far.1 ∙ same))
                  ]
            ]
      ]

  -- a row that has none is a root row
  pub is_root : (at : ℕ) → at < length rows → above_in rows at ≡ None → up_from rows at ≡ None
  is_root at lt none =
      elim (either_row (up_from rows at)) [
        | inl root ↦ root
        | inr up ↦
            let here : or_above (lies_in rows up.0) up.0 (above_in rows up.0) ≡ None = sym (above_up rows at (Some up.0) (all_end at lt) up.1) ∙ none in
            absurd (some_row (lies_in rows up.0) up.0 (above_in rows up.0) here)
      ]
    where
      some_row : (b : Bool) (p : ℕ) (o : Option ℕ) → or_above b p o ≡ None → ⊥
      some_row false p o e = cc
      some_row true p None e = cc
      some_row true p (Some q) e = cc

  -- the way up with one more row
  pub climbs_up : (folder path : List ℕ) (row n at above : ℕ) → at < length rows → Climbs rows n at above
      → kept_source rows folder row ≡ down_to (named_step (source_names rows) folder) path (kept_source rows folder at)
      → kept_source rows folder row ≡ down_to (named_step (source_names rows) folder) (path ++ at ∷ []) (kept_source rows folder above)
  climbs_up folder path row n at above lt c h =
      let step = named_step (source_names rows) folder in
      let d = dir_at rows at lt in
      h
      ∙ ap (down_to step path) (source_up rows folder at d.0 (Some c.parent) (all_end at lt) d.1 (sym (parent_here rows at d.0 d.1) ∙ c.is_parent)
      ∙ ap (λ (s : List ℕ). source_from folder (d.0).source (Some s)) (c.source folder)
      ∙ sym (step_here rows folder at d.0 (Some (kept_source rows folder above)) d.1))
      ∙ sym (down-push step path at (kept_source rows folder above))

  -- the whole way up
  pub climbed : (folder path : List ℕ) (row at : ℕ) → at < length rows → above_in rows at ≡ None
      → kept_source rows folder row ≡ down_to (named_step (source_names rows) folder) path (kept_source rows folder at)
      → kept_source rows folder row ≡ down_to (named_step (source_names rows) folder) path folder
  climbed folder path row at lt none h =
      let d = dir_at rows at lt in
      h ∙ ap (down_to (named_step (source_names rows) folder) path) (source_up rows folder at d.0 None (all_end at lt) d.1 (sym (parent_here rows at d.0 d.1) ∙ is_root at lt none))

-- ---- the table

pub table_reaches : (rows : List Dir) (table : List (Option ℕ)) (at : ℕ) → at < length rows → AreAbove rows table → at < length table
table_reaches rows table at lt all = has_row table at (above_in rows at) (all at lt)
  where
    has_row : (table : List (Option ℕ)) (k : ℕ) (v : Option ℕ) → slice_get table k ≡ Some v → k < length table
    has_row [] k v e = absurd cc
    has_row (x ∷ xs) zero v e = omega arith
    has_row (x ∷ xs) (suc k) v e = let h = has_row xs k v e in omega arith

pub read_above : (rows : List Dir) (table : List (Option ℕ)) (at : ℕ) (d : Option ℕ) → at < length rows → AreAbove rows table → above_in rows at ≡ get_or table at d
read_above rows table at d lt all =
    let same : Some (above_in rows at) ≡ Some (get_or table at d) = sym (all at lt) ∙ slice_get-get_or table at d (table_reaches rows table at lt all) in
    cc

-- ---- what is set changes none

pub same_above : (ds es : List Dir) → up_from ds ≡ up_from es → source_names ds ≡ source_names es → length ds ≡ length es → above_in ds ≡ above_in es
unfolding above_in
same_above ds es parents names size = same_function (above_in ds) (above_in es) (λ row.
    ap (λ (f : ℕ → Option ℕ). along f (above_step f (source_names ds)) None (bound ds) row) parents
    ∙ ap (λ (ns : List (List ℕ)). along (up_from es) (above_step (up_from es) ns) None (bound ds) row) names
    ∙ ap (λ (n : ℕ). along (up_from es) (above_step (up_from es) (source_names es)) None (suc n) row) size)

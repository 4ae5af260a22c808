-- Sources that are made of the names of rows.
use Rattle.std.proofs.Common.{◌≡◌, ℕ, zero, suc, ◌+◌, ◌<◌, Bool, true, List, [], ◌∷◌, ◌++◌, length, map, get_or, Option, Some, None, refl, sym, ap, ◌∙◌, arith, zero-add}
use Rattle.std.specs.Prelude.{slice_get, option_map}
use Rattle.std.specs.Option.{option_map_or}
use Rattle.std.proofs.lemmas.List.{length-map}
use Rattle.std.proofs.lemmas.Option.{slice_get-get_or, slice_get-map}
use Rattle.mi_dirs.specs.declared.rows.DirRow.{DirRow}
use Rattle.mi_dirs.specs.declared.dir.Dir.{Dir}
use Rattle.mi_dirs.specs.Chains.{along, ends_in}
use Rattle.mi_dirs.specs.Faults.{numbers_from, numbers}
use Rattle.mi_dirs.specs.Places.{bound, parent_at}
use Rattle.mi_dirs.specs.Rows.{parent_of, row_parent, source_name, source_from, source_step, source_at}
use Rattle.mi_dirs.specs.Sources.{source_names, named_step, kept_source, sources_in, down_to}
use Rattle.mi_dirs.specs.Views.{places_in}
use Rattle.mi_dirs.proofs.ChainLemmas.{along_step}
use Rattle.mi_dirs.proofs.FilledLemmas.{same_function}
use Rattle.mi_dirs.proofs.TargetLemmas.{parent_here}

pub listed_parent : (rows : List DirRow) (parents : List (Option ℕ)) (row : ℕ) (r : DirRow) (d : Option ℕ) → parents ≡ map (parent_of rows) rows → row < length parents → slice_get rows row ≡ Some r → get_or parents row d ≡ parent_of rows r
listed_parent rows parents row r d all lt is =
    let here : slice_get parents row ≡ Some (parent_of rows r) = ap (λ (p : List (Option ℕ)). slice_get p row) all ∙ slice_get-map (parent_of rows) rows row ∙ ap (option_map (parent_of rows)) is in
    let read : slice_get parents row ≡ Some (get_or parents row d) = slice_get-get_or parents row d lt in
    let same : Some (get_or parents row d) ≡ Some (parent_of rows r) = sym read ∙ here in
    cc

-- ---- one source

pub step_here : (rows : List Dir) (folder : List ℕ) (row : ℕ) (d : Dir) (above : Option (List ℕ)) → slice_get rows row ≡ Some d → named_step (source_names rows) folder row above ≡ source_from folder d.source above
step_here rows folder row d above is =
    ap (λ (o : Option (List ℕ)). option_map_or (λ name. source_from folder name above) o []) (slice_get-map (λ (x : Dir). x.source) rows row ∙ ap (option_map (λ (x : Dir). x.source)) is)

-- the equation of a row's source
pub source_up : (rows : List Dir) (folder : List ℕ) (row : ℕ) (d : Dir) (up : Option ℕ) → ends_in (parent_at (places_in rows [])) (bound rows) row ≡ true → slice_get rows row ≡ Some d → d.parent ≡ up
    → kept_source rows folder row ≡ source_from folder d.source (option_map (λ p. kept_source rows folder p) up)
unfolding kept_source
source_up rows folder row d up ends is parent =
    along_step (parent_at (places_in rows [])) (named_step (source_names rows) folder) [] (bound rows) row ends
    ∙ step_here rows folder row d (option_map (λ p. kept_source rows folder p) (parent_at (places_in rows []) row)) is
    ∙ ap (λ (o : Option ℕ). source_from folder d.source (option_map (λ p. kept_source rows folder p) o)) (parent_here rows row d is ∙ parent)

pub down-push : (step : ℕ → Option (List ℕ) → List ℕ) (path : List ℕ) (row : ℕ) (above : List ℕ) → down_to step (path ++ row ∷ []) above ≡ down_to step path (step row (Some above))
down-push step [] row above = refl
down-push step (x ∷ xs) row above = ap (λ (s : List ℕ). step x (Some s)) (down-push step xs row above)

-- the way down with one row less
pub goes_down : (rows : List Dir) (folder : List ℕ) (path rest : List ℕ) (row : ℕ) (d : Dir) (source new : List ℕ) → path ≡ rest ++ row ∷ [] → slice_get rows row ≡ Some d → new ≡ source_from folder d.source (Some source)
    → down_to (named_step (source_names rows) folder) rest new ≡ down_to (named_step (source_names rows) folder) path source
goes_down rows folder path rest row d source new popped is made =
    let step = named_step (source_names rows) folder in
    ap (down_to step rest) (made ∙ sym (step_here rows folder row d (Some source) is))
    ∙ sym (ap (λ (p : List ℕ). down_to step p source) popped ∙ down-push step rest row source)

-- ---- all sources

slice_get-numbers : {A : Type 0} (xs : List A) (n k : ℕ) → k < length xs → slice_get (numbers_from n xs) k ≡ Some (n + k)
slice_get-numbers [] n k lt = absurd (omega arith)
slice_get-numbers (x ∷ xs) n zero lt = ap Some (let e : n ≡ n + 0 = omega arith in e)
slice_get-numbers (x ∷ xs) n (suc k) lt = slice_get-numbers xs (suc n) k (omega arith) ∙ ap Some (let e : suc n + k ≡ n + suc k = omega arith in e)

pub slice_get-sources : (rows : List Dir) (folder : List ℕ) (row : ℕ) → row < length rows → slice_get (sources_in folder rows) row ≡ Some (kept_source rows folder row)
slice_get-sources rows folder row lt =
    slice_get-map (kept_source rows folder) (numbers rows) row ∙ ap (option_map (kept_source rows folder)) (slice_get-numbers rows 0 row lt ∙ ap Some (zero-add row))

numbers_same : {A B : Type 0} (xs : List A) (ys : List B) (n : ℕ) → length xs ≡ length ys → numbers_from n xs ≡ numbers_from n ys
numbers_same [] [] n e = refl
numbers_same [] (y ∷ ys) n e = absurd (omega arith)
numbers_same (x ∷ xs) [] n e = absurd (omega arith)
numbers_same (x ∷ xs) (y ∷ ys) n e = ap (λ (ns : List ℕ). n ∷ ns) (numbers_same xs ys (suc n) (omega arith))

-- sources go by the parents and the names alone
module _ (ds es : List Dir) (folder : List ℕ) (parents : parent_at (places_in ds []) ≡ parent_at (places_in es [])) (names : source_names ds ≡ source_names es) where
  same_size : length ds ≡ length es
  same_size = sym (length-map ds (λ (d : Dir). d.source)) ∙ ap length names ∙ length-map es (λ (d : Dir). d.source)

  same_source : kept_source ds folder ≡ kept_source es folder
  unfolding kept_source
  same_source = same_function (kept_source ds folder) (kept_source es folder) (λ row.
      ap (λ (f : ℕ → Option ℕ). along f (named_step (source_names ds) folder) [] (bound ds) row) parents
      ∙ ap (λ (ns : List (List ℕ)). along (parent_at (places_in es [])) (named_step ns folder) [] (bound ds) row) names
      ∙ ap (λ (n : ℕ). along (parent_at (places_in es [])) (named_step (source_names es) folder) [] (suc n) row) same_size)

  pub same_sources : sources_in folder ds ≡ sources_in folder es
  same_sources = ap (λ (f : ℕ → List ℕ). map f (numbers ds)) same_source ∙ ap (map (kept_source es folder)) (numbers_same ds es 0 same_size)

-- ---- the sources of the rows that are given

given_step : (rows : List DirRow) (folder : List ℕ) (short : Bool) → named_step (map (source_name short) rows) folder ≡ source_step rows folder short
given_step rows folder short = same_function (named_step (map (source_name short) rows) folder) (source_step rows folder short) (λ row. same_function (named_step (map (source_name short) rows) folder row) (source_step rows folder short row) (λ above.
    ap (λ (o : Option (List ℕ)). option_map_or (λ name. source_from folder name above) o []) (slice_get-map (source_name short) rows row) ∙ named above (slice_get rows row)))
  where
    named : (above : Option (List ℕ)) (o : Option DirRow) → option_map_or (λ name. source_from folder name above) (option_map (source_name short) o) [] ≡ option_map_or (λ (r : DirRow). source_from folder (source_name short r) above) o []
    named above None = refl
    named above (Some r) = refl

pub given_source : (rows : List DirRow) (ds : List Dir) (folder : List ℕ) (short : Bool) (row : ℕ) → parent_at (places_in ds []) ≡ row_parent rows → source_names ds ≡ map (source_name short) rows → length ds ≡ length rows
    → kept_source ds folder row ≡ source_at rows folder short row
unfolding kept_source source_at
given_source rows ds folder short row parents names size =
    ap (λ (f : ℕ → Option ℕ). along f (named_step (source_names ds) folder) [] (bound ds) row) parents
    ∙ ap (λ (ns : List (List ℕ)). along (row_parent rows) (named_step ns folder) [] (bound ds) row) names
    ∙ ap (λ (f : ℕ → Option (List ℕ) → List ℕ). along (row_parent rows) f [] (bound ds) row) (given_step rows folder short)
    ∙ ap (λ (n : ℕ). along (row_parent rows) (source_step rows folder short) [] (suc n) row) size

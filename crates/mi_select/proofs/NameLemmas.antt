-- Loops over rows in key order: what is told of each by its name.
use Rattle.std.proofs.Common.{◌≡◌, ℕ, suc, ◌+◌, ◌<◌, ◌-◌, List, [], ◌∷◌, ◌++◌, map, take, drop, length, get_or, refl, sym, ap, subst, ◌∙◌, append_assoc, add-one}
use Rattle.std.specs.Prelude.{All, String, string_bytes, Result, Ok, Err}
use Rattle.std.specs.declared.alloc.Global.{Global}
use Rattle.std.proofs.Math.Seq.{drop-cons}
use Rattle.std.proofs.lemmas.List.{append-nil, map-append, take_more}
use denote.Ref.{Bor}
use Rattle.mi_text.specs.Maps.{Name}
use Rattle.mi_text.specs.Lookups.{Lookups}
use Rattle.mi_base.specs.Machine.{Machine}
use Rattle.mi_dirs.specs.Places.{Place}
use Rattle.mi_schema.specs.declared.typed_rows.ComponentRow.{ComponentRow}
use Rattle.mi_schema.specs.TableRows.{Rows}
use Rattle.mi_model.specs.KeyPaths.{KeyPath, key_path_of}
use Rattle.mi_base.specs.declared.answers.Fault.{Fault}
use Rattle.mi_model.specs.Refusals.{◌>>=◌, each}
use Rattle.mi_components.specs.declared.component.ComponentChoice.{ComponentChoice}
use Rattle.mi_wishes.specs.declared.error.SelectError.{SelectError}
use Rattle.mi_wishes.specs.declared.error.SelectError.TheVariants as error
use Rattle.mi_select.specs.declared.selection.Chosen.{Chosen}
use Rattle.mi_wishes.specs.Answers.{Gives}
use Rattle.mi_select.specs.Chosen.{chosen_by, chosen_entry, IsChosenAt}
use Rattle.mi_select.specs.Selections.{as_named}
use Rattle.mi_wishes.proofs.LineLemmas.{get_or_from}

-- ---- one name more

module _ {R V : Type 0} (name : R → Name) (choice : R → V) (rows : List (ℕ × Bor R)) where
  abbrev told : List (ℕ × Bor R) → List (Name × V)
  told rs = map (λ r. (name r.1.now, choice r.1.now)) rs

  pub named_more : (k : ℕ) (row : ℕ × Bor R) (made new : List (String Global × V)) (s : String Global) (v : V) → k < length rows → row ≡ get_or rows k row → map as_named made ≡ told (take k rows) → new ≡ made ++ (s, v) ∷ []
      → string_bytes s ≡ name row.1.now → v ≡ choice row.1.now → map as_named new ≡ told (take (k + 1) rows)
  named_more k row made new s v lt at so is called chosen =
      ap (map as_named) is
      ∙ map-append as_named made ((s, v) ∷ [])
      ∙ ap (λ (l : List (Name × V)). l ++ (string_bytes s, v) ∷ []) so
      ∙ (λ i. told (take k rows) ++ (called i, chosen i) ∷ [])
      ∙ sym (map-append (λ (r : ℕ × Bor R). (name r.1.now, choice r.1.now)) (take k rows) (row ∷ []))
      ∙ ap told (ap (λ (r : ℕ × Bor R). take k rows ++ r ∷ []) at ∙ sym (take_more rows k row lt))

-- ---- what each gives, one more

module _ {A B : Type 0} (f : A → Result B Fault) where
  -- those before are made, and the rest is to come
  abbrev Goes : List A → List A → List B → Type 0
  Goes all rest made = each f all ≡ (each f rest >>= λ ys. Ok (made ++ ys))

  each_start : (all : List A) → Goes all all []
  each_start all = by (each f all)
    where
      by : (r : Result (List B) Fault) → r ≡ (r >>= λ ys. Ok ([] ++ ys))
      by (Ok ys) = refl
      by (Err e) = refl

  each_more : (all s t : List A) (x : A) (y : B) (made new : List B) → Goes all s made → s ≡ x ∷ t → f x ≡ Ok y → new ≡ made ++ y ∷ [] → Goes all t new
  each_more all s t x y made new so next at is =
      so
      ∙ ap (λ (l : List A). each f l >>= λ ys. Ok (made ++ ys)) next
      ∙ ap (λ (r : Result B Fault). (r >>= λ z. each f t >>= λ ys. Ok (z ∷ ys)) >>= λ ys. Ok (made ++ ys)) at
      ∙ by (each f t)
      ∙ ap (λ (l : List B). each f t >>= λ ys. Ok (l ++ ys)) (sym is)
    where
      by : (r : Result (List B) Fault) → ((r >>= λ ys. Ok (y ∷ ys)) >>= λ ys. Ok (made ++ ys)) ≡ (r >>= λ ys. Ok ((made ++ y ∷ []) ++ ys))
      by (Ok ys) = ap (λ (l : List B). Ok l) (sym (append_assoc made (y ∷ []) ys))
      by (Err e) = refl

  each_stop : (all s t : List A) (x : A) (made : List B) (e : Fault) → Goes all s made → s ≡ x ∷ t → f x ≡ Err e → each f all ≡ Err e
  each_stop all s t x made e so next at =
      so
      ∙ ap (λ (l : List A). each f l >>= λ ys. Ok (made ++ ys)) next
      ∙ ap (λ (r : Result B Fault). (r >>= λ z. each f t >>= λ ys. Ok (z ∷ ys)) >>= λ ys. Ok (made ++ ys)) at

  each_end : (all s : List A) (made : List B) → Goes all s made → s ≡ [] → each f all ≡ Ok made
  each_end all s made so none = so ∙ ap (λ (l : List A). each f l >>= λ ys. Ok (made ++ ys)) none ∙ ap (λ (l : List B). Ok l) (append-nil made)

each_names : {A B : Type 0} (name : A → Name) (f : A → Result (Name × B) Fault) → ((x : A) (y : Name × B) → f x ≡ Ok y → y.0 ≡ name x) → (xs : List A) (ys : List (Name × B)) → each f xs ≡ Ok ys → map (λ (y : Name × B). y.0) ys ≡ map name xs
each_names {B = B} name f called [] ys is = let none : [] ≡ ys = cc in ap (map (λ (y : Name × B). y.0)) (sym none)
each_names {B = B} name f called (x ∷ xs) ys is = by (f x) refl (each f xs) (each_names name f called xs) is
  where
    by : (r : Result (Name × B) Fault) → f x ≡ r → (rest : Result (List (Name × B)) Fault) → ((zs : List (Name × B)) → rest ≡ Ok zs → map (λ (y : Name × B). y.0) zs ≡ map name xs)
        → (r >>= λ y. rest >>= λ zs. Ok (y ∷ zs)) ≡ Ok ys → map (λ (y : Name × B). y.0) ys ≡ map name (x ∷ xs)
    by (Err e) at rest so is = cc
    by (Ok y) at (Err e) so is = cc
    by (Ok y) at (Ok zs) so is =
        let these : y ∷ zs ≡ ys = cc in
        ap (map (λ (y : Name × B). y.0)) (sym these) ∙ ap (λ (n : Name). n ∷ map (λ (y : Name × B). y.0) zs) (called x y at) ∙ ap (λ (l : List Name). name x ∷ l) (so zs refl)

-- ---- rows from a place on

module _ {R : Type 0} (rows : List (ℕ × Bor R)) where
  abbrev rows_of : List (ℕ × Bor R) → List R
  rows_of rs = map (λ r. r.1.now) rs

  rows_next : (k : ℕ) (row : ℕ × Bor R) → k < length rows → row ≡ get_or rows k row → rows_of (drop k rows) ≡ row.1.now ∷ rows_of (drop (k + 1) rows)
  rows_next k row lt at =
      ap rows_of (drop-cons rows k row lt)
      ∙ ap (λ (r : ℕ × Bor R). r.1.now ∷ rows_of (drop (suc k) rows)) (sym at)
      ∙ ap (λ n. row.1.now ∷ rows_of (drop n rows)) (sym (add-one k))

  dropped : {X : Type 0} (xs : List X) (k : ℕ) → k ≡ length xs → drop k xs ≡ []
  dropped [] k e = ap (λ n. drop n []) e
  dropped (x ∷ xs) k e = ap (λ n. drop n (x ∷ xs)) e ∙ dropped xs (length xs) refl

  module _ {B : Type 0} (f : R → Result B Fault) where
    abbrev RowsGo : ℕ → List B → Type 0
    RowsGo k made = Goes f (rows_of rows) (rows_of (drop k rows)) made

    pub rows_start : (made : List B) → made ≡ [] → RowsGo 0 made
    rows_start made none = each_start f (rows_of rows) ∙ sym (ap (λ (l : List B). each f (rows_of rows) >>= λ ys. Ok (l ++ ys)) none)

    pub rows_more : (k : ℕ) (row : ℕ × Bor R) (y : B) (made new : List B) → k < length rows → row ≡ get_or rows k row → RowsGo k made → f row.1.now ≡ Ok y → new ≡ made ++ y ∷ [] → RowsGo (k + 1) new
    rows_more k row y made new lt at so here is = each_more f (rows_of rows) (rows_of (drop k rows)) (rows_of (drop (k + 1) rows)) row.1.now y made new so (rows_next k row lt at) here is

    pub rows_stop : (k : ℕ) (row : ℕ × Bor R) (made : List B) (e : Fault) → k < length rows → row ≡ get_or rows k row → RowsGo k made → f row.1.now ≡ Err e → each f (rows_of rows) ≡ Err e
    rows_stop k row made e lt at so here = each_stop f (rows_of rows) (rows_of (drop k rows)) (rows_of (drop (k + 1) rows)) row.1.now made e so (rows_next k row lt at) here

    pub rows_end : (k : ℕ) (made : List B) → k ≡ length rows → RowsGo k made → each f (rows_of rows) ≡ Ok made
    rows_end k made end so = each_end f (rows_of rows) (rows_of (drop k rows)) made so (ap rows_of (dropped rows k end))

-- ---- components

module _ (m : Machine) (rows : Rows) (dirs : List Place) (L : Lookups) (choice : ComponentRow → ComponentChoice) where
  entry_name : (c : ComponentRow) (y : Name × Chosen) → chosen_entry m rows dirs L choice c ≡ Ok y → y.0 ≡ c.component
  entry_name c y is = by (key_path_of rows dirs L c) is
    where
      by : (k : Result KeyPath Fault) → (k >>= λ p. Ok (c.component, chosen_by m rows c (choice c) p)) ≡ Ok y → y.0 ≡ c.component
      by (Err e) is = cc
      by (Ok p) is = let one : (c.component, chosen_by m rows c (choice c) p) ≡ y = cc in ap (λ (e : Name × Chosen). e.0) (sym one)

  pub entry_names : (cs : List ComponentRow) (made : List (Name × Chosen)) → each (chosen_entry m rows dirs L choice) cs ≡ Ok made → map (λ (e : Name × Chosen). e.0) made ≡ map (λ (c : ComponentRow). c.component) cs
  entry_names = each_names (λ (c : ComponentRow). c.component) (chosen_entry m rows dirs L choice) entry_name

  -- by what is chosen of the row
  pub entry_by : (c : ComponentRow) (v : ComponentChoice) (r : Result (Name × Chosen) Fault) → v ≡ choice c → chosen_entry m rows dirs L (λ _. v) c ≡ r → chosen_entry m rows dirs L choice c ≡ r
  entry_by c v r is so = ap (λ (v : ComponentChoice). key_path_of rows dirs L c >>= λ p. Ok (c.component, chosen_by m rows c v p)) (sym is) ∙ so

-- the same refusal
pub refused_same : {A B C D : Type 0} (seen : A → C) (shown : B → D) (e : SelectError) (r : Result C Fault) (s : Result D Fault) → ((f : Fault) → r ≡ Err f → s ≡ Err f) → Gives {A = A} (Err e) seen r → Gives {A = B} (Err e) shown s
refused_same seen shown error.NoMemory r s so given = tt
refused_same seen shown (error.Fault f) r s so given = so f given

-- what is chosen of a row, at its number
pub chosen_there : {R C : Type 0} (choices : List C) (choice : R → C) (rows : List (ℕ × Bor R)) (k : ℕ) (row : ℕ × Bor R) (d : C) → k < length rows → row ≡ get_or rows k row → All (IsChosenAt choices choice) rows → get_or choices (row.0 - 1) d ≡ choice row.1.now
chosen_there {R} choices choice rows k row d lt at all = get_or_from choices (row.0 - 1) (choice row.1.now) d (subst (λ (r : ℕ × Bor R). IsChosenAt choices choice r) (sym at) (all k row lt))

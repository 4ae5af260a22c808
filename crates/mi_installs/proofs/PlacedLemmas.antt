-- Coming rows of File with their paths.
use Rattle.std.proofs.Common.{◌≡◌, ℕ, suc, ◌+◌, ◌<◌, ◌≤◌, true, false, cond, List, [], ◌∷◌, ◌++◌, map, take, drop, length, get_or, Bor, Option, Some, None, refl, sym, ap, ◌∙◌, arith, drop-cons}
use Rattle.std.specs.Prelude.{Result, Ok, Err, codes, filter}
use Rattle.std.proofs.lemmas.List.{take_more, take-append-drop, take_all}
use Rattle.mi_text.specs.Lookups.{Lookups}
use Rattle.mi_base.specs.declared.answers.Fault.{Fault}
use Rattle.mi_base.specs.declared.answers.Fault.TheVariants.{BadPath}
use Rattle.mi_schema.specs.declared.package.Package.{Package}
use Rattle.mi_schema.specs.declared.typed_rows.FileRow.{FileRow}
use Rattle.mi_schema.specs.RowsOf.{rows_in}
use Rattle.mi_schema.specs.TableRows.{Numbered, in_key_order, Rows as TableRows}
use Rattle.mi_model.specs.World.{World}
use Rattle.mi_model.specs.Asked.{comes}
use Rattle.mi_model.specs.FilePaths.{path_of_row, right_path}
use Rattle.mi_model.specs.InstallFiles.{coming_files, placed}
use Rattle.mi_model.specs.Refusals.{◌>>=◌, each}
use Rattle.mi_model.specs.Texts.{Text}
use Rattle.mi_records.specs.declared.error.PlanError.{PlanError}
use Rattle.mi_records.specs.declared.error.PlanError.TheVariants as error
use Rattle.mi_records.specs.Choices.{Choices, IsAsked}
use Rattle.mi_records.specs.Clients.{IsFault}
use Rattle.mi_records.specs.Order.{as_numbered}
use Rattle.mi_records.specs.Stops.{TellsBy}

-- ---- the rows

module _ (L : Lookups) (c : Choices) (p : Package) (w : World) (asked : IsAsked L c p w) where
  taken_seen : (rows : List (ℕ × Bor FileRow)) → filter (λ (r : Numbered FileRow). comes w r.row.component) (map as_numbered rows) ≡ map as_numbered (filter (λ r. c.coming r.1.now.component) rows)
  taken_seen [] = refl
  taken_seen (r ∷ rows) =
      let rest = filter (λ (r : Numbered FileRow). comes w r.row.component) (map as_numbered rows) in
      let n : Numbered FileRow = as_numbered r in
      ap (λ b. cond b (n ∷ rest) rest) (asked.coming r.1.now.component)
      ∙ elim (c.coming r.1.now.component) as (λ b. cond b (n ∷ rest) rest ≡ map as_numbered (cond b (r ∷ filter (λ r. c.coming r.1.now.component) rows) (filter (λ r. c.coming r.1.now.component) rows))) [
        | true ↦ ap (λ (ns : List (Numbered FileRow)). n ∷ ns) (taken_seen rows)
        | false ↦ taken_seen rows
      ]

  pub coming_are : (rows : List (ℕ × Bor FileRow)) → map as_numbered rows ≡ in_key_order (λ (r : FileRow). r.file) (rows_in p).file → map as_numbered (filter (λ r. c.coming r.1.now.component) rows) ≡ coming_files w
  coming_are rows is =
      sym (taken_seen rows)
      ∙ ap (λ (ns : List (Numbered FileRow)). filter (λ (r : Numbered FileRow). comes w r.row.component) ns) (is ∙ ap (λ (rs : TableRows). in_key_order (λ (r : FileRow). r.file) rs.file) (sym asked.rows))

-- ---- a row with its path

pub placed_some : (w : World) (r : Numbered FileRow) (path : Text) → Some path ≡ path_of_row w r.row → placed w r ≡ Ok (record { row = r.row; path = path })
placed_some w r path is = ap (λ (o : Option Text). right_path (codes "File") r.number o >>= λ path. Ok (record { row = r.row; path = path })) (sym is)

pub placed_none : (w : World) (r : Numbered FileRow) → None ≡ path_of_row w r.row → placed w r ≡ Err (BadPath (codes "File") r.number)
placed_none w r is = ap (λ (o : Option Text). right_path (codes "File") r.number o >>= λ path. Ok (record { row = r.row; path = path })) (sym is)

pub refused_told : {A B : Type 0} (seen : A → B) (does : Result B Fault) (f : Fault) (e : PlanError) → does ≡ Err f → IsFault f e → TellsBy seen does (Err e)
refused_told seen does f error.NoMemory is fault = tt
refused_told seen does f (error.Fault g) is fault = is ∙ ap Err (sym fault)

-- ---- what each of some rows gives

module _ {X Y Z : Type 0} (f : Y → Result Z Fault) (g : X → Y) where
  abbrev Joined : List X → X → List X → List Z → Type 0
  Joined front x more zs = each f (map g (front ++ x ∷ more)) ≡ (f (g x) >>= λ z. each f (map g more) >>= λ rest. Ok (zs ++ z ∷ rest))

  moved : (z : Z) (ys : List Z) (r : Result Z Fault) (s : Result (List Z) Fault) → ((r >>= λ a. s >>= λ rest. Ok (ys ++ a ∷ rest)) >>= λ rest. Ok (z ∷ rest)) ≡ (r >>= λ a. s >>= λ rest. Ok (z ∷ (ys ++ a ∷ rest)))
  moved z ys (Ok a) (Ok rest) = refl
  moved z ys (Ok a) (Err e) = refl
  moved z ys (Err e) s = refl

  abbrev IsOk : Result (List Z) Fault → List Z → Type 0
  IsOk r b = r ≡ Ok b

  ok_is : (a b : List Z) → IsOk (Ok a) b → a ≡ b
  ok_is a b e = cc

  module _ (y : X) (front : List X) (x : X) (more : List X) (zs : List Z) (rest_of : (ys : List Z) → each f (map g front) ≡ Ok ys → Joined front x more ys) where
    second : (z : Z) (s : Result (List Z) Fault) → each f (map g front) ≡ s → (s >>= λ rest. Ok (z ∷ rest)) ≡ Ok zs
        → (each f (map g (front ++ x ∷ more)) >>= λ rest. Ok (z ∷ rest)) ≡ (f (g x) >>= λ z. each f (map g more) >>= λ rest. Ok (zs ++ z ∷ rest))
    second z (Err e) at is = cc
    second z (Ok ys) at is =
        ap (λ (r : Result (List Z) Fault). r >>= λ rest. Ok (z ∷ rest)) (rest_of ys at)
        ∙ moved z ys (f (g x)) (each f (map g more))
        ∙ ap (λ (all : List Z). f (g x) >>= λ a. each f (map g more) >>= λ rest. Ok (all ++ a ∷ rest)) (ok_is (z ∷ ys) zs is)

    first : (r : Result Z Fault) → (r >>= λ z. each f (map g front) >>= λ rest. Ok (z ∷ rest)) ≡ Ok zs
        → (r >>= λ z. each f (map g (front ++ x ∷ more)) >>= λ rest. Ok (z ∷ rest)) ≡ (f (g x) >>= λ z. each f (map g more) >>= λ rest. Ok (zs ++ z ∷ rest))
    first (Err e) is = cc
    first (Ok z) is = second z (each f (map g front)) refl is

  each-append : (front : List X) (x : X) (more : List X) (zs : List Z) → each f (map g front) ≡ Ok zs → Joined front x more zs
  each-append [] x more zs is = ap (λ (ys : List Z). f (g x) >>= λ z. each f (map g more) >>= λ rest. Ok (ys ++ z ∷ rest)) (ok_is [] zs is)
  each-append (y ∷ front) x more zs is = first y front x more zs (each-append front x more) (f (g y)) is

  module _ (xs : List X) (k : ℕ) (x : X) (within : k < length xs) (is : x ≡ get_or xs k x) (zs : List Z) (so_far : each f (map g (take k xs)) ≡ Ok zs) where
    -- one row more
    pub each_more : (z : Z) → f (g x) ≡ Ok z → each f (map g (take (k + 1) xs)) ≡ Ok (zs ++ z ∷ [])
    each_more z gives =
        ap (λ (ys : List X). each f (map g ys)) (take_more xs k x within ∙ ap (λ (y : X). take k xs ++ y ∷ []) (sym is))
        ∙ each-append (take k xs) x [] zs so_far
        ∙ ap (λ (r : Result Z Fault). r >>= λ z. Ok (zs ++ z ∷ [])) gives

    -- a row that is refused
    pub each_refused : (e : Fault) → f (g x) ≡ Err e → each f (map g xs) ≡ Err e
    each_refused e refused =
        ap (λ (ys : List X). each f (map g ys)) (sym split)
        ∙ each-append (take k xs) x (drop (suc k) xs) zs so_far
        ∙ ap (λ (r : Result Z Fault). r >>= λ z. each f (map g (drop (suc k) xs)) >>= λ rest. Ok (zs ++ z ∷ rest)) refused
      where
        split : take k xs ++ x ∷ drop (suc k) xs ≡ xs
        split = ap (λ (y : X). take k xs ++ y ∷ drop (suc k) xs) is ∙ ap (λ (ys : List X). take k xs ++ ys) (sym (drop-cons xs k x within)) ∙ take-append-drop k xs

  pub each_all : (xs : List X) (k : ℕ) (r : Result (List Z) Fault) → length xs ≤ k → each f (map g (take k xs)) ≡ r → each f (map g xs) ≡ r
  each_all xs k r at so_far = ap (λ (ys : List X). each f (map g ys)) (sym (take_all k xs (omega (arith, at)))) ∙ so_far

-- what is told of a row that is refused
pub told_refused : {A B C D : Type 0} (seen : A → B) (other : C → D) (x : Result B Fault) (y : Result D Fault) (e : PlanError) → ((f : Fault) → x ≡ Err f → y ≡ Err f) → TellsBy seen x (Err e) → TellsBy other y (Err e)
told_refused seen other x y error.NoMemory then told = tt
told_refused seen other x y (error.Fault f) then told = then f told

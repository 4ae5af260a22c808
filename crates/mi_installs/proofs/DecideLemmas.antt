-- The coming rows that follow a row that asks for it, or ask for it by themselves, are those that are written.
use Rattle.std.proofs.Common.{◌≡◌, ℕ, zero, suc, ◌<◌, Bool, true, false, cond, ◌&&◌, List, [], ◌∷◌, map, length, get_or, replicate, Option, Some, None, refl, sym, ap, subst, ◌∙◌, arith, inl, inr, ◌⊎◌}
use Rattle.std.specs.Prelude.{slice_get, option_map, option_and_then, codes, ok_or, All, Ok}
use Rattle.std.specs.List.{list_any}
use Rattle.std.specs.Option.{option_flatten, option_map_or}
use Rattle.std.proofs.lemmas.Bool.{cases_Bool}
use Rattle.std.proofs.lemmas.List.{length-map}
use Rattle.std.proofs.lemmas.Option.{slice_get-map, slice_get-get_or, get_or_from_slice_get}
use Rattle.mi_text.specs.Maps.{Name}
use Rattle.mi_base.specs.declared.answers.Fault.TheVariants.{BadPath}
use Rattle.mi_dirs.specs.Order.{parent_in}
use Rattle.mi_schema.specs.Checks.{companion_of}
use Rattle.mi_schema.specs.Laws.{HaveOwnKeys}
use Rattle.mi_schema.specs.RowsOf.{behind}
use Rattle.mi_schema.specs.TableRows.{Numbered, file_row_of, in_key_order}
use Rattle.mi_schema.specs.declared.typed_rows.FileRow.{FileRow}
use Rattle.mi_model.specs.World.{World}
use Rattle.mi_model.specs.Asked.{comes}
use Rattle.mi_model.specs.Texts.{Text}
use Rattle.mi_model.specs.Refusals.{◌>>=◌}
use Rattle.mi_model.specs.FilePaths.{path_of_row}
use Rattle.mi_model.specs.FileVersions.{is_called_for, leader_of, led_by, is_written}
use Rattle.mi_model.specs.InstallFiles as model
use Rattle.mi_model.specs.InstallFiles.{coming_files, placed, all_placed}
use Rattle.mi_installs.specs.declared.placed.Placed.{Placed}
use Rattle.mi_installs.specs.Leads.{place_of, leader_place, leaders_of, asked_of, written_at, is_followed}
use Rattle.mi_installs.specs.Placings.{as_placed}
use Rattle.mi_model_laws.proofs.RowLemmas.{from_ok}
use Rattle.mi_installs.proofs.PlaceLemmas.{In, in_place, place_in, in_map, from_map, in_filter, from_filter, AreKeyed, row_at_place, found_there, own_place, from_order, in_order}
use Rattle.mi_installs.proofs.NoteLemmas.{Agree, noted_there, none_noted}
use Rattle.mi_installs.proofs.EachLemmas.{Gives, each_gives}
use Rattle.mi_installs.proofs.LedLemmas as led

abbrev pub key : FileRow → Name
key r = r.file

some_is : {A : Type 0} {x y : A} → Some x ≡ Some y → x ≡ y
some_is e = cc

within : {A : Type 0} (xs : List A) (k : ℕ) (x : A) → slice_get xs k ≡ Some x → k < length xs
within [] k x e = cc
within (y ∷ xs) zero x e = omega arith
within (y ∷ xs) (suc k) x e = let rest = within xs k x e in omega (arith, rest)

-- ---- no two rows of the table have one key

entry_at : {R : Type 0} (entries : List (Name × R)) (k : ℕ) (r : R) → slice_get (behind entries) k ≡ Some r → (e : Name × R) × (slice_get entries k ≡ Some e) × (e.1 ≡ r)
entry_at [] k r e = cc
entry_at (x ∷ xs) zero r e = (x, refl, some_is e)
entry_at (x ∷ xs) (suc k) r e = entry_at xs k r e

module _ (entries : List (Name × FileRow)) (stand : All (λ e. e.0 ≡ e.1.file) entries) (apart : HaveOwnKeys entries) where
  key_at : (k : ℕ) (r : FileRow) (d : Name × FileRow) → slice_get (behind entries) k ≡ Some r → (get_or entries k d).0 ≡ r.file
  key_at k r d e =
      let at = entry_at entries k r e in
      let here : get_or entries k d ≡ at.0 = get_or_from_slice_get entries k at.0 d at.1 in
      stand k d (within entries k at.0 at.1) ∙ ap (λ (x : Name × FileRow). x.1.file) here ∙ ap (λ (x : FileRow). x.file) at.2

  later_differs : (i j : ℕ) (a b : FileRow) → slice_get (behind entries) i ≡ Some a → slice_get (behind entries) j ≡ Some b → a.file ≡ b.file → i < j → ⊥
  later_differs i j a b p q same lt =
      let at = entry_at entries j b q in
      apart i j at.0 lt (within entries j at.0 at.1) (key_at i a at.0 p ∙ same ∙ sym (key_at j b at.0 q))

  pub are_keyed : AreKeyed key (behind entries)
  are_keyed i j a b p q same = neither i j (later_differs i j a b p q same) (later_differs j i b a q p (sym same))
    where
      neither : (i j : ℕ) → (i < j → ⊥) → (j < i → ⊥) → i ≡ j
      neither i j f g = omega arith

-- ---- what a row gives that isn't refused

placed_is : (row : FileRow) (number : ℕ) (path : Option Text) (p : model.Placed) → (ok_or path (BadPath (codes "File") number) >>= λ (t : Text). Ok (record { row = row; path = t })) ≡ Ok p → (path ≡ Some p.path) × (row ≡ p.row)
placed_is row number None p e = cc
placed_is row number (Some t) p e =
    let same : record { row = row; path = t } ≡ p = from_ok (record { row = row; path = t }) p e in
    (ap (λ (x : model.Placed). Some x.path) same, ap (λ (x : model.Placed). x.row) same)

module _ (w : World) (rows : List Placed) (keyed : AreKeyed key w.given.rows.file) (all : all_placed w ≡ Ok (map as_placed rows)) where
  abbrev files : List FileRow
  files = w.given.rows.file

  gives : Gives (placed w) (coming_files w) (map as_placed rows)
  gives = each_gives (placed w) (coming_files w) (map as_placed rows) all

  pub record IsComing (p : Placed) : Type 0 where
    pub there : In p.row.now files
    pub comes : comes w p.row.now.component ≡ true
    pub path : path_of_row w p.row.now ≡ Some p.path

  pub each_comes : (p : Placed) → In p rows → IsComing p
  each_comes p i =
      let back = gives.back (as_placed p) (in_map as_placed p rows i) in
      let is = placed_is back.0.row back.0.number (path_of_row w back.0.row) (as_placed p) back.2 in
      let kept = from_filter (λ (r : Numbered FileRow). comes w r.row.component) back.0 (in_key_order key files) back.1 in
      record {
        there = subst (λ (r : FileRow). In r files) is.1 (from_order key files back.0 kept.0);
        comes = ap (λ (r : FileRow). comes w r.component) (sym is.1) ∙ kept.1;
        path = ap (path_of_row w) (sym is.1) ∙ is.0;
      }

  -- each row of the table that comes is one of them
  pub each_is_there : (k : ℕ) (r : FileRow) → slice_get files k ≡ Some r → comes w r.component ≡ true → (p : Placed) × In p rows × (p.row.now ≡ r)
  each_is_there k r e on =
      let numbered = in_order key files k r keyed e in
      let kept : In numbered.0 (coming_files w) = in_filter (λ (n : Numbered FileRow). comes w n.row.component) numbered.0 (in_key_order key files) numbered.1 (ap (λ (x : FileRow). comes w x.component) numbered.2 ∙ on) in
      let gave = gives.on numbered.0 kept in
      let from = from_map as_placed gave.0 rows gave.1 in
      let is = placed_is numbered.0.row numbered.0.number (path_of_row w numbered.0.row) gave.0 gave.2 in
      (from.0, from.1, ap (λ (x : model.Placed). x.row) (sym from.2) ∙ sym is.1 ∙ numbered.2)

  pub all_paths : All (λ (p : Placed). path_of_row w p.row.now ≡ Some p.path) rows
  all_paths = λ i d lt. (each_comes (get_or rows i d) (place_in (get_or rows i d) rows i (slice_get-get_or rows i d lt))).path

  -- ---- what each asks for, by its place

  abbrev place : Placed → Option ℕ
  place p = place_of files p.row.now.file

  abbrev says : Placed → Bool
  says p = is_called_for w p.row.now

  abbrev at_coming : FileRow → Bool
  at_coming r = comes w r.component

  -- a row of a place is the table's
  row_is : (p : Placed) (k : ℕ) (r : FileRow) → In p rows → slice_get files k ≡ Some r → place p ≡ Some k → p.row.now ≡ r
  row_is p k r i e is =
      let at = in_place p.row.now files (each_comes p i).there in
      let same : at.0 ≡ k = some_is (sym (own_place key files at.0 p.row.now keyed at.1) ∙ is) in
      some_is (sym at.1 ∙ ap (slice_get files) same ∙ e)

  abbrev nothing : Option Bool
  nothing = None

  nothing_there : (n k : ℕ) → k < n → slice_get (replicate n nothing) k ≡ Some None
  nothing_there zero k lt = absurd (omega arith)
  nothing_there (suc n) zero lt = refl
  nothing_there (suc n) (suc k) lt = nothing_there n k (omega arith)

  length-replicate : (n : ℕ) → length (replicate n nothing) ≡ n
  length-replicate zero = refl
  length-replicate (suc n) = ap suc (length-replicate n)

  asked_at : (k : ℕ) (r : FileRow) → slice_get files k ≡ Some r → slice_get (asked_of files rows (map says rows)) k ≡ Some (led.asks at_coming (is_called_for w) r)
  asked_at k r e =
      let lt : k < length files = within files k r e in
      let short : k < length (replicate (length files) nothing) = omega (arith, lt, length-replicate (length files)) in
      elim (cases_Bool (comes w r.component)) [
        | inl on ↦
            let p = each_is_there k r e on in
            let at : place p.0 ≡ Some k = ap (λ (x : FileRow). place_of files x.file) p.2 ∙ own_place key files k r keyed e in
            let agree : Agree place says (is_called_for w r) k rows = λ q i is. ap (is_called_for w) (row_is q k r i e is) in
            noted_there place says (is_called_for w r) k rows (replicate (length files) None) short agree p.0 p.1 at
            ∙ ap (λ (b : Bool). Some (cond b (Some (is_called_for w r)) None)) (sym on)
        | inr off ↦
            none_noted place says (is_called_for w r) k rows (replicate (length files) None) short
            (λ q i is. let wrong : true ≡ false = sym (each_comes q i).comes ∙ ap at_coming (row_is q k r i e is) ∙ off in absurd cc)
            ∙ nothing_there (length files) k lt
            ∙ ap (λ (b : Bool). Some (cond b (Some (is_called_for w r)) None)) (sym off)
      ]

  -- ---- the one that a row follows, by its place

  abbrev leader : FileRow → Option FileRow
  leader r = option_and_then (file_row_of w.given.rows) (companion_of r.version)

  by_companion : (o : Option Name) → ((option_and_then (file_row_of w.given.rows) o ≡ None) × (option_and_then (place_of files) o ≡ None))
      ⊎ ((j : ℕ) × (l : FileRow) × (option_and_then (file_row_of w.given.rows) o ≡ Some l) × (option_and_then (place_of files) o ≡ Some j) × (slice_get files j ≡ Some l))
  by_companion None = inl (refl, refl)
  by_companion (Some q) = by (place_of files q) refl
    where
      by : (o : Option ℕ) → place_of files q ≡ o → ((file_row_of w.given.rows q ≡ None) × (place_of files q ≡ None))
          ⊎ ((j : ℕ) × (l : FileRow) × (file_row_of w.given.rows q ≡ Some l) × (place_of files q ≡ Some j) × (slice_get files j ≡ Some l))
      by None e = inl (row_at_place key files q ∙ ap (option_and_then (slice_get files)) e, e)
      by (Some j) e = let there = found_there key files q j e in inr (j, there.0, row_at_place key files q ∙ ap (option_and_then (slice_get files)) e ∙ there.1, e, there.1)

  led_at : (k : ℕ) (r : FileRow) → slice_get files k ≡ Some r → ((leader r ≡ None) × (parent_in (leaders_of files) k ≡ None)) ⊎ ((j : ℕ) × (l : FileRow) × (leader r ≡ Some l) × (parent_in (leaders_of files) k ≡ Some j) × (slice_get files j ≡ Some l))
  led_at k r e =
      let is : parent_in (leaders_of files) k ≡ leader_place files r = ap option_flatten (slice_get-map (leader_place files) files k ∙ ap (option_map (leader_place files)) e) in
      elim (by_companion (companion_of r.version)) [
        | inl none ↦ inl (none.0, is ∙ none.1)
        | inr some ↦ inr (some.0, some.1, some.2, is ∙ some.3, some.4)
      ]

  -- the rows that a row follows are the model's
  same_led : (n : ℕ) (r : FileRow) → led.led_by at_coming (is_called_for w) leader n r ≡ led_by w n r
  same_led zero r = refl
  same_led (suc n) r = ap (λ (rest : List FileRow). r ∷ rest) (by (leader_of w r) (same_led n))
    where
      by : (o : Option FileRow) → ((l : FileRow) → led.led_by at_coming (is_called_for w) leader n l ≡ led_by w n l) → option_map_or (λ l. led.led_by at_coming (is_called_for w) leader n l) o [] ≡ option_map_or (λ l. led_by w n l) o []
      by None same = refl
      by (Some l) same = same l

  -- ---- which are written

  abbrev called : List Bool
  called = map says rows

  written_there : (k : ℕ) (r : FileRow) → slice_get files k ≡ Some r → comes w r.component ≡ true → written_at (leaders_of files) (asked_of files rows called) k ≡ is_written w r
  unfolding written_at is_written
  written_there k r e on =
      let long : length (leaders_of files) ≡ length files = length-map files (leader_place files) in
      led.along_is at_coming (is_called_for w) leader files (leaders_of files) (asked_of files rows called) asked_at led_at (suc (length (leaders_of files))) k r e
      ∙ ap (λ (b : Bool). b && list_any (is_called_for w) (led.led_by at_coming (is_called_for w) leader (suc (length (leaders_of files))) r)) on
      ∙ ap (list_any (is_called_for w)) (same_led (suc (length (leaders_of files))) r)
      ∙ ap (λ (n : ℕ). list_any (is_called_for w) (led_by w (suc n) r)) long

  is_decided : (p : Placed) → In p rows → is_followed files rows called p.row.now.file ≡ is_written w p.row.now
  is_decided p i =
      let coming = each_comes p i in
      let at = in_place p.row.now files coming.there in
      ap (λ (o : Option ℕ). option_map_or (written_at (leaders_of files) (asked_of files rows called)) o false) (own_place key files at.0 p.row.now keyed at.1)
      ∙ written_there at.0 p.row.now at.1 coming.comes

  each_same : (some : List Placed) → ((p : Placed) → In p some → In p rows) → map (λ (p : Placed). is_followed files rows called p.row.now.file) some ≡ map (λ (p : model.Placed). is_written w p.row) (map as_placed some)
  each_same [] are = refl
  each_same (p ∷ some) are =
      ap (λ (b : Bool). b ∷ map (λ (p : Placed). is_followed files rows called p.row.now.file) some) (is_decided p (are p (inl refl)))
      ∙ ap (λ (bs : List Bool). is_written w p.row.now ∷ bs) (each_same some (λ q i. are q (inr i)))

  pub all_decided : map (λ (p : Placed). is_followed files rows called p.row.now.file) rows ≡ map (λ (p : model.Placed). is_written w p.row) (map as_placed rows)
  all_decided = each_same rows (λ p i. i)

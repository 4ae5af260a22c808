-- Orders in which each row stands behind the one that it follows, and what is noted and found along them.
use Rattle.std.proofs.Common.{◌≡◌, ℕ, zero, suc, ◌+◌, ◌<◌, ◌≤◌, Bool, true, false, List, [], ◌∷◌, ◌++◌, map, length, take, drop, get_or, Option, Some, None, refl, sym, ap, subst, ◌∙◌, arith}
use Rattle.std.specs.Prelude.{slice_get, slice_index, option_map, All, IfSome}
use Rattle.std.specs.Map.{keys_of}
use Rattle.std.specs.Option.{option_flatten, option_map_or}
use Rattle.std.proofs.lemmas.List.{length-map, get_or_default}
use Rattle.std.proofs.lemmas.Option.{get_or_from_slice_get}
use Rattle.mi_text.specs.Maps.{Name}
use Rattle.mi_dirs.specs.Chains.{along, ends_in}
use Rattle.mi_dirs.specs.Order.{parent_in, IsOrder}
use Rattle.mi_dirs.proofs.ChainLemmas.{along_step}
use Rattle.mi_dirs.proofs.FilledLemmas.{Filled, above_is, same_function}
use Rattle.mi_schema.specs.Checks.{companion_of, parent_of_directory, chain_fault, required_fault, references_fault, cycles_fault, compressed_fault, package_fault}
use Rattle.mi_schema.specs.Lawful.{IsLawful}
use Rattle.mi_rows.specs.Rows.{◌or_else◌}
use Rattle.mi_schema.specs.RowsOf.{rows_in, behind}
use Rattle.mi_schema.proofs.KnownTables.{directory, feature, file}
use Rattle.mi_schema.specs.declared.package.Package.{Package}
use Rattle.mi_schema.specs.declared.typed_rows.DirectoryRow.{DirectoryRow}
use Rattle.mi_schema.specs.declared.typed_rows.FeatureRow.{FeatureRow}
use Rattle.mi_schema.specs.declared.typed_rows.FileRow.{FileRow}
use Rattle.mi_schema.proofs.ChainLaws.{chain_ends}
use Rattle.mi_schema.proofs.LawfulLaws.{of_tables}
use Rattle.mi_rows.proofs.ListLemmas.{next_item}
use Rattle.mi_rows.proofs.SuitLemmas.{or_none}
use Rattle.mi_installs.specs.Leads.{place_of, leader_place, leaders_of, noted, all_noted, led_step, written_at, written_in}
use Rattle.mi_installs.proofs.PlaceLemmas.{found_there}

-- ---- keys of the entries

-- the keys are those of the rows
pub keys_are : {R : Type 0} (key : R → Name) (entries : List (Name × R)) → All (λ e. e.0 ≡ key e.1) entries → keys_of entries ≡ map key (behind entries)
keys_are key [] own = refl
keys_are key (e ∷ es) own = ap (λ (k : Name). k ∷ keys_of es) (own zero e (omega arith)) ∙ ap (λ (ks : List Name). key e.1 ∷ ks) (keys_are key es (λ i d lt. own (suc i) d (omega (arith, lt))))

pub some_below : (o : Option ℕ) (n m : ℕ) → n ≡ m → IfSome o (λ k. k < n) → IfSome o (λ k. k < m)
some_below o n m e h = subst (λ (x : ℕ). IfSome o (λ k. k < x)) e h

-- ---- chains end

no_cycle : (p : Package) → IsLawful p → chain_fault file.name (λ (r : FileRow). r.file) (λ (r : FileRow). companion_of r.version) (rows_in p).file ≡ None
unfolding package_fault
no_cycle p lawful =
    let rows = rows_in p in
    let one = or_none (required_fault rows) (references_fault rows or_else cycles_fault rows or_else compressed_fault rows) (of_tables p lawful).right in
    let two = or_none (references_fault rows) (cycles_fault rows or_else compressed_fault rows) one.1 in
    let three = or_none (cycles_fault rows) (compressed_fault rows) two.1 in
    let four = or_none (chain_fault directory.name (λ (r : DirectoryRow). r.directory) parent_of_directory rows.directory) _ three.0 in
    (or_none (chain_fault feature.name (λ (r : FeatureRow). r.feature) (λ (r : FeatureRow). r.feature_parent) rows.feature) _ four.1).1

pub leaders_end : (p : Package) (leaders : List (Option ℕ)) → IsLawful p → leaders ≡ leaders_of (rows_in p).file → (row : ℕ) → row < length leaders → ends_in (parent_in leaders) (suc (length leaders)) row ≡ true
leaders_end p leaders lawful is row lt =
    let files = (rows_in p).file in
    let long : length leaders ≡ length files = ap length is ∙ length-map files (leader_place files) in
    ap (λ (l : List (Option ℕ)). ends_in (parent_in l) (suc (length l)) row) is
    ∙ chain_ends file.name (λ (r : FileRow). r.file) (λ (r : FileRow). companion_of r.version) files (no_cycle p lawful) row (omega (arith, lt, long))

-- ---- what is noted row by row

-- a slice that a call has written, in its list
pub written_back : {A : Type 0} (new rest : List A) (n : ℕ) → length new ≡ n → take n (new ++ rest) ≡ new
written_back [] rest zero e = refl
written_back [] rest (suc n) e = absurd (omega arith)
written_back (x ∷ new) rest zero e = absurd (omega arith)
written_back (x ∷ new) rest (suc n) e = ap (λ (l : List _). x ∷ l) (written_back new rest n (omega arith))

drop-end : {A : Type 0} (xs : List A) (i : ℕ) → length xs ≤ i → drop i xs ≡ []
drop-end [] zero le = refl
drop-end [] (suc i) le = refl
drop-end (x ∷ xs) zero le = absurd (omega arith)
drop-end (x ∷ xs) (suc i) le = drop-end xs i (omega arith)

module _ {P : Type 0} (place : P → Option ℕ) (rows : List P) (called : List Bool) (whole : List (Option Bool)) where
  pub noted_next : (i : ℕ) (p : P) (c : Bool) (asked new : List (Option Bool)) → p ≡ get_or rows i p → i < length rows → c ≡ get_or called i false → i < length called → new ≡ noted asked (place p) c
      → all_noted place asked (drop i rows) (drop i called) ≡ whole → all_noted place new (drop (i + 1) rows) (drop (i + 1) called) ≡ whole
  noted_next i p c asked new is lt says below made so =
      ap (λ (l : List (Option Bool)). all_noted place l (drop (i + 1) rows) (drop (i + 1) called)) made
      ∙ sym (ap (λ (ps : List P). all_noted place asked ps (c ∷ drop (i + 1) called)) (next_item rows i p is lt))
      ∙ sym (ap (λ (cs : List Bool). all_noted place asked (drop i rows) cs) (next_item called i c (says ∙ get_or_default called i false c below) below))
      ∙ so

  pub noted_end : (i : ℕ) (asked : List (Option Bool)) → length rows ≤ i → all_noted place asked (drop i rows) (drop i called) ≡ whole → asked ≡ whole
  noted_end i asked le so = sym (ap (λ (ps : List P). all_noted place asked ps (drop i called)) (drop-end rows i le)) ∙ so

-- ---- what is written, in the order

pub next_written : (leaders : List (Option ℕ)) (asked : List (Option Bool)) (order : List ℕ) (written : List Bool) (i row : ℕ) (leader : Option ℕ) (a : Option Bool) (one : Bool)
    → IsOrder (parent_in leaders) (length leaders) order → ((r : ℕ) → r < length leaders → ends_in (parent_in leaders) (suc (length leaders)) r ≡ true)
    → Filled (written_at leaders asked) order i written → i < length order → slice_index order i ≡ row → row < length leaders → slice_get leaders row ≡ Some leader → slice_get asked row ≡ Some a
    → one ≡ led_step a (option_map (λ p. get_or written p false) leader) → one ≡ written_at leaders asked row
unfolding written_at
next_written leaders asked order written i row leader a one is_order ends filled lt here below led says made =
    let parent = parent_in leaders in
    let step : ℕ → Option Bool → Bool = λ k o. led_step (option_flatten (slice_get asked k)) o in
    let up : parent row ≡ leader = ap option_flatten led in
    made
    ∙ ap (led_step a) (above_is parent (length leaders) order (written_at leaders asked) written i row false is_order.ordered filled lt here leader up)
    ∙ sym (along_step parent step false (suc (length leaders)) row (ends row below)
    ∙ ap (λ (o : Option (Option Bool)). led_step (option_flatten o) (option_map (λ p. along parent step false (suc (length leaders)) p) (parent row))) says
    ∙ ap (λ (o : Option ℕ). led_step a (option_map (λ p. along parent step false (suc (length leaders)) p) o)) up)

-- ---- by keys

written_is : (files : List FileRow) (written : List Bool) (value : ℕ → Bool) → ((row : ℕ) → row < length files → slice_get written row ≡ Some (value row)) → (key : Name) → written_in files written key ≡ option_map_or value (place_of files key) false
written_is files written value at key = by (place_of files key) refl
  where
    within : {A : Type 0} (xs : List A) (k : ℕ) (x : A) → slice_get xs k ≡ Some x → k < length xs
    within [] k x e = cc
    within (y ∷ xs) zero x e = omega arith
    within (y ∷ xs) (suc k) x e = let rest = within xs k x e in omega (arith, rest)

    by : (o : Option ℕ) → place_of files key ≡ o → option_map_or (λ place. get_or written place false) o false ≡ option_map_or value o false
    by None e = refl
    by (Some k) e = let there = found_there (λ (r : FileRow). r.file) files key k e in get_or_from_slice_get written k (value k) false (at k (within files k there.0 there.1))

pub written_of : {P : Type 0} (key : P → Name) (rows : List P) (files : List FileRow) (written : List Bool) (value : ℕ → Bool) → ((row : ℕ) → row < length files → slice_get written row ≡ Some (value row))
    → map (λ p. written_in files written (key p)) rows ≡ map (λ p. option_map_or value (place_of files (key p)) false) rows
written_of {P} key rows files written value at =
    ap (λ (f : P → Bool). map f rows) (same_function (λ p. written_in files written (key p)) (λ p. option_map_or value (place_of files (key p)) false) (λ p. written_is files written value at (key p)))

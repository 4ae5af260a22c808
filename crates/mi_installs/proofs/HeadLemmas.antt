-- The head of a file that is installed.
use Rattle.std.proofs.Common.{◌≡◌, ℕ, suc, ◌≤◌, ◌^◌, Bool, true, false, List, [], ◌∷◌, length, Option, Some, None, refl, sym, ap, ◌∙◌, arith}
use Rattle.std.specs.Prelude.{◌&&◌, nat_lt, nat_le, ◌==◌, bit_and, unwrap_or, IfSome}
use Rattle.std.specs.List.{filter_map, cons_option, slice_split, list_all}
use Rattle.std.specs.Option.{option_map_or}
use Rattle.std.proofs.lemmas.Nat.{and_le_r}
use Rattle.std.proofs.lemmas.Bool.Decides.{nat_tests}
use Rattle.mi_text.specs.declared.version.Version.{Version}
use Rattle.mi_base.specs.declared.entry.Entry.TheVariants as entry
use Rattle.mi_base.specs.declared.entry.FileEntry.{FileEntry}
use Rattle.mi_base.specs.Limits.{fits, are_few, rises}
use Rattle.mi_idt.specs.Fields.{number_within}
use Rattle.mi_rows.specs.Texts.{are_languages, is_language}
use Rattle.mi_rows.specs.Values.{bits_of}
use Rattle.mi_schema.specs.declared.typed_rows.FileRow.{FileRow}
use Rattle.mi_model.specs.World.{World}
use Rattle.mi_model.specs.FileVersions.{version_of_row, languages_of_row}
use Rattle.mi_model.specs.InstallFiles.{attributes_of_row, installed_file}
use Rattle.mi_installs.specs.declared.placed.Placed.{Placed}
use Rattle.mi_installs.specs.Placings.{as_placed, HasFilePath, HaveLanguages, HasLanguages}
use Rattle.mi_installs.proofs.LanguageLemmas.{rising-rises, rising-few}
use Rattle.mi_text.specs.Path.{is_file_path}

-- ---- languages

no_more : {X Y : Type 0} (h : X → Option Y) (xs : List X) → length (filter_map h xs) ≤ length xs
no_more h [] = omega arith
no_more h (x ∷ xs) = by (h x) (no_more h xs)
  where
    by : (o : Option _) → length (filter_map h xs) ≤ length xs → length (cons_option o (filter_map h xs)) ≤ suc (length xs)
    by None le = omega arith
    by (Some y) le = omega arith

fronts_of : (a b : Bool) → (a && b) ≡ true → a ≡ true
fronts_of true b e = refl
fronts_of false b e = cc

listed_few : (o : Option (List ℕ)) → IfSome o (λ text. are_languages text ≡ true) → length (slice_split (λ b. b == 44) (unwrap_or o [])) ≤ 65535
listed_few None are = omega arith
listed_few (Some text) are = let short = fronts_of (nat_le (length (slice_split (λ b. b == 44) text)) 65535) (list_all is_language (slice_split (λ b. b == 44) text)) are in le_of (length (slice_split (λ b. b == 44) text)) short
  where
    le_of : (n : ℕ) → nat_le n 65535 ≡ true → n ≤ 65535
    le_of n e = grind (arith, nat_tests)

few_enough : (n : ℕ) → n ≤ 65535 → nat_lt n (2 ^ 16) ≡ true
few_enough n le = grind (arith, nat_tests)

pub languages_few : (r : FileRow) → HaveLanguages r → are_few (languages_of_row r) ≡ true
languages_few r are =
    let parts = slice_split (λ b. b == 44) (unwrap_or r.language []) in
    let a = rising-few (filter_map (number_within 65535) parts) in
    let b = no_more (number_within 65535) parts in
    let c = listed_few r.language are in
    few_enough (length (languages_of_row r)) (omega arith)

-- ---- attributes

small : (n : ℕ) → n ≤ 7 → nat_lt n 8 ≡ true
small n le = grind (arith, nat_tests)

pub attributes_small : (r : FileRow) → nat_lt (attributes_of_row r) 8 ≡ true
attributes_small r = by r.attributes
  where
    by : (o : Option _) → nat_lt (option_map_or (λ attributes. bit_and (bits_of attributes) 7) o 0) 8 ≡ true
    by None = refl
    by (Some z) = small (bit_and (bits_of z) 7) (and_le_r (bits_of z) 7)

-- ---- the head

-- a file of these parts, made and changed at one moment
abbrev pub file_with : List ℕ → Option Version → List ℕ → ℕ → ℕ → List ℕ → FileEntry
file_with shown version languages moment attributes bytes = record { shown = shown; version = version; languages = languages; created = moment; modified = moment; attributes = attributes; bytes = bytes }

module _ (p : Placed) (shown : List ℕ) (version : Option Version) (languages : List ℕ) (attributes : ℕ) (s : shown ≡ p.path) (v : version ≡ version_of_row p.row.now) (l : languages ≡ languages_of_row p.row.now) (a : attributes ≡ attributes_of_row p.row.now) where
  pub head_made : (w : World) (moment : ℕ) (bytes : List ℕ) → w.given.now ≡ moment → file_with shown version languages moment attributes bytes ≡ installed_file w (as_placed p) bytes
  head_made w moment bytes now =
      ap (λ (x : List ℕ). file_with x version languages moment attributes bytes) s
      ∙ ap (λ (x : Option Version). file_with p.path x languages moment attributes bytes) v
      ∙ ap (λ (x : List ℕ). file_with p.path (version_of_row p.row.now) x moment attributes bytes) l
      ∙ ap (λ x. file_with p.path (version_of_row p.row.now) (languages_of_row p.row.now) x attributes bytes) (sym now)
      ∙ ap (λ x. file_with p.path (version_of_row p.row.now) (languages_of_row p.row.now) w.given.now x bytes) a

  all_true : (b c d e : Bool) → b ≡ true → c ≡ true → d ≡ true → e ≡ true → (b && c && d && e) ≡ true
  all_true b c d e p q r t = rw p (rw q (rw r t))

  pub head_fits : (moment : ℕ) → HasFilePath p → HasLanguages p → fits (entry.File (file_with shown version languages moment attributes [])) ≡ true
  unfolding fits
  head_fits moment path are = all_true (is_file_path shown) (are_few languages) (rises nat_lt languages) (nat_lt attributes 8)
      (ap is_file_path s ∙ path)
      (ap are_few l ∙ languages_few p.row.now are)
      (ap (rises nat_lt) l ∙ rising-rises _)
      (ap (λ n. nat_lt n 8) a ∙ attributes_small p.row.now)

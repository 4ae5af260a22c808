-- File Versioning Rules, as a table.
use Rattle.std.specs.Prelude.{◌≡◌, ℕ, ◌<◌, ◌==◌, nat_lt, ◌&&◌, ◌||◌, not, Bool, true, false, if◌then◌else◌, List, Option, Some, None}
use Rattle.std.specs.List.{list_any, list_all}
use Rattle.std.specs.declared.cmp.Ordering.{Ordering}
use Rattle.std.specs.declared.cmp.Ordering.TheVariants.{Less, Equal, Greater}
use Rattle.mi_text.specs.declared.version.Version.{Version}
use Rattle.mi_text.specs.Version.{version_cmp}
use Rattle.mi_base.specs.declared.entry.FileHead.{FileHead}
use Rattle.mi_fver.specs.declared.new_file.NewFile.{NewFile}
use Rattle.mi_fver.specs.declared.mode.Mode.{Mode}
use Rattle.mi_fver.specs.declared.rules.Answers.{Answers}
use Rattle.mi_fver.specs.declared.rules.Comparison.{Comparison}
use Rattle.mi_fver.specs.declared.rules.Comparison.TheVariants.{NewHigher, SameVersion, NewLower, OnlyNewVersioned, OnlyOldVersioned, ChangedByUser, Unversioned}

abbrev pub has : List ℕ → ℕ → Bool
has languages language = list_any (λ l. l == language) languages

-- all of some are there
abbrev pub has_all : List ℕ → List ℕ → Bool
has_all all some = list_all (has all) some

-- files of one version: by their languages and the product's
abbrev pub by_languages : List ℕ → List ℕ → ℕ → Bool
by_languages old new product =
    if has_all old new then false
    else if has_all new old then true
    else has new product && not (has old product)

abbrev pub of_versions : Ordering → Comparison
of_versions Greater = NewHigher
of_versions Equal = SameVersion
of_versions Less = NewLower

-- the old file, the new one, and whether the old one was changed
abbrev pub compared : Option Version → Option Version → Bool → Comparison
compared (Some old) (Some new) changed = of_versions (version_cmp new old)
compared None (Some new) changed = OnlyNewVersioned
compared (Some old) None changed = OnlyOldVersioned
compared None None true = ChangedByUser
compared None None false = Unversioned

-- how the new file stands to the old one, which was changed where it was modified later than created
abbrev pub comparison_of : FileHead → NewFile → Comparison
comparison_of old new = compared old.version new.version (nat_lt old.created old.modified)

abbrev pub says : Bool → Bool → Bool → Answers
says o e d = record { o = o; e = e; d = d }

-- the table: what the letters o, e and d say
abbrev pub answers_of : Comparison → Bool → Bool → Answers
answers_of NewHigher languages same_hash = says true true true
answers_of SameVersion languages same_hash = says languages true false
answers_of NewLower languages same_hash = says false false true
answers_of OnlyNewVersioned languages same_hash = says true true true
answers_of OnlyOldVersioned languages same_hash = says false false true
answers_of ChangedByUser languages same_hash = says false false false
answers_of Unversioned languages same_hash = says (not same_hash) true (not same_hash)

-- an absent file is replaced under any of p, o, e, d and a, and a present one always under a, else where a letter says so
abbrev pub replaces_of : Mode → Option FileHead → NewFile → ℕ → Bool → Bool
replaces_of mode None new product same_hash = mode.p || mode.o || mode.e || mode.d || mode.a
replaces_of mode (Some old) new product same_hash =
    let answers = answers_of (comparison_of old new) (by_languages old.languages new.languages product) same_hash in
    mode.a || (mode.o && answers.o) || (mode.e && answers.e) || (mode.d && answers.d)

-- a version above the other
abbrev pub IsAbove : Option Version → Option Version → Type 0
IsAbove (Some old) (Some new) = version_cmp new old ≡ Less
IsAbove old new = ⊥

-- an unversioned file that was modified later than created
abbrev pub IsChangedByUser : FileHead → Type 0
IsChangedByUser old = (old.version ≡ None) × (old.created < old.modified)

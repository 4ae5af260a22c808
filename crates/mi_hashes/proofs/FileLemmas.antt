-- The bytes of a file, by where an image says that they are.
use Rattle.std.proofs.Common.{◌≡◌, ℕ, ◌-◌, ◌<◌, ◌≤◌, true, List, [], ◌++◌, length, drop, Option, Some, None, refl, sym, ap, subst, ◌∙◌, arith, ⊎_elim, length-append}
use Rattle.std.proofs.lemmas.Bool.{cases_lt}
use Rattle.std.proofs.lemmas.List.{append-nil}
use Rattle.std.specs.Prelude.{codes, option_map}
use Rattle.std.specs.FinMap.{get}
use Rattle.md5.specs.Md5.{Holds}
use Rattle.md5.specs.declared.Md5.{Md5}
use Rattle.mi_text.specs.Fold.{folded}
use Rattle.mi_text.specs.Maps.{Name, Map}
use Rattle.mi_volume.specs.Maps as volume
use Rattle.mi_base.specs.declared.entry.FileHead.{FileHead}
use Rattle.mi_base.specs.declared.entry.Entry.{Entry}
use Rattle.mi_base.specs.declared.entry.Entry.TheVariants as entry
use Rattle.mi_base.specs.Machine.{read_entry}
use Rattle.mi_base.specs.Names.{file_name}
use Rattle.mi_base.specs.SpelledMaps.{spelled_at}
use Rattle.mi_image.specs.declared.item.Content.{Content}
use Rattle.mi_image.specs.declared.item.Content.TheVariants.{Own, Held}
use Rattle.mi_image.specs.declared.item.Item.{Item}
use Rattle.mi_image.specs.declared.item.Item.TheVariants.{Head, Whole}
use Rattle.mi_image.specs.Items.{Items, bytes_of_file, content_bytes, entry_over, machine_over, AreThere, AreRight, is_split}
use Rattle.mi_image.proofs.LookupLemmas.{get_over}
use Rattle.mi_hashes.proofs.RecordLemmas.{ends_held, last_of}

-- ---- behind the head of a record

module _ (held files : Map (List ℕ)) where
  -- the last bytes of what a name holds
  abbrev last_held : Name → ℕ → List ℕ
  last_held q n = drop (length (volume.bytes_or_none (get held q)) - n) (volume.bytes_or_none (get held q))

  spelled_last : (q : Name) (n : ℕ) → length (bytes_of_file (spelled_at read_entry held q)) ≡ n → last_held q n ≡ bytes_of_file (spelled_at read_entry held q)
  spelled_last q n long = last_of _ _ n (ends_held held q) long

  pub own_bytes : (own : Name) (content : Content) (n : ℕ) → content ≡ Own → length (content_bytes held files own content) ≡ n → last_held own n ≡ content_bytes held files own content
  own_bytes own content n is =
      let F : Content → Type 0 = λ k. length (content_bytes held files own k) ≡ n → last_held own n ≡ content_bytes held files own k in
      subst F (sym is) (spelled_last own n)

  pub held_bytes : (own q : Name) (content : Content) (n : ℕ) → content ≡ Held q → length (content_bytes held files own content) ≡ n → last_held q n ≡ content_bytes held files own content
  held_bytes own q content n is =
      let F : Content → Type 0 = λ k. length (content_bytes held files own k) ≡ n → last_held q n ≡ content_bytes held files own k in
      subst F (sym is) (spelled_last q n)

  -- ---- what stands at a name

  -- as many bytes as the head states
  pub as_stated : (items : Items) (q : Name) (h : FileHead) (content : Content) → AreRight items → AreThere held files items → get items q ≡ Some (Head h content) → length (content_bytes held files q content) ≡ h.length
  as_stated items q h content right there at =
      ap (λ (n : Name). length (content_bytes held files n content)) (sym (right q (Head h content) at).named) ∙ there q (Head h content) at

  whole_bytes : (e : Entry) → is_split (Whole e) ≡ true → bytes_of_file (Some e) ≡ []
  whole_bytes (entry.File f) is = absurd cc
  whole_bytes (entry.Folder a) is = refl
  whole_bytes (entry.Value a b) is = refl
  whole_bytes (entry.Key a b) is = refl
  whole_bytes (entry.Shortcut a) is = refl
  whole_bytes (entry.Variable a) is = refl
  whole_bytes (entry.Client a) is = refl
  whole_bytes (entry.Product a) is = refl
  whole_bytes (entry.System a b) is = refl

  pub bytes_of_whole : (items : Items) (q : Name) (e : Entry) → AreRight items → get items q ≡ Some (Whole e) → bytes_of_file (get (machine_over held files items) q) ≡ []
  bytes_of_whole items q e right at =
      ap bytes_of_file (get_over held files items q ∙ ap (option_map (entry_over held files)) at) ∙ whole_bytes e (right q (Whole e) at).split

  pub bytes_of_none : (items : Items) (q : Name) → get items q ≡ None → bytes_of_file (get (machine_over held files items) q) ≡ []
  bytes_of_none items q at = ap bytes_of_file (get_over held files items q ∙ ap (option_map (entry_over held files)) at)

-- what a look-up by the bytes of a name found
pub found_at : (items : Items) (a q : Name) (i j : Item) → Some i ≡ get items a → a ≡ q → i ≡ j → get items q ≡ Some j
found_at items a q i j found same is = ap (get items) (sym same) ∙ sym found ∙ ap Some is

pub missing_at : (items : Items) (a q : Name) → ◌≡◌ {A = Option Item} None (get items a) → a ≡ q → get items q ≡ None
missing_at items a q found same = ap (get items) (sym same) ∙ sym found

-- ---- messages

pub holds_with : (s : Md5) (m a b : List ℕ) → a ≡ b → Holds s (m ++ a) → Holds s (m ++ b)
holds_with s m a b is = subst (λ (l : List ℕ). Holds s (m ++ l)) is

pub holds_same : (s : Md5) (m back : List ℕ) → back ≡ [] → Holds s m → Holds s (m ++ back)
holds_same s m back is holds = subst (Holds s) (sym (ap (λ (l : List ℕ). m ++ l) is ∙ append-nil m)) holds

-- ---- the name of a path

some_bytes : (path : List ℕ) → 1 ≤ length (file_name path)
unfolding file_name
some_bytes path = omega (arith, length-append (codes "f/") (folded path))

pub too_long : (path text : List ℕ) → text ≡ file_name path → ((1 ≤ length text) × (length text ≤ 1024) → ⊥) → 1024 < length (file_name path)
too_long path text is never =
    let same : length text ≡ length (file_name path) = ap length is in
    let some = some_bytes path in
    ⊎_elim (λ (lt : 1024 < length (file_name path)). lt) (λ (le : length (file_name path) ≤ 1024). absurd (never (omega arith, omega arith))) (cases_lt 1024 (length (file_name path)))

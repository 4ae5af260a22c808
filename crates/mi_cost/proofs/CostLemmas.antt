-- What the program counts is what scripts cost by what they state.
use Rattle.std.proofs.Common.{◌≡◌, ℕ, ◌+◌, ◌*◌, ◌-◌, Bool, true, false, cond, ◌||◌, List, [], ◌∷◌, ◌++◌, length, map, Option, Some, None, refl, sym, ap, ◌∙◌, arith, sum_by, T, subst}
use Rattle.std.specs.Prelude.{◌&&◌, max, is_some, unwrap_or, option_map}
use Rattle.std.specs.FinMap.{get, keys, empty, entries, get-empty, entries_sorted, from_sorted, get-from_sorted, entries-from_sorted}
use Rattle.std.specs.FinMap.Entries.{find, is_sorted, below_all}
use Rattle.std.specs.Ordering.{is_lt}
use Rattle.std.proofs.lemmas.List.{length-append}
use Rattle.std.proofs.lemmas.List.Sums.{sum_by-cons}
use Rattle.mi_text.specs.Maps.{Name, Map, name_cmp, same_name, is_among, map_values}
use Rattle.mi_text.proofs.MapLemmas.{from_same, same, among-keys, get-map_values, keys-map_values}
use Rattle.mi_volume.specs.Maps.{slot_size}
use Rattle.mi_base.specs.declared.entry.FileHead.{FileHead}
use Rattle.mi_base.specs.declared.entry.Entry.TheVariants as entry
use Rattle.mi_base.specs.Records.{with_bytes}
use Rattle.mi_base.specs.Machine.{volume_of}
use Rattle.mi_base.specs.Spelling.{head_bytes, record_of}
use Rattle.mi_base.proofs.MachineLemmas.{get-volume_of}
use Rattle.mi_image.specs.declared.item.Item.{Item}
use Rattle.mi_image.specs.declared.item.Item.TheVariants.{Head, Whole}
use Rattle.mi_image.specs.Items.{Items, content_bytes, entry_over, machine_over, AreThere}
use Rattle.mi_image.proofs.LookupLemmas.{get_over}
use Rattle.mi_base.specs.Names.{file_name}
use Rattle.mi_script.specs.declared.rec.Rec.{Rec}
use Rattle.mi_script.specs.Scripts.{name_at}
use Rattle.mi_model.specs.Cost.{note_size, set_of}
use Rattle.mi_model.specs.StatedSizes.{all_records, greatest_stated, stated_cost_at, entries_in, stated_cost_of, stated_cost}
use Rattle.mi_cost.specs.FormerMap.{former_map}
use Rattle.mi_cost.specs.Tallies.{Sizes, size_in, is_known, item_length, tally, note_length, held_size, length_at, counted, counted_all}
use Rattle.mi_cost.proofs.NameLemmas.{get-set_of}
use Rattle.mi_cost.proofs.TallyLemmas.{known_all, size_all, entries_all}

-- ---- the entries of the table, each with what its name has there

abbrev with_size : (Name → ℕ) → Name × ℕ → Name × ℕ
with_size g e = (e.0, g e.0)

same_below : (g : Name → ℕ) (k : Name) (es : List (Name × ℕ)) → below_all name_cmp k (map (with_size g) es) ≡ below_all name_cmp k es
same_below g k [] = refl
same_below g k (e ∷ es) = ap (λ (b : Bool). is_lt (name_cmp k e.0) && b) (same_below g k es)

same_order : (g : Name → ℕ) (es : List (Name × ℕ)) → is_sorted name_cmp (map (with_size g) es) ≡ is_sorted name_cmp es
same_order g [] = refl
same_order g (e ∷ es) = ap (λ (b : Bool). b && is_sorted name_cmp (map (with_size g) es)) (same_below g e.0 es) ∙ ap (λ (b : Bool). below_all name_cmp e.0 es && b) (same_order g es)

found : (g : Name → ℕ) (es : List (Name × ℕ)) (q : Name) → find name_cmp q (map (with_size g) es) ≡ cond (is_among q (map (λ (e : Name × ℕ). e.0) es)) (Some (g q)) None
found g [] q = refl
found g (e ∷ es) q =
    elim (same_name q e.0) as (λ b. same_name q e.0 ≡ b → cond b (Some (g e.0)) (find name_cmp q (map (with_size g) es)) ≡ cond (b || is_among q (map (λ (e : Name × ℕ). e.0) es)) (Some (g q)) None) [
      | true ↦ λ is. ap (λ (n : Name). Some (g n)) (sym (from_same q e.0 is))
      | false ↦ λ isnt. found g es q
    ] refl

own_size : (o : Option ℕ) → cond (is_some o) (Some (unwrap_or o 0)) None ≡ o
own_size None = refl
own_size (Some n) = refl

entries_are : (sizes : Sizes) → entries sizes ≡ map (with_size (size_in sizes)) (entries sizes)
entries_are sizes =
    let es = map (with_size (size_in sizes)) (entries sizes) in
    let sorted : T (is_sorted name_cmp es) = subst (λ (b : Bool). T b) (sym (same_order (size_in sizes) (entries sizes))) (entries_sorted sizes) in
    ap entries (same sizes (from_sorted es) (λ q. sym (
    get-from_sorted name_cmp es q sorted
    ∙ found (size_in sizes) (entries sizes) q
    ∙ ap (λ (b : Bool). cond b (Some (size_in sizes q)) None) (sym (among-keys sizes q))
    ∙ own_size (get sizes q))))
    ∙ entries-from_sorted name_cmp es sorted

-- ---- the names of the table

names_are : (sizes : Sizes) (names : List Name) → ((q : Name) → is_known sizes q ≡ is_among q names) → keys sizes ≡ keys (set_of names)
names_are sizes names alike =
    sym (keys-map_values (λ (n : ℕ). true) sizes)
    ∙ ap keys (same (map_values (λ (n : ℕ). true) sizes) (set_of names) (λ q.
    get-map_values (λ (n : ℕ). true) sizes q ∙ marked (get sizes q) ∙ ap (λ (b : Bool). cond b (Some true) None) (alike q) ∙ sym (get-set_of names q)))
  where
    marked : (o : Option ℕ) → option_map (λ (n : ℕ). true) o ≡ cond (is_some o) (Some true) None
    marked None = refl
    marked (Some n) = refl

-- ---- what a name had

record_of_file : (h : FileHead) (bytes : List ℕ) → record_of (entry.File (with_bytes h bytes)) ≡ head_bytes h ++ bytes
unfolding record_of head_bytes
record_of_file h bytes = refl

length_over : (held files : Map (List ℕ)) (items : Items) (q : Name) (o : Option Item) → AreThere held files items → get items q ≡ o
    → option_map length (option_map record_of (option_map (entry_over held files) o)) ≡ option_map item_length o
length_over held files items q None there at = refl
length_over held files items q (Some (Head h content)) there at =
    let bytes = content_bytes held files (file_name h.shown) content in
    let long : length bytes ≡ h.length = there q (Head h content) at in
    ap (λ (n : ℕ). Some n) (ap length (record_of_file h bytes) ∙ length-append (head_bytes h) bytes ∙ ap (λ (n : ℕ). length (head_bytes h) + n) long)
length_over held files items q (Some (Whole e)) there at = refl

length_held : (held files : Map (List ℕ)) (items : Items) (q : Name) → AreThere held files items → option_map length (get (volume_of (machine_over held files items)) q) ≡ length_at items q
length_held held files items q there =
    ap (option_map length) (get-volume_of (machine_over held files items) q ∙ ap (option_map record_of) (get_over held files items q))
    ∙ length_over held files items q (get items q) there refl

note_by_length : (q : Name) (o : Option (List ℕ)) → note_size q o ≡ note_length q (option_map length o)
note_by_length q None = refl
note_by_length q (Some bytes) = refl

size_by_length : (q : Name) (o : Option (List ℕ)) → slot_size q o ≡ held_size q (option_map length o)
size_by_length q None = refl
size_by_length q (Some bytes) = refl

counted_is : (held files : Map (List ℕ)) (items : Items) (rs : List Rec) (q : Name) → AreThere held files items → counted items (q, greatest_stated q rs) ≡ stated_cost_at (former_map held files items) rs q
counted_is held files items rs q there =
    let old = get (former_map held files items) q in
    let long : length_at items q ≡ option_map length old = sym (length_held held files items q there) in
    ap (λ (o : Option ℕ). note_length q o + (greatest_stated q rs - held_size q o)) long
    ∙ ap (λ (n : ℕ). n + (greatest_stated q rs - held_size q (option_map length old))) (sym (note_by_length q old))
    ∙ ap (λ (n : ℕ). note_size q old + (greatest_stated q rs - n)) (sym (size_by_length q old))

-- ---- the whole

summed : (f : Name × ℕ → ℕ) (g : Name → ℕ) (cost : Name → ℕ) (es : List (Name × ℕ)) → ((q : Name) → f (q, g q) ≡ cost q) → sum_by f (map (with_size g) es) ≡ sum_by cost (map (λ (e : Name × ℕ). e.0) es)
summed f g cost [] each = refl
summed f g cost (e ∷ es) each =
    rw (sum_by-cons f (with_size g e) (map (with_size g) es), sum_by-cons cost e.0 (map (λ (e : Name × ℕ). e.0) es), each e.0, summed f g cost es each) refl

counted_whole : (d : Map (List ℕ)) (items : Items) (scripts : List (List Rec)) (n : ℕ) (g : Name → ℕ) (es : List (Name × ℕ)) → n ≡ entries_in [] scripts → ((q : Name) → counted items (q, g q) ≡ stated_cost_at d (all_records scripts) q)
    → counted_all items n (map (with_size g) es) ≡ stated_cost_of d scripts (map (λ (e : Name × ℕ). e.0) es)
counted_whole d items scripts n g [] is each = refl
counted_whole d items scripts n g (e ∷ es) is each =
    ap (λ (k : ℕ). 4 + 25 * k + sum_by (counted items) (map (with_size g) (e ∷ es))) is
    ∙ ap (λ (s : ℕ). 4 + 25 * entries_in [] scripts + s) (summed (counted items) g (stated_cost_at d (all_records scripts)) (e ∷ es) each)

-- what is counted over the image of the former machine is what the scripts cost
counts_the_cost : (held files : Map (List ℕ)) (items : Items) (scripts : List (List Rec)) → AreThere held files items → counted_all items (tally scripts).1 (entries (tally scripts).0) ≡ stated_cost (former_map held files items) scripts
unfolding stated_cost
counts_the_cost held files items scripts there =
    let d = former_map held files items in
    let records = all_records scripts in
    let sizes = (tally scripts).0 in
    let known : (q : Name) → is_known sizes q ≡ is_among q (map name_at records) =
    λ q. known_all (empty, 0) scripts q ∙ ap (λ (o : Option ℕ). is_some o || is_among q (map name_at records)) (get-empty name_cmp q) in
    let great : (q : Name) → size_in sizes q ≡ greatest_stated q records =
    λ q. size_all (empty, 0) scripts q ∙ ap (λ (o : Option ℕ). max (unwrap_or o 0) (greatest_stated q records)) (get-empty name_cmp q) ∙ omega arith in
    let ended : (tally scripts).1 ≡ entries_in [] scripts = entries_all (empty, 0) [] scripts (λ q. ap is_some (get-empty name_cmp q)) ∙ omega arith in
    ap (counted_all items (tally scripts).1) (entries_are sizes)
    ∙ counted_whole d items scripts (tally scripts).1 (size_in sizes) (entries sizes) ended (λ q. ap (λ (n : ℕ). counted items (q, n)) (great q) ∙ counted_is held files items records q there)
    ∙ ap (stated_cost_of d scripts) (names_are sizes (map name_at records) known)

pub told_cost : (held files : Map (List ℕ)) (items : Items) (scripts : List (List Rec)) (sizes : Sizes) (n : ℕ) → sizes ≡ (tally scripts).0 → n ≡ (tally scripts).1 → AreThere held files items → counted_all items n (entries sizes) ≡ stated_cost (former_map held files items) scripts
told_cost held files items scripts sizes n is_sizes is_n there =
    ap (λ (s : Sizes). counted_all items n (entries s)) is_sizes
    ∙ ap (λ (k : ℕ). counted_all items k (entries (tally scripts).0)) is_n
    ∙ counts_the_cost held files items scripts there

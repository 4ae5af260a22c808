-- What the program counts: sizes that records state, the greatest for each name, and what they come to over the items of an image.
-- (This project's own.)
use Rattle.std.specs.Prelude.{ℕ, Bool, ◌+◌, ◌*◌, ◌-◌, max, List, [], ◌∷◌, length, map, fold, sum_by, Option, Some, None, option_map, is_some, unwrap_or, String, string_bytes, if◌then◌else◌}
use Rattle.std.specs.List.{list_all}
use Rattle.std.specs.declared.alloc.Global.{Global}
use Rattle.std.specs.FinMap.{get, insert, empty, from_entries}
use Rattle.mi_text.specs.Maps.{Name, Map}
use Rattle.mi_base.specs.Spelling.{head_bytes, record_of}
use Rattle.mi_image.specs.Items.{Items}
use Rattle.mi_image.specs.declared.item.Item.{Item}
use Rattle.mi_image.specs.declared.item.Item.TheVariants.{Head, Whole}
use Rattle.mi_script.specs.declared.rec.Rec.{Rec}
use Rattle.mi_script.specs.Scripts.{name_at}
use Rattle.mi_model.specs.StatedSizes.{stated_size}

-- ---- sizes

-- the bytes of the record of what an item stands for
abbrev pub item_length : Item → ℕ
item_length (Head h content) = length (head_bytes h) + h.length
item_length (Whole e) = length (record_of e)

-- ---- the greatest size that records state of each name

abbrev pub Sizes : Type 0
Sizes = Map ℕ

-- an entry of the program's tree
abbrev pub pair_of : String Global × ℕ → Name × ℕ
pair_of e = (string_bytes e.0, e.1)

-- what these entries make
abbrev pub sizes_of : List (String Global × ℕ) → Sizes
sizes_of es = from_entries (map pair_of es)

abbrev pub size_in : Sizes → Name → ℕ
size_in sizes q = unwrap_or (get sizes q) 0

abbrev pub is_known : Sizes → Name → Bool
is_known sizes q = is_some (get sizes q)

abbrev pub with_record : Sizes → Rec → Sizes
with_record sizes r = insert sizes (name_at r) (max (size_in sizes (name_at r)) (stated_size r))

abbrev pub with_records : Sizes → List Rec → Sizes
with_records sizes rs = fold with_record sizes rs

-- each name of the records is known
abbrev pub are_known : Sizes → List Rec → Bool
are_known sizes rs = list_all (λ r. is_known sizes (name_at r)) rs

-- the sizes, and how many scripts had a name that none before it had
abbrev pub Tally : Type 0
Tally = Sizes × ℕ

abbrev pub with_script : Tally → List Rec → Tally
with_script t rs = (with_records t.0 rs, t.1 + (if are_known t.0 rs then 0 else 1))

abbrev pub tally : List (List Rec) → Tally
tally scripts = fold with_script (empty, 0) scripts

-- ---- what they come to

abbrev pub note_length : Name → Option ℕ → ℕ
note_length q None = 5 + length q
note_length q (Some n) = 5 + length q + 8 + n

abbrev pub held_size : Name → Option ℕ → ℕ
held_size q None = 0
held_size q (Some n) = length q + n

abbrev pub length_at : Items → Name → Option ℕ
length_at items q = option_map item_length (get items q)

-- what a name costs that gets as great as this
abbrev pub counted : Items → Name × ℕ → ℕ
counted items e = note_length e.0 (length_at items e.0) + (e.1 - held_size e.0 (length_at items e.0))

abbrev pub counted_all : Items → ℕ → List (Name × ℕ) → ℕ
counted_all items n [] = 0
counted_all items n (e ∷ es) = 4 + 25 * n + sum_by (counted items) (e ∷ es)

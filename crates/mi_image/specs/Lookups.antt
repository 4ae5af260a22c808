-- What look-ups find.
use Rattle.std.specs.Prelude.{◌≡◌, ◌⊎◌, ◌<◌, ℕ, length, Option, Some, None, MatchOption, option_map}
use Rattle.mi_text.specs.Maps.{Name}
use Rattle.mi_base.specs.declared.entry.FileHead.{FileHead}
use Rattle.mi_base.specs.declared.entry.Entry.{Entry}
use Rattle.mi_image.specs.declared.item.Item.{Item}
use Rattle.mi_image.specs.declared.item.Item.TheVariants.{Head, Whole}
use Rattle.mi_image.specs.Items.{MayStand}

-- nothing stands at such a name
abbrev pub IsNoName : Name → Type 0
IsNoName q = (i : Item) → ¬ MayStand q i

-- the composed name, or none where it is longer than any name or nothing stands there
abbrev pub IsComposed : Name → Option Name → Type 0
IsComposed q name = MatchOption name ((1024 < length q) ⊎ IsNoName q) (λ n. n ≡ q)

-- the head of the file that stands there
abbrev pub head_in : Option Item → Option FileHead
head_in None = None
head_in (Some (Head h content)) = Some h
head_in (Some (Whole e)) = None

-- the number of its bytes
abbrev pub length_in : Option Item → Option ℕ
length_in o = option_map (λ (h : FileHead). h.length) (head_in o)

-- the entry that stands whole
abbrev pub whole_of : Option Item → Option Entry
whole_of None = None
whole_of (Some (Head h content)) = None
whole_of (Some (Whole e)) = Some e

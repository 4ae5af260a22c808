-- Texts that are lists, and what they make of an old list (Registry table, column Value: `[~]`).
use Rattle.std.specs.Prelude.{ℕ, Bool, true, false, if◌then◌else◌, List, [], ◌∷◌, ◌++◌, Option, Some, None, option_and_then}
use Rattle.std.specs.List.{list_any, slice_split}
use Rattle.std.specs.Str.{bytes_eq}
use Rattle.mi_regval.specs.declared.lists.Side.{Side}
use Rattle.mi_regval.specs.declared.lists.Side.TheVariants.{Instead, Behind, Before}
use Rattle.mi_regval.specs.declared.lists.ListText.{ListText}
use Rattle.mi_regval.specs.Lists.{is_zero, has_front, without_front, has_end, without_end, others}

-- a mark at the front alone puts the items behind an old list, one at the end alone before it
abbrev pub side_of : Bool → Bool → Side
side_of true false = Behind
side_of false true = Before
side_of true true = Instead
side_of false false = Instead

-- the list that a text with a byte 0 is; a lone byte 0 is the empty list
abbrev pub list_in : List ℕ → ListText
list_in text =
    if bytes_eq text (0 ∷ []) then record { side = Instead; items = [] }
    else
    let rest = without_front text in
    record { side = side_of (has_front text) (has_end rest); items = slice_split is_zero (without_end rest) }

-- the list that a text is, where it is one
abbrev pub list_text_of : List ℕ → Option ListText
list_text_of text = if list_any is_zero text then Some (list_in text) else None

-- the items beside an old list, which loses those that equal one of them, or in its place
abbrev pub joined : Side → List (List ℕ) → Option (List (List ℕ)) → List (List ℕ)
joined Behind items (Some old) = others items old ++ items
joined Before items (Some old) = items ++ others items old
joined side items old = items

-- the list that a text with a byte 0 stands for beside an old list
abbrev pub list_of : List ℕ → Option (List (List ℕ)) → List (List ℕ)
list_of text old = let list = list_in text in joined list.side list.items old

-- the items that a text adds to a list, where it extends one: it has a mark at one end alone
abbrev pub added_of : ListText → Option (List (List ℕ))
added_of list = at_side list.side
  where
    at_side : Side → Option (List (List ℕ))
    at_side Behind = Some list.items
    at_side Before = Some list.items
    at_side Instead = None

abbrev pub added_items : List ℕ → Option (List (List ℕ))
added_items text = option_and_then added_of (list_text_of text)

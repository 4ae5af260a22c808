-- What is left of a list of a variable. (Environment Table, column Value. That a list without items goes is this project's own.)
use Rattle.std.specs.Prelude.{List, [], ◌∷◌, Option, Some, None}
use Rattle.std.specs.List.{join_with_byte}
use Rattle.mi_model.specs.Texts.{Text}

-- the items joined by `;`
abbrev pub left : List Text → Option Text
left [] = None
left (x ∷ xs) = Some (join_with_byte 59 (x ∷ xs))

-- The record of a product, as a plan call makes it. (PublishProduct Action.)
use Rattle.std.specs.Prelude.{List, [], ◌∷◌, Option, Some, None}
use Rattle.mi_text.specs.Maps.{Name}
use Rattle.mi_base.specs.declared.entry.Entry.{Entry}
use Rattle.mi_base.specs.declared.entry.Entry.TheVariants as entry
use Rattle.mi_base.specs.declared.entry.Product.{Product}
use Rattle.mi_base.specs.Names.{product_name}
use Rattle.mi_changes.specs.Touches.{Touch, Set}

-- a product is recorded while it has features
abbrev pub recorded : Product → List Name → Option Entry
recorded p [] = None
recorded p (f ∷ fs) = Some (entry.Product p)

abbrev pub product_touch : Product → Touch Entry
product_touch p = Set (product_name p.code.number) (λ old. recorded p p.features)

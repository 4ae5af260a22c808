-- What a read command asks for.
use Rattle.std.specs.Prelude.{[], ◌∷◌, ◌++◌, codes}
use Rattle.mi_text.specs.Fold.{folded}
use Rattle.mi_model.specs.Assignments.{Assigned, texts_of}
use Rattle.mi_model.specs.Words.{Command, Package, Selftest, Clients, Products, Recover, repair_sets}
use Rattle.mi_words.specs.declared.command.Command as read
use Rattle.mi_words.specs.declared.command.Command.TheVariants as variant
use Rattle.mi_words.specs.declared.command.Sets.{Sets}
use Rattle.mi_words.specs.declared.command.Sets.TheVariants as sets
use Rattle.mi_words.specs.declared.rest.Assignments.{Assignments}
use Rattle.mi_words.specs.Places.{given}

-- the properties that a command sets by itself
abbrev pub set_by : Sets → Assigned
set_by sets.Nothing = []
set_by sets.Removal = (codes "REMOVE", codes "ALL") ∷ []
set_by (sets.Repair letters) = repair_sets (folded letters.now)

-- the properties of lent words
abbrev pub of_words : Assignments → Assigned
of_words lent = given (texts_of lent.words.now)

abbrev pub asked : read.Command → Command
asked (variant.Package p) = Package p.recorded p.folder.now (of_words p.words ++ set_by p.sets)
asked (variant.Selftest t) = Selftest t.files (of_words t.words)
asked variant.Clients = Clients
asked variant.Products = Products
asked variant.Recover = Recover

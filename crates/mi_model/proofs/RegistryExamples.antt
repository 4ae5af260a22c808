-- Keys, values and lists of the registry, by computation. (Registry Table; Component Table, KeyPath.)
use Rattle.std.proofs.Common.{◌≡◌, true, false, List, [], ◌∷◌, Option, Some, None, refl}
use Rattle.std.specs.Prelude.{codes, Ok, Err}
use Rattle.mi_text.specs.Maps.{Name}
use Rattle.mi_base.specs.declared.entry.Entry.{Entry}
use Rattle.mi_base.specs.declared.entry.Entry.TheVariants.{Value}
use Rattle.mi_base.specs.declared.entry.RegValue.TheVariants as value
use Rattle.mi_base.specs.declared.answers.Fault.TheVariants.{BadKey}
use Rattle.mi_base.specs.Limits.{is_key}
use Rattle.mi_model.specs.Texts.{Text}
use Rattle.mi_model.specs.Parents.{keys_down_to, folders_down_to}
use Rattle.mi_model.specs.RegistryRows.{RegistryPlace, good_key}
use Rattle.mi_model.specs.KeyPaths.{key_path_text}
use Rattle.mi_model.specs.KeyPaths as path
use Rattle.mi_model.specs.RemoveRegistryValues.{value_less}
use Rattle.mi_model.specs.Prune.{Path, goes, key_place, key_seat}

-- ---- keys

parents_first : keys_down_to (codes "Software\\Acme") ≡ codes "Software" ∷ codes "Software\\Acme" ∷ []
parents_first = refl

the_drive_is_no_folder : folders_down_to (codes "C:\\Program Files\\App\\") ≡ codes "C:\\Program Files\\" ∷ codes "C:\\Program Files\\App\\" ∷ []
the_drive_is_no_folder = refl

empty_parts_are_dropped : good_key (codes "Registry") 1 (codes "\\Software\\\\Acme") ≡ Ok (codes "Software\\Acme")
unfolding is_key
empty_parts_are_dropped = refl

no_key : good_key (codes "Registry") 1 (codes "\\") ≡ Err (BadKey (codes "Registry") 1)
unfolding is_key
no_key = refl

abbrev ver : RegistryPlace
ver = record { root = 2; key = codes "Software\\Acme"; name = codes "Ver" }

key_path_of_a_value : key_path_text (path.Value ver) ≡ codes "02:Software\\Acme\\Ver"
unfolding key_path_text
key_path_of_a_value = refl

-- ---- lists

abbrev listed : List Text → Option Entry
listed items = Some (Value (record { root = 2; key = codes "k"; shown = codes "v" }) (value.List items))

-- `[~]b` takes its item out, and the list goes where none is left
takes_its_item : value_less (0 ∷ codes "b") (listed (codes "a" ∷ codes "b" ∷ codes "b" ∷ [])) ≡ listed (codes "a" ∷ codes "b" ∷ [])
unfolding value_less
takes_its_item = refl

the_last_item_goes : value_less (0 ∷ codes "b") (listed (codes "b" ∷ [])) ≡ None
unfolding value_less
the_last_item_goes = refl

-- ---- pruning

abbrev acme : Path
acme = key_place 2 (codes "Software\\Acme")

abbrev held : List Name
held = codes "k/2software" ∷ codes "k/2software\\acme" ∷ []

-- a touched key without a value goes, and so does the one above it
goes_alone : goes key_seat held (acme ∷ []) [] (codes "k/2software") ≡ true
unfolding goes
goes_alone = refl

-- a row `*` of a kept component protects its key, and with it the one above
is_protected : goes key_seat held (acme ∷ []) (acme ∷ []) (codes "k/2software\\acme") ≡ false
unfolding goes
is_protected = refl

is_above_a_protected_one : goes key_seat held (acme ∷ []) (acme ∷ []) (codes "k/2software") ≡ false
unfolding goes
is_above_a_protected_one = refl

-- a value in a key keeps it
has_a_value : goes key_seat (codes "v/20013software\\acmever" ∷ held) (acme ∷ []) [] (codes "k/2software\\acme") ≡ false
unfolding goes
has_a_value = refl
